-- What is left as the loops go: the uplinks from machine v on, the links from link i on, the lengths from b on, the batches that are not yet cut off.
use mathlib.Core.Path.{◌≡◌}
use mathlib.Core.List.{List, [], ◌∷◌, ◌++◌}
use Prim.Native.Nat.{ℕ, ◌+◌, ◌*◌, ◌/◌, ◌<◌, ◌≤◌}
use native.Mathlib.Omega.{arith}
use lib.ListN.{length, drop, drop_of_length-le}
use Rattle.plain.specs.Table.{at, total}
use Rattle.plain.proofs.Loops.{from_next}
use Rattle.tables.specs.Batch.{pairs}
use Rattle.tables.proofs.Pairing.{pairs_next, pairs_end}
use Rattle.sitefile.specs.Record.{record_of}
use Rattle.writer.specs.Plan.{Part, uplink_records, link_records, batch_records, plan_records}

pub uplinks_next : (up : List ℕ) (v : ℕ) → v < length up → uplink_records (drop v up) ≡ record_of 2 (at up v ∷ []) ++ uplink_records (drop (v + 1) up)
unfolding uplink_records
uplinks_next up v h = rw (from_next up v h)

pub uplinks_end : (up : List ℕ) (v : ℕ) → length up ≤ v → uplink_records (drop v up) ≡ []
unfolding uplink_records
uplinks_end up v h = rw (drop_of_length-le up h)

pub links_next : (batch : List ℕ) (i : ℕ) → i < length batch / 2
    → link_records (pairs (drop (2 * i) batch)) ≡ record_of 3 (at batch (2 * i) ∷ at batch (2 * i + 1) ∷ []) ++ link_records (pairs (drop (2 * (i + 1)) batch))
unfolding link_records
links_next batch i h =
    let z : 2 * (i + 1) ≡ 2 * i + 2 = omega arith in
    rw (z, pairs_next batch (2 * i) (omega arith))

pub links_end : (batch : List ℕ) (i : ℕ) → length batch / 2 ≤ i → link_records (pairs (drop (2 * i) batch)) ≡ []
unfolding link_records
links_end batch i h = rw (pairs_end batch (2 * i) (omega arith))

pub total_next : {k : ℕ} (l : List ℕ) (b : ℕ) → b < length l → k ≡ at l b → total (drop b l) ≡ k + total (drop (b + 1) l)
unfolding total
total_next l b h e = rw (from_next l b h, e)

pub plan_next : {left rest : List Part} {p : Part} → left ≡ p ∷ rest → plan_records left ≡ batch_records p.batch p.report ++ plan_records rest
unfolding plan_records
plan_next e = rw e

pub plan_end : {left : List Part} → left ≡ [] → plan_records left ≡ []
unfolding plan_records
plan_end e = rw e
