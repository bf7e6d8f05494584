-- The laws of a link and of runs of links. Marks are a maximum over the links, so they are read off by induction; the rest is what the tables tell.
use mathlib.Core.Path.{◌≡◌, sym}
use mathlib.Core.List.{List}
use mathlib.Core.Logic.{⊎_map}
use Prim.Native.Nat.{ℕ, ◌<◌}
use native.Mathlib.Omega.{arith}
use lib.ListN.{length, replicate, get_or-replicate}
use Rattle.plain.specs.Table.{at}
use Rattle.plain.proofs.Says.{says_and, says_or}
use Rattle.graph.specs.Cable.{Cables}
use Rattle.tables.specs.Tables.{fresh}
use Rattle.tables.specs.Link.{meet, ring}
use Rattle.tables.specs.Links.{Stands, tables_with}
use Rattle.tables.specs.History.{links}
use Rattle.tables.specs.Laws.{RingLines, greatest, Tells, TablesTell, SameLinks, OrderFree}
use Rattle.tables.proofs.Standing.{standing}
use Rattle.tables.proofs.Sound.{sound_tree}
use Rattle.tables.proofs.Lines.{says_over}
use Rattle.tables.proofs.Dues.{on_is}
use Rattle.tables.proofs.Rise.{after_marks}
use Rattle.tables.proofs.Told.{told_map, told_one, group_name, group_law}
use Rattle.tables.proofs.Links.{network, told}
use Rattle.tables.proofs.Histories.{only_links}

pub ring_lines : RingLines
unfolding ring
ring_lines up e a b x h k l =
    let s = sound_tree up e in
    let p = says_over s x a h in
    let q = says_over s x b k in
    let r = says_and (says_over s (meet up a b) x l) (says_or p q) in
    let o = on_is s h k x in (
      λ (i, ne). ⊎_map (λ u. (p.takes u.0, λ f. u.1 (q.gives f))) (λ u. (q.takes u.0, λ f. u.1 (p.gives f))) (o.0 (r.gives i, ne)),
      λ d.
          let (i, ne) = o.1 (⊎_map (λ u. (p.gives u.0, λ f. u.1 (q.takes f))) (λ u. (q.gives u.0, λ f. u.1 (p.takes f))) d) in
          (r.takes i, ne),
    )

fresh_marks : (up : List ℕ) (l : Cables) (x : ℕ) → x < length up → at (tables_with up l).mark x ≡ greatest up l x
unfolding fresh
fresh_marks up l x i =
    let z : at (replicate (length up) 0) x ≡ 0 = get_or-replicate (length up) x 0 0 i in
    omega (arith, after_marks up l (fresh up) x i)

tells : (up : List ℕ) (l : Cables) → Stands up l → Tells up l (tables_with up l)
tells up l st =
    let s = sound_tree up (standing st).tree in
    let k = told s (standing st).good in
    let n = k.named in
    record {
      marks = fresh_marks up l;
      ringed = k.marked.ringed;
      carried = k.marked.carried;
      grouped = group_law (network s (standing st).good) n;
      member = λ x i. sym (group_name n (n.own x i));
      least = λ x y i j e. rw e (n.least y j);
    }

same_tables : (up : List ℕ) (l k : Cables) → Stands up l → Stands up k → SameLinks l k → tables_with up l ≡ tables_with up k
same_tables up l k a b e =
    let s = sound_tree up (standing a).tree in
    told_one (told s (standing a).good) (told_map (λ x y. (e x y).1) (λ x y. (e x y).0) (told s (standing b).good))

pub tables_tell : TablesTell
tables_tell = record {
  after_batches = λ up h l. rw (only_links.leave up h) (tells up (links h) (only_links.stand up h l));
  with_links = tells;
}

pub order_free : OrderFree
order_free = record {
  after_batches = λ up h i l m e. rw (only_links.leave up h, only_links.leave up i) (same_tables up (links h) (links i) (only_links.stand up h l) (only_links.stand up i m) e);
  with_links = same_tables;
}
