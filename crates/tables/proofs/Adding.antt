-- Add over the tables of links that stand: no rule is broken and every length is right, so only the batch can be refused.
use mathlib.Core.Path.{◌≡◌, ap, ◌∙◌}
use mathlib.Core.List.{List, ◌++◌}
use Prim.Native.Nat.{ℕ, ◌+◌, ◌-◌}
use native.Mathlib.Omega.{arith}
use lib.ListN.{length}
use Rattle.plain.specs.Table.{total}
use Rattle.graph.specs.Cable.{Cables}
use Rattle.plain.proofs.Tabulate.{length-tabulate}
use Rattle.tables.specs.Verdict.{Sound, checks}
use Rattle.tables.specs.Answer.{done}
use Rattle.tables.specs.Tree.{depth_of, size_verdict}
use Rattle.tables.specs.Tables.{fresh, lengths_verdict}
use Rattle.tables.specs.Batch.{pairs, batch_verdict, after, rise}
use Rattle.tables.specs.Links.{AllGood, Stands, tables_with}
use Rattle.tables.specs.Rules.{rules_verdict, tables_verdict}
use Rattle.tables.specs.Outcome.{outcome, judged, add_verdict, add_of}
use Rattle.tables.specs.Demand1.{SoundTree}
use Rattle.tables.specs.Calls.{Adds}
use Rattle.tables.proofs.Standing.{standing}
use Rattle.tables.proofs.Verdicts.{checks_one}
use Rattle.tables.proofs.Lengths.{size_exact, sizes_exact}
use Rattle.tables.proofs.Sound.{sound_tree}
use Rattle.tables.proofs.Links.{after-append, network, told}
use Rattle.tables.proofs.Rise.{rise_is}
use Rattle.tables.proofs.Kept.{told_kept, kept_sound}

module _ {up : List ℕ} {l : Cables} (s : SoundTree up) (g : AllGood (length up) l) where
  pub rules_met : rules_verdict up (tables_with up l) ≡ Sound
  rules_met = kept_sound up (tables_with up l) (told_kept s (network s g) (told s g))

  pub lengths_met : size_verdict (length up) ≡ Sound → lengths_verdict up (tables_with up l) ≡ Sound
  lengths_met e =
      let k = told s g in
      let (one, most) = (size_exact (length up)).0 e in
      (sizes_exact _ _ _ _).1 (record {
        some = one;
        few = most;
        depth_size = ap length k.depths ∙ length-tabulate (length up) (depth_of up);
        group_size = k.named.size;
        mark_size = k.marked.size;
      })

pub adds : (up : List ℕ) (l : Cables) → Stands up l → (batch : List ℕ) → Adds up batch (tables_with up l) (tables_with up (l ++ pairs batch))
unfolding judged add_verdict add_of tables_verdict checks
adds up l st batch =
    let t = tables_with up l in
    let t' = after up (pairs batch) t in
    let s = sound_tree up (standing st).tree in
    let rose : rise t t' + total t.mark ≡ total t'.mark = rise_is up (pairs batch) t (told s (standing st).good).marked.size in
    let came : add_verdict up batch t ≡ batch_verdict (length up) batch =
    rw (lengths_met s (standing st).good (standing st).size, (standing st).tree, rules_met s (standing st).good) (checks_one (batch_verdict (length up) batch)) in
    let e : rise t t' ≡ total t'.mark - total t.mark = omega arith in
    rw (after-append up l (pairs batch) (fresh up)) (record {
      accepted = λ v. ap (λ c. judged c t (rise t t') t') (came ∙ v) ∙ ap (λ r. outcome (done r) t') e;
      refused = λ why place v. ap (λ c. judged c t (rise t t') t') (came ∙ v);
      rises = omega arith;
    })
