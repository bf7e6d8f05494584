-- Depths that keep their rule lead to the hub: each step up is one less, and only the hub's is 0. So tables that keep the rules stand on a sound tree,
-- once its ups are machines and one is the hub.
use mathlib.Core.Path.{◌≡◌, refl, sym, ap, ◌∙◌}
use mathlib.Core.List.{List, [], ◌∷◌}
use mathlib.Core.Logic.{dite}
use Prim.Native.Nat.{ℕ, zero, suc, ◌<◌}
use native.Mathlib.Decide.{ℕ_discrete}
use native.Mathlib.Omega.{arith}
use lib.ListN.{length}
use lib.Dec.{leb}
use borrow.Author.Tests.{eq-eqb, ne_eqb, lt-leb}
use Rattle.plain.specs.Table.{at}
use Rattle.tables.specs.Verdict.{checks}
use Rattle.tables.specs.declared.Fault.{Fault}
use Rattle.tables.specs.declared.Verdict.TheVariants.{the_data as Verdict, Sound, Refused}
use Rattle.tables.specs.Tree.{climb, hub, Reaches, depth_of, tree_verdict}
use Rattle.tables.specs.Tables.{Tables, tables_of}
use Rattle.tables.specs.Rules.{rules_verdict, tables_verdict}
use Rattle.tables.proofs.Verdicts.{refuse_none}
use Rattle.tables.proofs.Lengths.{Lengths}
use Rattle.tables.proofs.Climb.{reaches_soon}
use Rattle.tables.proofs.Kept.{sound_kept}
use Rattle.checks.specs.RulesCheck.{Sized}
use Rattle.checks.specs.TreeCheck.{ups_verdict, stray_first}
use Rattle.checks.proofs.Checking.{told, stops, goes_on, ends}
use Rattle.checks.proofs.TreeVerdicts.{ups_stop, ups_inside, ups_go_on}

module _ (up : List ℕ) (t : Tables) {c : Verdict} (q : c ≡ ups_verdict up) where
  pub ups_refused : {why : Fault} {place : ℕ} → c ≡ Refused why place → c ≡ tables_verdict up t
  unfolding tables_verdict
  ups_refused e = stops (ups_stop up q e) _ e

  module _ (e : c ≡ Sound) {k : Verdict} (p : k ≡ rules_verdict up t) where
    -- by depths that fall to 0
    leads : k ≡ Sound → (d v : ℕ) → v < length up → at t.depth v ≡ d → Reaches up v
    unfolding climb
    leads s zero v h z = dite (ℕ_discrete v (hub up)) (λ i. (0, i)) (λ o. absurd (omega (arith, (rw (ne_eqb v (hub up) o) at (sound_kept up t (told s p) v h).depth))))
    leads s (suc d) v h z = dite (ℕ_discrete v (hub up))
        (λ i. absurd (omega (arith, (rw (eq-eqb v (hub up) i) at (sound_kept up t (told s p) v h).depth))))
        (λ o.
        let f : at t.depth v ≡ suc (at t.depth (at up v)) = rw (ne_eqb v (hub up) o) at (sound_kept up t (told s p) v h).depth in
        let (n, g) = leads s d (at up v) (ups_inside up q e v h) (omega arith) in
        (suc n, g))

    grown : k ≡ Sound → tree_verdict up ≡ Sound
    grown s = sym (ups_go_on up q e (sym (refuse_none Fault.Stray (length up) (λ v. leb (length up) (depth_of up v))
        (λ v h. lt-leb (length up) (depth_of up v) (reaches_soon up v (ups_inside up q e) h (leads s (at t.depth v) v h refl))))))

    pub rules_kept : k ≡ Sound → k ≡ tables_verdict up t
    unfolding tables_verdict
    rules_kept s = goes_on (sym (grown s)) _ refl (ends p)

    pub rules_refused : {r : Verdict} → r ≡ stray_first up k → r ≡ tables_verdict up t
    unfolding tables_verdict
    rules_refused f = f ∙ ap (λ v. checks (tree_verdict up ∷ v ∷ [])) p

pub rules_ready : {up depth group mark : List ℕ} {c : Verdict} {top : ℕ} → c ≡ ups_verdict up → c ≡ Sound → Lengths up (tables_of depth group mark) → top ≡ hub up
    → Sized up depth group mark top
rules_ready {up} q e l h = record { depth_size = l.depth_size; group_size = l.group_size; mark_size = l.mark_size; inside = ups_inside up q e; top = h }
