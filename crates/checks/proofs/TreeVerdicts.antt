-- The three parts of a tree's verdict. Two searches tell of the hubs: the first finds the hub, the second, behind it, the next one or none. Entries that
-- are machines and one hub are what the reach check asks; and the verdict is that of the first part that refuses.
use mathlib.Core.Path.{◌≡◌, refl, sym, ◌∙◌}
use mathlib.Core.Bool.{false, ◌&&◌}
use mathlib.Core.List.{List, [], ◌∷◌}
use mathlib.Core.Logic.{◌≢◌}
use Prim.Native.Nat.{ℕ, ◌+◌, ◌<◌, ◌≤◌}
use native.Mathlib.Numerals.{add-one}
use native.Mathlib.Omega.{arith}
use lib.ListN.{length}
use lib.Dec.{leb, ltb, eqb, leb-zero}
use borrow.Author.Tests.{lt-ltb, le-ltb, leb-false, ltb-true}
use Rattle.std.specs.Prelude.{Option, Some, None, MatchOption}
use Rattle.std.specs.Option.{unwrap_or}
use Rattle.std.proofs.lemmas.Bool.Decides.{nat_tests}
use Rattle.plain.specs.Search.{least}
use Rattle.plain.proofs.Least.{least_is, least_has}
use Rattle.plain.specs.Table.{at}
use Rattle.tables.specs.Verdict.{checks, refuse_least}
use Rattle.tables.specs.declared.Fault.{Fault}
use Rattle.tables.specs.declared.Verdict.TheVariants.{the_data as Verdict, Sound, Refused}
use Rattle.tables.specs.Tree.{hub, Inside, hubs_verdict, reach_verdict, tree_verdict}
use Rattle.tables.proofs.Verdicts.{none_refused, all_sound, unless_sound, not_both}
use Rattle.checks.specs.TreeCheck.{below, hub_from, ups_verdict, DepthRoom, Climbable, Reached}
use Rattle.checks.proofs.Checking.{told, stops, goes_on, ends}
use Rattle.checks.proofs.Searching.{below_some, below_none}

-- a search for a hub from `from` on: what it found is the least machine, not below `from`, that names itself
module _ (up : List ℕ) (from : ℕ) where
  other : (k : ℕ) → (from ≤ k → at up k ≢ k) → (leb from k && eqb (at up k) k) ≡ false
  other k o = grind (arith, nat_tests)

  pub found_hub : (r : Option ℕ)
      → MatchOption r ((k : ℕ) → from ≤ k → k < length up → at up k ≢ k) (λ i. (from ≤ i) × (i < length up) × (at up i ≡ i) × ((k : ℕ) → from ≤ k → k < i → at up k ≢ k))
      → r ≡ below (length up) (hub_from up from)
  found_hub (Some i) (low, b, e, none) =
      let f : hub_from up from ≡ i = least_is (length up) (λ v. leb from v && eqb (at up v) v) i
      (record { le = omega arith; before = λ k h. other k (λ l. none k l h); here = λ _. grind (arith, nat_tests) }) in
      rw (f, lt-ltb i (length up) b)
  found_hub None none =
      let f : hub_from up from ≡ length up = least_is (length up) (λ v. leb from v && eqb (at up v) v) (length up)
      (record { le = omega arith; before = λ k h. other k (λ l. none k l h); here = λ b. absurd (omega arith) }) in
      rw (f, le-ltb (length up) (length up) (omega arith))

module _ (up : List ℕ) where
  first_hub : hub_from up 0 ≡ hub up
  unfolding hub
  first_hub = simp leb-zero

  hub_found : (a : Option ℕ) → a ≡ below (length up) (hub_from up 0) → unwrap_or a (length up) ≡ hub up
  unfolding hub
  hub_found (Some i) q = (below_some q refl).0 ∙ first_hub
  hub_found None q = omega (arith, below_none q refl, first_hub, (least_has (length up) (λ v. eqb (at up v) v)).le)

  pub hub_or : {a : Option ℕ} {r : ℕ} → a ≡ below (length up) (hub_from up 0) → r ≡ unwrap_or a (length up) → r ≡ hub up
  hub_or {a} q e = e ∙ hub_found a q

  module _ {a : Option ℕ} (q : a ≡ below (length up) (hub_from up 0)) where
    pub no_hub : a ≡ None → Refused Fault.Hubs (length up) ≡ hubs_verdict up
    unfolding checks
    no_hub e = rw (le-ltb (hub up) (length up) (rw first_hub at (below_none q e))) refl

    module _ {h : ℕ} {b : Option ℕ} (e : a ≡ Some h) (f : b ≡ below (length up) (hub_from up (h + 1))) where
      behind : hub_from up (h + 1) ≡ least (length up) (λ v. ltb (hub up) v && eqb (at up v) v)
      behind = simp ((below_some q e).0, first_hub, add-one)

      hub_in : hub up < length up
      hub_in = let (g, l) = below_some q e in omega (arith, first_hub)

      pub two_hubs : {r : ℕ} → b ≡ Some r → Refused Fault.Hubs r ≡ hubs_verdict up
      unfolding checks refuse_least
      two_hubs {r} g =
          let (i, l) = below_some f g in
          rw (lt-ltb (hub up) (length up) hub_in, ← behind, ← i, lt-ltb r (length up) l) refl

      pub one_hub : b ≡ None → Sound ≡ hubs_verdict up
      unfolding checks refuse_least
      one_hub g = rw (lt-ltb (hub up) (length up) hub_in, ← behind, le-ltb (hub_from up (h + 1)) (length up) (below_none f g)) refl

-- checks of checks are checks one after another
nested : (a b c : Verdict) → checks (a ∷ b ∷ c ∷ []) ≡ checks (checks (a ∷ b ∷ []) ∷ c ∷ [])
unfolding checks
nested Sound Sound c = refl
nested Sound (Refused why place) c = refl
nested (Refused why place) b c = refl

-- what the ups tell, which takes no climb
module _ (up : List ℕ) {c : Verdict} (q : c ≡ ups_verdict up) where
  pub ups_stop : {why : Fault} {place : ℕ} → c ≡ Refused why place → c ≡ tree_verdict up
  unfolding tree_verdict ups_verdict
  ups_stop e = stops q _ e ∙ sym (nested _ _ _)

  module _ (e : c ≡ Sound) where
    pub ups_inside : Inside up
    unfolding ups_verdict
    ups_inside v h = leb-false (length up) (at up v) (none_refused Fault.Entry (length up) (λ k. leb (length up) (at up k)) (all_sound _ (told e q)).0 v h)

    ups_hub : hub up < length up
    unfolding ups_verdict
    ups_hub = ltb-true (hub up) (length up) (unless_sound _ _ _ (all_sound _ (all_sound _ (told e q)).1.0).0)

    pub ups_go_on : {w : Verdict} → w ≡ reach_verdict up → w ≡ tree_verdict up
    unfolding tree_verdict ups_verdict
    ups_go_on p = goes_on q _ e (ends p) ∙ sym (nested _ _ _)

    pub ready : {known : List ℕ} → DepthRoom up known → Climbable up known
    ready m = record { room = m; inside = ups_inside; hub_in = ups_hub }

-- a refusal leaves no depths, and what the last part leaves is what the whole check leaves
pub refused : {v : Verdict} {up known : List ℕ} {r : Verdict} {why : Fault} {place : ℕ} → r ≡ Refused why place → r ≡ v → length known ≡ length up
    → Reached v up known r
refused e q s = record { verdict = q; size = s; depths = λ f. not_both e f }

pub reached : {v w : Verdict} {up known : List ℕ} {r : Verdict} → Reached w up known r → r ≡ v → Reached v up known r
reached k q = record { verdict = q; size = k.size; depths = k.depths }
