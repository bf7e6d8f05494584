-- The theorems are of something: a triangle has no choke machine, so two paths between 0 and 1; in the line 0 - 1 - 2 machine 1 and the pair 0, 1 are chokes.
-- That any two machines of the triangle are linked is computed.
use mathlib.Core.Path.{◌≡◌, refl, sym, subst}
use mathlib.Core.List.{[], ◌∷◌}
use mathlib.Core.Logic.{◌≢◌, ⊎_elim, dite}
use Prim.Native.Nat.{ℕ, ◌<◌}
use native.Mathlib.Decide.{ℕ_discrete}
use native.Mathlib.Omega.{arith}
use Rattle.plain.specs.Search.{some}
use Rattle.plain.specs.Member.{◌∈◌}
use Rattle.plain.proofs.Says.{says_some, says_and, says_not, says_eq, refuted}
use Rattle.graph.specs.Walk.{Relation, Walk, stay}
use Rattle.graph.specs.Choke.{Without, Choke}
use Rattle.graph.specs.Cable.{Cables, Linked, joins, between, less, ChokePair}
use Rattle.graph.specs.Path.{TwoPaths}
use Rattle.graph.proofs.Walks.{one_step, closed}
use Rattle.graph.proofs.Members.{empty, cases}
use Rattle.graph.proofs.Cables.{linked_between}
use Rattle.graph.proofs.TwoPaths.{two_paths}

abbrev triangle : Cables
triangle = (0, 1) ∷ (1, 2) ∷ (2, 0) ∷ []

abbrev line : Cables
line = (0, 1) ∷ (1, 2) ∷ []

-- every cable is of P
abbrev Each : Relation → Cables → Type 0
Each P [] = Unit {0}
Each P (p ∷ E) = P p.0 p.1 × Each P E

each : (P : Relation) (E : Cables) → Each P E → (a b : ℕ) → (a, b) ∈ E → P a b
each P [] all a b h = absurd (empty h)
each P (p ∷ E) all a b h = ⊎_elim (λ e. subst (λ q. P q.0 q.1) (sym e) all.0) (each P E all.1 a b) (cases h)

linked : (x y : ℕ) → x < 3 → y < 3 → x ≢ y → Linked triangle x y
unfolding some between joins
linked x y h k o = (linked_between triangle x y).1 (dite (ℕ_discrete (between triangle x y) 0) (λ e. absurd (none (x, h, (y, k, (o, e))))) (λ z. omega arith))
  where
    none : ¬ ((x : ℕ) × (x < 3) × ((y : ℕ) × (y < 3) × ((x ≢ y) × (between triangle x y ≡ 0))))
    none = refuted (says_some 3 (λ x _. says_some 3 (λ y _. says_and (says_not (says_eq x y)) (says_eq (between triangle x y) 0)))) refl

pub triangle_paths : TwoPaths (Linked triangle) 0 1
triangle_paths = (two_paths 3 triangle (omega arith) (each (λ a b. (a < 3) × (b < 3)) triangle (omega arith))).0 sound 0 1 (omega arith) (omega arith) (omega arith)
  where
    sound : (w : ℕ) → w < 3 → ¬ Choke 3 (Linked triangle) w
    sound w h c = c.parted (dite (ℕ_discrete c.one c.two) (λ e. rw e stay)
        (λ o. one_step (c.one_other, c.two_other, linked c.one c.two c.one_in c.two_in o)))

-- no cable leads from 0 to another machine
abbrev Home : Relation
Home a b = (a ≡ 0 → b ≡ 0) × (b ≡ 0 → a ≡ 0)

pub line_machine : Choke 3 (Linked line) 1
line_machine = record { one = 0; two = 2; one_in = omega arith; two_in = omega arith; one_other = omega arith; two_other = omega arith; parted = parted }
  where
    but : (a b : ℕ) → (a, b) ∈ line → a ≢ 1 → b ≢ 1 → Home a b
    but = each (λ a b. a ≢ 1 → b ≢ 1 → Home a b) line (omega arith)

    parted : ¬ Walk (Without (Linked line) 1) 0 2
    parted v = omega (arith, closed (λ x. x ≡ 0) (λ a b r. ⊎_elim (λ h. (but a b h r.0 r.1).0) (λ h. (but b a h r.1 r.0).1) r.2) v refl)

pub line_pair : ChokePair line 0 1
unfolding joins between less
line_pair = record {
  single = refl;
  parted = λ v. omega (arith, closed (λ x. x ≡ 0) (λ a b r. ⊎_elim (λ h. (rest a b h).0) (λ h. (rest b a h).1) r) v refl);
}
  where
    rest : (a b : ℕ) → (a, b) ∈ less line 0 1 → Home a b
    rest = each Home (less line 0 1) (omega arith)
