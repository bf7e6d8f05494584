-- A walk is carried step by step along a renumbering; a step from a machine to itself is no step. So a choke among the images is one before:
-- a walk there would be carried here. The other direction is the same law for the renumbering that undoes it.
use mathlib.Core.Path.{◌≡◌, refl, sym, ap, ◌∙◌}
use mathlib.Core.Logic.Iff
use mathlib.Core.Logic.{◌≢◌, ◌↔◌, inl, inr, ⊎_elim, ⊎_map, dite}
use Prim.Native.Nat.{ℕ, ◌<◌}
use native.Mathlib.Decide.{ℕ_discrete}
use native.Mathlib.Omega.{arith}
use Rattle.graph.specs.Walk.{Relation, Walk, stay, step}
use Rattle.graph.specs.Choke.{Without, Choke}
use Rattle.graph.specs.Cable.{Cables, Within, Linked, between, less, ChokePair}
use Rattle.graph.specs.Renumbering.{OneToOne, KeepsLinks, class, KeepsCables}
use Rattle.graph.specs.Statements.{MachinesCarried, Classes, CablesLinks, PairsCarried}
use Rattle.graph.proofs.Cables.{linked_near, linked_between, Same, same_linked, less_lone, less-sub, less_keeps}
use Rattle.graph.proofs.Inverse.{undone}

pub cables_links : CablesLinks
cables_links n f E F keeps a b a< b< ab =
    let e = keeps a b a< b< ab in
    let E↔ = linked_between E a b in
    let F↔ = linked_between F (f a) (f b) in
    (λ l. F↔.1 (omega (arith, E↔.0 l)), λ l. E↔.1 (omega (arith, F↔.0 l)))

-- two renumberings of the machines below n that undo each other
record Twins (n : ℕ) (f g : ℕ → ℕ) : Type 0 where
  there : OneToOne n f
  back : OneToOne n g
  undo : (v : ℕ) → v < n → g (f v) ≡ v
  redo : (v : ℕ) → v < n → f (g v) ≡ v

twins : {n : ℕ} {f : ℕ → ℕ} → OneToOne n f → (g : ℕ → ℕ) × Twins n f g
twins {n} {f} one = let (g, back, undo, redo) = undone n f one in (g, record { there = one; back = back; undo = undo; redo = redo })

swap : {n : ℕ} {f g : ℕ → ℕ} → Twins n f g → Twins n g f
swap t = record { there = t.back; back = t.there; undo = t.redo; redo = t.undo }

-- what holds of each pair and its images holds of each pair's origins and the pair
turned : {n : ℕ} {f g : ℕ → ℕ} (P : ℕ → ℕ → ℕ → ℕ → Type 0) → Twins n f g
    → ((a b : ℕ) → a < n → b < n → a ≢ b → P a b (f a) (f b)) → (a b : ℕ) → a < n → b < n → a ≢ b → P (g a) (g b) a b
turned {n} {f} {g} P t all a b a< b< ab =
    let p : P (g a) (g b) (f (g a)) (f (g b)) = all (g a) (g b) (t.back.into a a<) (t.back.into b b<) (λ e. ab (t.back.apart a b a< b< e)) in
    rw (t.redo a a<, t.redo b b<) at p

carried : {R Q : Relation} (f : ℕ → ℕ) → ((x y : ℕ) → R x y → x ≢ y → Q (f x) (f y)) → {x y : ℕ} → Walk R x y → Walk Q (f x) (f y)
carried f go stay = stay
carried f go (step {a = x} {b = y} r w) = dite (ℕ_discrete x y) (λ e. rw e (carried f go w)) (λ o. step (go x y r o) (carried f go w))

machine_back : {n : ℕ} {f g : ℕ → ℕ} (E F : Cables) → Within n E → Twins n f g → KeepsLinks n f (Linked E) (Linked F)
    → (w : ℕ) → w < n → Choke n (Linked F) (f w) → Choke n (Linked E) w
machine_back {n} {f} {g} E F near t keeps w w< c = record {
  one = g c.one;
  two = g c.two;
  one_in = t.back.into c.one c.one_in;
  two_in = t.back.into c.two c.two_in;
  one_other = λ e. c.one_other (sym (t.redo c.one c.one_in) ∙ ap f e);
  two_other = λ e. c.two_other (sym (t.redo c.two c.two_in) ∙ ap f e);
  parted = λ v. c.parted (rw (t.redo c.one c.one_in, t.redo c.two c.two_in) at (over v));
}
  where
    over : {x y : ℕ} → Walk (Without (Linked E) w) x y → Walk (Without (Linked F) (f w)) (f x) (f y)
    over = carried f λ x y r o.
        let (x<, y<) = linked_near E near x y r.2 in
        (λ e. r.0 (t.there.apart x w x< w< e), λ e. r.1 (t.there.apart y w y< w< e), (keeps x y x< y< o).0 r.2)

pub machines_carried : MachinesCarried
machines_carried n f E F near near' one keeps w w< =
    let (g, t) = twins one in
    let ways = turned (λ a b c d. Linked E a b ↔ Linked F c d) t keeps in (
      λ c. machine_back F E near' (swap t) (λ a b a< b< ab. Iff.symm (ways a b a< b< ab)) (f w) (one.into w w<) (rw (t.undo w w<) c),
      machine_back E F near t keeps w w<,
    )

pair_back : {n : ℕ} {f g : ℕ → ℕ} (E F : Cables) → Within n E → Twins n f g → KeepsCables n f E F
    → (a b : ℕ) → a < n → b < n → a ≢ b → ChokePair F (f a) (f b) → ChokePair E a b
pair_back {n} {f} {g} E F near t keeps a b a< b< ab c = record { single = single; parted = λ v. c.parted (over v) }
  where
    single : between E a b ≡ 1
    single = omega (arith, keeps a b a< b< ab, c.single)

    -- what is left of E after the one cable is another pair's
    other : (x y : ℕ) → Linked (less E a b) x y → ¬ Same a b x y
    other x y r s = less_lone E a b single (same_linked (less E a b) s r)

    over : {x y : ℕ} → Walk (Linked (less E a b)) x y → Walk (Linked (less F (f a) (f b))) (f x) (f y)
    over = carried f λ x y r o.
        let l = less-sub E a b x y r in
        let (x<, y<) = linked_near E near x y l in
        less_keeps F (f a) (f b) (f x) (f y)
        (λ s. other x y r (⊎_map (λ k. (t.there.apart x a x< a< k.0, t.there.apart y b y< b< k.1))
        (λ k. (t.there.apart x b x< b< k.0, t.there.apart y a y< a< k.1)) s))
        ((cables_links n f E F keeps x y x< y< o).0 l)

pub pairs_carried : PairsCarried
pairs_carried n f E F near near' one keeps a b a< b< ab =
    let (g, t) = twins one in
    let ways = turned (λ a b c d. class (between E a b) ≡ class (between F c d)) t keeps in (
      λ c. pair_back F E near' (swap t) (λ a b a< b< ab. sym (ways a b a< b< ab)) (f a) (f b) (one.into a a<) (one.into b b<)
          (λ e. ab (one.apart a b a< b< e)) (rw (t.undo a a<, t.undo b b<) c),
      pair_back E F near t keeps a b a< b< ab,
    )

pub classes : Classes
classes k j = (
  λ e. dite (ℕ_discrete k j) inl (λ o. inr (omega arith, omega arith)),
  ⊎_elim (λ (q : k ≡ j). rw q refl) (λ (a, b). omega (arith, a, b)),
)
