-- Walks joined, turned round and carried over to other relations; and the law behind every "no walk": a set that no step leaves is left by no walk.
use Prim.Native.Nat.{ℕ}
use Rattle.graph.specs.Walk.{Relation, Walk, stay, step}

-- a walk does not leave a set that its steps do not leave
pub closed : {R : Relation} (S : ℕ → Type 0) → ((a b : ℕ) → R a b → S a → S b) → {x y : ℕ} → Walk R x y → S x → S y
closed S c stay s = s
closed S c (step r w) s = closed S c w (c _ _ r s)

pub join : {R : Relation} {x y z : ℕ} → Walk R x y → Walk R y z → Walk R x z
join stay v = v
join (step r w) v = step r (join w v)

pub one_step : {R : Relation} {x y : ℕ} → R x y → Walk R x y
one_step r = step r stay

pub back : {R : Relation} → ((a b : ℕ) → R a b → R b a) → {x y : ℕ} → Walk R x y → Walk R y x
back s stay = stay
back s (step r w) = join (back s w) (one_step (s _ _ r))

-- each step of a walk made a walk of another relation
pub refine : {R Q : Relation} → ((a b : ℕ) → R a b → Walk Q a b) → {x y : ℕ} → Walk R x y → Walk Q x y
refine f stay = stay
refine f (step r w) = join (f _ _ r) (refine f w)

pub map : {R Q : Relation} → ((a b : ℕ) → R a b → Q a b) → {x y : ℕ} → Walk R x y → Walk Q x y
map f = refine (λ a b r. one_step (f a b r))
