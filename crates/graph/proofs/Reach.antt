-- Whether there is a walk, decided: in the manner of Floyd and Warshall, letting one machine more be passed through at a time.
use mathlib.Core.Path.{◌≡◌, refl}
use mathlib.Core.Logic.Dec
use mathlib.Core.Logic.{◌⊎◌, inl, inr, ⊎_elim, dite}
use Prim.Native.Nat.{ℕ, zero, suc, ◌<◌}
use native.Mathlib.Decide.{ℕ_discrete, map_dec}
use native.Mathlib.Omega.{arith}
use Rattle.plain.proofs.Decide.{or?}
use Rattle.graph.specs.Walk.{Relation, Walk, stay, step}
use Rattle.graph.proofs.Walks.{one_step, join}

-- A walk whose inner machines are below k.
Via : Relation → ℕ → Relation
Via R zero a b = (a ≡ b) ⊎ R a b
Via R (suc k) a b = Via R k a b ⊎ (Via R k a k × Via R k k b)

module _ (R : Relation) where
  via? : ((a b : ℕ) → Dec (R a b)) → (k a b : ℕ) → Dec (Via R k a b)
  unfolding Via
  via? d zero a b = or? (ℕ_discrete a b) (d a b)
  via? d (suc k) a b = or? (via? d k a b) (Dec.and (via? d k a k) (via? d k k b))

  walked : (k a b : ℕ) → Via R k a b → Walk R a b
  unfolding Via
  walked zero a b (inl e) = rw e stay
  walked zero a b (inr r) = one_step r
  walked (suc k) a b (inl v) = walked k a b v
  walked (suc k) a b (inr p) = join (walked k a k p.0) (walked k k b p.1)

  linked_via : (k : ℕ) {a b : ℕ} → (a ≡ b) ⊎ R a b → Via R k a b
  unfolding Via
  linked_via zero v = v
  linked_via (suc k) v = inl (linked_via k v)

  -- Two walks that meet below k, as one.
  meet : (k j a b : ℕ) → j < k → Via R k a j → Via R k j b → Via R k a b
  unfolding Via
  meet zero j a b h p q = absurd (omega arith)
  meet (suc k) j a b h p q = dite (ℕ_discrete j k)
      (λ e. inr (⊎_elim (λ v. v) (λ v. v.0) (rw e at p), ⊎_elim (λ v. v) (λ v. v.1) (rw e at q)))
      (λ o. merge (λ x y. meet k j x y (omega arith)) p q)
    where
      merge : ((x y : ℕ) → Via R k x j → Via R k j y → Via R k x y) → Via R (suc k) a j → Via R (suc k) j b → Via R (suc k) a b
      merge t (inl p) (inl q) = inl (t a b p q)
      merge t (inl p) (inr q) = inr (t a k p q.0, q.1)
      merge t (inr p) (inl q) = inr (p.0, t k b p.1 q)
      merge t (inr p) (inr q) = inr (p.0, q.1)

  pub walk? : (n : ℕ) → ((a b : ℕ) → R a b → b < n) → ((a b : ℕ) → Dec (R a b)) → (a b : ℕ) → Dec (Walk R a b)
  walk? n low d a b = map_dec (walked n a b) via (via? d n a b)
    where
      via : {a b : ℕ} → Walk R a b → Via R n a b
      via stay = linked_via n (inl refl)
      via (step {a = x} {b = y} {c = z} r w) = meet n y x z (low x y r) (linked_via n (inr r)) (via w)
