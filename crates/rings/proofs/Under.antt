-- "Under" is an order, decided, in which what is over one machine forms a chain: from each machine there is one way up, and ranks fall along it.
-- What is told of every machine is told by climbing: it holds at the hub, and where it holds at the next one up.
use mathlib.Core.Path.{◌≡◌, refl, sym, ◌∙◌}
use mathlib.Core.Logic.{◌≢◌, ◌⊎◌, inl, inr, ⊎_elim, dite}
use Prim.Native.Nat.{ℕ, zero, suc, ◌<◌, ◌≤◌}
use native.Mathlib.Decide.{ℕ_discrete, map_dec}
use native.Mathlib.Omega.{arith}
use Rattle.graph.specs.Walk.{Relation, stay, step}
use Rattle.graph.proofs.Walks.{closed, join}
use Rattle.rings.specs.Tree.{Tree, Uplink, Under, Rooted}
use Rattle.rings.specs.Network.{Network}

pub uplinked : {T : Tree} {v : ℕ} → v < T.size → v ≢ T.hub → Uplink T v (T.up v)
uplinked h o = record { low = h; other = o; to = refl }

-- the other end of a cross link is a machine too
pub far : {T : Tree} {L : Relation} → Network T L → {a b : ℕ} → L a b → b < T.size
far N {a} {b} l = N.near b a (N.flip a b l)

-- two walks up from one machine: one goes on where the other ends
pub chain : {T : Tree} {a x y : ℕ} → Under T x a → Under T y a → Under T x y ⊎ Under T y x
chain stay v = inr v
chain (step r w) stay = inl (step r w)
chain (step r w) (step s v) = chain w (rw (sym s.to ∙ r.to) at v)

-- a walk up to w, unless it is at w already, ends by the uplink of a child of w
pub last : {T : Tree} {a w : ℕ} → Under T w a → (a ≡ w) ⊎ ((c : ℕ) × Uplink T c w × Under T c a)
last stay = inl refl
last {a} {w} (step r u) = inr (elim (last u) [ inl e ↦ (a, rw e at r, stay) | inr k ↦ (k.0, k.1, step r k.2) ])

-- above a machine that is not x, x stays above
pub rest : {T : Tree} {x a b : ℕ} → Uplink T a b → a ≢ x → Under T x a → Under T x b
rest r o stay = absurd (o refl)
rest r o (step s u) = rw (sym s.to ∙ r.to) at u

-- nothing else is over the hub
pub at-hub : {T : Tree} {x a : ℕ} → Under T x a → a ≡ T.hub → a ≡ x
at-hub stay e = refl
at-hub (step r u) e = absurd (r.other e)

module _ {T : Tree} {rank : ℕ → ℕ} (R : Rooted T rank) where
  open T use {size, hub, up}

  pub in_tree : {x a : ℕ} → Under T x a → a < size → x < size
  in_tree = closed (λ v. v < size) (λ a b r _. R.low r)

  pub over : {x a : ℕ} → Under T x a → rank x ≤ rank a
  over stay = omega arith
  over (step r u) = omega (arith, R.falls r, over u)

  pub no_return : {c w : ℕ} → Uplink T c w → ¬ Under T c w
  no_return r u = omega (arith, R.falls r, over u)

  pub antisym : {x a : ℕ} → Under T x a → Under T a x → a ≡ x
  antisym stay v = refl
  antisym (step r u) v = absurd (no_return r (join u v))

  -- two children of one machine that have a machine below them both are one
  pub one_child : {c d w a : ℕ} → Uplink T c w → Uplink T d w → Under T c a → Under T d a → c ≡ d
  one_child {c} {d} r s u v = dite (ℕ_discrete c d) (λ e. e)
      (λ o. absurd (⊎_elim (λ k. no_return r (rest s (λ e. o (sym e)) k)) (λ k. no_return s (rest r o k)) (chain u v)))

  -- what holds at the hub, and at each machine if at the next one up, holds at every machine
  pub rise : (P : ℕ → Type 0) → P hub → ((a b : ℕ) → Uplink T a b → P b → P a) → (a : ℕ) → a < size → P a
  rise P p s a h = go (suc (rank a)) a h (omega arith)
    where
      go : (k a : ℕ) → a < size → rank a < k → P a
      go zero a h l = absurd (omega arith)
      go (suc k) a h l = dite (ℕ_discrete a hub) (λ e. rw e p) λ o.
          let r = uplinked h o in s a (up a) r (go k (up a) (R.low r) (omega (arith, R.falls r)))

  pub hub_over : (a : ℕ) → a < size → Under T hub a
  hub_over = rise (λ a. Under T hub a) stay (λ a b r u. step r u)

  pub under? : (x a : ℕ) → a < size → Dec (Under T x a)
  under? x = rise (λ a. Dec (Under T x a)) (met hub (λ o. no (λ u. o (at-hub u refl))))
      (λ a b r d. met a (λ o. map_dec (step r) (rest r o) d))
    where
      met : (a : ℕ) → (a ≢ x → Dec (Under T x a)) → Dec (Under T x a)
      met a f = dite (ℕ_discrete a x) (λ e. yes (rw e stay)) f
