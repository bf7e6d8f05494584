-- What one link asks of a mark, said by what is under what: x is on the ring and is not w where the link leads from under x to what is
-- not under x, and it is to be carried where the link leads to what is not under up[x].
use mathlib.Core.Path.{◌≡◌, refl}
use mathlib.Core.Bool.{◌&&◌, not}
use mathlib.Core.List.{List}
use mathlib.Core.Logic.{◌≢◌, ◌⊎◌, inl, inr, ⊎_elim, ⊎_map, ◌↔◌}
use Prim.Native.Nat.{ℕ, ◌<◌, ◌≤◌}
use native.Mathlib.Omega.{arith}
use lib.ListN.{length}
use lib.Dec.{eqb}
use Rattle.plain.proofs.Says.{Says, by_cases, says_eq, says_not, says_and, says_or, refuted}
use Rattle.plain.specs.Table.{at}
use Rattle.graph.proofs.Walks.{join}
use Rattle.rings.proofs.Lowest.{turn, leaves_on, on_leaves, deep_leaves}
use Rattle.rings.specs.Tree.{Tree, Under}
use Rattle.tables.specs.Link.{meet, ring, due}
use Rattle.tables.specs.AsTree.{tree_of}
use Rattle.tables.specs.Demand1.{SoundTree}
use Rattle.tables.proofs.Sound.{rooted}
use Rattle.tables.proofs.Lines.{up_over, meets, says_over}

-- The link leads from under x to what is not under y.
abbrev pub Leaves : Tree → ℕ → ℕ → ℕ → ℕ → Type 0
Leaves T a b x y = (Under T x a × ¬ Under T y b) ⊎ (Under T x b × ¬ Under T y a)

-- x is on the ring and is not w.
abbrev pub On : List ℕ → ℕ → ℕ → ℕ → Type 0
On up a b x = (Under (tree_of up) (meet up a b) x × (Under (tree_of up) x a ⊎ Under (tree_of up) x b)) × (x ≢ meet up a b)

pub data Due (up : List ℕ) (a b x : ℕ) : ℕ → Type 0 where
  none : ¬ On up a b x → Due up a b x 0
  high : On up a b x → at up x ≡ meet up a b → Due up a b x 1
  deep : On up a b x → at up x ≢ meet up a b → Due up a b x 2

module _ {up : List ℕ} (s : SoundTree up) {a b : ℕ} (h : a < length up) (k : b < length up) where
  says_on : (x : ℕ) → x < length up → Says (ring up a b x && not (eqb x (meet up a b))) (On up a b x)
  unfolding ring
  says_on x l = says_and (says_and (says_over s (meet up a b) x l) (says_or (says_over s x a h) (says_over s x b k))) (says_not (says_eq x (meet up a b)))

  pub due_is : (x : ℕ) → x < length up → Due up a b x (due up a b x)
  unfolding due
  due_is x l =
      let t = says_on x l in
      by_cases (ring up a b x && not (eqb x (meet up a b)))
      (λ e. rw e (by_cases (eqb (at up x) (meet up a b))
      (λ f. rw f (high (t.gives e) ((says_eq (at up x) (meet up a b)).gives f)))
      (λ f. rw f (deep (t.gives e) (refuted (says_eq (at up x) (meet up a b)) f)))))
      (λ e. rw e (none (refuted t e)))

  pub on_is : (x : ℕ) → On up a b x ↔ Leaves (tree_of up) a b x x
  on_is x =
      let m = meets s h k in
      let n = turn m in (
        λ ((u, i), o). ⊎_map (λ v. (v, on_leaves (rooted s) m u v o)) (λ v. (v, on_leaves (rooted s) n u v o)) i,
        ⊎_elim (λ q. let (u, o) = leaves_on m q.0 q.1 in ((u, inl q.0), o)) (λ q. let (u, o) = leaves_on n q.0 q.1 in ((u, inr q.0), o)),
      )

  deep_is : (x : ℕ) → x < length up → (On up a b x × (at up x ≢ meet up a b)) ↔ Leaves (tree_of up) a b x (at up x)
  deep_is x l =
      let m = meets s h k in
      let n = turn m in (
        λ (((u, i), o), e). ⊎_map (λ v. (v, deep_leaves (rooted s) m h u v o e)) (λ v. (v, deep_leaves (rooted s) n k u v o e)) i,
        ⊎_elim (λ q. ((on_is x).1 (inl (q.0, λ u. q.1 (join u (up_over s x l)))), λ e. q.1 (rw e m.right)))
            (λ q. ((on_is x).1 (inr (q.0, λ u. q.1 (join u (up_over s x l)))), λ e. q.1 (rw e m.left))),
      )

  pub due_small : (x : ℕ) → x < length up → due up a b x ≤ 2
  due_small x l = go (due_is x l)
    where
      go : {d : ℕ} → Due up a b x d → d ≤ 2
      go (none q) = omega arith
      go (high o e) = omega arith
      go (deep o e) = omega arith

  pub due_rings : (x : ℕ) → x < length up → (1 ≤ due up a b x) ↔ Leaves (tree_of up) a b x x
  due_rings x l = go (due_is x l)
    where
      go : {d : ℕ} → Due up a b x d → (1 ≤ d) ↔ Leaves (tree_of up) a b x x
      go (none q) = (λ i. absurd (omega arith), λ p. absurd (q ((on_is x).1 p)))
      go (high o e) = (λ _. (on_is x).0 o, λ _. omega arith)
      go (deep o e) = (λ _. (on_is x).0 o, λ _. omega arith)

  pub due_carries : (x : ℕ) → x < length up → (due up a b x ≡ 2) ↔ Leaves (tree_of up) a b x (at up x)
  due_carries x l = go (due_is x l)
    where
      go : {d : ℕ} → Due up a b x d → (d ≡ 2) ↔ Leaves (tree_of up) a b x (at up x)
      go (none q) = (λ i. absurd (omega arith), λ p. absurd (q ((deep_is x l).1 p).0))
      go (high o e) = (λ i. absurd (omega arith), λ p. absurd (((deep_is x l).1 p).1 e))
      go (deep o e) = (λ _. (deep_is x l).0 (o, e), λ _. refl)
