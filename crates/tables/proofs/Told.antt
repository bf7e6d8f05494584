-- What tables tell of the links L that made them, in the form in which one link after the other keeps it. It determines the tables.
use mathlib.Core.Path.{◌≡◌, refl, sym, ap, ◌∙◌}
use mathlib.Core.List.{List}
use mathlib.Core.Logic.Iff
use mathlib.Core.Logic.{◌≢◌, dite, ◌↔◌}
use Prim.Native.Nat.{ℕ, ◌<◌, ◌≤◌}
use native.Mathlib.Decide.{ℕ_discrete, dec_le}
use native.Mathlib.Nat.{le_antisymm}
use native.Mathlib.Omega.{arith}
use lib.ListN.{length, replicate, length-replicate, get_or-replicate}
use lib.Seq.{ext_get_or}
use Rattle.plain.proofs.Tabulate.{length-tabulate, at-tabulate}
use Rattle.plain.specs.Table.{at, tabulate}
use Rattle.graph.proofs.Walks.{closed, join}
use Rattle.graph.specs.Walk.{Relation, stay}
use Rattle.rings.proofs.Groups.{mirror}
use Rattle.rings.proofs.More.{escape_map, joins-map, group_map}
use Rattle.rings.specs.Group.{Joins, SameGroup}
use Rattle.rings.specs.Network.{Network}
use Rattle.rings.specs.Ring.{Rings, Carries}
use Rattle.rings.specs.Tree.{Tree}
use Rattle.tables.specs.Tables.{Tables, fresh}
use Rattle.tables.specs.Tree.{depth_of}
use Rattle.tables.specs.AsTree.{tree_of}

-- the marks say what is ringed and what is carried
pub record Marked (up : List ℕ) (L : Relation) (mark : List ℕ) : Type 0 where
  pub size : length mark ≡ length up
  pub small : (x : ℕ) → x < length up → at mark x ≤ 2
  pub ringed : (x : ℕ) → x < length up → (1 ≤ at mark x) ↔ Rings (tree_of up) L x
  pub carried : (x : ℕ) → x < length up → (at mark x ≡ 2) ↔ Carries (tree_of up) L x

-- the group's name is the same across each join, is of the group, and is no greater
pub record Named (up : List ℕ) (L : Relation) (group : List ℕ) : Type 0 where
  pub size : length group ≡ length up
  pub agree : {w x y : ℕ} → Joins (tree_of up) L w x y → at group x ≡ at group y
  pub own : (x : ℕ) → x < length up → SameGroup (tree_of up) L (at up x) x (at group x)
  pub least : (x : ℕ) → x < length up → at group x ≤ x

pub record Told (up : List ℕ) (L : Relation) (t : Tables) : Type 0 where
  pub depths : t.depth ≡ tabulate (length up) (depth_of up)
  pub marked : Marked up L t.mark
  pub named : Named up L t.group

-- machines of one group have one up
pub group_up : {T : Tree} {L : Relation} {w x y : ℕ} → SameGroup T L w x y → T.up x ≡ w → T.up y ≡ w
group_up {T} {w = w} = closed (λ v. T.up v ≡ w) (λ a b j _. j.right.to)

-- With no links: the fresh tables.
pub fresh_told : (up : List ℕ) (L : Relation) → ((a b : ℕ) → ¬ L a b) → Told up L (fresh up)
unfolding fresh
fresh_told up L q = record {
  depths = refl;
  marked = record {
    size = length-replicate (length up) 0;
    small = λ x h. omega (arith, zero-at x h);
    ringed = λ x h. (λ k. absurd (omega (arith, zero-at x h)), λ g. absurd (q _ _ g.link));
    carried = λ x h. (λ k. absurd (omega (arith, zero-at x h)), λ g. absurd (q _ _ g.link));
  };
  named = record {
    size = length-tabulate (length up) (λ v. v);
    agree = λ j. absurd (q _ _ j.link);
    own = λ x h. rw (self_at x h) stay;
    least = λ x h. omega (arith, self_at x h);
  };
}
  where
    zero-at : (x : ℕ) → x < length up → at (replicate (length up) 0) x ≡ 0
    zero-at x h = get_or-replicate (length up) x 0 0 h

    self_at : (x : ℕ) → x < length up → at (tabulate (length up) (λ v. v)) x ≡ x
    self_at x h = at-tabulate (length up) (λ v. v) x h

pub told_map : {up : List ℕ} {L M : Relation} {t : Tables} → ((a b : ℕ) → L a b → M a b) → ((a b : ℕ) → M a b → L a b) → Told up L t → Told up M t
told_map f g k = let m = k.marked in let n = k.named in record {
  depths = k.depths;
  marked = record {
    size = m.size;
    small = m.small;
    ringed = λ x h. Iff.trans (m.ringed x h) (escape_map f, escape_map g);
    carried = λ x h. Iff.trans (m.carried x h) (escape_map f, escape_map g);
  };
  named = record {
    size = n.size;
    agree = λ j. n.agree (joins-map g j);
    own = λ x h. group_map f (n.own x h);
    least = n.least;
  };
}

same_mark : (m k : ℕ) → m ≤ 2 → k ≤ 2 → (1 ≤ m) ↔ (1 ≤ k) → (m ≡ 2) ↔ (k ≡ 2) → m ≡ k
same_mark m k a b p q = dite (ℕ_discrete m 2) (λ e. e ∙ sym (q.0 e)) λ e. dite (dec_le 1 m)
    (λ f. let i = p.0 f in let o : k ≢ 2 = λ z. e (q.1 z) in omega arith)
    (λ f. let o : ¬ (1 ≤ k) = λ z. f (p.1 z) in omega arith)

module _ {up : List ℕ} {L : Relation} where
  marks_one : {m u : List ℕ} → Marked up L m → Marked up L u → m ≡ u
  marks_one {m} {u} k l = ext_get_or 0 m u (k.size ∙ sym l.size) (λ x h.
      let i : x < length up = rw k.size at h in
      same_mark (at m x) (at u x) (k.small x i) (l.small x i)
      (Iff.trans (k.ringed x i) (Iff.symm (l.ringed x i))) (Iff.trans (k.carried x i) (Iff.symm (l.carried x i))))

  -- the names within a group are one
  pub group_name : {g : List ℕ} → Named up L g → {w x y : ℕ} → SameGroup (tree_of up) L w x y → at g x ≡ at g y
  group_name {g} k {x = x} = λ i. closed (λ v. at g x ≡ at g v) (λ a b j e. e ∙ k.agree j) i refl

  name-le : {g u : List ℕ} → Named up L g → Named up L u → (x : ℕ) → x < length up → at u x ≤ at g x
  name-le {g} {u} k l x h = rw (group_name l (k.own x h)) (l.least (at g x) (omega (arith, k.least x h)))

  names_one : {g u : List ℕ} → Named up L g → Named up L u → g ≡ u
  names_one {g} {u} k l = ext_get_or 0 g u (k.size ∙ sym l.size)
      (λ x h. let h' : x < length up = rw k.size at h in le_antisymm (name-le l k x h') (name-le k l x h'))

  -- Two sets of tables that tell of the same links are one.
  pub told_one : {t u : Tables} → Told up L t → Told up L u → t ≡ u
  told_one k l = λ i. record { depth = (k.depths ∙ sym l.depths) i; group = names_one k.named l.named i; mark = marks_one k.marked l.marked i }

  pub group_law : {g : List ℕ} → Network (tree_of up) L → Named up L g → (x y : ℕ) → x < length up → y < length up
      → (at g x ≡ at g y) ↔ SameGroup (tree_of up) L (at up x) x y
  group_law {g} N k x y h l = (
    λ e.
        let p : at up (at g x) ≡ at up x = group_up (k.own x h) refl in
        let q : at up (at g y) ≡ at up y = group_up (k.own y l) refl in
        let z : at up y ≡ at up x = sym q ∙ ap (at up) (sym e) ∙ p in
        join (rw e at (k.own x h)) (mirror N (rw z at (k.own y l))),
    group_name k,
  )
