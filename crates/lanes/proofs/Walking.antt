-- Lists by depth, walked: an entry leads to a machine on the list, the next one is less, and a walk passes every machine, since no list leaves one out.
use mathlib.Core.Path.{◌≡◌, refl, sym, ◌∙◌}
use mathlib.Core.List.{List}
use mathlib.Core.Logic.{◌⊎◌, inl, inr, dite}
use Prim.Native.Nat.{ℕ, suc, ◌-◌, ◌<◌, ◌≤◌}
use native.Mathlib.Decide.{ℕ_discrete, dec_lt}
use native.Mathlib.Omega.{arith}
use lib.ListN.{length}
use Rattle.plain.specs.Table.{at}
use Rattle.tables.specs.Tree.{depth_of}
use Rattle.lanes.specs.Depths.{Listed, Lists, OnList, Past, Begins, Falls}
use Rattle.lanes.specs.Laying.{Noted}
use Rattle.lanes.proofs.Grown.{Grounded}

module _ {n : ℕ} {d : ℕ → ℕ} {head next : List ℕ} (l : Lists n d n head next) where
  pub on_head : (k : ℕ) → OnList n d next k (at head k)
  on_head k v e = l.head_on k v e

  pub head_few : (k : ℕ) {x : ℕ} → x ≡ at head k → x ≤ n
  head_few k {x} e = dite (dec_lt 0 x)
      (λ b. let q : at head k ≡ suc (x - 1) = omega arith in omega (arith, (l.head_on k (x - 1) q).0))
      (λ b. omega arith)

  -- before a list's head nobody is passed
  pub none_past : {k u : ℕ} → u < n → Listed next u → ¬ Past d k (at head k) u
  none_past h p (e, g) = omega (arith, rw e at (l.first _ h p))

  -- the walk stands before a machine
  module _ {k x : ℕ} (o : OnList n d next k x) (g : 0 < x) where
    here_on : OnList n d next k (suc (x - 1))
    here_on = let e : suc (x - 1) ≡ x = omega arith in rw e o

    pub here_in : x - 1 < n
    here_in = (here_on (x - 1) refl).0

    pub here_listed : Listed next (x - 1)
    here_listed = (here_on (x - 1) refl).1

    pub here_depth : d (x - 1) ≡ k
    here_depth = (here_on (x - 1) refl).2

    pub on_next : OnList n d next k (at next (x - 1))
    on_next u e = let (g, p, q) = l.next_on (x - 1) u here_in here_listed e in (omega (arith, here_in), p, q ∙ here_depth)

    next_less : {y : ℕ} → y ≡ at next (x - 1) → y < x
    next_less {y} e = dite (dec_lt y x) (λ b. b) λ b.
        let q : y ≡ suc (y - 1) = omega arith in
        omega (arith, (l.next_on (x - 1) (y - 1) here_in here_listed (sym e ∙ q)).0)

    -- one step on passes one machine more
    pub past_more : (u : ℕ) → Listed next u → Past d k (at next (x - 1)) u → (u ≡ x - 1) ⊎ Past d k x u
    past_more u p (e, f) = dite (ℕ_discrete u (x - 1)) inl λ ne. dite (dec_lt u (x - 1))
        (λ b. absurd (omega (arith, l.more u (x - 1) b here_in p here_listed (e ∙ sym here_depth))))
        (λ b. inr (e, omega arith))

    -- and none less
    pub past_still : {u : ℕ} → Past d k x u → Past d k (at next (x - 1)) u
    past_still (e, f) = (e, omega (arith, next_less refl))

-- a list that is walked from its head
module _ {up head next : List ℕ} (g : Grounded up head next) where
  pub head_in : {k : ℕ} → k < length up → k < length head
  head_in h = rw g.lists.heads h

  pub begins : (k : ℕ) {x : ℕ} → x ≡ at head k → Begins next x
  begins k q v e = let (i, p, d) = g.lists.head_on k v (sym q ∙ e) in (rw g.lists.nexts i, p)

  pub falls : Falls next
  falls u w i p e = let (l, q, d) = g.lists.next_on u w (rw g.lists.nexts at i) p e in (l, q)

-- a walk stays inside its tables and goes down in number
module _ {up head next : List ℕ} (g : Grounded up head next) {k : ℕ} where
  module _ {x : ℕ} (o : OnList (length up) (depth_of up) next k x) (some : 0 < x) where
    pub less : {y : ℕ} → y ≡ at next (x - 1) → y < x
    less = next_less g.lists o some

    pub noted : {one two : List ℕ} → length one ≡ length up → length two ≡ length up → Noted up one two (x - 1)
    noted p q = let h = here_in g.lists o some in record { few = g.few; here = h; above = g.tree.inside (x - 1) h; ones = p; twos = q }

-- a walk of the list of depth k that stands at x of its table
pub record Afoot (up next : List ℕ) (k : ℕ) (on : List ℕ) (x : ℕ) : Type 0 where
  pub table : on ≡ next
  pub list : OnList (length up) (depth_of up) next k x

module _ {up head next : List ℕ} (g : Grounded up head next) {k : ℕ} where
  pub set_out : {on : List ℕ} {x : ℕ} → on ≡ next → x ≡ at head k → Afoot up next k on x
  set_out q e = record { table = q; list = rw e (on_head g.lists k) }

  module _ {on : List ℕ} {x v : ℕ} (a : Afoot up next k on x) (b : x ≡ suc v) where
    pub some : 0 < x
    some = omega arith

    pub passes : x - 1 ≡ v
    passes = omega arith

    pub leads : {y : ℕ} → y ≡ at on v → y ≡ at next (x - 1)
    leads q = rw (passes, ← a.table) q

    pub goes_on : {on' : List ℕ} {y : ℕ} → on' ≡ on → y ≡ at on v → Afoot up next k on' y
    goes_on c q = record { table = c ∙ a.table; list = rw (leads q) (on_next g.lists a.list some) }

    pub noted_here : {one two : List ℕ} → length one ≡ length up → length two ≡ length up → Noted up one two v
    noted_here p q = rw passes at (noted g a.list some p q)
