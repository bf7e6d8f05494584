-- What is due, test by test as the code makes them; and what is known of the reader where a record is due.
use mathlib.Core.Path.{◌≡◌, refl, sym, ◌∙◌}
use mathlib.Core.Bool.{Bool, true, false, cond, not}
use mathlib.Core.List.{List}
use Prim.Native.Nat.{ℕ, zero, suc, ◌+◌, ◌-◌, ◌≤◌, ◌<◌}
use native.Mathlib.Omega.{arith}
use lib.ListN.{length}
use lib.Dec.{leb, ltb}
use borrow.Author.Tests.{le-leb, lt-leb, lt-ltb, le-ltb, ltb-true, ltb-false, not-true, not-false}
use Rattle.plain.specs.Table.{at}
use Rattle.plain.proofs.Says.{Says, says_and, says_lt, says_le, says_eq}
use Rattle.tables.specs.declared.Answer.{Answer}
use Rattle.tables.specs.declared.Fault.{Fault}
use Rattle.tables.specs.Answer.{refusal}
use Rattle.sitefile.specs.Record.{known, body_length}
use Rattle.sitefile.specs.File.{grown, closed, in_place, asked, behind, due_of}
use Rattle.sitefile.specs.declared.Reader.{Reader}
use Rattle.sitefile.specs.declared.due.Due.{Due}
use Rattle.sitefile.specs.declared.due.Due.TheVariants as due

-- the code's tests, in its order
module _ (bytes : List ℕ) (r : Reader) where
  module _ (past : length bytes ≤ r.place) {b : Bool} (e : b ≡ closed r) where
    pub look_end : b ≡ true → due.End ≡ due_of bytes r
    unfolding due_of
    look_end f = rw (le-leb (length bytes) r.place, sym e ∙ f)

    pub look_cut : {a : Answer} → b ≡ false → a ≡ refusal Fault.Cut (length bytes) → due.Stop a ≡ due_of bytes r
    unfolding due_of
    look_cut f q = rw (q, le-leb (length bytes) r.place, sym e ∙ f)

  module _ (here : r.place < length bytes) {k : Bool} (e : k ≡ known (at bytes r.place)) where
    pub look_unknown : {a : Answer} → not k ≡ true → a ≡ refusal Fault.Unknown r.place → due.Stop a ≡ due_of bytes r
    unfolding due_of
    look_unknown f q = rw (q, lt-leb (length bytes) r.place, sym e ∙ not-true k f)

    module _ (kind : not k ≡ false) {p : Bool} (q : p ≡ in_place (at bytes r.place) r) where
      pub look_misplaced : {a : Answer} → not p ≡ true → a ≡ refusal Fault.Misplaced r.place → due.Stop a ≡ due_of bytes r
      unfolding due_of
      look_misplaced f z = rw (z, lt-leb (length bytes) r.place, sym e ∙ not-false k kind, sym q ∙ not-true p f)

      module _ (fine : not p ≡ false) {size : ℕ} (s : size ≡ body_length (at bytes r.place)) where
        pub look_short : {a : Answer} → length bytes - r.place - 1 < size → a ≡ refusal Fault.Cut (length bytes) → due.Stop a ≡ due_of bytes r
        unfolding due_of
        look_short f z =
            let t : length bytes < behind r.place (at bytes r.place) = omega arith in
            rw (z, lt-leb (length bytes) r.place, sym e ∙ not-false k kind, sym q ∙ not-false p fine, lt-ltb)

        pub look_whole : {d : Due} → size ≤ length bytes - r.place - 1 → d ≡ asked (at bytes r.place) → d ≡ due_of bytes r
        unfolding due_of
        look_whole f g =
            let t : behind r.place (at bytes r.place) ≤ length bytes = omega arith in
            rw (lt-leb (length bytes) r.place, sym e ∙ not-false k kind, sym q ∙ not-false p fine, le-ltb) g

-- what is known where a record is due: its body is there, and its kind is in place
unfoldable pub DueFacts : List ℕ → Reader → Due → Type 0
DueFacts bytes r due.End = Unit {0}
DueFacts bytes r (due.Stop refusal) = Unit {0}
DueFacts bytes r due.Size = r.place + 3 ≤ length bytes
DueFacts bytes r due.Uplink = (r.place + 3 ≤ length bytes) × (r.ups < r.n)
DueFacts bytes r due.Link = r.place + 5 ≤ length bytes
DueFacts bytes r due.Close = (r.place < length bytes) × (r.ups ≡ r.n)
DueFacts bytes r due.Report = (r.place < length bytes) × (r.ups ≡ r.n)

says_grown : (r : Reader) → Says (grown r) ((0 < r.n) × (r.ups ≡ r.n))
says_grown r = says_and (says_lt 0 r.n) (says_eq r.ups r.n)

both : (P : Due → Type 0) (b : Bool) {x y : Due} → (b ≡ true → P x) → (b ≡ false → P y) → P (cond b x y)
both P true f g = f refl
both P false f g = g refl

module _ (bytes : List ℕ) (r : Reader) where
  told_asked : (kind : ℕ) → (1 ≤ kind) × (kind ≤ 5) → in_place kind r ≡ true → behind r.place kind ≤ length bytes → DueFacts bytes r (asked kind)
  unfolding DueFacts body_length
  told_asked zero k p w = absurd (omega arith)
  told_asked (suc zero) k p w = omega arith
  told_asked (suc (suc zero)) k p w = (omega arith, ltb-true _ _ p)
  told_asked (suc (suc (suc zero))) k p w = omega arith
  told_asked (suc (suc (suc (suc zero)))) k p w = (omega arith, ((says_grown r).gives p).1)
  told_asked (suc (suc (suc (suc (suc zero))))) k p w = (omega arith, ((says_and (says_grown r) (says_eq r.opened 0)).gives p).0.1)
  told_asked (suc (suc (suc (suc (suc (suc j)))))) k p w = absurd (omega arith)

  stops : (a : Answer) → DueFacts bytes r (due.Stop a)
  unfolding DueFacts
  stops a = tt

  ends : DueFacts bytes r due.End
  unfolding DueFacts
  ends = tt

  due_told : DueFacts bytes r (due_of bytes r)
  unfolding due_of
  due_told =
      let kind = at bytes r.place in
      let T = DueFacts bytes r in
      both T (leb (length bytes) r.place) (λ a. both T (closed r) (λ b. ends) (λ b. stops _)) λ a.
      both T (not (known kind)) (λ b. stops _) λ b.
      both T (not (in_place kind r)) (λ c. stops _) λ c.
      both T (ltb (length bytes) (behind r.place kind)) (λ d. stops _) λ d.
      told_asked kind ((says_and (says_le 1 kind) (says_le kind 5)).gives (not-false _ b)) (not-false _ c) (ltb-false _ _ d)

  pub told : {d : Due} → due_of bytes r ≡ d → DueFacts bytes r d
  told e = rw e at due_told
