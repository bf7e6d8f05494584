-- A read in place: the front that was read, and then what this read gave, are the longer front.
use Rattle.std.proofs.Common.{◌≡◌, ℕ, ◌+◌, ◌≤◌, List, ◌++◌, rules, length, take, drop, ap, sym, ◌∙◌, subst, le_refl, drop_at, length-take-le}
use Rattle.std.proofs.lemmas.Slice.{take-put_mid_below}
use Rattle.std.specs.Io.KnownBytes.{Consumes}
use Rattle.std.proofs.KnownBytes.{Consumes-trans}
use borrow.Rule.Slice.PartMut.{put_mid, post_of}
use lib.Seq.{take-add, take-append-le}
use Rattle.intake.proofs.read_full.Goals as goal

longer_front : (a k n : ℕ) (xs ys : List ℕ) → a ≤ length xs → n ≤ length ys → take (a + n) (put_mid a k xs ys) ≡ take a xs ++ take n ys
longer_front a k n xs ys within fits =
    let front = take-put_mid_below a k xs ys a (le_refl a) within in
    let part = ap (take n) (drop_at (take a xs) (ys ++ post_of a k xs) a (length-take-le a xs within)) ∙ take-append-le n ys (post_of a k xs) fits in
    take-add a n (put_mid a k xs ys) ∙ ap (λ l. l ++ take n (drop a (put_mid a k xs ys))) front ∙ ap (λ l. take a xs ++ l) part

pub loop-done-preserved : goal.loop-done-preserved
loop-done-preserved g c =
    let within = c.loop-done.invariant.within in
    let now = longer_front c.loop-done.done _ c.in_ok-n.n c.loop-done.to c.read.new.buf within c.in_ok-n.ensures.bound.0 in
    record {
      within = search rules;
      bytes = subst (Consumes _ _) (sym now) (Consumes-trans _ _ _ _ _ c.loop-done.invariant.bytes c.in_ok-n.ensures.bytes.0);
    }
