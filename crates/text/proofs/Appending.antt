-- Appending to a page: the laws of `Laying`, said of the page's buffer and its place.
use mathlib.Core.Path.{◌≡◌, refl, ap, ◌∙◌}
use mathlib.Core.List.{List, [], ◌++◌}
use Rattle.std.specs.Prelude.{Some}
use Prim.Native.Nat.{ℕ, ◌≤◌}
use native.Mathlib.Omega.{arith}
use lib.ListN.{length}
use lib.Seq.{sets}
use Rattle.tables.specs.Outcome.{outcome}
use Rattle.plain.specs.Laid.{laid}
use Rattle.text.specs.declared.Page.{Page}
use Rattle.text.specs.Written.{Appends, HasRoom}
use Rattle.plain.proofs.Laid.{laid_more}
use Rattle.text.proofs.Laying as laying

pub none_yet : (p : Page) → Appends p [] p
none_yet p = record { laid = laying.none_yet p.out.now p.at; same = refl }

pub size : {p q : Page} {s : List ℕ} → Appends p s q → length q.out.now ≡ length p.out.now
size a = laying.size a.laid

-- one text, then another
pub then : {p q r : Page} {s t : List ℕ} → Appends p s q → Appends q t r → Appends p (s ++ t) r
then a b = record { laid = laying.then a.laid b.laid; same = b.same ∙ a.same }

pub room : {p q : Page} {s : List ℕ} (t : List ℕ) → HasRoom p (s ++ t) → Appends p s q → HasRoom q t
room t h a = laying.room t h a.laid

-- room for the first of two
pub room_first : (p : Page) (s t : List ℕ) → HasRoom p (s ++ t) → HasRoom p s
room_first p s t h = laying.room_first p.at (length p.out.now) s t h

-- the same text in other words
pub reworded : {p q : Page} {s t : List ℕ} → s ≡ t → Appends p s q → Appends p t q
reworded e a = record { laid = laying.reworded e a.laid; same = a.same }

pub room_reworded : (p : Page) {s t : List ℕ} → s ≡ t → HasRoom p s → HasRoom p t
room_reworded p e h = laying.room_reworded p.at (length p.out.now) e h

-- a whole text from the front
pub over_front : {p q : Page} {s : List ℕ} → p.at ≡ 0 → length s ≤ length p.out.now → Appends p s q → outcome (Some q.at) q.out.now ≡ outcome (Some (length s)) (laid s p.out.now)
over_front {p} {q} {s} z h a =
    let b : q.out.now ≡ sets p.out.now 0 s = a.laid.bytes ∙ ap (λ i. sets p.out.now i s) z in
    let e : q.out.now ≡ laid s p.out.now = b ∙ laid_more p.out.now s 0 (omega arith) in
    let n : q.at ≡ length s = omega (arith, a.laid.next) in
    rw (e, n)
