-- Every public function is held to one equation with its definition, so two outcomes that it allows coincide.
use mathlib.Core.Path.{◌≡◌, sym, ap, ◌∙◌}
use Rattle.tables.specs.Outcome.{Outcome, outcome}

-- a verdict, a number, a part of a file
pub same : {A : Type 0} {x y z : A} → x ≡ z → y ≡ z → x ≡ y
same p q = p ∙ sym q

-- an answer, and every lent slice
pub one_outcome : {A B : Type 0} {a a' : A} {l l' : B} (o : Outcome A B) → outcome a l ≡ o → outcome a' l' ≡ o → (a ≡ a') × (l ≡ l')
one_outcome o p q = let e = same p q in (ap (λ r. r.answer) e, ap (λ r. r.lent) e)
