-- `text::decimal` calls itself on a tenth of the number, which is the measure.
use Rattle.text.proofs.+decimal.Given as goal

abbrev pub decreases-decimal : goal.decreases-decimal
decreases-decimal l = l.n
