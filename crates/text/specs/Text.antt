-- The text of a report and of a refusal, as bytes.
use Rattle.std.specs.Prelude.{cond, List, [], ◌∷◌, ◌++◌, ℕ, zero, suc, ◌+◌, ◌/◌, ◌%◌, length, eqb, ltb}
use Prim.Native.Char.{code as byte_of}
use Prim.Native.String.{String, len, char_at}
use Rattle.plain.specs.Table.{at, tabulate}
use Rattle.tables.specs.declared.Answer.{Answer}
use Rattle.tables.specs.Report.{Bytes, named}

-- a text of ASCII as bytes, one for each character
unfoldable pub ascii : String → List ℕ
ascii text = tabulate (len text) (λ i. byte_of (char_at text i))

-- the decimal digits of n, the first of them not 0 unless it is the only one; k is at least the number of digits
unfoldable pub digits : ℕ → ℕ → List ℕ
digits zero n = []
digits (suc k) n = cond (ltb n 10) ((byte_of "0" + n) ∷ []) (digits k (n / 10) ++ ((byte_of "0" + n % 10) ∷ []))

-- a number of 64 bits has at most 20
abbrev pub decimal : ℕ → List ℕ
decimal n = digits 20 n

-- a letter and two numbers, with a space before each, and a line end
unfoldable pub line : ℕ → ℕ → ℕ → List ℕ
line letter a b = letter ∷ byte_of " " ∷ (decimal a ++ (byte_of " " ∷ (decimal b ++ (byte_of "\n" ∷ []))))

-- a line, but none for the byte 0
abbrev pub line_for : ℕ → ℕ → ℕ → ℕ → List ℕ
line_for byte letter a b = cond (eqb byte 0) [] (line letter a b)

-- f k, f (k + 1), .., m of them
unfoldable pub lines : (ℕ → List ℕ) → ℕ → ℕ → List ℕ
lines f k zero = []
lines f k (suc m) = f k ++ lines f (suc k) m

-- `M machine byte` where the byte is not 0; the lines of the machines from k on, m of them, in number order
abbrev pub machine_line : List ℕ → ℕ → List ℕ
machine_line bytes v = line_for (at bytes v) (byte_of "M") v (at bytes v)

abbrev pub machine_lines : List ℕ → ℕ → ℕ → List ℕ
machine_lines bytes k m = lines (machine_line bytes) k m

-- `L machine up` for a choke uplink; the lines likewise
abbrev pub uplink_line : List ℕ → List ℕ → ℕ → List ℕ
uplink_line up bytes v = line_for (at bytes v) (byte_of "L") v (at up v)

abbrev pub uplink_lines : List ℕ → List ℕ → ℕ → ℕ → List ℕ
uplink_lines up bytes k m = lines (uplink_line up bytes) k m

-- the text of a report: its `M` lines, its `L` lines, then `T chokes links`, the two totals
unfoldable pub report_text : List ℕ → Bytes → List ℕ
report_text up o =
    machine_lines o.machines 0 (length up) ++ (uplink_lines up o.links 0 (length up) ++ line (byte_of "T") (named o.machines) (named o.links))

-- the text of a refusal: `R code value`
abbrev pub refusal_text : Answer → List ℕ
refusal_text a = line (byte_of "R") a.code a.value
