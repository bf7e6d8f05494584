-- What is printed for a site file.
use Rattle.std.specs.Prelude.{cond, List, [], ◌++◌, ℕ, zero, suc, length, ltb}
use Rattle.tables.specs.declared.Fault.{Fault}
use Rattle.tables.specs.Answer.{refusal}
use Rattle.text.specs.Text.{report_text, refusal_text}
use Rattle.sitefile.specs.File.{Read, reads, reports, ends, refuses, begin, step}

-- a site file has at most so many bytes
abbrev pub most_bytes : ℕ
most_bytes = 16384

-- what the next k records print
unfoldable pub prints : ℕ → List ℕ → Read → List ℕ
prints zero file r = []
prints (suc k) file r = elim (step file r) [
  | reads r' ↦ prints k file r'
  | reports r' o ↦ report_text r'.up o ++ prints k file r'
  | ends ↦ []
  | refuses refusal ↦ refusal_text refusal
]

-- what is printed for a file; 13, too many bytes, is looked at first. Each record takes a byte, so there are no more than the file has
unfoldable pub printed : List ℕ → List ℕ
printed file = cond (ltb most_bytes (length file)) (refusal_text (refusal Fault.Long most_bytes)) (prints (suc (length file)) file begin)
