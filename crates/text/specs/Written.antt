-- What stands in a lent buffer once a text is written into it.
use Rattle.std.specs.Prelude.{◌≡◌, Bool, true, false, ◌&&◌, Option, Some, None, List, ℕ, ◌+◌, ◌*◌, ◌≤◌, length, leb, eqb}
use Rattle.std.proofs.lemmas.List.Edits.{sets}
use Rattle.tables.specs.declared.Answer.{Answer}
use Rattle.tables.specs.Outcome.{Outcome, outcome}
use Rattle.tables.specs.Tree.{most_machines}
use Rattle.tables.specs.Report.{bytes_of}
use Rattle.text.specs.declared.Page.{Page}
use Rattle.text.specs.Text.{report_text, refusal_text}
use Rattle.plain.specs.Laid.{laid}

-- where there is room, the length of the text, and the text laid over the front of the buffer; else none, and the buffer as it came
abbrev pub written : Bool → List ℕ → List ℕ → Outcome (Option ℕ) (List ℕ)
written true text buffer = outcome (Some (length text)) (laid text buffer)
written false text buffer = outcome None buffer

-- a refusal asks for 64 bytes of room
unfoldable pub refusal_written : Answer → List ℕ → Outcome (Option ℕ) (List ℕ)
refusal_written refusal buffer = written (leb 64 (length buffer)) (refusal_text refusal) buffer

-- a report asks for 24 bytes a machine and 64 more, for at most 4,096 machines, and for a byte a machine in both outputs
abbrev pub report_fits : ℕ → ℕ → ℕ → ℕ → Bool
report_fits n machines links room = leb n most_machines && (eqb machines n && (eqb links n && leb (24 * n + 64) room))

unfoldable pub report_written : List ℕ → List ℕ → List ℕ → List ℕ → Outcome (Option ℕ) (List ℕ)
report_written up machines links buffer =
    written (report_fits (length up) (length machines) (length links) (length buffer))
    (report_text up (bytes_of machines links))
    buffer

-- a text was laid over a buffer from this place on, and this is the place behind it
pub record Lays (before : List ℕ) (place : ℕ) (text after : List ℕ) (answer : ℕ) : Type 0 where
  pub bytes : after ≡ sets before place text
  pub next : answer ≡ place + length text

-- there is room on the page for this text
abbrev pub HasRoom : Page → List ℕ → Type 0
HasRoom page text = page.at + length text ≤ length page.out.now

-- an inner call laid this text over the page's buffer from the page's place on, and moved the place behind it; the page lies on the same buffer
pub record Appends (before : Page) (text : List ℕ) (after : Page) : Type 0 where
  pub laid : Lays before.out.now before.at text after.out.now after.at
  pub same : after.out.ghost_name ≡ before.out.ghost_name
