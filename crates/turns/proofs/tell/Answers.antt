-- `tell`: a report's text, and that of a refusal; the other steps have none.
use Rattle.turns.proofs.Turning.{told_report, told_refused}
use Rattle.turns.proofs.tell.Goals as goal

pub returns-in-Report : goal.returns-in-Report
returns-in-Report c depth group mark batch = search (told_report, c.show.ensures)

pub returns-in-Refused : goal.returns-in-Refused
returns-in-Refused c depth group mark batch = search (told_refused, c.refuse.ensures)
