-- The batches of a plan, as the slices that are lent have them. Only private functions cite this file: nothing here has to be believed.
use Rattle.std.specs.Prelude.{◌≡◌, List, ℕ, length, Option, None, Some}
use Rattle.tables.specs.declared.Fault.{Fault}
use Rattle.tables.specs.declared.Verdict.TheVariants.{Refused}
use Rattle.writer.specs.declared.plan.Part.{Part as LentPart}
use Rattle.writer.specs.declared.plan.Plan.{Plan}
use Rattle.writer.specs.Plan.{Part, plan_of}
use Rattle.writer.specs.Written.{plan_verdict}

abbrev pub part_of : LentPart → Part
part_of p = record { batch = p.batch.now; report = p.report }

-- the batches that are left
unfoldable pub parts : Plan → List Part
parts p = plan_of p.links.now p.lengths.now p.reports.now

-- a plan has the slices that were lent; where there is none, the verdict is 27 for any number of machines
abbrev pub Planned : List ℕ → List ℕ → List ℕ → Option Plan → Type 0
Planned links lengths reports None = (n : ℕ) → Refused Fault.Parts (length lengths) ≡ plan_verdict n links lengths reports
Planned links lengths reports (Some p) = (p.links.now ≡ links) × (p.lengths.now ≡ lengths) × (p.reports.now ≡ reports)
