-- Checks in their order: one that refuses is the verdict, one that passes leaves it to those behind it; and what they tell once all have passed.
use mathlib.Core.Path.{◌≡◌, refl, sym, ap, ◌∙◌}
use mathlib.Core.List.{List, [], ◌∷◌}
use Prim.Native.Nat.{ℕ, ◌≤◌}
use lib.ListN.{length}
use Rattle.tables.specs.Verdict.{checks}
use Rattle.tables.specs.declared.Fault.{Fault}
use Rattle.tables.specs.declared.Verdict.TheVariants.{the_data as Verdict, Sound, Refused}
use Rattle.tables.specs.Tree.{most_machines, size_verdict}
use Rattle.tables.specs.Tables.{Tables, fresh, sizes_verdict}
use Rattle.tables.specs.Batch.{batch_verdict}
use Rattle.tables.specs.Report.{Bytes}
use Rattle.tables.specs.Links.{SiteOf}
use Rattle.tables.specs.Outcome.{outcome, add_verdict, outputs_verdict, report_verdict}
use Rattle.tables.proofs.Verdicts.{not_both, passes, refuses, checks_one, all_sound}
use Rattle.tables.proofs.Lengths.{Sizes, Lengths, sized_is, size_exact, sizes_exact, lengths}
use Rattle.tables.proofs.Demand1.{site_of}
use Rattle.checks.specs.Started.{started}
use Rattle.checks.specs.TreeCheck.{Reached}

-- the verdict that a check's answer tells
pub told : {c d v : Verdict} → c ≡ d → c ≡ v → v ≡ d
told e q = sym q ∙ e

module _ {c v : Verdict} (q : c ≡ v) (vs : List Verdict) where
  pub stops : {why : Fault} {place : ℕ} → c ≡ Refused why place → c ≡ checks (v ∷ vs)
  stops e = q ∙ sym (refuses (told e q) vs)

  pub goes_on : {w : Verdict} → c ≡ Sound → w ≡ checks vs → w ≡ checks (v ∷ vs)
  goes_on e p = p ∙ sym (passes (told e q) vs)

pub ends : {v w : Verdict} → w ≡ v → w ≡ checks (v ∷ [])
ends q = q ∙ sym (checks_one _)

-- what the lengths tell where they pass
pub few_machines : {c : Verdict} (n : ℕ) → c ≡ Sound → c ≡ size_verdict n → n ≤ most_machines
few_machines n e q = ((size_exact n).0 (told e q)).1

pub sizes_passed : {c : Verdict} {n depth group mark : ℕ} → c ≡ Sound → c ≡ sizes_verdict n depth group mark → Sizes n depth group mark
sizes_passed e q = (sizes_exact _ _ _ _).0 (told e q)

pub few_up : {c : Verdict} (n depth group mark : ℕ) → c ≡ Sound → c ≡ sizes_verdict n depth group mark → n ≤ most_machines
few_up n depth group mark e q = let s : Sizes n depth group mark = sizes_passed e q in s.few

pub depth_fits : {c : Verdict} (n depth group mark : ℕ) → c ≡ Sound → c ≡ sizes_verdict n depth group mark → depth ≡ n
depth_fits n depth group mark e q = let s : Sizes n depth group mark = sizes_passed e q in s.depth_size

-- the checks of Start, and the depths that they leave
module _ (up depth : List ℕ) (v : Verdict) where
  pub start_stops : {c : Verdict} {why : Fault} {place : ℕ} → c ≡ Refused why place → c ≡ v → outcome c depth ≡ started v up depth
  unfolding started
  start_stops e q = rw (told e q, e)

  pub start_grown : {c : Verdict} {known depth' : List ℕ} → c ≡ Sound → Reached v up known c → depth' ≡ known → outcome Sound depth' ≡ started v up depth
  unfolding started fresh
  start_grown e k p = rw (told e k.verdict, p) (ap (outcome Sound) (k.depths e))

  pub start_ends : {c w r : Verdict} {depth' : List ℕ} → c ≡ Sound → c ≡ w → outcome r depth' ≡ started v up depth
      → outcome r depth' ≡ started (checks (w ∷ v ∷ [])) up depth
  start_ends e q p = p ∙ ap (λ v. started v up depth) (goes_on q _ e (ends refl))

-- what they tell: the verdict, and the depths in either case
pub record LeftDepths (v : Verdict) (up depth : List ℕ) (c : Verdict) (depth' : List ℕ) : Type 0 where
  pub verdict : c ≡ v
  pub found : c ≡ Sound → depth' ≡ (fresh up).depth
  pub kept : {why : Fault} {place : ℕ} → c ≡ Refused why place → depth' ≡ depth

pub start_told : (v : Verdict) (up depth : List ℕ) {c : Verdict} {depth' : List ℕ} → outcome c depth' ≡ started v up depth → LeftDepths v up depth c depth'
unfolding started
start_told Sound up depth e =
    let q = ap (λ o. o.answer) e in record { verdict = q; found = λ _. ap (λ o. o.lent) e; kept = λ r. not_both r q }
start_told (Refused why place) up depth e =
    let q = ap (λ o. o.answer) e in record { verdict = q; found = λ s. not_both q s; kept = λ _. ap (λ o. o.lent) e }

-- tables that pass every check are those of links that stand
pub record PassedTables (up : List ℕ) (t : Tables) : Type 0 where
  pub sizes : Lengths up t
  pub site : SiteOf up t

module _ (up : List ℕ) (t : Tables) where
  pub add_passed : (batch : List ℕ) → add_verdict up batch t ≡ Sound → PassedTables up t × (batch_verdict (length up) batch ≡ Sound)
  unfolding add_verdict
  add_passed batch e = let (z, (r, (b, _))) = all_sound _ e in (record { sizes = lengths up t z; site = site_of up t z r }, b)

  pub report_passed : (o : Bytes) → report_verdict up t o ≡ Sound → PassedTables up t × (length o.machines ≡ length up) × (length o.links ≡ length up)
  unfolding report_verdict outputs_verdict
  report_passed o e =
      let (z, (s, (r, _))) = all_sound _ e in
      let (m, (l, _)) = all_sound _ s in (
        record { sizes = lengths up t z; site = site_of up t z r },
        sized_is _ _ _ m,
        sized_is _ _ _ l,
      )
