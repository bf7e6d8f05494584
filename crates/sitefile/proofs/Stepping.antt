-- What a record leads to. Each takes a byte and ends inside the file; and what a file leads to keeps its sizes: no more uplinks than machines, whole
-- links and no more than a batch has, and tables that have their entries once the tree is whole, and none before.
use mathlib.Core.Path.{◌≡◌, refl, ◌∙◌}
use mathlib.Core.Bool.{Bool, true, false, cond}
use mathlib.Core.List.{List, [], ◌∷◌, ◌++◌}
use Prim.Native.Nat.{ℕ, ◌+◌, ◌*◌, ◌%◌, ◌≤◌, ◌<◌}
use native.Mathlib.Omega.{arith}
use lib.ListN.{length, length-append}
use lib.Dec.{eqb, ltb}
use borrow.Author.Tests.{eq-eqb, ne_eqb, ltb-true, ltb-false}
use Rattle.plain.proofs.Says.{says_and, says_le, says_eq}
use Rattle.plain.proofs.Tabulate.{length-tabulate}
use Rattle.tables.specs.declared.Answer.{Answer}
use Rattle.tables.specs.declared.Verdict.TheVariants.{the_data as Verdict, Sound, Refused}
use Rattle.tables.specs.Tree.{most_machines, size_verdict, tree_verdict}
use Rattle.tables.specs.Batch.{most_links, numbers_verdict}
use Rattle.tables.specs.Report.{Bytes, bytes_of, machine_bytes, link_bytes}
use Rattle.tables.specs.Outcome.{add_verdict, report_verdict}
use Rattle.tables.proofs.Verdicts.{unless_sound}
use Rattle.tables.proofs.Lengths.{size_exact}
use Rattle.tables.proofs.Sized.{Sized, sized_fresh, sized_added}
use Rattle.sitefile.specs.Record.{body_length, body_of, word}
use Rattle.sitefile.specs.File.{Read, FileStep, reads, reports, ends, refuses, begin, reader_of, unless_refused, size, uplink, link, close, report, done, step, due_of}
use Rattle.sitefile.specs.declared.due.Due.{Due}
use Rattle.sitefile.specs.declared.due.Due.TheVariants as due
use Rattle.sitefile.proofs.ReadDue.{DueFacts, told}

-- the tables have so many entries
abbrev pub entries : Read → ℕ
entries r = cond (eqb (length r.up) r.n) r.n 0

-- sizes that a file leads to
pub record Led (r : Read) : Type 0 where
  pub few : r.n ≤ most_machines
  pub ups : length r.up ≤ r.n
  pub inside : length r.opened ≤ 2 * most_links
  pub pairs : length r.opened % 2 ≡ 0
  pub tables : Sized r.tables (entries r)

-- a record is read: it takes a byte or more, and ends inside the file
pub record Onward (bytes : List ℕ) (r r' : Read) : Type 0 where
  pub further : r.place < r'.place
  pub within : r'.place ≤ length bytes
  pub keeps : Led r → Led r'

-- a report is on the same machines, and has a byte for each and for each uplink of a whole tree
pub record Whole (r r' : Read) (o : Bytes) : Type 0 where
  pub same : r'.n ≡ r.n
  pub tree : length r'.up ≡ r'.n
  pub machines : length o.machines ≡ r'.n
  pub links : length o.links ≡ r'.n

-- what a record leads to: an end and a refusal lead nowhere
pub data Leads (bytes : List ℕ) (r : Read) : FileStep → Type 0 where
  onward : {r' : Read} → Onward bytes r r' → Leads bytes r (reads r')
  reporting : {r' : Read} {o : Bytes} → Onward bytes r r' → Whole r r' o → Leads bytes r (reports r' o)
  ending : Leads bytes r ends
  refusing : {a : Answer} → Leads bytes r (refuses a)

-- before the last uplink there are no tables
no_tables : (up : List ℕ) (n : ℕ) → length up < n → eqb (length up) n ≡ false
no_tables up n h = ne_eqb (length up) n (λ q. omega arith)

module _ (bytes : List ℕ) (r : Read) where
  -- where a check stands before it
  checked : (v : Verdict) {next : FileStep} → (v ≡ Sound → Leads bytes r next) → Leads bytes r (unless_refused v next)
  checked Sound f = f refl
  checked (Refused why place) f = refusing

  either : (b : Bool) {x y : FileStep} → (b ≡ true → Leads bytes r x) → (b ≡ false → Leads bytes r y) → Leads bytes r (cond b x y)
  either true f g = f refl
  either false f g = g refl

  -- kind 1
  size_leads : (m : ℕ) → r.place + 3 ≤ length bytes → Leads bytes r (size r m)
  unfolding size body_length
  size_leads m h = checked (size_verdict m) λ e.
      let (some, few) = (size_exact m).0 e in
      let z = no_tables [] m some in
      onward (record {
        further = omega arith;
        within = omega arith;
        keeps = λ l. record { few = few; ups = omega arith; inside = omega arith; pairs = refl; tables = rw z (record { depth = refl; group = refl; mark = refl }) };
      })

  -- kind 2
  uplink_leads : (u : ℕ) → r.place + 3 ≤ length bytes → length r.up < r.n → Leads bytes r (uplink r u)
  unfolding uplink body_length
  uplink_leads u h more =
      let up = r.up ++ (u ∷ []) in
      let s : length up ≡ length r.up + 1 = length-append r.up (u ∷ []) in
      either (ltb (length up) r.n)
      (λ b.
      let few : length up < r.n = ltb-true _ _ b in
      let z = no_tables up r.n few in
      onward (record {
        further = omega arith;
        within = omega arith;
        keeps = λ l. record { few = l.few; ups = omega arith; inside = omega arith; pairs = refl; tables = rw z (record { depth = refl; group = refl; mark = refl }) };
      }))
      (λ b. checked (tree_verdict up) λ t.
      let all : r.n ≤ length up = ltb-false _ _ b in
      let q : length up ≡ r.n = omega arith in
      onward (record {
        further = omega arith;
        within = omega arith;
        keeps = λ l. record { few = l.few; ups = omega arith; inside = omega arith; pairs = refl; tables = rw (eq-eqb _ _ q, ← q) (sized_fresh up) };
      }))

  -- kind 3
  link_leads : (a b : ℕ) → r.place + 5 ≤ length bytes → Leads bytes r (link r a b)
  unfolding link body_length numbers_verdict
  link_leads a b h =
      let s : length (r.opened ++ (a ∷ b ∷ [])) ≡ length r.opened + 2 = length-append r.opened (a ∷ b ∷ []) in
      checked (numbers_verdict (length r.opened + 2)) λ e.
      let (even, few) = (says_and (says_eq ((length r.opened + 2) % 2) 0) (says_le (length r.opened + 2) (2 * most_links))).gives (unless_sound _ _ _ e) in
      onward (record {
        further = omega arith;
        within = omega arith;
        keeps = λ l. record { few = l.few; ups = l.ups; inside = omega arith; pairs = rw s even; tables = l.tables };
      })

  -- kinds 4 and 5, over a whole tree
  module _ (here : r.place < length bytes) (tree : length r.up ≡ r.n) where
    all_sized : Led r → Sized r.tables (length r.up)
    all_sized l = rw tree (rw (eq-eqb _ _ tree) at l.tables)

    close_leads : Leads bytes r (close r)
    unfolding close body_length
    close_leads = checked (add_verdict r.up r.opened r.tables) λ e.
        onward (record {
          further = omega arith;
          within = omega arith;
          keeps = λ l. record {
            few = l.few;
            ups = l.ups;
            inside = omega arith;
            pairs = refl;
            tables = rw (eq-eqb _ _ tree, ← tree) (sized_added r.up r.opened r.tables e (all_sized l));
          };
        })

    report_leads : Leads bytes r (report r)
    unfolding report body_length machine_bytes link_bytes
    report_leads =
        checked (report_verdict r.up r.tables (bytes_of (machine_bytes r.up r.tables) (link_bytes r.up r.tables))) λ e. reporting
        (record {
          further = omega arith;
          within = omega arith;
          keeps = λ l. record { few = l.few; ups = l.ups; inside = omega arith; pairs = refl; tables = l.tables };
        })
        (record { same = refl; tree = tree; machines = length-tabulate (length r.up) _ ∙ tree; links = length-tabulate (length r.up) _ ∙ tree })

  done_leads : (d : Due) → DueFacts bytes (reader_of r) d → Leads bytes r (done bytes r d)
  unfolding DueFacts done
  done_leads due.End t = ending
  done_leads (due.Stop a) t = refusing
  done_leads due.Size t = size_leads (word (body_of bytes r.place) 0) t
  done_leads due.Uplink t = uplink_leads (word (body_of bytes r.place) 0) t.0 t.1
  done_leads due.Link t = link_leads (word (body_of bytes r.place) 0) (word (body_of bytes r.place) 1) t
  done_leads due.Close t = close_leads t.0 t.1
  done_leads due.Report t = report_leads t.0 t.1

  pub step_leads : Leads bytes r (step bytes r)
  unfolding step
  step_leads = done_leads (due_of bytes (reader_of r)) (told bytes (reader_of r) refl)

-- the start
pub led_begin : Led begin
led_begin = record { few = omega arith; ups = omega arith; inside = omega arith; pairs = refl; tables = record { depth = refl; group = refl; mark = refl } }
