-- The reader over a written file. Each record stands where the one before it ended, so what is still to be read is always the records that were
-- written last; and over the tables of a history that lived no good batch and no report is refused.
use mathlib.Core.Path.{◌≡◌, refl, sym, ap, ◌∙◌}
use mathlib.Core.Bool.{Bool, true, false, cond}
use mathlib.Core.List.{List, [], ◌∷◌, ◌++◌, append-nil, append_assoc}
use Prim.Native.Nat.{ℕ, ◌+◌, ◌*◌, ◌%◌, ◌<◌, ◌≤◌}
use native.Mathlib.Omega.{arith}
use lib.ListN.{length, drop, length-append}
use borrow.Author.Tests.{lt-ltb, le-ltb, eq-eqb}
use Rattle.plain.proofs.Tabulate.{length-tabulate}
use Rattle.tables.specs.declared.Verdict.TheVariants.{Sound}
use Rattle.tables.specs.Tree.{alone_verdict, tree_verdict}
use Rattle.tables.specs.Tables.{Tables, fresh}
use Rattle.tables.specs.Batch.{most_links, pairs, numbers_verdict, batch_verdict}
use Rattle.tables.specs.History.{History, Lived, leaves, tables, links}
use Rattle.tables.specs.Report.{Bytes, bytes_of, machine_bytes, link_bytes}
use Rattle.tables.specs.Outcome.{add_verdict, add_of, report_verdict, report_of}
use Rattle.tables.proofs.Verdicts.{all_sound}
use Rattle.tables.proofs.Lengths.{size_exact}
use Rattle.tables.proofs.Standing.{alone_passed}
use Rattle.tables.proofs.Calls.{calls_live, limits}
use Rattle.tables.proofs.Histories.{lived_none, lived_more, only_links}
use Rattle.tables.proofs.Demand2.{demand2}
use Rattle.site.proofs.Callers.{answer_sound}
use Rattle.sitefile.specs.Record.{body_length, words, record_of}
use Rattle.sitefile.specs.File.{Read, reads, reports, none, begin, reader_of, in_place, behind, size, uplink, link, close, report, step}
use Rattle.sitefile.proofs.Encoded.{behind_is, kind_is, size_read, uplink_read, link_read, close_read, report_read, end_read}
use Rattle.writer.specs.Plan.{Part, uplink_records, link_records, close_records, plan_records, file_of}
use Rattle.writer.specs.Written.{batches_verdict}
use Rattle.writer.specs.Said.{Act, adds, asks}
use Rattle.writer.specs.Statements.{acts, report_on, reports_of}
use Rattle.writer.proofs.Going.{Goes, ended, reading, closing, asking}

-- over the tables of a history that lived, a good batch is added, and a report is made
module _ {up : List ℕ} {h : History} (l : Lived up h) where
  add_passes : (batch : List ℕ) → batch_verdict (length up) batch ≡ Sound
      → (add_verdict up batch (tables up h) ≡ Sound) × ((add_of up batch (tables up h)).lent ≡ tables up (h ++ (batch ∷ [])))
  unfolding add_of
  add_passes batch e =
      let a = (calls_live.after_batches up h l batch).accepted e in
      ((answer_sound _ _ _ _ (sym a) refl).0, ap (λ o. o.lent) a)

  report_passes : (o : Bytes) → length o.machines ≡ length up → length o.links ≡ length up → report_verdict up (tables up h) o ≡ Sound
  unfolding report_of
  report_passes o a b =
      let q = only_links.leave up h in
      let z : (report_of up (tables up h) o).answer.code ≡ 0 = rw q ((demand2.with_links up (links h) (only_links.stand up h l)).reports o a b).0.done in
      (answer_sound o _ _ (report_verdict up (tables up h) o) refl z).0

-- before the last uplink, and behind it
abbrev growing : List ℕ → List ℕ → ℕ → Read
growing up ups place = record { place = place; n = length up; up = ups; tables = none; opened = [] }

abbrev standing : List ℕ → Tables → List ℕ → ℕ → Read
standing up t opened place = record { place = place; n = length up; up = up; tables = t; opened = opened }

-- wherever the rest of the file begins, the reader goes on from there
abbrev Onward : List ℕ → List ℕ → List Act → List ℕ → List ℕ → (ℕ → Read) → Type 0
Onward file up said text post r = (place : ℕ) → drop place file ≡ post → Goes file (r place) up said text

module _ (file up : List ℕ) where
  module _ {said : List Act} {text : List ℕ} (tree : tree_verdict up ≡ Sound) (post : List ℕ) (go : Onward file up said text post (standing up (fresh up) [])) where
    uplinks_go : (us ups : List ℕ) (place : ℕ) → ups ++ us ≡ up → length ups < length up → drop place file ≡ uplink_records us ++ post
        → Goes file (growing up ups place) up said text
    unfolding uplink_records uplink words body_length
    uplinks_go [] ups place e h here = absurd (omega (arith, ap length e, length-append ups []))
    uplinks_go (u ∷ []) ups place e h here =
        let r = growing up ups place in
        let s : step file r ≡ reads (standing up (fresh up) [] (behind place 2)) =
        uplink_read file r u post here (lt-ltb _ _ h) ∙ rw (e, le-ltb (length up) (length up) (omega arith), tree) in
        reading s (rw (kind_is file r 2 (u ∷ []) post refl here)) (go (behind place 2) (behind_is file r 2 (u ∷ []) post refl here))
    uplinks_go (u ∷ v ∷ us) ups place e h here =
        let r = growing up ups place in
        let e' : (ups ++ (u ∷ [])) ++ (v ∷ us) ≡ up = append_assoc ups (u ∷ []) (v ∷ us) ∙ e in
        let h' : length (ups ++ (u ∷ [])) < length up = omega (arith, ap length e', length-append (ups ++ (u ∷ [])) (v ∷ us)) in
        let more : List ℕ = uplink_records (v ∷ us) ++ post in
        let s : step file r ≡ reads (growing up (ups ++ (u ∷ [])) (behind place 2)) = uplink_read file r u more here (lt-ltb _ _ h) ∙ rw (lt-ltb _ _ h') in
        reading s (rw (kind_is file r 2 (u ∷ []) more refl here)) (uplinks_go (v ∷ us) (ups ++ (u ∷ [])) (behind place 2) e' h' (behind_is file r 2 (u ∷ []) more refl here))

  -- every uplink is read
  module _ (some : 0 < length up) where
    grown_is : (t : Tables) (opened : List ℕ) (place : ℕ) → in_place 3 (reader_of (standing up t opened place)) ≡ true
    grown_is t opened place = rw (lt-ltb 0 (length up) some, eq-eqb (length up) (length up) refl)

    module _ {said : List Act} {text : List ℕ} (t : Tables) (post : List ℕ) where
      links_go : (ns opened : List ℕ) (place : ℕ) → length opened % 2 ≡ 0 → length ns % 2 ≡ 0 → length opened + length ns ≤ 2 * most_links
          → drop place file ≡ link_records (pairs ns) ++ post → Onward file up said text post (standing up t (opened ++ ns))
          → Goes file (standing up t opened place) up said text
      unfolding link_records pairs link words body_length
      links_go [] opened place even evens few here go =
          let g : Goes file (standing up t (opened ++ []) place) up said text = go place here in
          rw (append-nil opened) at g
      links_go (a ∷ []) opened place even evens few here go = absurd (omega arith)
      links_go (a ∷ b ∷ ns) opened place even evens few here go =
          let r = standing up t opened place in
          let opened' : List ℕ = opened ++ (a ∷ b ∷ []) in
          let more : List ℕ = link_records (pairs ns) ++ post in
          let l : length opened' ≡ length opened + 2 = length-append opened (a ∷ b ∷ []) in
          let v : numbers_verdict (length opened + 2) ≡ Sound = (limits.links (length opened + 2)).1 (omega arith, omega arith) in
          let s : step file r ≡ reads (standing up t opened' (behind place 3)) = link_read file r a b more here (grown_is t opened place) ∙ rw v in
          reading s (rw (kind_is file r 3 (a ∷ b ∷ []) more refl here))
          (links_go ns opened' (behind place 3) (omega arith) (omega arith) (omega arith) (behind_is file r 3 (a ∷ b ∷ []) more refl here)
          (λ place' here'. rw (append_assoc opened (a ∷ b ∷ []) ns) (go place' here')))

    module _ {said : List Act} {text : List ℕ} (post : List ℕ) (h : History) (l : Lived up h) where
      -- a batch is closed
      close_goes : (opened : List ℕ) (place : ℕ) → batch_verdict (length up) opened ≡ Sound → drop place file ≡ record_of 4 [] ++ post
          → Onward file up said text post (standing up (tables up (h ++ (opened ∷ []))) [])
          → Goes file (standing up (tables up h) opened place) up (adds opened ∷ said) text
      unfolding close words body_length
      close_goes opened place v here go =
          let r = standing up (tables up h) opened place in
          let (a, b) = add_passes l opened v in
          let s : step file r ≡ reads (standing up (tables up (h ++ (opened ∷ []))) [] (behind place 4)) =
          close_read file r post here (grown_is (tables up h) opened place) ∙ rw (a, b) in
          closing s (rw (kind_is file r 4 [] post refl here)) (go (behind place 4) (behind_is file r 4 [] post refl here))

      -- a report is made
      report_goes : (place : ℕ) → drop place file ≡ record_of 5 [] ++ post → Onward file up said text post (standing up (tables up h) [])
          → Goes file (standing up (tables up h) [] place) up (asks ∷ said) (report_on up h ++ text)
      unfolding report words body_length machine_bytes link_bytes
      report_goes place here go =
          let r = standing up (tables up h) [] place in
          let o = bytes_of (machine_bytes up (tables up h)) (link_bytes up (tables up h)) in
          let v = report_passes l o (length-tabulate (length up) _) (length-tabulate (length up) _) in
          let fits : in_place 5 (reader_of r) ≡ true = rw (lt-ltb 0 (length up) some, eq-eqb (length up) (length up) refl) in
          let s : step file r ≡ reports (standing up (tables up h) [] (behind place 5)) o = report_read file r post here fits ∙ rw v in
          asking s (go (behind place 5) (behind_is file r 5 [] post refl here))

      -- a report where one is asked, or none
      asked_goes : (b : Bool) → Onward file up said text post (standing up (tables up h) [])
          → Onward file up (cond b (asks ∷ []) [] ++ said) (cond b (report_on up h) [] ++ text) (cond b (record_of 5 []) [] ++ post) (standing up (tables up h) [])
      unfolding words
      asked_goes true go place here = report_goes place here go
      asked_goes false go place here = go place here

    -- batch after batch to the end
    batches_go : (plan : List Part) (h : History) (place : ℕ) → Lived up h → batches_verdict (length up) plan ≡ Sound → drop place file ≡ plan_records plan
        → Goes file (standing up (tables up h) [] place) up (acts plan) (reports_of up h plan)
    unfolding plan_records acts reports_of batches_verdict batch_verdict words
    batches_go [] h place l v here = ended (end_read file (standing up (tables up h) [] place) here (rw (grown_is (tables up h) [] place)))
    batches_go (b ∷ plan) h place l v here =
        let ns : List ℕ = b.batch in
        let h' : History = h ++ (ns ∷ []) in
        let rest : List ℕ = plan_records plan in
        let close : List ℕ = close_records b.report in
        let asked : List ℕ = cond b.report (record_of 5 []) [] in
        let (good, (later, _)) = all_sound (batch_verdict (length up) ns ∷ batches_verdict (length up) plan ∷ []) v in
        let (even, few) = (limits.links (length ns)).0 (all_sound _ good).0 in
        let m : Lived up h' = lived_more ns l good in
        links_go (tables up h) (close ++ rest) ns [] place refl even (omega arith) (here ∙ append_assoc (link_records (pairs ns)) close rest) λ place' here'.
        close_goes (asked ++ rest) h l ns place' good here' (asked_goes rest h' m b.report λ place'' here''. batches_go plan h' place'' m later here'')

-- the whole file, from its first record
pub file_goes : (up : List ℕ) (plan : List Part) → alone_verdict up ≡ Sound → batches_verdict (length up) plan ≡ Sound
    → Goes (file_of up plan) begin up (acts plan) (reports_of up [] plan)
unfolding file_of size words body_length leaves
file_goes up plan alone good =
    let file : List ℕ = file_of up plan in
    let (few, tree) = alone_passed up alone in
    let some : 0 < length up = ((size_exact (length up)).0 few).0 in
    let rest : List ℕ = uplink_records up ++ plan_records plan in
    let here : drop 0 file ≡ record_of 1 (length up ∷ []) ++ rest = append_assoc (record_of 1 (length up ∷ [])) (uplink_records up) (plan_records plan) in
    let s : step file begin ≡ reads (growing up [] (behind 0 1)) = size_read file begin (length up) rest here refl ∙ rw few in
    reading s refl
    (uplinks_go file up tree (plan_records plan) (λ place there. batches_go file up some plan [] place (lived_none alone) good there) up [] (behind 0 1) refl some (behind_is file begin 1 (length up ∷ []) rest refl here))
