-- Start, Add and Report over the front parts of the slices: each front part comes back to its whole, refused it is as it came, and a code of 0
-- tells that nothing was refused.
use mathlib.Core.Path.{◌≡◌, refl, sym, ap, ◌∙◌}
use mathlib.Core.Logic.{◌≢◌}
use mathlib.Core.List.{List, ◌++◌}
use Prim.Native.Nat.{ℕ, ◌+◌, ◌≤◌, ◌<◌}
use native.Mathlib.Omega.{arith}
use lib.ListN.{length, take, drop, take-append-drop}
use lib.Seq.{length-take-le}
use borrow.Author.Tests.{eq-eqb}
use Rattle.plain.proofs.Tabulate.{length-tabulate}
use Rattle.tables.specs.declared.Answer.{Answer}
use Rattle.tables.specs.declared.Verdict.TheVariants.{the_data as Verdict, Sound, Refused}
use Rattle.tables.specs.Tree.{most_machines, tree_verdict}
use Rattle.tables.specs.Tables.{Tables, tables_of, fresh}
use Rattle.tables.specs.Batch.{pairs, after, rise}
use Rattle.tables.specs.Report.{Bytes, bytes_of, named, machine_bytes, link_bytes}
use Rattle.tables.specs.Outcome.{outcome, judged, start_verdict, start_of, add_verdict, add_of, report_verdict, report_of}
use Rattle.tables.proofs.Verdicts.{passes, checks_one}
use Rattle.tables.proofs.Lengths.{Lengths, sizes_exact}
use Rattle.sitefile.specs.Record.{body_length}
use Rattle.sitefile.specs.File as file
use Rattle.plain.specs.Laid.{laid}
use Rattle.sitefile.specs.Next.{Room, front, read_of, holding, laid_tables, room_of}
use Rattle.sitefile.specs.Reading.{leads, Fronts, start_front}
use Rattle.sitefile.specs.declared.Reader.{Reader}
use Rattle.sitefile.specs.declared.Step.TheVariants as steps
use Rattle.sitefile.specs.declared.due.Due.TheVariants as due
use Rattle.site.proofs.Callers.{answer_sound, answer_refused}
use Rattle.plain.proofs.Laid.{laid_front}
use Rattle.sitefile.proofs.ReadKinds.{reader_at}

-- a part that came back as it was, or as another list that is as long
came_back : (n : ℕ) (l : List ℕ) {part : List ℕ} → part ≡ take n l → part ++ drop n l ≡ l
came_back n l e = rw e (take-append-drop n l)

came_new : (n : ℕ) (l : List ℕ) {part new : List ℕ} → n ≤ length l → length part ≡ length (take n l) → part ≡ new → part ++ drop n l ≡ laid new l
came_new n l {part} {new} h s e =
    let z : length new ≡ n = ap length (sym e) ∙ s ∙ length-take-le n l h in
    rw (z, e)

-- where the sizes are right, Start looks at the tree alone
start_verdict_lem : (up : List ℕ) (t : Tables) → Lengths up t → start_verdict up t ≡ tree_verdict up
unfolding start_verdict
start_verdict_lem up t l = passes ((sizes_exact _ _ _ _).1 l) _ ∙ checks_one (tree_verdict up)

-- three tables whose front parts were lent and came back
module _ (n : ℕ) (up depth group mark depth' group' mark' : List ℕ) (f : Fronts n (length up) (length depth) (length group) (length mark))
    (sd : length depth' ≡ length (take n depth)) (sg : length group' ≡ length (take n group)) (sm : length mark' ≡ length (take n mark)) where
  abbrev slices : Tables
  slices = tables_of depth group mark

  abbrev back : Tables
  back = tables_of (depth' ++ drop n depth) (group' ++ drop n group) (mark' ++ drop n mark)

  -- an answer over the parts is one over the whole slices
  answer_back : {a : Answer} (v : Verdict) (value : ℕ) (done : Tables) → outcome a (tables_of depth' group' mark') ≡ judged v (front n slices) value done
      → outcome a back ≡ judged v slices value (laid_tables done slices)
  unfolding judged
  answer_back Sound value done e =
      let t = ap (λ a. a.lent) e in
      rw (ap (λ a. a.answer) e, came_new n depth f.in_depth sd (ap (λ t. t.depth) t), came_new n group f.in_group sg (ap (λ t. t.group) t), came_new n mark f.in_mark sm (ap (λ t. t.mark) t))
  answer_back (Refused c p) value done e =
      let t = ap (λ a. a.lent) e in
      rw (ap (λ a. a.answer) e, came_back n depth (ap (λ t. t.depth) t), came_back n group (ap (λ t. t.group) t), came_back n mark (ap (λ t. t.mark) t))

  pub start_front_lem : {a : Answer} → 0 < n → n ≤ most_machines → outcome a (tables_of depth' group' mark') ≡ start_of (take n up) (front n slices)
      → outcome a back ≡ start_front n up slices
  unfolding start_of
  start_front_lem {a} some few e =
      let u : length (take n up) ≡ n = length-take-le n up f.in_up in
      let v : start_verdict (take n up) (front n slices) ≡ tree_verdict (take n up) =
      start_verdict_lem (take n up) (front n slices) (record {
        some = rw u some;
        few = rw u few;
        depth_size = length-take-le n depth f.in_depth ∙ sym u;
        group_size = length-take-le n group f.in_group ∙ sym u;
        mark_size = length-take-le n mark f.in_mark ∙ sym u;
      }) in
      let b : outcome a (tables_of depth' group' mark') ≡ judged (tree_verdict (take n up)) (front n slices) n (fresh (take n up)) = rw (v, u) at e in
      answer_back (tree_verdict (take n up)) n (fresh (take n up)) b

module _ (bytes : List ℕ) (r : Reader) (up depth group mark batch machines links : List ℕ) (whole : r.ups ≡ r.n)
    (f : Fronts r.n (length up) (length depth) (length group) (length mark)) where
  abbrev own : Tables
  own = tables_of depth group mark

  abbrev room : Room
  room = room_of up depth group mark batch machines links

  abbrev tree : List ℕ
  tree = take r.n up

  abbrev part : Tables
  part = front r.n own

  abbrev next : Reader
  next = reader_at (r.place + 1) r.n r.ups 0

  tree_size : length tree ≡ r.n
  tree_size = length-take-le r.n up f.in_up

  -- kind 4
  module _ (depth' group' mark' : List ℕ)
      (sd : length depth' ≡ length (take r.n depth)) (sg : length group' ≡ length (take r.n group)) (sm : length mark' ≡ length (take r.n mark))
      {answer : Answer} (a : outcome answer (tables_of depth' group' mark') ≡ add_of tree (take r.opened batch) part) where
    abbrev added : Tables
    added = after tree (pairs (take r.opened batch)) part

    abbrev verdict : Verdict
    verdict = add_verdict tree (take r.opened batch) part

    abbrev closed : Room
    closed = room_of up (depth' ++ drop r.n depth) (group' ++ drop r.n group) (mark' ++ drop r.n mark) batch machines links

    over_whole : outcome answer closed.tables ≡ judged verdict own (rise part added) (laid_tables added own)
    unfolding add_of
    over_whole = answer_back r.n up depth group mark depth' group' mark' f sd sg sm verdict (rise part added) added a

    pub close_read : answer.code ≡ 0 → outcome (steps.Read next) closed ≡ leads bytes r due.Close room
    unfolding leads file.done file.close read_of holding body_length add_of judged
    close_read z =
        let (k, _, l) = answer_sound own (rise part added) (laid_tables added own) verdict over_whole z in
        let p : r.place + 1 + 0 ≡ r.place + 1 = omega arith in
        rw (whole, eq-eqb r.n r.n refl, k, l, p) (simp laid_front (rw tree_size))

    pub close_refused : answer.code ≢ 0 → outcome (steps.Refused answer) closed ≡ leads bytes r due.Close room
    unfolding leads file.done file.close read_of
    close_refused z =
        let (k, l) = answer_refused own (rise part added) (laid_tables added own) verdict z over_whole in
        rw (whole, eq-eqb r.n r.n refl, k.is, ← k.answered, l)

  -- kind 5
  module _ (hm : r.n ≤ length machines) (hl : r.n ≤ length links) (machines' links' : List ℕ)
      (sm : length machines' ≡ length (take r.n machines)) (sl : length links' ≡ length (take r.n links))
      {answer : Answer} (a : outcome answer (bytes_of machines' links') ≡ report_of tree part (bytes_of (take r.n machines) (take r.n links))) where
    abbrev came : Bytes
    came = bytes_of (take r.n machines) (take r.n links)

    abbrev filled : Bytes
    filled = bytes_of (machine_bytes tree part) (link_bytes tree part)

    abbrev reported : Room
    reported = room_of up depth group mark batch (machines' ++ drop r.n machines) (links' ++ drop r.n links)

    -- the verdict of a report goes by the lengths of the outputs alone
    same_verdict : report_verdict tree part filled ≡ report_verdict tree part came
    unfolding report_verdict machine_bytes link_bytes
    same_verdict = rw (length-tabulate, length-tabulate, tree_size, length-take-le r.n machines hm, length-take-le r.n links hl)

    pub report_read : answer.code ≡ 0 → outcome (steps.Report next) reported ≡ leads bytes r due.Report room
    unfolding leads file.done file.report read_of holding body_length report_of
    report_read z =
        let (k, _, l) = answer_sound came (named (machine_bytes tree part)) filled (report_verdict tree part came) a z in
        let p : r.place + 1 + 0 ≡ r.place + 1 = omega arith in
        rw (whole, eq-eqb r.n r.n refl, same_verdict ∙ k, came_new r.n machines hm sm (ap (λ t. t.machines) l), came_new r.n links hl sl (ap (λ t. t.links) l), p) (simp laid_front (rw tree_size))

    pub report_refused : answer.code ≢ 0 → outcome (steps.Refused answer) reported ≡ leads bytes r due.Report room
    unfolding leads file.done file.report read_of report_of
    report_refused z =
        let (k, l) = answer_refused came (named (machine_bytes tree part)) filled (report_verdict tree part came) z a in
        rw (whole, eq-eqb r.n r.n refl, same_verdict ∙ k.is, ← k.answered, came_back r.n machines (ap (λ t. t.machines) l), came_back r.n links (ap (λ t. t.links) l))
