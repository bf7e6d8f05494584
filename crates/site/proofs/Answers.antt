-- How a call comes out by its checks: one that refuses is the answer, and what was lent is as it came; where all have passed, it is done.
use mathlib.Core.Path.{◌≡◌, refl, ap}
use mathlib.Core.List.{List}
use Prim.Native.Nat.{ℕ, ◌%◌}
use native.Mathlib.Omega.{arith}
use lib.ListN.{length, replicate}
use Rattle.plain.specs.Table.{tabulate, total}
use Rattle.tables.specs.declared.Answer.{Answer}
use Rattle.tables.specs.declared.Fault.{Fault}
use Rattle.tables.specs.declared.Verdict.TheVariants.{the_data as Verdict, Sound, Refused}
use Rattle.tables.specs.Answer.{answer_to}
use Rattle.tables.specs.Tree.{hub}
use Rattle.tables.specs.Tables.{Tables, tables_of, fresh}
use Rattle.tables.specs.Batch.{pairs, after, rise}
use Rattle.tables.specs.Report.{bytes_of, named, machine_byte, link_byte, machine_bytes, link_bytes}
use Rattle.tables.specs.Outcome.{outcome, judged, start_verdict, start_of, add_verdict, add_of, report_verdict, report_of}
use Rattle.tables.proofs.Verdicts.{all_sound}
use Rattle.tables.proofs.Lengths.{Lengths, lengths}
use Rattle.tables.proofs.Standing.{standing}
use Rattle.tables.proofs.Sound.{sound_tree}
use Rattle.tables.proofs.Links.{site_told}
use Rattle.tables.proofs.Rise.{rise_is}
use Rattle.checks.specs.Started.{started}
use Rattle.lanes.proofs.ByItself.{alone_few}
use Rattle.lanes.proofs.Preparing.{told_named}
use Rattle.checks.proofs.Checking.{told, start_told, add_passed, report_passed}
use Rattle.lanes.specs.Whole.{Applicable, Applied}

module _ {A : Type 0} (came : A) (value : ℕ) (left : A) {c v : Verdict} {r : Answer} where
  pub refused : {why : Fault} {place : ℕ} → c ≡ Refused why place → c ≡ v → r ≡ answer_to c 0 → outcome r came ≡ judged v came value left
  unfolding judged
  refused e q a = rw (a, told e q, e) refl

  pub accepted : c ≡ Sound → c ≡ v → r ≡ answer_to c value → outcome r left ≡ judged v came value left
  unfolding judged
  accepted e q a = rw (a, told e q, e) refl

module _ (up depth group mark : List ℕ) where
  abbrev t : Tables
  t = tables_of depth group mark

  module _ {c : Verdict} {depth' : List ℕ} (k : outcome c depth' ≡ started (start_verdict up t) up depth) where
    pub start_stopped : {r : Answer} {why : Fault} {place : ℕ} → c ≡ Refused why place → r ≡ answer_to c 0 → outcome r (tables_of depth' group mark) ≡ start_of up t
    unfolding start_of
    start_stopped e a = let s = start_told _ up depth k in rw (s.kept e) (refused t (length up) (fresh up) e s.verdict a)

    module _ (e : c ≡ Sound) where
      start_sizes : Lengths up t
      unfolding start_verdict
      start_sizes = lengths up t (all_sound _ (told e (start_told _ up depth k).verdict)).0

      pub start_left : {r : Answer} {group' mark' : List ℕ} → group' ≡ tabulate (length group) (λ v. v % 65536) → mark' ≡ replicate (length mark) 0 → r ≡ answer_to c (length up)
          → outcome r (tables_of depth' group' mark') ≡ start_of up t
      unfolding start_of fresh
      start_left g m a =
          let s = start_told _ up depth k in
          let z = start_sizes in
          rw (s.found e, g, m, z.group_size, z.mark_size, alone_few (length up) z.few) (accepted t (length up) (fresh up) e s.verdict a)

  module _ {c : Verdict} (e : c ≡ Sound) (batch : List ℕ) (q : c ≡ add_verdict up batch t) where
    -- the tables are those of links that stand: their depths are right, so a batch may climb by them, and their groups are named
    pub add_ready : Applicable up depth group mark batch
    add_ready =
        let (p, b) = add_passed up t batch (told e q) in
        let k = site_told p.site in
        record {
          few = p.sizes.few;
          tree = sound_tree up (standing p.site.stands).tree;
          depths = k.depths;
          group_size = p.sizes.group_size;
          mark_size = p.sizes.mark_size;
          named = told_named k;
          batch = b;
        }

    pub add_left : {r : Answer} {group' mark' : List ℕ} {risen : ℕ} → r ≡ answer_to c risen → Applied up depth group mark batch group' mark' risen
        → outcome r (tables_of depth group' mark') ≡ add_of up batch t
    unfolding add_of
    add_left {r} {mark' = mark'} {risen} a p =
        let t' = after up (pairs batch) t in
        let m : total mark' ≡ total t'.mark = ap (λ u. total u.mark) p.tables in
        let v : risen ≡ rise t t' = omega (arith, p.rise, rise_is up (pairs batch) t add_ready.mark_size) in
        let b : r ≡ answer_to c (rise t t') = rw v at a in
        rw p.tables (accepted t (rise t t') t' e q b)

  module _ {c : Verdict} (e : c ≡ Sound) (machines links : List ℕ) (q : c ≡ report_verdict up t (bytes_of machines links)) where
    pub report_sizes : Lengths up t × (length machines ≡ length up) × (length links ≡ length up)
    report_sizes = let (p, m, l) = report_passed up t (bytes_of machines links) (told e q) in (p.sizes, m, l)

    pub report_left : {r : Answer} {machines' links' : List ℕ} {chokes h : ℕ} → h ≡ hub up → machines' ≡ tabulate (length up) (machine_byte h up group mark)
        → links' ≡ tabulate (length up) (link_byte h mark) → chokes ≡ named machines' → r ≡ answer_to c chokes
        → outcome r (bytes_of machines' links') ≡ report_of up t (bytes_of machines links)
    unfolding report_of machine_bytes link_bytes
    report_left {r} {chokes = chokes} k m l p a =
        let n : chokes ≡ named (machine_bytes up t) = rw (p, m, k) refl in
        let b : r ≡ answer_to c (named (machine_bytes up t)) = rw n at a in
        rw (m, l, k) (accepted (bytes_of machines links) (named (machine_bytes up t)) (bytes_of (machine_bytes up t) (link_bytes up t)) e q b)
