-- Demand 2: the report of the tables of links that stand is done, and its bytes are the chokes of the theory's network, which are those by
-- taking out.
use mathlib.Core.Path.{◌≡◌, refl, sym, ◌∙◌, subst}
use mathlib.Core.List.{List, ◌++◌}
use mathlib.Core.Logic.Iff
use Prim.Native.Nat.{ℕ}
use lib.ListN.{length}
use Rattle.plain.proofs.Tabulate.{at-tabulate}
use Rattle.graph.specs.Cable.{Cables}
use Rattle.graph.proofs.Walks.{map}
use Rattle.graph.proofs.Cables.{flip, linked?}
use Rattle.graph.proofs.Members.{on-right, here}
use Rattle.rings.proofs.Crossing.{tree_joins}
use Rattle.tables.specs.Verdict.{Verdict, Sound, Refused}
use Rattle.tables.specs.Tree.{hub}
use Rattle.tables.specs.Tables.{Tables}
use Rattle.tables.specs.Links.{Stands, tables_with}
use Rattle.tables.specs.History.{History, Lived, links, tables}
use Rattle.tables.specs.Rules.{tables_verdict}
use Rattle.tables.specs.Report.{Bytes, bytes_of, machine_byte, link_byte, machine_bytes, link_bytes}
use Rattle.tables.specs.Outcome.{judged, outputs_verdict, report_verdict, report_of}
use Rattle.tables.specs.Demand1.{SoundTree}
use Rattle.tables.specs.Calls.{accepted_of}
use Rattle.tables.specs.Demand2.{Reported, Counted, CrossSpare, ChokesNamed, Relied, Demand2}
use Rattle.tables.proofs.Standing.{standing}
use Rattle.tables.proofs.Verdicts.{all_sound, sound_all}
use Rattle.tables.proofs.Codes.{numbered}
use Rattle.tables.proofs.Lengths.{sized_is}
use Rattle.tables.proofs.Sound.{sound_tree, rooted}
use Rattle.tables.proofs.Links.{network, told}
use Rattle.tables.proofs.Histories.{lived_none, only_links}
use Rattle.tables.proofs.Runs.{lived_run}
use Rattle.tables.proofs.Reports.{machine_bytes_lem, hub_byte, link_bytes_lem, link_small, never_three}
use Rattle.tables.proofs.Cabling.{linked_cabled, machine_cabled, uplink_cabled}
use Rattle.tables.proofs.Counting.{named_list}
use Rattle.tables.proofs.Adding.{rules_met, lengths_met}
use Rattle.tables.proofs.Calls.{calls_live}
use Rattle.tables.proofs.Demand1.{rules_links, site_of, report_came}

module _ {up : List ℕ} {l : Cables} (st : Stands up l) where
  abbrev t : Tables
  t = tables_with up l

  s : SoundTree up
  s = sound_tree up (standing st).tree

  module _ (o : Bytes) (a : length o.machines ≡ length up) (b : length o.links ≡ length up) where
    report_passes : report_verdict up t o ≡ Sound
    report_passes = report_came up t (lengths_met s (standing st).good (standing st).size) (standing st).tree o a b ∙ sound_all _ (rules_met s (standing st).good, tt)

    pub report_lent : (report_of up t o).lent ≡ bytes_of (machine_bytes up t) (link_bytes up t)
    unfolding judged report_of
    report_lent = rw report_passes refl

    counted : Counted (report_of up t o).lent.machines (report_of up t o).answer.value
    unfolding judged report_of
    counted = rw report_passes (named_list (machine_bytes up t))

    reports : Reported up l (report_of up t o)
    unfolding judged report_of machine_bytes link_bytes
    reports =
        let N = network s (standing st).good in
        let d = linked? l in
        let k = told s (standing st).good in
        rw report_passes (record {
          done = refl;
          machines = λ w i. rw (at-tabulate (length up) (machine_byte (hub up) up t.group t.mark) w i) (Iff.trans (machine_bytes_lem N d k w i) (Iff.symm (machine_cabled up l w)));
          hub_byte = λ w i. rw (at-tabulate (length up) (machine_byte (hub up) up t.group t.mark) w i) (Iff.trans (hub_byte N d k w i) (Iff.and Iff.rfl (Iff.symm (machine_cabled up l w))));
          uplinks = λ v i. rw (at-tabulate (length up) (link_byte (hub up) t.mark) v i) (Iff.trans (link_bytes_lem N d k v i) (Iff.symm (uplink_cabled s l v i)));
          link_byte = λ v i. rw (at-tabulate (length up) (link_byte (hub up) t.mark) v i) (link_small (hub up) t.mark v);
        })

  cross_links : CrossSpare up l
  cross_links xs ys a b e =
      let g = (standing st).good (a, b) (rw e (on-right xs (here refl))) in
      map (λ x y. (linked_cabled up (xs ++ ys) x y).1) (tree_joins (rooted s) (flip (xs ++ ys)) g.one g.two)

  chokes_named : ChokesNamed up l t
  chokes_named = record { reports = λ o a b. (reports o a b, counted o a b); cross_links = cross_links }

module _ {A : Type 0} (came : A) (value : ℕ) (done : A) where
  -- code 0: every check has passed
  zero_sound : (v : Verdict) → (judged v came value done).answer.code ≡ 0 → v ≡ Sound
  unfolding judged
  zero_sound Sound e = refl
  zero_sound (Refused why place) e = absurd (numbered why e)

code_zero : (up : List ℕ) (t : Tables) (o : Bytes) → (report_of up t o).answer.code ≡ 0 → Relied up t (report_of up t o)
unfolding report_verdict report_of outputs_verdict
code_zero up t o e =
    let (lengths, (outputs, (tables, _))) = all_sound _ (zero_sound _ _ _ (report_verdict up t o) e) in
    let (x, (y, _)) = all_sound _ outputs in
    record {
      site = site_of up t lengths tables;
      reported = λ k. subst (λ u. Reported up k.links (report_of up u o)) k.left
          (reports k.stands o (sized_is _ _ _ x) (sized_is _ _ _ y));
      counted = let k = site_of up t lengths tables in
          subst (λ u. Counted (report_of up u o).lent.machines (report_of up u o).answer.value) k.left (counted k.stands o (sized_is _ _ _ x) (sized_is _ _ _ y));
    }

after_batches : (up : List ℕ) (h : History) → Lived up h → ChokesNamed up (links h) (tables up h)
after_batches up h l = rw (only_links.leave up h) (chokes_named (only_links.stand up h l))

pub demand2 : Demand2
unfolding machine_bytes tables_verdict
demand2 = record {
  after_calls = λ up run t e z.
      let h = accepted_of (length up) run in
      subst (ChokesNamed up (links h)) (sym (calls_live.all_calls up run t e z)) (after_batches up h (lived_run run (lived_none e)));
  with_links = λ up l. chokes_named;
  code_zero = code_zero;
  never_three = λ up t d g m v w h.
      let (e, (r, _)) = all_sound _ v in
      let (l, a, q) = rules_links up t d g m e r in
      let s = sound_tree up e in
      rw (at-tabulate (length up) (machine_byte (hub up) up t.group t.mark) w h, ← q) (never_three (network s a) (linked? l) (told s a) w h);
}
