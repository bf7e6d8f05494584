-- How often labels move over a run: each Add leaves the tables of a history with more links, so labels only go out, and what moved is what the
-- first report named and the last does not, for which the last marks pay.
use mathlib.Core.Path.{◌≡◌}
use mathlib.Core.List.{List, [], ◌∷◌, ◌++◌}
use mathlib.Core.Logic.{inl}
use Prim.Native.Nat.{ℕ, suc, ◌+◌, ◌≤◌}
use native.Mathlib.Omega.{arith}
use lib.ListN.{length}
use Rattle.plain.specs.Table.{total}
use Rattle.plain.proofs.Tabulate.{length-tabulate}
use Rattle.graph.specs.Cable.{Cables, Linked}
use Rattle.graph.proofs.Cables.{linked?, linked-append}
use Rattle.tables.specs.Tables.{Tables}
use Rattle.tables.specs.Links.{Stands, tables_with}
use Rattle.tables.specs.History.{History, Lived, links, tables}
use Rattle.tables.specs.Report.{Bytes, bytes_of, named, machine_bytes, link_bytes}
use Rattle.tables.specs.Calls.{accepted_of, added}
use Rattle.tables.specs.Labels.{labels, moved, moves_of, Falls, Labels}
use Rattle.tables.proofs.Standing.{standing}
use Rattle.tables.proofs.Sound.{sound_tree}
use Rattle.tables.proofs.Links.{network, told}
use Rattle.tables.proofs.Histories.{links-append, lived_none, only_links}
use Rattle.tables.proofs.Runs.{accepted-append, lived_run}
use Rattle.tables.proofs.Demand2.{report_lent}
use Rattle.tables.proofs.Calls.{run_leaves, calls_live}
use Rattle.tables.proofs.Work.{opened, by_tables}
use Rattle.tables.proofs.Falling.{differ, machines_fall, links_fall, labels_paid}

abbrev bytes : List ℕ → Tables → Bytes
bytes up t = bytes_of (machine_bytes up t) (link_bytes up t)

-- how many labels are not 0
abbrev lit : List ℕ → Tables → ℕ
lit up t = named (machine_bytes up t) + named (link_bytes up t)

machines_size : (up : List ℕ) (t : Tables) → length (machine_bytes up t) ≡ length up
unfolding machine_bytes
machines_size up t = length-tabulate (length up) _

links_size : (up : List ℕ) (t : Tables) → length (link_bytes up t) ≡ length up
unfolding link_bytes
links_size up t = length-tabulate (length up) _

-- of the tables of some links, and of these with more
record Further (up : List ℕ) (t u : Tables) : Type 0 where
  machines : Falls (machine_bytes up t) (machine_bytes up u)
  uplinks : Falls (link_bytes up t) (link_bytes up u)
  paid : lit up t ≤ lit up u + suc (total u.mark)

further : (up : List ℕ) (l k : Cables) → Stands up l → Stands up (l ++ k) → Further up (tables_with up l) (tables_with up (l ++ k))
further up l k a b =
    let s = sound_tree up (standing a).tree in
    let N = network s (standing a).good in
    let O = network s (standing b).good in
    let t = told s (standing a).good in
    let u = told s (standing b).good in
    let more : (x y : ℕ) → Linked l x y → Linked (l ++ k) x y = λ x y i. (linked-append l k x y).1 (inl i) in
    record {
      machines = machines_fall N (linked? l) t O (linked? (l ++ k)) u more;
      uplinks = links_fall N (linked? l) t O (linked? (l ++ k)) u more;
      paid = labels_paid N (linked? l) t O (linked? (l ++ k)) u more;
    }

-- of a history's tables, and of those with the accepted batches of a run more
goes : (up : List ℕ) (g run : History) → Lived up g → Further up (tables up g) (tables up (g ++ accepted_of (length up) run))
goes up g run l =
    let h = accepted_of (length up) run in
    let m = only_links.stand up (g ++ h) (lived_run run l) in
    rw (only_links.leave up g, only_links.leave up (g ++ h), links-append g h) (further up (links g) (links h) (only_links.stand up g l) (rw links-append at m))

module _ (up : List ℕ) (o : Bytes) (a : length o.machines ≡ length up) (b : length o.links ≡ length up) where
  labels_are : (g : History) → Lived up g → labels up o (tables up g) ≡ bytes up (tables up g)
  labels_are g l = rw (only_links.leave up g) (report_lent (only_links.stand up g l) o a b)

  -- what moved from one report to the next is what is named no more
  step : (g run : History) → Lived up g → (let h = g ++ accepted_of (length up) run in moved (labels up o (tables up g)) (labels up o (tables up h)) + lit up (tables up h) ≡ lit up (tables up g))
  step g run l =
      let h = g ++ accepted_of (length up) run in
      let k = goes up g run l in
      rw (labels_are g l, labels_are h (lived_run run l)) (omega (
        arith,
        differ (machine_bytes up (tables up g)) (machine_bytes up (tables up h)) (machines_size up _) (machines_size up _) k.machines,
        differ (link_bytes up (tables up g)) (link_bytes up (tables up h)) (links_size up _) (links_size up _) k.uplinks,
      ))

  moves : (run g : History) → Lived up g → moves_of up o run (tables up g) + lit up (added up run (tables up g)) ≡ lit up (tables up g)
  unfolding moves_of added
  moves [] g l = omega arith
  moves (batch ∷ run) g l =
      let more = moves run (g ++ accepted_of (length up) (batch ∷ [])) (lived_run (batch ∷ []) l) in
      rw (run_leaves up (batch ∷ []) g l) (omega (arith, step g (batch ∷ []) l, more))

pub labels_move : Labels
labels_move up t o e z a b = record {
  at_most_once = λ run more.
      let g = accepted_of (length up) run in
      let l : Lived up g = lived_run run (lived_none e) in
      let k = goes up g more l in
      rw (
        calls_live.all_calls up run t e z,
        calls_live.all_calls up (run ++ more) t e z,
        accepted-append (length up) run more,
        labels_are up o a b g l,
        labels_are up o a b (g ++ accepted_of (length up) more) (lived_run more l),
      ) (k.machines, k.uplinks);
  in_all = λ run.
      let m = moves up o a b run [] (lived_none e) in
      let k = goes up [] run (lived_none e) in
      rw (by_tables up t e z run, opened up t e z) (omega (arith, k.paid, rw (run_leaves up run [] (lived_none e)) at m));
}
