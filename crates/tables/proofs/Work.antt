-- Sums: over a history's tables an accepted batch counts for what the marks' total rises by, and a refused one for nothing, so over a run the
-- totals telescope.
use mathlib.Core.Path.{◌≡◌, refl, sym, ap, ◌∙◌, subst}
use mathlib.Core.List.{List, [], ◌∷◌, ◌++◌}
use mathlib.Core.Logic.{⊎_elim}
use Prim.Native.Nat.{ℕ, zero, suc, ◌+◌}
use native.Mathlib.Omega.{arith}
use lib.ListN.{length, replicate}
use borrow.Author.Tests.{ne_eqb}
use Rattle.plain.specs.Table.{total}
use Rattle.tables.specs.Verdict.{Fault, number_of, Sound}
use Rattle.tables.specs.Tree.{alone_verdict}
use Rattle.tables.specs.Tables.{Tables, fresh, lengths_verdict}
use Rattle.tables.specs.Answer.{refusal}
use Rattle.tables.specs.Batch.{batch_verdict}
use Rattle.tables.specs.Outcome.{start_of, add_of}
use Rattle.tables.specs.History.{History, Lived, leaves, tables}
use Rattle.tables.specs.Calls.{accepted_of, added, ran}
use Rattle.tables.specs.Demand1.{SoundTree}
use Rattle.tables.specs.Work.{worth, sum_of, work, hops, fullest, WorkOf, Work}
use Rattle.tables.proofs.Verdicts.{verdict_view}
use Rattle.tables.proofs.Codes.{numbered}
use Rattle.tables.proofs.Standing.{alone_passed}
use Rattle.tables.proofs.Sound.{sound_tree}
use Rattle.tables.proofs.Histories.{links_good, links_alone, alone_accepted, lived_none, only_links}
use Rattle.tables.proofs.Runs.{accepted_of_lem, lived_run, history_of_run}
use Rattle.tables.proofs.Calls.{run_leaves, calls_live}
use Rattle.tables.proofs.Fullest.{total_bound, hops_good, hops-total}

refusal_worth : (why : Fault) (place : ℕ) → worth (refusal why place) ≡ 0
refusal_worth why place = rw (ne_eqb (number_of why) 0 (numbered why))

-- what an answer over a history's tables counts for is what the marks' total rises by
counts : (up : List ℕ) (g : History) → Lived up g → (batch : List ℕ) → (let r = add_of up batch (tables up g) in worth r.answer + total (tables up g).mark ≡ total r.lent.mark)
counts up g l batch =
    let a = calls_live.after_batches up g l batch in
    ⊎_elim
    (λ e. subst (λ r. worth r.answer + total (tables up g).mark ≡ total r.lent.mark) (sym (a.accepted e)) (omega (arith, a.rises)))
    (λ (why, place, e). subst (λ r. worth r.answer + total (tables up g).mark ≡ total r.lent.mark) (sym (a.refused why place e)) (omega (arith, refusal_worth why place)))
    (verdict_view (batch_verdict (length up) batch))

sums : (up : List ℕ) (run g : History) → Lived up g → sum_of up run (tables up g) + total (tables up g).mark ≡ total (added up run (tables up g)).mark
unfolding sum_of added
sums up [] g l = omega arith
sums up (batch ∷ run) g l =
    let more = sums up run (g ++ accepted_of (length up) (batch ∷ [])) (lived_run (batch ∷ []) l) in
    omega (arith, counts up g l batch, rw (← run_leaves up (batch ∷ []) g l) at more)

total_zeros : (n : ℕ) → total (replicate n 0) ≡ 0
unfolding total
total_zeros zero = refl
total_zeros (suc n) = omega (arith, total_zeros n)

fresh-total : (up : List ℕ) → total (tables up []).mark ≡ 0
unfolding leaves fresh
fresh-total up = total_zeros (length up)

module _ (up : List ℕ) (t : Tables) (e : alone_verdict up ≡ Sound) (z : lengths_verdict up t ≡ Sound) where
  -- Start leaves the tables of the empty history
  pub opened : (start_of up t).lent ≡ tables up []
  opened = ap (λ r. r.lent) (calls_live.start up t e z)

  sum : (run : History) → work up run t ≡ total (ran up run t).mark
  sum run =
      let none : total (tables up []).mark ≡ 0 = fresh-total up in
      rw opened (omega (arith, sums up run [] (lived_none e), none))

  -- the sum, by the tables of the accepted batches
  pub by_tables : (run : History) → work up run t ≡ total (tables up (accepted_of (length up) run)).mark
  by_tables run = sum run ∙ ap (λ u. total u.mark) (calls_live.all_calls up run t e z)

  as_accepted : (run : History) → ran up run t ≡ ran up (accepted_of (length up) run) t
  as_accepted run =
      let n = length up in
      calls_live.all_calls up run t e z ∙ ap (tables up) (sym (history_of_run.all_kept n (accepted_of n run) (accepted_of_lem n run))) ∙ sym (calls_live.all_calls up (accepted_of n run) t e z)

  sound : SoundTree up
  sound = sound_tree up (alone_passed up e).1

  work_of : WorkOf up t
  unfolding fullest
  work_of = record {
    sum = sum;
    refused_nothing = λ run. let same = as_accepted run in (sum run ∙ ap (λ u. total u.mark) same ∙ sym (sum (accepted_of (length up) run)), same);
    bound = λ run.
        let h = accepted_of (length up) run in
        rw (by_tables run, only_links.leave up h) (total_bound sound (links_good (length up) h (accepted_of_lem (length up) run)));
    reached =
        let a = alone_accepted (length up) (hops up) (hops_good sound) in
        (a, rw (by_tables (fullest up), history_of_run.all_kept (length up) (fullest up) a, only_links.leave up (fullest up), links_alone (hops up)) (hops-total sound));
  }

pub work_is_bounded : Work
work_is_bounded = work_of
