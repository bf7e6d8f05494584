-- The history of a run: its accepted batches, each law by looking at the first batch.
use mathlib.Core.Path.{◌≡◌, refl, ap, ◌∙◌}
use mathlib.Core.List.{List, [], ◌∷◌, ◌++◌}
use mathlib.Core.Logic.{⊎_elim}
use Prim.Native.Nat.{ℕ}
use lib.ListN.{length}
use Rattle.graph.proofs.Members.{here, there, cases, empty, parts}
use Rattle.tables.specs.Verdict.{Fault, Sound, Refused}
use Rattle.tables.specs.Batch.{batch_verdict}
use Rattle.tables.specs.History.{History, Accepted, Lived}
use Rattle.tables.specs.Outcome.{lent_by}
use Rattle.tables.specs.Calls.{accepted_of, HistoryOfRun}
use Rattle.tables.proofs.Verdicts.{verdict_view}

-- an accepted batch in front of a run, and a refused one
pub kept_first : (n : ℕ) (batch : List ℕ) (run : History) → batch_verdict n batch ≡ Sound → accepted_of n (batch ∷ run) ≡ batch ∷ accepted_of n run
unfolding accepted_of
kept_first n batch run e = rw e refl

pub refused_first : {why : Fault} {place : ℕ} (n : ℕ) (batch : List ℕ) (run : History) → batch_verdict n batch ≡ Refused why place → accepted_of n (batch ∷ run) ≡ accepted_of n run
unfolding accepted_of
refused_first n batch run e = rw e refl

all_kept : (n : ℕ) (h : History) → Accepted n h → accepted_of n h ≡ h
unfolding accepted_of
all_kept n [] a = refl
all_kept n (batch ∷ h) a = kept_first n batch h (a batch (here refl)) ∙ ap (λ k. batch ∷ k) (all_kept n h (λ b i. a b (there i)))

left_out : (n : ℕ) (g h : History) (batch : List ℕ) (why : Fault) (place : ℕ) → batch_verdict n batch ≡ Refused why place → accepted_of n (g ++ (batch ∷ h)) ≡ accepted_of n (g ++ h)
unfolding accepted_of
left_out n [] h batch why place e = refused_first n batch h e
left_out n (b ∷ g) h batch why place e = ap (λ k. lent_by (batch_verdict n b) k (b ∷ k)) (left_out n g h batch why place e)

pub history_of_run : HistoryOfRun
history_of_run = record { all_kept = all_kept; left_out = left_out }

pub accepted-append : (n : ℕ) (run more : History) → accepted_of n (run ++ more) ≡ accepted_of n run ++ accepted_of n more
unfolding accepted_of
accepted-append n [] more = refl
accepted-append n (batch ∷ run) more = ⊎_elim
    (λ e. rw e (ap (λ h. batch ∷ h) (accepted-append n run more)))
    (λ (why, place, e). rw e (accepted-append n run more))
    (verdict_view (batch_verdict n batch))

pub accepted_of_lem : (n : ℕ) (run : History) → Accepted n (accepted_of n run)
unfolding accepted_of
accepted_of_lem n [] = λ b i. absurd (empty i)
accepted_of_lem n (batch ∷ run) = ⊎_elim
    (λ e. rw e (λ b i. ⊎_elim (λ (q : b ≡ batch). rw q e) (accepted_of_lem n run b) (cases i)))
    (λ (why, place, e). rw e (accepted_of_lem n run))
    (verdict_view (batch_verdict n batch))

-- the accepted batches of a run more
pub lived_run : {up : List ℕ} {g : History} (run : History) → Lived up g → Lived up (g ++ accepted_of (length up) run)
lived_run {up} {g} run l = record { tree = l.tree; batches = λ b i. ⊎_elim (l.batches b) (accepted_of_lem (length up) run b) (parts g i) }
