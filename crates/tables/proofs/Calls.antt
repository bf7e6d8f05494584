-- The calls over the tables of links that stand, and over those of histories and of runs; the limits.
use mathlib.Core.Path.{◌≡◌, sym, ap, ◌∙◌}
use mathlib.Core.Bool.{◌&&◌}
use mathlib.Core.List.{List, [], ◌∷◌, ◌++◌, append-nil, append_assoc}
use mathlib.Core.Logic.{⊎_elim}
use Prim.Native.Nat.{ℕ, ◌*◌, ◌%◌}
use lib.ListN.{length}
use lib.Dec.{leb, ltb, eqb}
use Rattle.plain.proofs.Says.{says_le, says_eq, says_and}
use Rattle.tables.specs.Verdict.{Fault, Sound, checks}
use Rattle.tables.specs.Answer.{done}
use Rattle.tables.specs.Tree.{most_machines, size_verdict, alone_verdict}
use Rattle.tables.specs.Tables.{Tables, lengths_verdict}
use Rattle.tables.specs.Batch.{most_links, numbers_verdict, batch_verdict}
use Rattle.tables.specs.History.{History, Lived, links, leaves, tables}
use Rattle.tables.specs.Outcome.{outcome, judged, start_verdict, start_of}
use Rattle.tables.specs.Calls.{Adds, added, accepted_of, CallsLive, Limits}
use Rattle.tables.proofs.Standing.{alone_passed}
use Rattle.tables.proofs.Verdicts.{unless_sound, unless_refused_lem, verdict_view}
use Rattle.tables.proofs.Lengths.{size_exact}
use Rattle.tables.proofs.Histories.{links_more, lived_none, lived_more, only_links}
use Rattle.tables.proofs.Runs.{kept_first, refused_first}
use Rattle.tables.proofs.Adding.{adds}

started : (up : List ℕ) (t : Tables) → alone_verdict up ≡ Sound → lengths_verdict up t ≡ Sound → start_of up t ≡ outcome (done (length up)) (tables up [])
unfolding start_verdict start_of checks judged leaves
started up t e z = rw (z, (alone_passed up e).1)

adds_more : (up : List ℕ) (h : History) → Lived up h → (batch : List ℕ) → Adds up batch (tables up h) (tables up (h ++ (batch ∷ [])))
adds_more up h l batch =
    rw (only_links.leave up h, only_links.leave up (h ++ (batch ∷ [])), links_more h batch) (adds up (links h) (only_links.stand up h l) batch)

-- a run leaves the tables of the history with its accepted batches behind: a refused one leaves what it found
pub run_leaves : (up : List ℕ) (run g : History) → Lived up g → added up run (tables up g) ≡ tables up (g ++ accepted_of (length up) run)
unfolding added accepted_of
run_leaves up [] g l = ap (tables up) (sym (append-nil g))
run_leaves up (batch ∷ run) g l =
    let n = length up in
    let a = adds_more up g l batch in
    ⊎_elim
    (λ e. ap (λ r. added up run r.lent) (a.accepted e) ∙ run_leaves up run (g ++ (batch ∷ [])) (lived_more batch l e)
    ∙ ap (tables up) (append_assoc g (batch ∷ []) (accepted_of n run) ∙ ap (λ h. g ++ h) (sym (kept_first n batch run e))))
    (λ (why, place, e). ap (λ r. added up run r.lent) (a.refused why place e) ∙ run_leaves up run g l
    ∙ ap (λ h. tables up (g ++ h)) (sym (refused_first n batch run e)))
    (verdict_view (batch_verdict n batch))

pub calls_live : CallsLive
calls_live = record {
  start = started;
  after_batches = adds_more;
  with_links = adds;
  all_calls = λ up run t e z. ap (λ r. added up run r.lent) (started up t e z) ∙ run_leaves up run [] (lived_none e);
}

pub limits : Limits
unfolding size_verdict numbers_verdict
limits = record {
  machines = size_exact;
  links = λ k. let t = says_and (says_eq (k % 2) 0) (says_le k (2 * 1024)) in (λ e. t.gives (unless_sound _ _ _ e), λ s. rw (t.takes s));
  machines_value = λ n why place. unless_refused_lem (ltb 0 n && leb n most_machines) Fault.Size n;
  links_value = λ k why place. unless_refused_lem (eqb (k % 2) 0 && leb k (2 * most_links)) Fault.Length k;
}
