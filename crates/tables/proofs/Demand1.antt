-- Demand 1. That the rules are exact is both halves together: no links break one, and for tables that break none their links are given.
-- Add and Report come to the rules once the lengths and the tree are right, and no later check answers 6.
use mathlib.Core.Path.{◌≡◌, refl, ap, ◌∙◌}
use mathlib.Core.List.{List, [], ◌∷◌}
use mathlib.Core.Logic.{◌≢◌, ⊎_elim, ◌↔◌}
use Prim.Native.Nat.{ℕ}
use native.Mathlib.Omega.{arith}
use lib.ListN.{length}
use borrow.Author.Tests.{eq-eqb}
use Rattle.graph.specs.Cable.{Cables}
use Rattle.tables.specs.Verdict.{Fault, Verdict, Sound, Refused, checks}
use Rattle.tables.specs.Tree.{tree_verdict}
use Rattle.tables.specs.Tables.{Tables, lengths_verdict}
use Rattle.tables.specs.Batch.{batch_verdict}
use Rattle.tables.specs.Links.{AllGood, tables_with, SiteOf}
use Rattle.tables.specs.History.{Left}
use Rattle.tables.specs.Rules.{breaks, rules_verdict, tables_verdict}
use Rattle.tables.specs.Report.{Bytes}
use Rattle.tables.specs.Outcome.{judged, start_of, add_verdict, add_of, outputs_verdict, report_verdict, report_of}
use Rattle.tables.specs.Demand1.{TablesExact, Demand1}
use Rattle.tables.proofs.Verdicts.{not_both, all_sound, checks_one, Avoids, All, checks_avoid, refuse_view, refused-at}
use Rattle.tables.proofs.Lengths.{size_exact, lengths}
use Rattle.tables.proofs.Standing.{stands}
use Rattle.tables.proofs.Codes.{batch_avoids}
use Rattle.tables.proofs.Order.{links_exact, in_order}
use Rattle.tables.proofs.Sound.{sound_tree, trees_exact}
use Rattle.tables.proofs.Kept.{sound_kept}
use Rattle.tables.proofs.Histories.{left_links}
use Rattle.tables.proofs.Complete.{complete}
use Rattle.tables.proofs.Adding.{rules_met}

-- the links of tables that break no rule
module _ (up : List ℕ) (t : Tables) (d : length t.depth ≡ length up) (g : length t.group ≡ length up) (m : length t.mark ≡ length up) (e : tree_verdict up ≡ Sound) where
  pub rules_links : rules_verdict up t ≡ Sound → (l : Cables) × AllGood (length up) l × (tables_with up l ≡ t)
  rules_links r = complete (sound_tree up e) (sound_kept up t r) d g m

  pub rules_exact : (rules_verdict up t ≡ Sound) ↔ Left up t
  rules_exact =
      let k = left_links up t in
      (λ r. k.1 (rules_links r), λ i. let (l, a, q) = k.0 i in rw q at (rules_met (sound_tree up e) a))

-- the site of tables that pass every check
pub site_of : (up : List ℕ) (t : Tables) → lengths_verdict up t ≡ Sound → tables_verdict up t ≡ Sound → SiteOf up t
unfolding tables_verdict
site_of up t z v =
    let a = all_sound _ v in
    let e : tree_verdict up ≡ Sound = search a in
    let r : rules_verdict up t ≡ Sound = search a in
    let k = lengths up t z in
    let (l, g, q) = rules_links up t k.depth_size k.group_size k.mark_size e r in
    record { links = l; stands = stands (record { size = (size_exact _).1 (k.some, k.few); tree = e; good = g }); left = q }

-- what follows the rules does not answer 6
answer_code : {A : Type 0} (v : Verdict) (came : A) (value : ℕ) (done : A) → Avoids 6 v → (judged v came value done).answer.code ≢ 6
unfolding judged
answer_code Sound came value done f e = omega arith
answer_code (Refused c p) came value done f e = f c p refl e

answer_untouched : {A : Type 0} (v : Verdict) (came : A) (value : ℕ) (done : A) → (judged v came value done).answer.code ≢ 0 → (judged v came value done).lent ≡ came
unfolding judged
answer_untouched Sound came value done o = absurd (o refl)
answer_untouched (Refused c p) came value done o = refl

module _ (up : List ℕ) (t : Tables) (z : lengths_verdict up t ≡ Sound) (e : tree_verdict up ≡ Sound) where
  kept_exactly : (rules_verdict up t ≡ Sound) ↔ Left up t
  kept_exactly = let k = lengths up t z in rules_exact up t k.depth_size k.group_size k.mark_size e

  exactly : {A : Type 0} (came : A) (value : ℕ) (done : A) (v : Verdict) (vs : List Verdict) → v ≡ checks (rules_verdict up t ∷ vs)
      → All (Avoids 6) vs → ((judged v came value done).answer.code ≡ 6) ↔ (¬ Left up t)
  unfolding checks judged rules_verdict
  exactly came value done v vs q f =
      let k = kept_exactly in
      ⊎_elim
      (λ r. let g : v ≡ checks vs = q ∙ rw r refl in (λ i _. answer_code v came value done (rw g (checks_avoid vs f)) i, λ o. absurd (o (k.0 r))))
      (λ (p, r). let g : v ≡ Refused Fault.Rule p = q ∙ rw r refl in (λ _ l. not_both r (k.1 l), λ _. rw g refl))
      (refuse_view Fault.Rule (length up) (breaks up t))

  -- Report comes to the rules
  pub report_came : (o : Bytes) → length o.machines ≡ length up → length o.links ≡ length up → report_verdict up t o ≡ checks (rules_verdict up t ∷ [])
  unfolding checks report_verdict outputs_verdict tables_verdict
  report_came o a b = rw (z, eq-eqb (length o.machines) (length up) a, eq-eqb (length o.links) (length up) b, e) (checks_one _)

  tables_exact : TablesExact up t
  unfolding add_verdict add_of report_of checks tables_verdict rules_verdict
  tables_exact = record {
    kept = kept_exactly;
    add_refused = λ batch. exactly _ _ _ (add_verdict up batch t) (batch_verdict (length up) batch ∷ []) (rw (z, e) (ap (λ v. checks (v ∷ batch_verdict (length up) batch ∷ [])) (checks_one (rules_verdict up t)))) (batch_avoids (length up) batch, tt);
    report_refused = λ o a b. exactly _ _ _ (report_verdict up t o) [] (report_came o a b) tt;
    place = λ v q. let r = refused-at Fault.Rule _ _ q in (r.machine, r.fails, r.before);
  }

pub demand1 : Demand1
unfolding start_of add_of report_of
demand1 = record {
  trees = trees_exact;
  links_exact = links_exact;
  in_order = in_order;
  tables_exact = tables_exact;
  untouched = record {
    start = λ up t. answer_untouched _ _ _ _;
    add = λ up batch t. answer_untouched _ _ _ _;
    report = λ up t o. answer_untouched _ _ _ _;
  };
}
