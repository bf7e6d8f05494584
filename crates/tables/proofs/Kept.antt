-- The rules as statements, and that no history breaks one: what tables tell of a network's links keeps them all.
use mathlib.Core.Path.{◌≡◌, refl, sym, ap, ◌∙◌}
use mathlib.Core.Bool.{cond, not}
use mathlib.Core.List.{List}
use mathlib.Core.Logic.{◌≢◌, dite}
use Prim.Native.Nat.{ℕ, suc, ◌<◌, ◌≤◌}
use native.Mathlib.Decide.{ℕ_discrete}
use native.Mathlib.Omega.{arith}
use lib.ListN.{length}
use lib.Dec.{eqb}
use borrow.Author.Tests.{eq-eqb, ne_eqb, not-false}
use Rattle.plain.proofs.Says.{says_if, Says, says_map, says_eq, says_le, says_lt, says_not, says_and, says_unless}
use Rattle.plain.specs.Table.{at}
use Rattle.graph.specs.Walk.{Relation, stay, step}
use Rattle.rings.proofs.Groups.{member, mirror}
use Rattle.rings.proofs.Lone.{group_rings, rings_other, carried_rings}
use Rattle.rings.proofs.Under.{uplinked}
use Rattle.rings.specs.Group.{SameGroup}
use Rattle.rings.specs.Network.{Network}
use Rattle.rings.specs.Tree.{Tree}
use Rattle.tables.specs.Rules.{depth_rule, group_rule, carried_rule, keeps, breaks, rules_verdict}
use Rattle.tables.specs.Tables.{Tables}
use Rattle.tables.specs.Tree.{hub, depth_of}
use Rattle.tables.specs.AsTree.{tree_of}
use Rattle.tables.specs.Verdict.{Fault, Sound}
use Rattle.tables.specs.Demand1.{SoundTree}
use Rattle.tables.proofs.Verdicts.{none_refused, refuse_none}
use Rattle.tables.proofs.Reading.{depth_at}
use Rattle.tables.proofs.Sound.{depth_hub, depth_up}
use Rattle.tables.proofs.Told.{Told, group_name}

-- The rules as statements.
pub record Kept (up : List ℕ) (t : Tables) (v : ℕ) : Type 0 where
  pub depth : at t.depth v ≡ cond (eqb v (hub up)) 0 (suc (at t.depth (at up v)))
  pub top : v ≡ hub up → (at t.mark v ≡ 0) × (at t.group v ≡ v)
  pub small : at t.mark v ≤ 2
  pub group : v ≢ hub up → (at t.group v < length up) × ((at t.group v ≤ v) × ((at t.group v ≢ hub up) × ((at up (at t.group v) ≡ at up v) × (at t.group (at t.group v) ≡ at t.group v))))
  pub partner : v ≢ hub up → at t.group v ≢ v → (1 ≤ at t.mark (at t.group v)) × (1 ≤ at t.mark v)
  pub carried : at t.mark v ≡ 2 → (at up v ≢ hub up) × (1 ≤ at t.mark (at up v))

says_keeps : (up : List ℕ) (t : Tables) (v : ℕ) → Says (keeps (hub up) up t v) (Kept up t v)
unfolding keeps depth_rule group_rule carried_rule
says_keeps up t v =
    let g = at t.group v in
    let m = at t.mark v in
    let r = says_eq v (hub up) in
    says_map (λ k. search) (λ k. search)
    (says_and (says_eq (at t.depth v) (cond (eqb v (hub up)) 0 (suc (at t.depth (at up v)))))
    (says_and (says_if r (says_and (says_eq m 0) (says_eq g v)))
    (says_and (says_le m 2)
    (says_and (says_unless r (says_and (says_lt g (length up)) (says_and (says_le g v) (says_and (says_not (says_eq g (hub up))) (says_and (says_eq (at up g) (at up v)) (says_eq (at t.group g) g))))))
    (says_and (says_unless r (says_unless (says_eq g v) (says_and (says_le 1 (at t.mark g)) (says_le 1 m))))
    (says_if (says_eq m 2) (says_and (says_not (says_eq (at up v) (hub up))) (says_le 1 (at t.mark (at up v))))))))))

-- the hub is of no group but its own
hub_alone : {T : Tree} {L : Relation} {w x y : ℕ} → SameGroup T L w x y → x ≡ T.hub → x ≡ y
hub_alone stay e = refl
hub_alone (step j g) e = absurd (j.left.other e)

module _ {up : List ℕ} {L : Relation} {t : Tables} (s : SoundTree up) (N : Network (tree_of up) L) (k : Told up L t) where
  top_is : (v : ℕ) → v < length up → v ≡ hub up → (at t.mark v ≡ 0) × (at t.group v ≡ v)
  top_is v h e = (
    dite (ℕ_discrete (at t.mark v) 0) (λ z. z) (λ o. absurd (rings_other N ((k.marked.ringed v h).0 (omega arith)) e)),
    sym (hub_alone (k.named.own v h) e),
  )

  pub told_kept : (v : ℕ) → v < length up → Kept up t v
  told_kept v h = record {
    depth = dite (ℕ_discrete v (hub up))
        (λ e. rw (eq-eqb v (hub up) e) (depth_at up k.depths v h ∙ ap (depth_of up) e ∙ depth_hub s))
        (λ o. rw (ne_eqb v (hub up) o) (depth_at up k.depths v h ∙ depth_up s v h o ∙ ap suc (sym (depth_at up k.depths (at up v) (s.inside v h)))));
    top = top_is v h;
    small = k.marked.small v h;
    group = λ o.
        let u = member (uplinked h o) (k.named.own v h) in
        (u.low, (k.named.least v h, (u.other, (u.to, sym (group_name k.named (k.named.own v h))))));
    partner = λ o e.
        let g = k.named.own v h in (
          (k.marked.ringed (at t.group v) (member (uplinked h o) g).low).1 (group_rings _ _ N _ _ _ (mirror N g) e),
          (k.marked.ringed v h).1 (group_rings _ _ N _ _ _ g (λ f. e (sym f))),
        );
    carried = λ e.
        let r = uplinked h (λ (z : v ≡ hub up). absurd (omega (arith, (top_is v h z).0))) in
        let c = carried_rings _ _ _ _ r ((k.marked.carried v h).0 e) in
        (rings_other N c, (k.marked.ringed (at up v) (s.inside v h)).1 c);
  }

pub kept_sound : (up : List ℕ) (t : Tables) → ((v : ℕ) → v < length up → Kept up t v) → rules_verdict up t ≡ Sound
unfolding rules_verdict breaks
kept_sound up t f = refuse_none Fault.Rule (length up) (λ v. not (keeps (hub up) up t v)) (λ v h. ap not ((says_keeps up t v).takes (f v h)))

pub sound_kept : (up : List ℕ) (t : Tables) → rules_verdict up t ≡ Sound → (v : ℕ) → v < length up → Kept up t v
unfolding rules_verdict breaks
sound_kept up t e v h = (says_keeps up t v).gives (not-false (keeps (hub up) up t v) (none_refused Fault.Rule (length up) (λ v. not (keeps (hub up) up t v)) e v h))
