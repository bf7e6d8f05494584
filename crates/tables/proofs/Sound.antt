-- A tree that is not refused is sound, and the theory of rings speaks of it: its depths are ranks that fall by one with each uplink.
use mathlib.Core.Path.{◌≡◌, refl, sym, ap, ◌∙◌}
use mathlib.Core.Bool.{true, false, ◌&&◌}
use mathlib.Core.List.{List, [], ◌∷◌}
use mathlib.Core.Logic.{◌≢◌, ◌⊎◌, inl, inr, dite}
use Prim.Native.Nat.{ℕ, zero, suc, ◌<◌, ◌≤◌}
use native.Mathlib.Decide.{ℕ_discrete, dec_lt}
use native.Mathlib.Omega.{arith}
use lib.ListN.{length}
use lib.Dec.{leb, ltb, eqb}
use borrow.Author.Tests.{eqb-true, eq-eqb, ltb-true, ltb-false, leb-false, leb-true, lt-ltb, lt-leb}
use Rattle.plain.specs.Table.{at}
use Rattle.plain.proofs.Says.{by_cases, clash, Says, says_lt, says_eq, says_and, refuted, refutes}
use Rattle.plain.proofs.Least.{Least, least_is, least_has}
use Rattle.rings.specs.Tree.{Rooted}
use Rattle.tables.specs.Verdict.{Fault, number_of, Verdict, Sound, Refused, checks, unless, refuse_least}
use Rattle.tables.specs.Tree.{climb, hub, Inside, Reaches, depth_of, hubs_verdict, reach_verdict, tree_verdict}
use Rattle.tables.specs.AsTree.{tree_of}
use Rattle.tables.specs.Demand1.{SoundTree, NoHub, SecondHub, TreesExact}
use Rattle.tables.proofs.Verdicts.{all_sound, sound_all, passes, refuses, checks_one, Avoids, least_avoids, unless_avoids, checks_avoid, later, unless_sound, none_refused, refuse_none, refused-at}
use Rattle.tables.proofs.Climb.{arrives, reaches_soon, soon_reaches}

second? : (up : List ℕ) (v : ℕ) → Says (ltb (hub up) v && eqb (at up v) v) ((hub up < v) × (at up v ≡ v))
second? up v = says_and (says_lt (hub up) v) (says_eq (at up v) v)

pub sound_tree : (up : List ℕ) → tree_verdict up ≡ Sound → SoundTree up
unfolding tree_verdict hub
sound_tree up e =
    let n = length up in
    let (entries, (hubs, (reach, _))) = all_sound _ e in
    let (first, (second, _)) = all_sound _ hubs in
    let h : hub up < n = ltb-true (hub up) n (unless_sound _ _ _ first) in
    let l = least_has n (λ v. eqb (at up v) v) in
    record {
      inside = λ v k. leb-false n (at up v) (none_refused _ _ _ entries v k);
      hub_in = h;
      hub_self = eqb-true (at up (hub up)) (hub up) (l.here h);
      only = λ v k s. dite (ℕ_discrete v (hub up)) (λ r. r) λ o. dite (dec_lt v (hub up))
          (λ b. clash (eq-eqb (at up v) v s) (l.before v b))
          (λ b. absurd (refuted (second? up v) (none_refused _ _ _ second v k) (omega arith, s)));
      reaches = λ v k. soon_reaches up v (leb-false n (depth_of up v) (none_refused _ _ _ reach v k));
    }

module _ {up : List ℕ} (s : SoundTree up) where
  pub soon : (v : ℕ) → v < length up → depth_of up v < length up
  soon v h = reaches_soon up v s.inside h (s.reaches v h)

  pub depth_hub : depth_of up (hub up) ≡ 0
  unfolding depth_of climb
  depth_hub = least_is (length up) (arrives up (hub up)) 0
      (record { le = omega arith; before = λ k h. absurd (omega arith); here = λ _. eq-eqb (hub up) (hub up) refl })

  pub depth_up : (v : ℕ) → v < length up → v ≢ hub up → depth_of up v ≡ suc (depth_of up (at up v))
  unfolding depth_of climb
  depth_up v h o = go (depth_of up v) (least_has (length up) (arrives up v)) (soon v h)
    where
      go : (d : ℕ) → Least (length up) (arrives up v) d → d < length up → d ≡ suc (depth_of up (at up v))
      go zero l b = absurd (o (eqb-true v (hub up) (l.here b)))
      go (suc d) l b = ap suc (sym (least_is (length up) (arrives up (at up v)) d
          (record { le = omega arith; before = λ k r. l.before (suc k) (omega arith); here = λ _. l.here b })))

  pub rooted : Rooted (tree_of up) (depth_of up)
  rooted = record {
    low = λ {a} r. rw r.to at (s.inside a r.low);
    falls = λ {a} r. omega (arith, depth_up a r.low r.other, ap (depth_of up) r.to);
  }

  tree_sound : tree_verdict up ≡ Sound
  unfolding tree_verdict
  tree_sound =
      let n = length up in
      let lone : (v : ℕ) → v < n → (ltb (hub up) v && eqb (at up v) v) ≡ false = λ v h. refutes (second? up v) (λ k. omega (arith, k.0, s.only v h k.1)) in
      sound_all _ (
        refuse_none _ _ _ (λ v h. lt-leb n (at up v) (s.inside v h)),
        (
          sound_all _ (rw (lt-ltb (hub up) n s.hub_in) refl, (refuse_none _ _ _ lone, tt)),
          (refuse_none _ _ _ (λ v h. lt-leb n (depth_of up v) (soon v h)), tt),
        ),
      )

hubs_avoid : (up : List ℕ) (k : ℕ) → number_of Fault.Hubs ≢ k → Avoids k (hubs_verdict up)
hubs_avoid up k o = checks_avoid _ (unless_avoids (ltb (hub up) (length up)) Fault.Hubs (length up) o, (least_avoids _ _ _ o, tt))

never : (up : List ℕ) (v : ℕ) → tree_verdict up ≡ Refused Fault.Stray v → (v < length up) × (¬ Reaches up v) × ((u : ℕ) → u < v → Reaches up u)
unfolding tree_verdict
never up v e₀ =
    let n = length up in
    let (a, e₁) = later _ (least_avoids _ _ _ (omega arith)) e₀ in
    let (_, e₂) = later _ (hubs_avoid up _ (omega arith)) e₁ in
    let r = refused-at Fault.Stray n (λ v. leb n (depth_of up v)) (sym (checks_one _) ∙ e₂) in
    let w : Inside up = λ v h. leb-false n (at up v) (none_refused _ _ _ a v h) in (
      r.machine,
      λ t. omega (arith, leb-true n (depth_of up v) r.fails, reaches_soon up v w r.machine t),
      λ u b. soon_reaches up u (leb-false n (depth_of up u) (r.before u b)),
    )

-- a refusal whose number the checks behind the first avoid is that of the first
only_first : {v : Verdict} {why : Fault} {p : ℕ} (vs : List Verdict) → Avoids (number_of why) (checks vs) → checks (v ∷ vs) ≡ Refused why p → v ≡ Refused why p
unfolding checks
only_first {v = Sound} {why} {p} vs o e = absurd (o why p e refl)
only_first {v = Refused k r} vs o e = e

entry : (up : List ℕ) (v : ℕ) → tree_verdict up ≡ Refused Fault.Entry v → (v < length up) × (length up ≤ at up v) × ((u : ℕ) → u < v → at up u < length up)
unfolding tree_verdict
entry up v e =
    let n = length up in
    let f = only_first (hubs_verdict up ∷ reach_verdict up ∷ []) (checks_avoid _ (hubs_avoid up _ (omega arith), (least_avoids _ _ _ (omega arith), tt))) e in
    let r = refused-at Fault.Entry n (λ v. leb n (at up v)) f in
    (r.machine, leb-true n (at up v) r.fails, λ u b. leb-false n (at up u) (r.before u b))

hubs : (up : List ℕ) (v : ℕ) → tree_verdict up ≡ Refused Fault.Hubs v → NoHub up v ⊎ SecondHub up v
unfolding tree_verdict hub
hubs up v e =
    let n = length up in
    let l = least_has n (λ v. eqb (at up v) v) in
    let (_, e₁) = later _ (least_avoids _ _ _ (omega arith)) e in
    let f : hubs_verdict up ≡ Refused Fault.Hubs v = only_first (reach_verdict up ∷ []) (checks_avoid _ (least_avoids _ _ _ (omega arith), tt)) e₁ in
    by_cases (ltb (hub up) n)
    (λ (t : ltb (hub up) n ≡ true).
    let h = ltb-true (hub up) n t in
    let g : refuse_least Fault.Hubs n (λ v. ltb (hub up) v && eqb (at up v) v) ≡ Refused Fault.Hubs v = sym (checks_one _) ∙ sym (passes (rw t refl) _) ∙ f in
    let r = refused-at Fault.Hubs n (λ v. ltb (hub up) v && eqb (at up v) v) g in
    let k = (second? up v).gives r.fails in
    inr (
      r.machine,
      k.1,
      (
        hub up,
        k.0,
        eqb-true (at up (hub up)) (hub up) (l.here h),
        λ u b s. dite (ℕ_discrete u (hub up)) (λ q. q) λ o. dite (dec_lt u (hub up))
            (λ c. clash (eq-eqb (at up u) u s) (l.before u c))
            (λ c. absurd (refuted (second? up u) (r.before u b) (omega arith, s))),
      ),
    ))
    (λ (t : ltb (hub up) n ≡ false).
    let c = ltb-false (hub up) n t in
    let m = l.le in
    let z : unless (ltb (hub up) n) Fault.Hubs n ≡ Refused Fault.Hubs n = rw t refl in
    let g : Refused Fault.Hubs n ≡ Refused Fault.Hubs v = sym z ∙ sym (refuses z _) ∙ f in
    let q : v ≡ n = cc in
    inl (q, λ u b s. clash (eq-eqb (at up u) u s) (l.before u (omega arith))))

pub trees_exact : TreesExact
trees_exact = record { sound = λ up. (sound_tree up, λ s. tree_sound s); entry = entry; hubs = hubs; never = never }
