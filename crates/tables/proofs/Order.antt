-- Checks run in the order of the codes: the numbers that each check refuses with lie behind those of the checks before it, so the first that
-- refuses has the least number.
use mathlib.Core.Path.{◌≡◌, refl, sym, ap, ◌∙◌, subst}
use mathlib.Core.Bool.{Bool, true, false, ◌&&◌}
use mathlib.Core.List.{List, [], ◌∷◌, ◌++◌}
use mathlib.Core.Logic.{⊎_elim}
use Prim.Native.Nat.{ℕ, ◌≤◌, ◌*◌, ◌%◌}
use native.Mathlib.Omega.{arith}
use lib.ListN.{length}
use lib.Dec.{leb, ltb, eqb}
use Rattle.plain.specs.Member.{◌∈◌}
use Rattle.plain.specs.Table.{at}
use Rattle.graph.proofs.Members.{cases, empty}
use Rattle.tables.specs.Verdict.{Fault, number_of, Verdict, Sound, Refused, checks, unless, refuse_least}
use Rattle.tables.specs.Tree.{most_machines, hub, depth_of, size_verdict, tree_verdict, alone_verdict}
use Rattle.tables.specs.Tables.{Tables, sizes_verdict}
use Rattle.tables.specs.Batch.{most_links, pairs, numbers_verdict, batch_verdict}
use Rattle.tables.specs.Rules.{breaks, rules_verdict, tables_verdict}
use Rattle.tables.specs.Report.{Bytes}
use Rattle.tables.specs.Outcome.{start_verdict, add_verdict, outputs_verdict, report_verdict}
use Rattle.tables.specs.Demand1.{LinksExact, Reached, FirstOf, size_checks, output_checks, tree_checks, batch_checks, InOrder, FirstBad}
use Rattle.tables.proofs.Verdicts.{not_both, All, all_sound, sound_all, refuse_view}
use Rattle.tables.proofs.Standing.{ends_good, good_ends, first_bad}
use Rattle.tables.proofs.Codes.{ends_number}

-- each refusal has a number from lo to hi
abbrev Between : ℕ → ℕ → Verdict → Type 0
Between lo hi v = (why : Fault) (place : ℕ) → v ≡ Refused why place → (lo ≤ number_of why) × (number_of why ≤ hi)

-- the numbers of each check lie behind those of the one before it
abbrev Rising : ℕ → List Verdict → Type 0
Rising lo [] = Unit
Rising lo (v ∷ vs) = (hi : ℕ) × (lo ≤ hi) × Between lo hi v × Rising hi vs

behind : (lo : ℕ) (vs : List Verdict) → Rising lo vs → (why : Fault) (place : ℕ) → Refused why place ∈ vs → lo ≤ number_of why
behind lo [] r why place m = absurd (empty m)
behind lo (v ∷ vs) (hi, i, b, r) why place m =
    ⊎_elim (λ (e : Refused why place ≡ v). (b why place (sym e)).0) (λ k. omega (arith, i, behind hi vs r why place k)) (cases m)

first_sound : (vs : List Verdict) → checks vs ≡ Sound → (u : Verdict) → u ∈ vs → u ≡ Sound
first_sound [] e u m = absurd (empty m)
first_sound (v ∷ vs) e u m =
    let k = all_sound (v ∷ vs) e in
    ⊎_elim (λ (q : u ≡ v). q ∙ k.0) (first_sound vs (sound_all vs k.1) u) (cases m)

first_reached : (vs : List Verdict) (why : Fault) (place : ℕ) → checks vs ≡ Refused why place → Reached (checks vs) vs
unfolding checks
first_reached [] why place e = not_both e refl
first_reached (Sound ∷ vs) why place e =
    let k = first_reached vs why place e in
    record {
      before = Sound ∷ k.before;
      behind = k.behind;
      whole = ap (λ l. Sound ∷ l) k.whole;
      passed = λ u m. ⊎_elim (λ (q : u ≡ Sound). q) (k.passed u) (cases m);
    }
first_reached (Refused c p ∷ vs) why place e = record { before = []; behind = vs; whole = refl; passed = λ u m. absurd (empty m) }

first_least : (lo : ℕ) (vs : List Verdict) → Rising lo vs → (why : Fault) (place : ℕ) → checks vs ≡ Refused why place
    → (why' : Fault) (place' : ℕ) → Refused why' place' ∈ vs → number_of why ≤ number_of why'
unfolding checks
first_least lo [] r why place e why' place' m = not_both e refl
first_least lo (Sound ∷ vs) (hi, i, b, r) why place e why' place' m =
    ⊎_elim (λ (q : Refused why' place' ≡ Sound). not_both refl q) (first_least hi vs r why place e why' place') (cases m)
first_least lo (Refused c p ∷ vs) (hi, i, b, r) why place e why' place' m =
    let s : number_of c ≡ number_of why = cc in
    ⊎_elim
    (λ (q : Refused why' place' ≡ Refused c p). let z : number_of why' ≡ number_of c = cc in omega (arith, s, z))
    (λ k. omega (arith, s, (b c p refl).1, behind hi vs r why' place' k))
    (cases m)

first : {v : Verdict} (lo : ℕ) (vs : List Verdict) → v ≡ checks vs → Rising lo vs → FirstOf v vs
first lo vs e r = rw e (record { sound = first_sound vs; first = first_reached vs; least = first_least lo vs r })

-- checks within checks are one run of checks
flat : (us vs : List Verdict) → checks (checks us ∷ vs) ≡ checks (us ++ vs)
unfolding checks
flat [] vs = refl
flat (Sound ∷ us) vs = flat us vs
flat (Refused c p ∷ us) vs = refl

flat_in : (us vs ws : List Verdict) → checks (us ++ (checks vs ∷ ws)) ≡ checks (us ++ (vs ++ ws))
unfolding checks
flat_in [] vs ws = flat vs ws
flat_in (Sound ∷ us) vs ws = flat_in us vs ws
flat_in (Refused c p ∷ us) vs ws = refl

-- what a check refuses with
module _ (lo hi : ℕ) (why : Fault) (l : lo ≤ number_of why) (h : number_of why ≤ hi) where
  unless_between : (b : Bool) (place : ℕ) → Between lo hi (unless b why place)
  unless_between true place w p e = not_both e refl
  unless_between false place w p e = let q : number_of w ≡ number_of why = cc in (omega arith, omega arith)

  least_between : (n : ℕ) (p : ℕ → Bool) → Between lo hi (refuse_least why n p)
  least_between n p w k e =
      ⊎_elim (λ s. not_both e s) (λ (v, r). let q : number_of w ≡ number_of why = cc in (omega arith, omega arith)) (refuse_view why n p)

checks_between : (lo hi : ℕ) (vs : List Verdict) → All (Between lo hi) vs → Between lo hi (checks vs)
unfolding checks
checks_between lo hi [] a = λ w p e. not_both e refl
checks_between lo hi (Sound ∷ vs) a = checks_between lo hi vs a.1
checks_between lo hi (Refused c k ∷ vs) a = a.0

size_rising : (up : List ℕ) (t : Tables) (vs : List Verdict) → Rising 2 vs → Rising 1 (size_checks up t ++ vs)
unfolding size_verdict
size_rising up t vs r =
    let n = length up in (
      1,
      omega arith,
      unless_between 1 1 Fault.Size (omega arith) (omega arith) (ltb 0 n && leb n most_machines) n,
      (
        2,
        omega arith,
        unless_between 1 2 Fault.Slice (omega arith) (omega arith) (eqb (length t.depth) n) 1,
        (
          2,
          omega arith,
          unless_between 2 2 Fault.Slice (omega arith) (omega arith) (eqb (length t.group) n) 2,
          (2, omega arith, unless_between 2 2 Fault.Slice (omega arith) (omega arith) (eqb (length t.mark) n) 3, r),
        ),
      ),
    )

output_rising : (up : List ℕ) (o : Bytes) (vs : List Verdict) → Rising 2 vs → Rising 2 (output_checks up o ++ vs)
output_rising up o vs r =
    let n = length up in (
      2,
      omega arith,
      unless_between 2 2 Fault.Slice (omega arith) (omega arith) (eqb (length o.machines) n) 4,
      (2, omega arith, unless_between 2 2 Fault.Slice (omega arith) (omega arith) (eqb (length o.links) n) 5, r),
    )

alone_rising : (up : List ℕ) (vs : List Verdict) → Rising 2 vs → Rising 1 (size_verdict (length up) ∷ vs)
unfolding size_verdict
alone_rising up vs r = (2, omega arith, unless_between 1 2 Fault.Size (omega arith) (omega arith) (ltb 0 (length up) && leb (length up) most_machines) (length up), r)

tree_rising : (up : List ℕ) (vs : List Verdict) → Rising 5 vs → Rising 2 (tree_checks up ++ vs)
tree_rising up vs r =
    let n = length up in (
      3,
      omega arith,
      least_between 2 3 Fault.Entry (omega arith) (omega arith) n (λ v. leb n (at up v)),
      (
        4,
        omega arith,
        checks_between 3 4 _ (unless_between 3 4 Fault.Hubs (omega arith) (omega arith) (ltb (hub up) n) n, (least_between 3 4 Fault.Hubs (omega arith) (omega arith) n (λ v. ltb (hub up) v && eqb (at up v) v), tt)),
        (5, omega arith, least_between 4 5 Fault.Stray (omega arith) (omega arith) n (λ v. leb n (depth_of up v)), r),
      ),
    )

rules_rising : (up : List ℕ) (t : Tables) (vs : List Verdict) → Rising 6 vs → Rising 5 (rules_verdict up t ∷ vs)
unfolding rules_verdict
rules_rising up t vs r = (6, omega arith, least_between 5 6 Fault.Rule (omega arith) (omega arith) (length up) (breaks up t), r)

batch_rising : (n : ℕ) (batch : List ℕ) → Rising 6 (batch_checks n batch)
unfolding numbers_verdict
batch_rising n batch =
    let k = length batch in (
      7,
      omega arith,
      unless_between 6 7 Fault.Length (omega arith) (omega arith) (eqb (k % 2) 0 && leb k (2 * most_links)) k,
      (9, omega arith, λ why p e. let (a, b) = ends_number n (pairs batch) why p e in (omega (arith, a), b), tt),
    )

pub in_order : InOrder
unfolding alone_verdict start_verdict add_verdict report_verdict sizes_verdict outputs_verdict tree_verdict tables_verdict batch_verdict
in_order = record {
  tree = λ up. first 1 (size_verdict (length up) ∷ tree_checks up) (flat_in (size_verdict (length up) ∷ []) (tree_checks up) []) (alone_rising up (tree_checks up) (tree_rising up [] tt));
  batch = λ n batch. first 6 (batch_checks n batch) refl (batch_rising n batch);
  start = λ up t.
      let s = size_checks up t in
      first 1 (s ++ tree_checks up) (flat s (tree_verdict up ∷ []) ∙ flat_in s (tree_checks up) []) (size_rising up t (tree_checks up) (tree_rising up [] tt));
  add = λ up batch t.
      let s = size_checks up t in
      let b = batch_verdict (length up) batch in
      let k = rules_verdict up t ∷ batch_checks (length up) batch in
      first 1 (s ++ (tree_checks up ++ k))
      (flat s (tables_verdict up t ∷ b ∷ []) ∙ flat_in s (tree_verdict up ∷ rules_verdict up t ∷ []) (b ∷ [])
      ∙ flat_in s (tree_checks up) (rules_verdict up t ∷ b ∷ []) ∙ flat_in (s ++ (tree_checks up ++ (rules_verdict up t ∷ []))) (batch_checks (length up) batch) [])
      (size_rising up t (tree_checks up ++ k) (tree_rising up k (rules_rising up t (batch_checks (length up) batch) (batch_rising (length up) batch))));
  report = λ up t o.
      let s = size_checks up t in
      let q = output_checks up o in
      let k = rules_verdict up t ∷ [] in
      first 1 (s ++ (q ++ (tree_checks up ++ k)))
      (flat s (outputs_verdict (length up) (length o.machines) (length o.links) ∷ tables_verdict up t ∷ []) ∙ flat_in s q (tables_verdict up t ∷ [])
      ∙ flat_in (s ++ q) (tree_verdict up ∷ k) [] ∙ flat_in (s ++ q) (tree_checks up) k)
      (size_rising up t (q ++ (tree_checks up ++ k)) (output_rising up o (tree_checks up ++ k) (tree_rising up k (rules_rising up t [] tt))));
}

pub links_exact : LinksExact
links_exact = record {
  sound = λ n l. (ends_good n 0 l, good_ends n 0 l);
  place = λ n l why i e. let (j, z, r) = first_bad n 0 l why i e in let q : j ≡ i = omega (arith, z) in subst (FirstBad n l why) q r;
}
