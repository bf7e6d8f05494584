-- What a verdict tells: checks that refuse nothing have each passed, a refusal is that of the first check that refuses,
-- and checks with other codes have passed.
use mathlib.Core.Path.{◌≡◌, refl}
use mathlib.Core.Bool.{Bool, true, false, cond}
use mathlib.Core.List.{List, [], ◌∷◌}
use mathlib.Core.Logic.{◌≢◌, ◌⊎◌, inl, inr}
use Prim.Native.Nat.{ℕ, ◌<◌}
use native.Mathlib.Omega.{arith}
use lib.Dec.{ltb}
use borrow.Author.Tests.{ltb-true, ltb-false, lt-ltb, le-ltb}
use Rattle.plain.specs.Search.{least}
use Rattle.plain.proofs.Says.{by_cases}
use Rattle.plain.proofs.Loops.{NoneBelow}
use Rattle.plain.proofs.Least.{least_is, least_has}
use Rattle.tables.specs.Verdict.{Fault, number_of, Verdict, Sound, Refused, checks, unless, refuse_least}

pub not_both : {A : Type 0} {why : Fault} {p : ℕ} {r : Verdict} → r ≡ Refused why p → r ≡ Sound → A
not_both e f = let z : ◌≡◌ {A = ℕ} 0 1 = cc in absurd (omega arith)

pub verdict_view : (v : Verdict) → (v ≡ Sound) ⊎ ((why : Fault) × (place : ℕ) × (v ≡ Refused why place))
verdict_view Sound = inl refl
verdict_view (Refused why place) = inr (why, place, refl)

-- P holds of each of the verdicts
abbrev pub All : (Verdict → Type 0) → List Verdict → Type 0
All P [] = Unit
All P (v ∷ vs) = P v × All P vs

pub all_sound : (vs : List Verdict) → checks vs ≡ Sound → All (λ v. v ≡ Sound) vs
unfolding checks
all_sound [] e = tt
all_sound (Sound ∷ vs) e = (refl, all_sound vs e)
all_sound (Refused c v ∷ vs) e = not_both refl e

pub sound_all : (vs : List Verdict) → All (λ v. v ≡ Sound) vs → checks vs ≡ Sound
unfolding checks
sound_all [] a = refl
sound_all (v ∷ vs) a = rw a.0 (sound_all vs a.1)

-- a check that passes leaves it to those behind it, one that refuses is the answer
pub passes : {v : Verdict} → v ≡ Sound → (vs : List Verdict) → checks (v ∷ vs) ≡ checks vs
unfolding checks
passes e vs = rw e refl

pub refuses : {v : Verdict} {why : Fault} {p : ℕ} → v ≡ Refused why p → (vs : List Verdict) → checks (v ∷ vs) ≡ v
unfolding checks
refuses e vs = rw e refl

pub checks_one : (v : Verdict) → checks (v ∷ []) ≡ v
unfolding checks
checks_one Sound = refl
checks_one (Refused c p) = refl

-- no refusal of this check has code k
abbrev pub Avoids : ℕ → Verdict → Type 0
Avoids k v = (why : Fault) (p : ℕ) → v ≡ Refused why p → number_of why ≢ k

pub sound_avoids : {k : ℕ} → Avoids k Sound
sound_avoids c p e = not_both e refl

pub refused_avoids : {k place : ℕ} {why : Fault} → number_of why ≢ k → Avoids k (Refused why place)
refused_avoids o w p e z = o (cc)

pub checks_avoid : {k : ℕ} (vs : List Verdict) → All (Avoids k) vs → Avoids k (checks vs)
unfolding checks
checks_avoid [] a = sound_avoids
checks_avoid (Sound ∷ vs) a = checks_avoid vs a.1
checks_avoid (Refused c p ∷ vs) a = a.0

pub unless_avoids : {k : ℕ} (b : Bool) (why : Fault) (place : ℕ) → number_of why ≢ k → Avoids k (unless b why place)
unless_avoids true why place o = sound_avoids
unless_avoids false why place o = refused_avoids o

pub least_avoids : {k : ℕ} (why : Fault) (n : ℕ) (p : ℕ → Bool) → number_of why ≢ k → Avoids k (refuse_least why n p)
unfolding refuse_least
least_avoids why n p o = by_cases (ltb (least n p) n) (λ t. rw t (refused_avoids o)) (λ t. rw t sound_avoids)

-- a refusal is of none of the checks that avoid its code
pub later : {v : Verdict} {why : Fault} {p : ℕ} (vs : List Verdict) → Avoids (number_of why) v → checks (v ∷ vs) ≡ Refused why p → (v ≡ Sound) × (checks vs ≡ Refused why p)
unfolding checks
later {v = Sound} vs o e = (refl, e)
later {v = Refused k r} {why} {p} vs o e = absurd (o why p e refl)

pub unless_sound : (b : Bool) (c : Fault) (v : ℕ) → unless b c v ≡ Sound → b ≡ true
unless_sound true c v e = refl
unless_sound false c v e = not_both refl e

pub unless_refused_lem : {why : Fault} {p : ℕ} (b : Bool) (c : Fault) (v : ℕ) → unless b c v ≡ Refused why p → (why ≡ c) × (p ≡ v)
unless_refused_lem true c v e = not_both e refl
unless_refused_lem false c v e = (cc, cc)

pub cond_refused : (b : Bool) (c : Fault) (v : ℕ) (r : Verdict) → cond b (Refused c v) r ≡ Sound → (b ≡ false) × (r ≡ Sound)
cond_refused true c v r e = not_both refl e
cond_refused false c v r e = (refl, e)

pub none_refused : (why : Fault) (n : ℕ) (p : ℕ → Bool) → refuse_least why n p ≡ Sound → NoneBelow p n
unfolding refuse_least
none_refused why n p e k h = let l = ltb-false (least n p) n (cond_refused _ _ _ _ e).0 in (least_has n p).before k (omega arith)

pub refuse_none : (why : Fault) (n : ℕ) (p : ℕ → Bool) → NoneBelow p n → refuse_least why n p ≡ Sound
unfolding refuse_least
refuse_none why n p f =
    let e : least n p ≡ n = least_is n p n (record { le = omega arith; before = f; here = λ h. absurd (omega arith) }) in
    rw (e, le-ltb n n (omega arith))

-- a search that stops at v
pub refuse_at : (why : Fault) (n : ℕ) (p : ℕ → Bool) (v : ℕ) → v < n → NoneBelow p v → p v ≡ true → refuse_least why n p ≡ Refused why v
unfolding refuse_least
refuse_at why n p v h none e = rw (least_is n p v (record { le = omega arith; before = none; here = λ _. e }), lt-ltb v n h) refl

pub refuse_view : (why : Fault) (n : ℕ) (p : ℕ → Bool) → (refuse_least why n p ≡ Sound) ⊎ ((v : ℕ) × (refuse_least why n p ≡ Refused why v))
unfolding refuse_least
refuse_view why n p = by_cases (ltb (least n p) n) (λ t. inr (least n p, rw t refl)) (λ t. inl (rw t refl))

-- what a refusal by the least machine tells
pub record RefusedAt (n : ℕ) (p : ℕ → Bool) (v : ℕ) : Type 0 where
  pub machine : v < n
  pub fails : p v ≡ true
  pub before : NoneBelow p v

pub refused-at : (why : Fault) (n : ℕ) (p : ℕ → Bool) {v : ℕ} → refuse_least why n p ≡ Refused why v → RefusedAt n p v
unfolding refuse_least
refused-at why n p {v} e = by_cases (ltb (least n p) n)
    (λ t.
    let f : Refused why (least n p) ≡ Refused why v = rw t at e in
    let k : v ≡ least n p = cc in
    let l = least_has n p in
    let h = ltb-true (least n p) n t in
    rw k (record { machine = h; fails = l.here h; before = l.before }))
    (λ t. let f : Sound ≡ Refused why v = rw t at e in not_both f refl)
