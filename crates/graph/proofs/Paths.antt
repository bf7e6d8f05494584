-- Paths cut and joined: the rest of a path from one of its machines, a path up to the first machine that meets a test, two paths as one;
-- and a walk made a path, its loops cut out from its end on.
use mathlib.Core.Path.{◌≡◌, refl, sym}
use mathlib.Core.List.{List, [], ◌∷◌, ◌++◌}
use mathlib.Core.Logic.{◌≢◌, ◌⊎◌, inl, inr, ⊎_elim, ⊎_map}
use Prim.Native.Nat.{ℕ}
use Rattle.plain.specs.Member.{◌∈◌}
use Rattle.graph.specs.Walk.{Relation, Walk, stay, step}
use Rattle.graph.specs.Choke.{Without}
use Rattle.graph.specs.Path.{Path, done, hop}
use Rattle.graph.proofs.Members.{◌⊆◌, Disjoint, Only, find, keep, here, there, empty, cases, single, parts, cast, on-left, on-right}

-- what is left of a path on l, from a to c, at its machine z
pub record Rest (R : Relation) (a z c : ℕ) (l : List ℕ) : Type 0 where
  pub on : List ℕ
  pub path : Path R z c on
  pub within : on ⊆ l
  pub past : z ≢ a → ¬ (a ∈ on)

-- the part of a path on l, from a, up to the first machine that meets a test
pub record Upto (R : Relation) (D : ℕ → Type 0) (a : ℕ) (l : List ℕ) : Type 0 where
  pub hit : ℕ
  pub on : List ℕ
  pub path : Path R a hit on
  pub within : on ⊆ l
  pub meets : D hit
  pub only : (m : ℕ) → m ∈ on → D m → m ≡ hit

-- a path on l, and from its last machine one on s to c, as one
pub record Joined (R : Relation) (a c : ℕ) (l s : List ℕ) : Type 0 where
  pub on : List ℕ
  pub path : Path R a c on
  pub within : (m : ℕ) → m ∈ on → (m ∈ l) ⊎ (m ∈ s)
  pub later : s ⊆ on

module _ {R : Relation} where
  pub first_on : {a c : ℕ} {l : List ℕ} → Path R a c l → a ∈ l
  first_on done = here refl
  first_on (hop r f p) = here refl

  pub last_on : {a c : ℕ} {l : List ℕ} → Path R a c l → c ∈ l
  last_on done = here refl
  last_on (hop r f p) = there (last_on p)

  pub wider : {w a c : ℕ} {l : List ℕ} → Path (Without R w) a c l → Path R a c l
  wider done = done
  wider (hop r f p) = hop r.2 f (wider p)

  pub avoids : {w a c : ℕ} {l : List ℕ} → Path (Without R w) a c l → a ≢ w → ¬ (w ∈ l)
  avoids done n (here e) = n (sym e)
  avoids done n (there h) = empty h
  avoids (hop r f p) n (here e) = n (sym e)
  avoids (hop r f p) n (there h) = avoids p r.1 h

  -- a path off w, as a walk without w
  pub walk : {w a c : ℕ} {l : List ℕ} → Path R a c l → ¬ (w ∈ l) → Walk (Without R w) a c
  walk done f = stay
  walk (hop r g p) f = step (λ e. f (here (sym e)), λ e. f (there (cast (sym e) (first_on p))), r) (walk p (λ h. f (there h)))

  entire : {a c z : ℕ} {l : List ℕ} → z ≡ a → Path R a c l → Rest R a z c l
  entire {l} e p = record { on = l; path = rw e p; within = λ m h. h; past = λ n. absurd (n e) }

  pub rest : {a c z : ℕ} {l : List ℕ} → Path R a c l → z ∈ l → Rest R a z c l
  rest done (here e) = entire e done
  rest done (there h) = absurd (empty h)
  rest (hop r f p) (here e) = entire e (hop r f p)
  rest (hop {a = a} r f p) (there h) =
      let t = rest p h in
      record { on = t.on; path = t.path; within = λ m k. there (t.within m k); past = λ n k. f (t.within a k) }

  pub simple : {a c : ℕ} → Walk R a c → (l : List ℕ) × Path R a c l
  simple stay = (_, done)
  simple (step {a = a} r w) =
      let t = simple w in
      elim (find a t.0) [ yes h ↦ (let s = rest t.1 h in (s.on, s.path)) | no f ↦ (a ∷ t.0, hop r f t.1) ]

  pub upto : {D : ℕ → Type 0} → ((m : ℕ) → Dec (D m)) → {a c : ℕ} {l : List ℕ} → Path R a c l → D c → Upto R D a l
  upto dec done d = record { hit = _; on = _; path = done; within = λ m h. h; meets = d; only = λ m h e. single h }
  upto dec (hop {a = a} r f p) d =
      let t = upto dec p d in
      elim (dec a) [
        | yes y ↦ record { hit = a; on = a ∷ []; path = done; meets = y; within = λ m h. here (single h); only = λ m h e. single h }
        | no n ↦ record {
          hit = t.hit;
          on = a ∷ t.on;
          path = hop r (λ h. f (t.within a h)) t.path;
          meets = t.meets;
          within = keep t.within;
          only = λ m h e. elim (cases h) [ inl i ↦ absurd (n (rw i at e)) | inr i ↦ t.only m i e ];
        }
      ]

  -- over the link r from one path to another
  bridge : {a b c d : ℕ} {l s : List ℕ} → Path R a b l → R b c → Path R c d s → Disjoint l s → Path R a d (l ++ s)
  bridge done r q n = hop r (n _ (here refl)) q
  bridge (hop {l = l} t f p) r q n =
      hop t (λ h. ⊎_elim f (n _ (here refl)) (parts l h)) (bridge p r q (λ m h. n m (there h)))

  pub joined : {a z c : ℕ} {l s : List ℕ} → Path R a z l → Path R z c s → Only z l s → Joined R a c l s
  joined {l} p done only = record
      { on = l; path = p; within = λ m h. inl h; later = λ m h. cast (single h) (last_on p) }
  joined {l} p (hop {l = s} r f q) only = record {
    on = l ++ s;
    path = bridge p r q (λ m h k. f (cast (sym (only m h (there k))) k));
    within = λ m h. ⊎_map (λ k. k) (λ k. there k) (parts l h);
    later = λ m h. ⊎_elim (λ e. on-left s (cast e (last_on p))) (λ k. on-right l k) (cases h);
  }
