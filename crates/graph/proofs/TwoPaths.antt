-- Whitney's theorem for two paths. Fix v and go back along a walk to it: two paths from y to v become two from u, one link further off, as u has a way
-- past y to the first machine on either of the two. The other way: w stands on at most one of two paths, so the other one goes round w.
use mathlib.Core.Path.{◌≡◌, refl, sym}
use mathlib.Core.List.{List, [], ◌∷◌}
use mathlib.Core.Logic.Dec
use mathlib.Core.Logic.{◌≢◌, ◌⊎◌, inl, inr, ⊎_elim, ⊎_map, dite}
use native.Mathlib.Decide.{ℕ_discrete, map_dec}
use native.Mathlib.Omega.{arith}
use Prim.Native.Nat.{ℕ, ◌≤◌, ◌<◌}
use Rattle.plain.specs.Member.{◌∈◌}
use Rattle.plain.proofs.Decide.{or?}
use Rattle.graph.specs.Walk.{Relation, Walk, stay, step}
use Rattle.graph.specs.Choke.{Without, Choke}
use Rattle.graph.specs.Cable.{Linked}
use Rattle.graph.specs.Path.{Path, done, hop, TwoPaths}
use Rattle.graph.specs.Statements.{TwoPathsExactly}
use Rattle.graph.proofs.Walks.{map}
use Rattle.graph.proofs.Reach.{walk?}
use Rattle.graph.proofs.Members.{Only, find, apart, there, cases, single, cast}
use Rattle.graph.proofs.Paths.{first_on, last_on, wider, avoids, walk, rest, upto, joined, simple}
use Rattle.graph.proofs.Cables.{linked?, linked_near}

abbrev Share : ℕ → ℕ → List ℕ → List ℕ → Type 0
Share u v p q = (m : ℕ) → m ∈ p → m ∈ q → (m ≡ u) ⊎ (m ≡ v)

-- where any two machines are joined so, none is a choke
none_choke : {n : ℕ} {R : Relation} → ((u v : ℕ) → u < n → v < n → u ≢ v → TwoPaths R u v) → (w : ℕ) → w < n → ¬ Choke n R w
none_choke two w w< c = c.parted (elim (ℕ_discrete c.one c.two) [
  | yes e ↦ rw e stay
  | no n ↦
      let b = two c.one c.two c.one_in c.two_in n in
      elim (find w b.on) [
        | yes h ↦ walk b.two (λ k. ⊎_elim (λ e. c.one_other (sym e)) (λ e. c.two_other (sym e)) (b.share w h k))
        | no f ↦ walk b.one f
      ]
])

-- no choke, said positively: with any machine w down, any two others still reach each other
abbrev Sturdy : ℕ → Relation → Type 0
Sturdy n R = (w x y : ℕ) → w < n → x < n → y < n → x ≢ w → y ≢ w → Walk (Without R w) x y

-- a machine other than two
third : {n : ℕ} → 3 ≤ n → (u v : ℕ) → (t : ℕ) × ((t < n) × (t ≢ u) × (t ≢ v))
third l u v = elim (ℕ_discrete u 0) [
  | yes e ↦ elim (ℕ_discrete v 1) [ yes f ↦ (2, omega arith) | no f ↦ (1, omega arith) ]
  | no e ↦ elim (ℕ_discrete v 0) [
    | yes f ↦ elim (ℕ_discrete u 1) [ yes g ↦ (2, omega arith) | no g ↦ (1, omega arith) ]
    | no f ↦ (0, omega arith)
  ]
]

-- a machine on the second of two paths that is no end tells them apart
differ : {u v m : ℕ} {p q : List ℕ} → Share u v p q → m ∈ q → m ≢ u → m ≢ v → p ≢ q
differ {m = m} share h mu mv e = ⊎_elim mu mv (share m (rw e h) h)

module _ {R : Relation} where
  -- a link from u to v, beside a way round through z
  round : {u v t z : ℕ} {l p : List ℕ} → R u v → u ≢ v → t ≢ u
      → Path (Without R u) t v p → Path (Without R v) u z l → z ∈ p → Only z l p → TwoPaths R u v
  round {u} {v} {z = z} r uv tu P T h only =
      let tail = rest (wider P) h in
      let all = joined (wider T) tail.path (λ m i k. only m i (tail.within m k)) in
      let share : Share u v (u ∷ v ∷ []) all.on = λ m i k. ⊎_map (λ e. e) (λ j. single j) (cases i) in
      record {
        on = u ∷ v ∷ [];
        by = all.on;
        one = hop r (λ i. uv (single i)) done;
        two = all.path;
        share = share;
        differ = differ share (all.later z (first_on tail.path)) (apart (avoids P tu) h) (apart (avoids T uv) (last_on T));
      }

  -- a link from u to y, two paths from y to v, and a way from u past y to z on the first of them
  longer : {u y v z : ℕ} {l p q : List ℕ} → R u y → u ≢ v → u ≢ y → y ≢ v
      → Path R y v p → Path R y v q → Share y v p q
      → Path (Without R y) u z l → z ∈ p → Only z l p → Only z l q → TwoPaths R u v
  longer {u} {y} {v} {z} {l} {p} {q} r uv uy yv P Q share T h only-p only-q =
      let off = avoids T uy in
      let tail = rest P h in
      let all = joined (wider T) tail.path (λ m i k. only-p m i (tail.within m k)) in
      let on-p : (m : ℕ) → m ∈ all.on → m ∈ q → (m ∈ p) × (m ≢ y) = λ m i k. elim (all.within m i) [
        | inl j ↦ (cast (only-q m j k) h, apart off j)
        | inr j ↦ (tail.within m j, apart (tail.past (apart off (last_on T))) j)
      ] in
      let ends : Share u v all.on (u ∷ q) = λ m i k. ⊎_map (λ e. e)
      (λ j. let s = on-p m i j in ⊎_elim (λ e. absurd (s.1 e)) (λ e. e) (share m s.0 j)) (cases k) in
      record {
        on = all.on;
        by = u ∷ q;
        one = all.path;
        two = hop r (λ i. ⊎_elim uy uv (share u (cast (only-q u (first_on T) i) h) i)) Q;
        share = ends;
        differ = differ ends (there (first_on Q)) (λ e. uy (sym e)) yv;
      }

module _ {n : ℕ} {R : Relation} (many : 3 ≤ n) (near : (a b : ℕ) → R a b → (a < n) × (b < n)) (sturdy : Sturdy n R) where
  base : {u v : ℕ} → u < n → v < n → u ≢ v → R u v → TwoPaths R u v
  base {u} {v} u< v< uv r =
      let t = third many u v in
      let P = simple (sturdy u t.0 v u< t.1.0 v< t.1.1 (λ e. uv (sym e))) in
      let T = upto {D = λ m. m ∈ P.0} (λ m. find m P.0) (simple (sturdy v u t.0 v< u< t.1.0 uv t.1.2)).1 (first_on P.1) in
      round r uv t.1.1 P.1 T.path T.meets T.only

  grow : {u y v : ℕ} → u < n → v < n → R u y → u ≢ v → u ≢ y → y ≢ v → TwoPaths R y v → TwoPaths R u v
  grow {u} {y} {v} u< v< r uv uy yv b =
      let T = upto {D = λ m. (m ∈ b.on) ⊎ (m ∈ b.by)} (λ m. or? (find m b.on) (find m b.by))
      (simple (sturdy y u v (near u y r).1 u< v< uy (λ e. yv (sym e)))).1 (inl (last_on b.one)) in
      let only-on : Only T.hit T.on b.on = λ m i k. T.only m i (inl k) in
      let only-by : Only T.hit T.on b.by = λ m i k. T.only m i (inr k) in
      elim T.meets [
        | inl h ↦ longer r uv uy yv b.one b.two b.share T.path h only-on only-by
        | inr h ↦ longer r uv uy yv b.two b.one (λ m i k. b.share m k i) T.path h only-by only-on
      ]

  along : {u v : ℕ} → Walk R u v → u < n → v < n → u ≢ v → TwoPaths R u v
  along stay u< v< uv = absurd (uv refl)
  along {v = v} (step {a = u} {b = y} r w) u< v< uv = elim (ℕ_discrete y v) [
    | yes e ↦ base u< v< uv (rw e at r)
    | no yv ↦
        let b = along w (near u y r).1 v< yv in
        elim (ℕ_discrete u y) [ yes e ↦ rw e b | no uy ↦ grow u< v< r uv uy yv b ]
  ]

  whitney : (u v : ℕ) → u < n → v < n → u ≢ v → TwoPaths R u v
  whitney u v u< v< uv =
      let t = third many u v in
      along (map (λ a b r. r.2) (sturdy t.0 u v t.1.0 u< v< (λ e. t.1.1 (sym e)) (λ e. t.1.2 (sym e)))) u< v< uv

pub two_paths : TwoPathsExactly
two_paths n E many near = (
  (λ none. whitney many (linked_near E near) (λ w x y w< x< y< xw yw. dite (round? w x y) (λ v. v) (λ f. absurd (none w w< (search))))),
  none_choke,
)
  where
    round? : (w x y : ℕ) → Dec (Walk (Without (Linked E) w) x y)
    round? w = walk? (Without (Linked E) w) n (λ a b r. (linked_near E near a b r.2).1)
        (λ a b. map_dec (λ k. search) (λ k. search)
        (Dec.and (Dec.and (Dec.not (ℕ_discrete a w)) (Dec.not (ℕ_discrete b w))) (linked? E a b)))
