-- A path says of its list what the plain words say, and the other way round: by going along the list.
use mathlib.Core.Path.{refl}
use mathlib.Core.List.{List, [], ◌∷◌}
use Prim.Native.Nat.{ℕ}
use Rattle.graph.specs.Walk.{Relation}
use Rattle.graph.specs.Path.{Path, done, hop, Starts, Ends, Next, now, further, Once, InWords}
use Rattle.graph.specs.Statements.{PathsInWords}
use Rattle.graph.proofs.Members.{empty}

nowhere : {a b : ℕ} → ¬ Next a b []
nowhere n = elim n [ ]

module _ {R : Relation} where
  starts : {a c : ℕ} {l : List ℕ} → Path R a c l → Starts a l
  starts done = refl
  starts (hop r f p) = refl

  ends : {a c : ℕ} {l : List ℕ} → Path R a c l → Ends c l
  ends done = refl
  ends (hop r f done) = refl
  ends (hop r f (hop s g p)) = ends (hop s g p)

  once : {a c : ℕ} {l : List ℕ} → Path R a c l → Once l
  once done = (empty, tt)
  once (hop r f p) = (f, once p)

  linked : {a c x y : ℕ} {l : List ℕ} → Path R a c l → Next x y l → R x y
  linked done (further n) = absurd (nowhere n)
  linked (hop r f done) (now e g) = rw (e, g) r
  linked (hop r f (hop s h p)) (now e g) = rw (e, g) r
  linked (hop r f p) (further n) = linked p n

  path : {a c : ℕ} (l : List ℕ) → InWords R a c l → Path R a c l
  path [] p = absurd p.starts
  path (x ∷ []) p = rw (← p.starts, ← p.ends) done
  path (x ∷ y ∷ l) p = rw (← p.starts) (hop (p.linked x y (now refl refl)) (p.once).0
      (path (y ∷ l) (record { starts = refl; ends = p.ends; linked = λ u v n. p.linked u v (further n); once = (p.once).1 })))

pub in_words : PathsInWords
in_words R a c l = (λ p. record { starts = starts p; ends = ends p; linked = λ x y n. linked p n; once = once p }, path l)
