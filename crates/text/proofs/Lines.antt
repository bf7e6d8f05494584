-- A loop that writes a piece of text for each number below n. All pieces are those below k, the next one, and the rest, so where there is room for
-- all there is room for the next.
use mathlib.Core.Path.{◌≡◌, refl, ap, ◌∙◌}
use mathlib.Core.List.{List, ◌++◌, append-nil, append_assoc}
use Prim.Native.Nat.{ℕ, zero, suc, ◌+◌, ◌-◌, ◌<◌}
use native.Mathlib.Omega.{arith}
use Rattle.text.specs.Text.{lines}
use Rattle.text.specs.declared.Page.{Page}
use Rattle.text.specs.Written.{Appends, HasRoom}
use Rattle.text.proofs.Appending as appending

split : (f : ℕ → List ℕ) (j k m i n : ℕ) → i ≡ j + k → n ≡ k + m → lines f j n ≡ lines f j k ++ lines f i m
unfolding lines
split f j zero m i n p q =
    let p' : i ≡ j = omega arith in
    let q' : n ≡ m = omega arith in
    rw (p', q')
split f j (suc k) m i n p q =
    let q' : n ≡ suc (k + m) = omega arith in
    rw (q', append_assoc) (ap (λ l. f j ++ l) (split f (suc j) k m i (k + m) (omega arith) refl))

pub start : (f : ℕ → List ℕ) (p : Page) → Appends p (lines f 0 0) p
unfolding lines
start f p = appending.none_yet p

pub room : (f : ℕ → List ℕ) (n k : ℕ) {p q : Page} → HasRoom p (lines f 0 n) → k < n → Appends p (lines f 0 k) q → HasRoom q (f k)
unfolding lines
room f n k {p} {q} h b a =
    let e : lines f 0 n ≡ lines f 0 k ++ (f k ++ lines f (suc k) (n - (k + 1))) = split f 0 k (suc (n - (k + 1))) k n (omega arith) (omega arith) in
    let h' : HasRoom p (lines f 0 k ++ (f k ++ lines f (suc k) (n - (k + 1)))) = appending.room_reworded p e h in
    appending.room_first q (f k) (lines f (suc k) (n - (k + 1))) (appending.room _ h' a)

pub next : (f : ℕ → List ℕ) (k : ℕ) {p q r : Page} → Appends q (f k) r → Appends p (lines f 0 k) q → Appends p (lines f 0 (k + 1)) r
unfolding lines
next f k b a =
    let e : lines f 0 (k + 1) ≡ lines f 0 k ++ f k = split f 0 k 1 k (k + 1) (omega arith) refl ∙ ap (λ x. lines f 0 k ++ x) (append-nil (f k)) in
    rw e (appending.then a b)
