-- What stands on a list: the library's laws under short names, and machines told on or off a list by looking.
pub use mathlib.Core.List.Memᴰ.{append_cases as parts}
pub use mathlib.Core.List.Memᴰ.{append_left as on-left}
pub use mathlib.Core.List.Memᴰ.{append_right as on-right}
pub use mathlib.Core.List.Memᴰ.{cases_cons as cases}
pub use mathlib.Core.List.Memᴰ.{cast}
pub use mathlib.Core.List.Memᴰ.{eq_of_singleton as single}
pub use mathlib.Core.List.Memᴰ.{head as here}
pub use mathlib.Core.List.Memᴰ.{not-nil as empty}
pub use mathlib.Core.List.Memᴰ.{tail as there}
use mathlib.Core.Path.{◌≡◌, sym}
use mathlib.Core.List.{List, ◌∷◌}
use mathlib.Core.Logic.{◌≢◌}
use native.Mathlib.Decide.{ℕ_discrete}
use Prim.Native.Nat.{ℕ}
use Rattle.plain.specs.Member.{◌∈◌}
use Rattle.plain.proofs.Decide.{member?}

infix 4 ◌⊆◌
abbrev pub ◌⊆◌ : {A : Type 0} → List A → List A → Type 0
◌⊆◌ {A} l s = (m : A) → m ∈ l → m ∈ s

abbrev pub Disjoint : List ℕ → List ℕ → Type 0
Disjoint l s = (m : ℕ) → m ∈ l → ¬ (m ∈ s)

-- what l and s have in common is at most z
abbrev pub Only : ℕ → List ℕ → List ℕ → Type 0
Only z l s = (m : ℕ) → m ∈ l → m ∈ s → m ≡ z

abbrev pub find : (m : ℕ) (l : List ℕ) → Dec (m ∈ l)
find = member? ℕ_discrete

-- what is on l is not what is off it
pub apart : {m x : ℕ} {l : List ℕ} → ¬ (x ∈ l) → m ∈ l → m ≢ x
apart f h e = f (cast (sym e) h)

pub keep : {A : Type 0} {x : A} {l s : List A} → l ⊆ s → x ∷ l ⊆ x ∷ s
keep g m (here e) = here e
keep g m (there h) = there (g m h)
