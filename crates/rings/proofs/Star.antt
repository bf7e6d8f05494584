-- The laws can be met: a hub with two machines. Without a cross link between them it is a choke: they are two groups. With one it is not.
use mathlib.Core.Path.{◌≡◌, refl, ap}
use mathlib.Core.Logic.{inl, ⊎_elim, dite}
use mathlib.Core.List.{[], ◌∷◌}
use Prim.Native.Nat.{ℕ}
use native.Mathlib.Decide.{ℕ_discrete}
use native.Mathlib.Omega.{arith}
use Rattle.graph.specs.Walk.{stay, step}
use Rattle.graph.specs.Choke.{Choke}
use Rattle.graph.specs.Cable.{Cables, Within, Linked}
use Rattle.graph.proofs.Walks.{one_step}
use Rattle.graph.proofs.Members.{here, empty, single}
use Rattle.graph.proofs.Cables.{flip, linked_near}
use Rattle.rings.specs.Tree.{Tree, Uplink, Rooted}
use Rattle.rings.specs.Network.{Network, Cabled}
use Rattle.rings.specs.Group.{SameGroup}
use Rattle.rings.proofs.Groups.{mirror}
use Rattle.rings.proofs.Hubs.{hub_choke, hub_spare}

abbrev star : Tree
star = record { size = 3; hub = 0; up = λ v. 0 }

rooted : Rooted star (λ v. v)
rooted = record { low = λ r. omega (arith, r.to); falls = λ r. omega (arith, r.to, r.other) }

with_links : {E : Cables} → Within 3 E → Network star (Linked E)
with_links {E} q = record { rank = _; rooted = rooted; flip = flip E; near = λ a b l. (linked_near E q a b l).0 }

one : Uplink star 1 0
one = record { low = omega arith; other = omega arith; to = refl }

two : Uplink star 2 0
two = record { low = omega arith; other = omega arith; to = refl }

pub bare_choke : Choke 3 (Cabled star (Linked [])) 0
bare_choke = hub_choke (with_links (λ a b m. absurd (empty m))) (one, two, go refl refl)
  where
    go : {a b : ℕ} → a ≡ 1 → b ≡ 2 → ¬ SameGroup star (Linked []) 0 a b
    go p q stay = omega arith
    go p q (step j g) = ⊎_elim empty empty j.link

abbrev wire : Cables
wire = (1, 2) ∷ []

wired : Network star (Linked wire)
wired = with_links (λ a b m. let e = single m in (omega (arith, ap (λ p. p.0) e), omega (arith, ap (λ p. p.1) e)))

pub wired_none : ¬ Choke 3 (Cabled star (Linked wire)) 0
wired_none = hub_spare wired go
  where
    hop : {a b : ℕ} → a ≡ 1 → b ≡ 2 → SameGroup star (Linked wire) 0 a b
    hop p q = rw (p, q) (one_step (record { left = one; right = two; apart = omega arith; one = 1; two = 2; link = inl (here refl); below_left = stay; below_right = stay }))

    go : (c d : ℕ) → Uplink star c 0 → Uplink star d 0 → SameGroup star (Linked wire) 0 c d
    go c d r s = dite (ℕ_discrete c d) (λ e. rw e stay) λ o. dite (ℕ_discrete c 1)
        (λ p. hop p (omega (arith, r, s)))
        (λ p. mirror wired (hop (omega (arith, r, s)) (omega (arith, r, s))))
