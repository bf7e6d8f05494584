-- More links, fewer chokes: what more links leave parted, fewer do.
use Prim.Native.Nat.{ℕ}
use Rattle.graph.specs.Walk.{Relation, Walk}
use Rattle.graph.specs.Choke.{Without, Choke}
use Rattle.graph.proofs.Walks.{map}

pub fewer_chokes : {n : ℕ} {R Q : Relation} {w : ℕ} → ((a b : ℕ) → R a b → Q a b) → Choke n Q w → Choke n R w
fewer_chokes {R = R} {w = w} f k =
    let parted : ¬ Walk (Without R w) k.one k.two = λ p. k.parted (map (λ a b s. (s.0, s.1, f a b s.2)) p) in
    search
