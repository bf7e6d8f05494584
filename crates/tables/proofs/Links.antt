-- What the tables tell of the links that leave them: link after link, what they tell grows by that link.
use mathlib.Core.Path.{◌≡◌, refl}
use mathlib.Core.List.{List, [], ◌∷◌, ◌++◌, append-nil}
use mathlib.Core.Logic.{⊎_elim, ⊎_map}
use Prim.Native.Nat.{ℕ}
use lib.ListN.{length}
use Rattle.plain.specs.Member.{◌∈◌}
use Rattle.graph.specs.Cable.{Cables, Linked, Within}
use Rattle.graph.proofs.Cables.{flip, linked_near}
use Rattle.graph.proofs.Members.{keep, here, there, cases, empty, parts, on-left, on-right}
use Rattle.rings.specs.Network.{Network}
use Rattle.tables.specs.Batch.{after}
use Rattle.tables.specs.Link.{linked}
use Rattle.tables.specs.Links.{AllGood, tables_with, SiteOf}
use Rattle.tables.specs.Tables.{Tables, fresh}
use Rattle.tables.specs.Tree.{depth_of}
use Rattle.tables.specs.AsTree.{tree_of}
use Rattle.tables.specs.Demand1.{SoundTree}
use Rattle.tables.proofs.Sound.{rooted, sound_tree}
use Rattle.tables.proofs.Standing.{standing}
use Rattle.tables.proofs.Naming.{told_more}
use Rattle.tables.proofs.Told.{Told, told_map, fresh_told}

pub after-append : (up : List ℕ) (l k : Cables) (t : Tables) → after up (l ++ k) t ≡ after up k (after up l t)
unfolding after
after-append up [] k t = refl
after-append up (p ∷ l) k t = after-append up l k (linked up p.0 p.1 t)

pub within : {n : ℕ} {l : Cables} → AllGood n l → Within n l
within g a b m = ((g (a, b) m).one, (g (a, b) m).two)

-- the network of the links
pub network : {up : List ℕ} {l : Cables} → SoundTree up → AllGood (length up) l → Network (tree_of up) (Linked l)
network {up} {l} s g = record { rank = depth_of up; rooted = rooted s; flip = flip l; near = λ a b m. (linked_near l (within g) a b m).0 }

front : {p q : ℕ × ℕ} (l k : Cables) → q ∈ l ++ (p ∷ k) → q ∈ p ∷ (l ++ k)
front l k m = ⊎_elim (λ i. there (on-left k i)) (λ i. ⊎_elim here (λ j. there (on-right l j)) (cases i)) (parts l m)

inner : {p q : ℕ × ℕ} (l k : Cables) → q ∈ p ∷ (l ++ k) → q ∈ l ++ (p ∷ k)
inner l k m = ⊎_elim (λ e. on-right l (here e)) (λ i. ⊎_elim (on-left _) (λ j. on-right l (there j)) (parts l i)) (cases m)

after_told : {up : List ℕ} (s : SoundTree up) (l k : Cables) {t : Tables} → AllGood (length up) (l ++ k) → Told up (Linked k) t → Told up (Linked (l ++ k)) (after up l t)
unfolding after ⊎_map
after_told s [] k g q = q
after_told s (p ∷ l) k g q =
    let e = g p (here refl) in
    let N = network s (λ r m. g r (keep (λ _. on-right l) r m)) in
    told_map (λ a b. ⊎_map (front l k) (front l k)) (λ a b. ⊎_map (inner l k) (inner l k))
    (after_told s l (p ∷ k) (λ r m. g r (front l k m)) (told_more s e.one e.two N q))

-- The tables that good links leave tell of them.
pub told : {up : List ℕ} {l : Cables} → SoundTree up → AllGood (length up) l → Told up (Linked l) (tables_with up l)
told {up} {l} s g =
    let z : Told up (Linked []) (fresh up) = fresh_told up (Linked []) (λ a b. ⊎_elim empty empty) in
    rw append-nil at (after_told s l [] (rw append-nil g) z)

-- The tables of a site tell of its links.
pub site_told : {up : List ℕ} {t : Tables} (k : SiteOf up t) → Told up (Linked k.links) t
site_told {up} k = let s = standing k.stands in rw k.left at (told (sound_tree up s.tree) s.good)
