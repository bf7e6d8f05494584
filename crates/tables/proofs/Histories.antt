-- Batches only cut the links into pieces: an accepted batch has good links, a history's tables are those of its links, and each good link is
-- an accepted batch of its own.
use mathlib.Core.Path.{◌≡◌, refl, sym, ap, ◌∙◌}
use mathlib.Core.List.Memᴰ
use mathlib.Core.List.{List, [], ◌∷◌, ◌++◌, append-nil, append_assoc, map}
use mathlib.Core.Logic.{⊎_elim, ◌↔◌}
use Prim.Native.Nat.{ℕ}
use lib.ListN.{length}
use borrow.Author.Tests.{ne_eqb, lt-leb}
use Rattle.graph.specs.Cable.{Cables}
use Rattle.graph.proofs.Members.{here, there, empty, single, parts}
use Rattle.tables.specs.Batch.{pairs, alone, numbers_verdict, ends_verdict, batch_verdict, after}
use Rattle.tables.specs.Links.{Good, AllGood, tables_with}
use Rattle.tables.specs.History.{History, Accepted, Left, Lived, links, leaves, OnlyLinks}
use Rattle.tables.specs.Tables.{Tables, fresh}
use Rattle.tables.specs.Tree.{alone_verdict}
use Rattle.tables.specs.Verdict.{Sound, checks}
use Rattle.tables.proofs.Verdicts.{all_sound}
use Rattle.tables.proofs.Standing.{ends_good, good_ends, standing}
use Rattle.tables.proofs.Links.{after-append}

pub batch_good : (n : ℕ) (batch : List ℕ) → batch_verdict n batch ≡ Sound → AllGood n (pairs batch)
unfolding batch_verdict
batch_good n batch e = ends_good n 0 (pairs batch) (all_sound _ e).1.0

pub links_good : (n : ℕ) (h : History) → Accepted n h → AllGood n (links h)
unfolding links
links_good n [] f p m = absurd (empty m)
links_good n (batch ∷ h) f p m =
    ⊎_elim (batch_good n batch (f batch (here refl)) p) (links_good n h (λ b k. f b (there k)) p) (parts (pairs batch) m)

pub links-append : (g h : History) → links (g ++ h) ≡ links g ++ links h
unfolding links
links-append [] h = refl
links-append (b ∷ g) h = ap (λ l. pairs b ++ l) (links-append g h) ∙ sym (append_assoc (pairs b) (links g) (links h))

pub links_more : (h : History) (batch : List ℕ) → links (h ++ (batch ∷ [])) ≡ links h ++ pairs batch
unfolding links
links_more h batch = links-append h (batch ∷ []) ∙ ap (λ l. links h ++ l) (append-nil (pairs batch))

leaves_after : (up : List ℕ) (h : History) (t : Tables) → leaves up h t ≡ after up (links h) t
unfolding leaves links after
leaves_after up [] t = refl
leaves_after up (batch ∷ h) t = leaves_after up h (after up (pairs batch) t) ∙ sym (after-append up (pairs batch) (links h) t)

pub links_alone : (l : Cables) → links (map alone l) ≡ l
unfolding links pairs
links_alone [] = refl
links_alone (p ∷ l) = ap (λ k. p ∷ k) (links_alone l)

one_accepted : (n : ℕ) (p : ℕ × ℕ) → Good n p → batch_verdict n (alone p) ≡ Sound
unfolding batch_verdict numbers_verdict ends_verdict checks pairs
one_accepted n p g = rw (lt-leb n p.0 g.one, lt-leb n p.1 g.two, ne_eqb p.0 p.1 g.apart)

pub alone_accepted : (n : ℕ) (l : Cables) → AllGood n l → Accepted n (map alone l)
alone_accepted n l g batch m = let (p, i, e) = Memᴰ.of_map alone l m in rw (← e) (one_accepted n p (g p i))

pub lived_none : {up : List ℕ} → alone_verdict up ≡ Sound → Lived up []
lived_none e = record { tree = e; batches = λ b i. absurd (empty i) }

-- an accepted batch more
pub lived_more : {up : List ℕ} {h : History} (batch : List ℕ) → Lived up h → batch_verdict (length up) batch ≡ Sound → Lived up (h ++ (batch ∷ []))
lived_more {h = h} batch l e = record { tree = l.tree; batches = λ b i. ⊎_elim (l.batches b) (λ j. let q : b ≡ batch = single j in rw q e) (parts h i) }

pub only_links : OnlyLinks
only_links = record {
  stand = λ up h l. record { tree = l.tree; ends = good_ends (length up) 0 (links h) (links_good (length up) h l.batches) };
  leave = λ up h. leaves_after up h (fresh up);
  lived = λ up l s. (map alone l, record { tree = s.tree; batches = alone_accepted (length up) l (standing s).good }, links_alone l);
}

-- some history leaves the tables where some good links do
pub left_links : (up : List ℕ) (t : Tables) → Left up t ↔ ((l : Cables) × AllGood (length up) l × (tables_with up l ≡ t))
left_links up t = (
  λ (h, f, e). (links h, links_good (length up) h f, sym (leaves_after up h (fresh up)) ∙ e),
  λ (l, g, e). (map alone l, alone_accepted (length up) l g, leaves_after up (map alone l) (fresh up) ∙ rw links_alone e),
)
