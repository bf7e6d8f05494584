-- The lent slices hold what was read, in their front parts. So the next record over the slices is the file's next record, and what is laid back over
-- them holds what was read by then.
use mathlib.Core.Path.{◌≡◌, refl}
use mathlib.Core.List.{List}
use Prim.Native.Nat.{ℕ}
use lib.ListN.{length, drop}
use lib.Seq.{take-append_seam, take_at}
use Rattle.tables.specs.Report.{Bytes}
use Rattle.sitefile.specs.File.{Read, begin, reader_of, step}
use Rattle.sitefile.specs.Next.{Room, read_of, holding, step_over, next_of}
use Rattle.sitefile.proofs.ReadNext.{says_fit}
use Rattle.sitefile.proofs.Stepping.{Led, entries}

abbrev pub Holds : Read → Room → Type 0
Holds r room = read_of (reader_of r) room ≡ r

pub holds_begin : (room : Room) → Holds begin room
unfolding read_of
holds_begin room = refl

-- whatever the outputs are
pub holds : {r : Read} (room : Room) → Led r → (o : Bytes) → Holds r (holding r room o)
unfolding read_of holding
holds {r} room l o =
    let t = r.tables in
    let u = room.tables in
    rw (take-append_seam r.up (drop (length r.up) room.up), take-append_seam r.opened (drop (length r.opened) room.batch), take_at t.depth (drop (length t.depth) u.depth) (entries r) l.tables.depth, take_at t.group (drop (length t.group) u.group) (entries r) l.tables.group, take_at t.mark (drop (length t.mark) u.mark) (entries r) l.tables.mark)

-- the next record over the slices is the file's
pub next_is : (bytes : List ℕ) {r : Read} (room : Room) → Led r → Holds r room → next_of bytes (reader_of r) room ≡ step_over (step bytes r) room
unfolding next_of
next_is bytes {r} room l h = rw ((says_fit (reader_of r)).takes (l.few, (l.ups, (l.inside, l.pairs))), h)
