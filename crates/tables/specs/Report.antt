-- What the report says: a byte for each machine, and one for each uplink. Each test takes what it reads; h is the hub.
use Rattle.std.specs.Prelude.{Bool, cond, ◌&&◌, ◌||◌, not, List, ℕ, length, leb, eqb}
use Rattle.plain.specs.Search.{some, count}
use Rattle.plain.specs.Table.{at, tabulate}
use Rattle.tables.specs.Tree.{hub}
use Rattle.tables.specs.Tables.{Tables}

-- c is a child of w; the hub is no child
unfoldable pub child : ℕ → List ℕ → ℕ → ℕ → Bool
child h up w c = not (eqb c h) && eqb (at up c) w

-- m is a carried member of group g
abbrev pub carried_member : List ℕ → List ℕ → ℕ → ℕ → Bool
carried_member group mark g m = eqb (at group m) g && eqb (at mark m) 2

-- c is a child of w whose group has no carried member
abbrev pub stuck_child : ℕ → List ℕ → List ℕ → List ℕ → ℕ → ℕ → Bool
stuck_child h up group mark w c = child h up w c && not (some (length up) (carried_member group mark (at group c)))

-- line 1: some child's group has no carried member
unfoldable pub stuck : ℕ → List ℕ → List ℕ → List ℕ → ℕ → Bool
stuck h up group mark w = some (length up) (stuck_child h up group mark w)

-- c and d are children of w in two groups
abbrev pub in_two : ℕ → List ℕ → List ℕ → ℕ → ℕ → ℕ → Bool
in_two h up group w c d = child h up w c && (child h up w d && not (eqb (at group c) (at group d)))

-- line 2: the children are in two or more groups
unfoldable pub split : ℕ → List ℕ → List ℕ → ℕ → Bool
split h up group w = some (length up) (λ c. some (length up) (in_two h up group w c))

-- the uplink of v ends at w: it is w's own or a child's
unfoldable pub ends : ℕ → List ℕ → ℕ → ℕ → Bool
ends h up w v = not (eqb v h) && (eqb v w || eqb (at up v) w)

-- the uplink of v ends at w and is lone
abbrev pub lone_end : ℕ → List ℕ → List ℕ → ℕ → ℕ → Bool
lone_end h up mark w v = ends h up w v && eqb (at mark v) 0

-- line 3: w ends a lone uplink and two or more uplinks end at w
unfoldable pub lone : ℕ → List ℕ → List ℕ → ℕ → Bool
lone h up mark w = some (length up) (lone_end h up mark w) && leb 2 (count (length up) (ends h up w))

-- the machine byte of w: the first that applies
unfoldable pub machine_byte : ℕ → List ℕ → List ℕ → List ℕ → ℕ → ℕ
machine_byte h up group mark w =
    cond (not (eqb w h) && stuck h up group mark w) 1
    (cond (eqb w h && split h up group w) 2
    (cond (lone h up mark w) 3 0))

-- the link byte of v: 1 if v is not the hub and its mark is 0
abbrev pub link_byte : ℕ → List ℕ → ℕ → ℕ
link_byte h mark v = cond (not (eqb v h) && eqb (at mark v) 0) 1 0

-- how many bytes are not 0
unfoldable pub named : List ℕ → ℕ
named bytes = count (length bytes) (λ w. not (eqb (at bytes w) 0))

-- the report's two outputs
pub record Bytes : Type 0 where
  pub machines : List ℕ
  pub links : List ℕ

abbrev pub bytes_of : List ℕ → List ℕ → Bytes
bytes_of machines links = record { machines = machines; links = links }

-- all bytes, in number order
unfoldable pub machine_bytes : List ℕ → Tables → List ℕ
machine_bytes up t = tabulate (length up) (machine_byte (hub up) up t.group t.mark)

unfoldable pub link_bytes : List ℕ → Tables → List ℕ
link_bytes up t = tabulate (length up) (link_byte (hub up) t.mark)
