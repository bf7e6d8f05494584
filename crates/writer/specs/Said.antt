-- What a site file says, by the steps of the reader that `chokes` uses: its tree, and then its batches and reports in their order.
use Rattle.std.specs.Prelude.{cond, List, [], ◌∷◌, ℕ, zero, suc, length, eqb, ltb}
use Rattle.plain.specs.Table.{at}
use Rattle.sitefile.specs.File.{Read, reads, reports, ends, refuses, begin, step}
use Rattle.turns.specs.Printed.{most_bytes}

-- a batch is added, or a report is asked
pub data Act : Type 0 where
  adds : List ℕ → Act
  asks : Act

-- what a file says; or it is refused
pub data Said : Type 0 where
  says : List ℕ → List Act → Said
  nothing : Said

-- an act before the others
abbrev pub before : Act → Said → Said
before a (says up acts) = says up (a ∷ acts)
before a nothing = nothing

-- what the next k records say: a close adds the links that are open, and at the end the tree is that of the reader
unfoldable pub heard : ℕ → List ℕ → Read → Said
heard zero file r = nothing
heard (suc k) file r = elim (step file r) [
  | reads r' ↦ cond (eqb (at file r.place) 4) (before (adds r.opened) (heard k file r')) (heard k file r')
  | reports r' o ↦ before asks (heard k file r')
  | ends ↦ says r.up []
  | refuses refusal ↦ nothing
]

-- what a file says. Each record takes a byte, so there are no more than the file has
unfoldable pub said_by : List ℕ → Said
said_by file = cond (ltb most_bytes (length file)) nothing (heard (suc (length file)) file begin)
