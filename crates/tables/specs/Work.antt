-- How much work a site can ever cause: the values that Add returned over a run of batches, added up; the most that they come to; and a
-- history that reaches it.
use Rattle.std.specs.Prelude.{◌≡◌, cond, List, [], ◌∷◌, map, ℕ, ◌+◌, ◌*◌, ◌-◌, ◌≤◌, length, eqb}
use Rattle.plain.specs.Search.{count}
use Rattle.plain.specs.Table.{at, total}
use Rattle.graph.specs.Cable.{Cables}
use Rattle.tables.specs.Verdict.{Sound}
use Rattle.tables.specs.Answer.{Answer}
use Rattle.tables.specs.Tree.{hub, alone_verdict}
use Rattle.tables.specs.Tables.{Tables, lengths_verdict}
use Rattle.tables.specs.Batch.{alone}
use Rattle.tables.specs.History.{History, Accepted}
use Rattle.tables.specs.Report.{child}
use Rattle.tables.specs.Outcome.{start_of, add_of}
use Rattle.tables.specs.Cables.{uplinks}
use Rattle.tables.specs.Calls.{accepted_of, ran}

-- what an answer counts for: its value where the code is 0. A refusal's value is a place or a length, and counts for nothing
abbrev pub worth : Answer → ℕ
worth a = cond (eqb a.code 0) a.value 0

-- one Add after another, each over what the one before it left: what the answers count for, added up
unfoldable pub sum_of : List ℕ → History → Tables → ℕ
sum_of up [] t = 0
sum_of up (batch ∷ run) t = let r = add_of up batch t in worth r.answer + sum_of up run r.lent

-- the same from what Start leaves of lent tables
abbrev pub work : List ℕ → History → Tables → ℕ
work up run t = sum_of up run (start_of up t).lent

-- 2(n − 1) less the number of the hub's children, which are at most n − 1: the hub is none of them
unfoldable pub most_work : List ℕ → ℕ
most_work up = 2 * (length up - 1) - count (length up) (child (hub up) up (hub up))

-- a link for each machine but the hub, to the up of its up: for a child of the hub, whose up is the hub, a second cable to the hub
unfoldable pub hops : List ℕ → Cables
hops up = map (λ p. (p.0, at up p.1)) (uplinks up (length up))

-- each of them a batch of its own
unfoldable pub fullest : List ℕ → History
fullest up = map alone (hops up)

-- from what Start leaves of t, over any run of batches, refused ones among them
pub record WorkOf (up : List ℕ) (t : Tables) : Type 0 where
  -- the values that Add returned sum to the final marks added up
  pub sum : (run : History) → work up run t ≡ total (ran up run t).mark
  -- refused batches add nothing and change nothing: it is as if only the accepted ones had come
  pub refused_nothing : (run : History) → (let h = accepted_of (length up) run in (work up run t ≡ work up h t) × (ran up run t ≡ ran up h t))
  -- the sum never passes the bound
  pub bound : (run : History) → work up run t ≤ most_work up
  -- and a history of accepted batches reaches it
  pub reached : Accepted (length up) (fullest up) × (work up (fullest up) t ≡ most_work up)

-- for every tree that is not refused, and any tables of the right lengths
abbrev pub Work : Type 0
Work = (up : List ℕ) (t : Tables) → alone_verdict up ≡ Sound → lengths_verdict up t ≡ Sound → WorkOf up t
