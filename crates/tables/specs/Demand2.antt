-- Demand 2: after any run of batches a machine is named exactly when taking it out leaves two other machines with no path between them,
-- and an uplink exactly when taking out that one cable parts its two ends.
use Rattle.std.specs.Prelude.{◌≡◌, List, ◌∷◌, ◌++◌, ◌≢◌, ◌↔◌, ℕ, ◌<◌, ◌≤◌, length}
use Rattle.plain.specs.Member.{◌∈◌}
use Rattle.plain.specs.Table.{at}
use Rattle.graph.specs.Walk.{Walk}
use Rattle.graph.specs.Path.{Once}
use Rattle.graph.specs.Cable.{Cables, Linked}
use Rattle.tables.specs.Verdict.{Sound}
use Rattle.tables.specs.Answer.{Answer}
use Rattle.tables.specs.Tree.{hub, alone_verdict}
use Rattle.tables.specs.Tables.{Tables, lengths_verdict}
use Rattle.tables.specs.Links.{Stands, tables_with, SiteOf}
use Rattle.tables.specs.History.{History, links}
use Rattle.tables.specs.Rules.{tables_verdict}
use Rattle.tables.specs.Report.{Bytes, machine_bytes}
use Rattle.tables.specs.Outcome.{Outcome, report_of}
use Rattle.tables.specs.Calls.{accepted_of, ran}
use Rattle.tables.specs.Cables.{cables, ChokeMachine, ChokeUplink}

-- the report names exactly the chokes of the site with these links; a choke hub's byte is 2, a link byte is 1 or 0
pub record Reported (up : List ℕ) (links : Cables) (r : Outcome Answer Bytes) : Type 0 where
  pub done : r.answer.code ≡ 0
  pub machines : (w : ℕ) → w < length up → (at r.lent.machines w ≢ 0) ↔ ChokeMachine up links w
  pub hub_byte : (w : ℕ) → w < length up → (at r.lent.machines w ≡ 2) ↔ ((w ≡ hub up) × ChokeMachine up links w)
  pub uplinks : (v : ℕ) → v < length up → (at r.lent.links v ≡ 1) ↔ ChokeUplink up links v
  pub link_byte : (v : ℕ) → v < length up → at r.lent.links v ≤ 1

-- the value is the number of machines that these bytes name: there is a list of them, each once, of that length
pub record Counted (bytes : List ℕ) (value : ℕ) : Type 0 where
  pub list : List ℕ
  pub once : Once list
  pub those : (w : ℕ) → (w ∈ list) ↔ (at bytes w ≢ 0)
  pub size : length list ≡ value

-- cross links are never chokes: taking one out leaves its ends joined
abbrev pub CrossSpare : List ℕ → Cables → Type 0
CrossSpare up links = (xs ys : Cables) (a b : ℕ) → links ≡ xs ++ ((a, b) ∷ ys) → Walk (Linked (cables up (xs ++ ys))) a b

-- of the site with these links and these tables: every report names the chokes and counts the machines that it names, and cross links are spare
pub record ChokesNamed (up : List ℕ) (links : Cables) (t : Tables) : Type 0 where
  pub reports : (o : Bytes) → length o.machines ≡ length up → length o.links ≡ length up → (let r = report_of up t o in Reported up links r × Counted r.lent.machines r.answer.value)
  pub cross_links : CrossSpare up links

-- r can be relied on: t are the tables of some links that stand, and r names exactly the chokes of the site with just these links, whichever they are
pub record Relied (up : List ℕ) (t : Tables) (r : Outcome Answer Bytes) : Type 0 where
  pub site : SiteOf up t
  pub reported : (s : SiteOf up t) → Reported up s.links r
  pub counted : Counted r.lent.machines r.answer.value

pub record Demand2 : Type 0 where
  -- after any run of batches, refused ones among them: Start, and an Add for each; the links are those of the accepted ones
  pub after_calls : (up : List ℕ) (run : History) (t : Tables) → alone_verdict up ≡ Sound → lengths_verdict up t ≡ Sound
      → ChokesNamed up (links (accepted_of (length up) run)) (ran up run t)
  -- with any links that stand, however they came
  pub with_links : (up : List ℕ) (l : Cables) → Stands up l → ChokesNamed up l (tables_with up l)
  -- with any tables at all, where the answer is 0
  pub code_zero : (up : List ℕ) (t : Tables) (o : Bytes) → (report_of up t o).answer.code ≡ 0 → Relied up t (report_of up t o)
  -- reason 3 never happens on tables that meet the rules
  pub never_three : (up : List ℕ) (t : Tables) → length t.depth ≡ length up → length t.group ≡ length up → length t.mark ≡ length up
      → tables_verdict up t ≡ Sound → (w : ℕ) → w < length up → at (machine_bytes up t) w ≤ 2
