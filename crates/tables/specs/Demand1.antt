-- Demand 1: bad trees, tables and links are refused by number and place, and no byte of the caller's changes. Over a sound tree, tables
-- handed back are refused exactly when no run of accepted batches could have left them.
use Rattle.std.specs.Prelude.{◌≡◌, true, false, List, [], ◌∷◌, ◌++◌, ◌≢◌, ◌⊎◌, ◌↔◌, ℕ, ◌<◌, ◌≤◌, length}
use Rattle.plain.specs.Member.{◌∈◌}
use Rattle.plain.specs.Table.{at}
use Rattle.graph.specs.Cable.{Cables}
use Rattle.tables.specs.Verdict.{Fault, number_of, Verdict, Sound, Refused}
use Rattle.tables.specs.Tree.{hub, Inside, Reaches, size_verdict, entries_verdict, hubs_verdict, reach_verdict, tree_verdict, alone_verdict}
use Rattle.tables.specs.Tables.{Tables, sized, lengths_verdict}
use Rattle.tables.specs.Batch.{pairs, numbers_verdict, ends_verdict, batch_verdict}
use Rattle.tables.specs.Links.{AllGood}
use Rattle.tables.specs.History.{Left}
use Rattle.tables.specs.Rules.{breaks, rules_verdict}
use Rattle.tables.specs.Report.{Bytes}
use Rattle.tables.specs.Outcome.{start_verdict, start_of, add_verdict, add_of, report_verdict, report_of}

-- a sound tree: every entry a machine, one hub, and every machine reaches it
pub record SoundTree (up : List ℕ) : Type 0 where
  pub inside : Inside up
  pub hub_in : hub up < length up
  pub hub_self : at up (hub up) ≡ hub up
  pub only : (v : ℕ) → v < length up → at up v ≡ v → v ≡ hub up
  pub reaches : (v : ℕ) → v < length up → Reaches up v

-- no machine names itself, and v is n
abbrev pub NoHub : List ℕ → ℕ → Type 0
NoHub up v = (v ≡ length up) × ((u : ℕ) → u < length up → at up u ≢ u)

-- v names itself, and so does just one machine below it
abbrev pub SecondHub : List ℕ → ℕ → Type 0
SecondHub up v = (v < length up) × (at up v ≡ v) × ((h : ℕ) × (h < v) × (at up h ≡ h) × ((u : ℕ) → u < v → at up u ≡ u → u ≡ h))

-- a tree is accepted exactly where it is sound; code 3 names the least machine whose up is none, code 4 n or the second least hub, and code 5 the
-- least machine that no number of steps leads to the hub
pub record TreesExact : Type 0 where
  pub sound : (up : List ℕ) → (tree_verdict up ≡ Sound) ↔ SoundTree up
  pub entry : (up : List ℕ) (v : ℕ) → tree_verdict up ≡ Refused Fault.Entry v → (v < length up) × (length up ≤ at up v) × ((u : ℕ) → u < v → at up u < length up)
  pub hubs : (up : List ℕ) (v : ℕ) → tree_verdict up ≡ Refused Fault.Hubs v → NoHub up v ⊎ SecondHub up v
  pub never : (up : List ℕ) (v : ℕ) → tree_verdict up ≡ Refused Fault.Stray v → (v < length up) × (¬ Reaches up v) × ((u : ℕ) → u < v → Reaches up u)

-- over a sound tree, tables of the right lengths are refused with 6 exactly where no history leaves them, with the least machine breaking a rule
pub record TablesExact (up : List ℕ) (t : Tables) : Type 0 where
  pub kept : (rules_verdict up t ≡ Sound) ↔ Left up t
  pub add_refused : (batch : List ℕ) → ((add_of up batch t).answer.code ≡ 6) ↔ (¬ Left up t)
  pub report_refused : (o : Bytes) → length o.machines ≡ length up → length o.links ≡ length up → ((report_of up t o).answer.code ≡ 6) ↔ (¬ Left up t)
  pub place : (v : ℕ) → rules_verdict up t ≡ Refused Fault.Rule v → (v < length up) × (breaks up t v ≡ true) × ((u : ℕ) → u < v → breaks up t u ≡ false)

-- what is wrong with a link: an end is no machine; or, where both are, it joins a machine to itself
pub data Bad (n : ℕ) (p : ℕ × ℕ) : Fault → Type 0 where
  end : (n ≤ p.0) ⊎ (n ≤ p.1) → Bad n p Fault.End
  loop : p.0 < n → p.1 < n → p.0 ≡ p.1 → Bad n p Fault.Loop

-- the first link that is not good is the one of index i, and this is what is wrong with it
pub record FirstBad (n : ℕ) (links : Cables) (why : Fault) (i : ℕ) : Type 0 where
  pub before : Cables
  pub link : ℕ × ℕ
  pub behind : Cables
  pub whole : links ≡ before ++ (link ∷ behind)
  pub index : length before ≡ i
  pub good : AllGood n before
  pub bad : Bad n link why

-- links are accepted exactly where each of them is good; 8 and 9 are looked for link by link, and 8 goes first within a link
pub record LinksExact : Type 0 where
  pub sound : (n : ℕ) (links : Cables) → (ends_verdict n 0 links ≡ Sound) ↔ AllGood n links
  pub place : (n : ℕ) (links : Cables) (why : Fault) (i : ℕ) → ends_verdict n 0 links ≡ Refused why i → FirstBad n links why i

-- v is one of these checks, and all before it pass
pub record Reached (v : Verdict) (vs : List Verdict) : Type 0 where
  pub before : List Verdict
  pub behind : List Verdict
  pub whole : vs ≡ before ++ (v ∷ behind)
  pub passed : (u : Verdict) → u ∈ before → u ≡ Sound

-- the verdict is that of the first of these checks that refuses, and no other of them refuses with a lesser number
pub record FirstOf (v : Verdict) (vs : List Verdict) : Type 0 where
  pub sound : v ≡ Sound → (u : Verdict) → u ∈ vs → u ≡ Sound
  pub first : (why : Fault) (place : ℕ) → v ≡ Refused why place → Reached v vs
  pub least : (why : Fault) (place : ℕ) → v ≡ Refused why place → (why' : Fault) (place' : ℕ) → Refused why' place' ∈ vs → number_of why ≤ number_of why'

-- the checks of one kind, each by itself: said once more, so that the order in which a call runs them is held to their numbers
abbrev pub size_checks : List ℕ → Tables → List Verdict
size_checks up t = size_verdict (length up) ∷ sized 1 (length t.depth) (length up) ∷ sized 2 (length t.group) (length up) ∷ sized 3 (length t.mark) (length up) ∷ []

abbrev pub output_checks : List ℕ → Bytes → List Verdict
output_checks up o = sized 4 (length o.machines) (length up) ∷ sized 5 (length o.links) (length up) ∷ []

abbrev pub tree_checks : List ℕ → List Verdict
tree_checks up = entries_verdict up ∷ hubs_verdict up ∷ reach_verdict up ∷ []

abbrev pub batch_checks : ℕ → List ℕ → List Verdict
batch_checks n batch = numbers_verdict (length batch) ∷ ends_verdict n 0 (pairs batch) ∷ []

-- checks run in the order of the codes
pub record InOrder : Type 0 where
  pub tree : (up : List ℕ) → FirstOf (alone_verdict up) (size_verdict (length up) ∷ tree_checks up)
  pub batch : (n : ℕ) (batch : List ℕ) → FirstOf (batch_verdict n batch) (batch_checks n batch)
  pub start : (up : List ℕ) (t : Tables) → FirstOf (start_verdict up t) (size_checks up t ++ tree_checks up)
  pub add : (up batch : List ℕ) (t : Tables) → FirstOf (add_verdict up batch t) (size_checks up t ++ (tree_checks up ++ (rules_verdict up t ∷ batch_checks (length up) batch)))
  pub report : (up : List ℕ) (t : Tables) (o : Bytes) → FirstOf (report_verdict up t o) (size_checks up t ++ (output_checks up o ++ (tree_checks up ++ (rules_verdict up t ∷ []))))

-- on a refusal every lent slice is untouched
pub record Untouched : Type 0 where
  pub start : (up : List ℕ) (t : Tables) → (start_of up t).answer.code ≢ 0 → (start_of up t).lent ≡ t
  pub add : (up batch : List ℕ) (t : Tables) → (add_of up batch t).answer.code ≢ 0 → (add_of up batch t).lent ≡ t
  pub report : (up : List ℕ) (t : Tables) (o : Bytes) → (report_of up t o).answer.code ≢ 0 → (report_of up t o).lent ≡ o

pub record Demand1 : Type 0 where
  pub trees : TreesExact
  pub links_exact : LinksExact
  pub in_order : InOrder
  pub tables_exact : (up : List ℕ) (t : Tables) → lengths_verdict up t ≡ Sound → tree_verdict up ≡ Sound → TablesExact up t
  pub untouched : Untouched
