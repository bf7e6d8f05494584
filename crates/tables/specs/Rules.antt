-- The rules behind code 6, each charged to machine v, and the least machine that breaks one. Each takes what it reads; h is the hub.
use Rattle.std.specs.Prelude.{Bool, cond, ◌&&◌, ◌||◌, not, List, [], ◌∷◌, ℕ, suc, length, leb, ltb, eqb}
use Rattle.plain.specs.Table.{at}
use Rattle.tables.specs.Verdict.{Fault, Verdict, checks, refuse_least}
use Rattle.tables.specs.Tree.{hub, tree_verdict}
use Rattle.tables.specs.Tables.{Tables}

-- depth is 0 at the hub, else one more than that of up[v]
unfoldable pub depth_rule : ℕ → List ℕ → List ℕ → ℕ → Bool
depth_rule h up depth v = eqb (at depth v) (cond (eqb v h) 0 (suc (at depth (at up v))))

-- the hub has mark 0 and its own group
abbrev pub hub_rule : ℕ → List ℕ → List ℕ → ℕ → Bool
hub_rule h group mark v = not (eqb v h) || (eqb (at mark v) 0 && eqb (at group v) v)

-- a mark is at most 2
abbrev pub mark_rule : List ℕ → ℕ → Bool
mark_rule mark v = leb (at mark v) 2

-- for others, with g = group[v]: g is below n, at most v, not the hub, has the same up and is its own group
unfoldable pub group_rule : ℕ → List ℕ → List ℕ → ℕ → Bool
group_rule h up group v =
    let g = at group v in
    eqb v h || (ltb g (length up) && (leb g v && (not (eqb g h) && (eqb (at up g) (at up v) && eqb (at group g) g))))

-- if g is not v, both marks are at least 1
abbrev pub partner_rule : ℕ → List ℕ → List ℕ → ℕ → Bool
partner_rule h group mark v =
    let g = at group v in
    eqb v h || (eqb g v || (leb 1 (at mark g) && leb 1 (at mark v)))

-- if mark[v] is 2, up[v] is not the hub and its mark is at least 1
unfoldable pub carried_rule : ℕ → List ℕ → List ℕ → ℕ → Bool
carried_rule h up mark v = not (eqb (at mark v) 2) || (not (eqb (at up v) h) && leb 1 (at mark (at up v)))

-- v keeps every rule
unfoldable pub keeps : ℕ → List ℕ → Tables → ℕ → Bool
keeps h up t v =
    depth_rule h up t.depth v && (hub_rule h t.group t.mark v && (mark_rule t.mark v && (group_rule h up t.group v
    && (partner_rule h t.group t.mark v && carried_rule h up t.mark v))))

-- v breaks one
unfoldable pub breaks : List ℕ → Tables → ℕ → Bool
breaks up t v = not (keeps (hub up) up t v)

-- code 6: no history leaves these tables (that it is given just then is demand 1)
unfoldable pub rules_verdict : List ℕ → Tables → Verdict
rules_verdict up t = refuse_least Fault.Rule (length up) (breaks up t)

-- 3 to 6
unfoldable pub tables_verdict : List ℕ → Tables → Verdict
tables_verdict up t = checks (tree_verdict up ∷ rules_verdict up t ∷ [])
