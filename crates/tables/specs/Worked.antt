-- The sites worked by hand: P1 to P12, then a row for every code and each kind of its value, for Start, Add and Report, and for which check goes first.
use Rattle.std.specs.Prelude.{List, [], ◌∷◌, map, ◌≡◌, ℕ, zero, suc, ◌+◌, ◌*◌, ◌-◌, ◌/◌, length, replicate}
use Prim.Native.Char.{code as byte_of}
use Prim.Native.String.{String, len, char_at}
use Rattle.plain.specs.Table.{tabulate}
use Rattle.tables.specs.Answer.{Answer}
use Rattle.tables.specs.Tables.{Tables, tables_of}
use Rattle.tables.specs.Report.{Bytes, bytes_of}
use Rattle.tables.specs.Outcome.{Outcome, outcome, start_of, add_of, report_of}

-- a site: Start, then Add of the links as one batch, then Report. Code and value of each call, and what Add and Report leave
abbrev pub Site : Type 0
Site = record { up : List ℕ; links : List ℕ; start : Answer; add : Answer; marks : List ℕ; groups : List ℕ; report : Answer; machine_bytes : List ℕ; link_bytes : List ℕ }

-- what a row comes to
pub data Result : Type 0 where
  of_site : Site → Result
  of_tables : Outcome Answer Tables → Result
  of_bytes : Outcome Answer Bytes → Result

-- a row: what the definitions say that it comes to, and what was worked out by hand
pub record Row : Type 0 where
  pub name : String
  pub said : Result
  pub by_hand : Result

-- lent slices of n nines
abbrev pub nines : ℕ → Tables
nines n = tables_of (replicate n 9) (replicate n 9) (replicate n 9)

abbrev pub nine_bytes : ℕ → Bytes
nine_bytes n = bytes_of (replicate n 9) (replicate n 9)

unfoldable pub site : String → Site → Row
site name r =
    let s = start_of r.up (nines (length r.up)) in
    let a = add_of r.up r.links s.lent in
    let p = report_of r.up a.lent (nine_bytes (length r.up)) in
    let said : Site = record { up = r.up; links = r.links; start = s.answer; add = a.answer; marks = a.lent.mark; groups = a.lent.group; report = p.answer; machine_bytes = p.lent.machines; link_bytes = p.lent.links } in
    record { name = name; said = of_site said; by_hand = of_site r }

-- one call alone, and what it shows over what was lent
unfoldable pub start : String → record { up : List ℕ; tables : Tables; shown : Tables → Outcome Answer Tables } → Row
start name r = record { name = name; said = of_tables (start_of r.up r.tables); by_hand = of_tables (r.shown r.tables) }

unfoldable pub add : String → record { up : List ℕ; tables : Tables; batch : List ℕ; shown : Tables → Outcome Answer Tables } → Row
add name r = record { name = name; said = of_tables (add_of r.up r.batch r.tables); by_hand = of_tables (r.shown r.tables) }

unfoldable pub report : String → record { up : List ℕ; tables : Tables; outputs : Bytes; shown : Bytes → Outcome Answer Bytes } → Row
report name r = record { name = name; said = of_bytes (report_of r.up r.tables r.outputs); by_hand = of_bytes (r.shown r.outputs) }

-- code 0 and a value; written out, since the definitions are held to it
abbrev done : ℕ → Answer
done value = record { code = 0; value = value }

-- a code and a value, and every lent slice as it came
abbrev refuses : {A : Type 0} → ℕ → ℕ → A → Outcome Answer A
refuses code value came = outcome (record { code = code; value = value }) came

-- code 0 and a value, and the lent slices so
abbrev gives : {A : Type 0} → ℕ → A → A → Outcome Answer A
gives value left came = outcome (done value) left

-- "0,2,1" as the list of 0, 2 and 1: each number one digit, with one sign between each two
unfoldable pub list : String → List ℕ
list text = tabulate ((len text + 1) / 2) (λ i. byte_of (char_at text (2 * i)) - byte_of "0")

-- the link (0, 1), k times
unfoldable pub again : ℕ → List ℕ
again zero = []
again (suc k) = 0 ∷ 1 ∷ again k

-- two machines, as Start leaves their tables
abbrev two : Tables
two = record { depth = list "0,1"; group = list "0,1"; mark = list "0,0" }

unfoldable pub rows : List Row
unfolding list again
rows =
    site "P1" record { up = list "0"; links = []; start = done 1; add = done 0; marks = list "0"; groups = list "0"; report = done 0; machine_bytes = list "0"; link_bytes = list "0" }
    ∷ site "P2" record { up = list "0,0"; links = []; start = done 2; add = done 0; marks = list "0,0"; groups = list "0,1"; report = done 0; machine_bytes = list "0,0"; link_bytes = list "0,1" }
    ∷ site "P3" record { up = list "0,0"; links = list "0,1"; start = done 2; add = done 1; marks = list "0,1"; groups = list "0,1"; report = done 0; machine_bytes = list "0,0"; link_bytes = list "0,0" }
    ∷ site "P4" record { up = list "0,0,0"; links = []; start = done 3; add = done 0; marks = list "0,0,0"; groups = list "0,1,2"; report = done 1; machine_bytes = list "2,0,0"; link_bytes = list "0,1,1" }
    ∷ site "P5" record { up = list "0,0,0"; links = list "1,2"; start = done 3; add = done 2; marks = list "0,1,1"; groups = list "0,1,1"; report = done 0; machine_bytes = list "0,0,0"; link_bytes = list "0,0,0" }
    ∷ site "P6" record { up = list "0,0,1"; links = []; start = done 3; add = done 0; marks = list "0,0,0"; groups = list "0,1,2"; report = done 1; machine_bytes = list "0,1,0"; link_bytes = list "0,1,1" }
    ∷ site "P7" record { up = list "0,0,1"; links = list "0,2"; start = done 3; add = done 3; marks = list "0,1,2"; groups = list "0,1,2"; report = done 0; machine_bytes = list "0,0,0"; link_bytes = list "0,0,0" }
    ∷ site "P8" record { up = list "0,0,1,2,3,0"; links = list "1,5 1,3 2,4"; start = done 6; add = done 7; marks = list "0,1,1,2,2,1"; groups = list "0,1,2,3,4,1"; report = done 1; machine_bytes = list "0,1,0,0,0,0"; link_bytes = list "0,0,0,0,0,0" }
    ∷ start "P9" record { up = list "0,2,1"; tables = nines 3; shown = refuses 5 1 }
    ∷ start "P10" record { up = list "1,0"; tables = nines 2; shown = refuses 4 2 }
    ∷ start "P10" record { up = list "0,1"; tables = nines 2; shown = refuses 4 1 }
    ∷ add "P11" record { up = list "0,0,1,2,3,0"; tables = record { depth = list "0,1,2,3,4,1"; group = list "0,1,2,3,4,5"; mark = list "0,0,0,0,0,0" }; batch = list "1,5 7,7"; shown = refuses 8 1 }
    ∷ add "P12" record { up = list "0,0,0"; tables = record { depth = list "0,1,1"; group = list "0,1,1"; mark = list "0,0,0" }; batch = []; shown = refuses 6 2 }
    ∷ start "Start 1" record { up = []; tables = nines 1; shown = refuses 1 0 }
    ∷ start "Start 2, depth" record { up = list "0,2"; tables = nines 1; shown = refuses 2 1 }
    ∷ start "Start 2, group" record { up = list "0,0"; tables = record { depth = list "9,9"; group = list "9"; mark = list "9" }; shown = refuses 2 2 }
    ∷ start "Start 2, mark" record { up = list "0,0"; tables = record { depth = list "9,9"; group = list "9,9"; mark = list "9" }; shown = refuses 2 3 }
    ∷ start "Start 3" record { up = list "0,3,5"; tables = nines 3; shown = refuses 3 1 }
    ∷ start "Start 3 before 4" record { up = list "1,2"; tables = nines 2; shown = refuses 3 1 }
    ∷ start "Start 4 before 5" record { up = list "0,2,1,3"; tables = nines 4; shown = refuses 4 3 }
    ∷ start "Start 5" record { up = list "0,0,3,2"; tables = nines 4; shown = refuses 5 2 }
    ∷ add "Add 1" record { up = []; tables = nines 1; batch = list "7"; shown = refuses 1 0 }
    ∷ add "Add 2, depth" record { up = list "0,0"; tables = record { depth = list "0"; group = list "0,1"; mark = list "0,0" }; batch = list "7"; shown = refuses 2 1 }
    ∷ add "Add 2, group" record { up = list "0,0"; tables = record { depth = list "0,1"; group = list "0"; mark = list "0" }; batch = list "7"; shown = refuses 2 2 }
    ∷ add "Add 2, mark" record { up = list "0,2"; tables = record { depth = list "0,1"; group = list "0,1"; mark = list "0" }; batch = list "7"; shown = refuses 2 3 }
    ∷ add "Add 3" record { up = list "0,2"; tables = two; batch = list "7"; shown = refuses 3 1 }
    ∷ add "Add 4, none" record { up = list "1,0"; tables = two; batch = list "7"; shown = refuses 4 2 }
    ∷ add "Add 4, second" record { up = list "0,1"; tables = two; batch = list "7"; shown = refuses 4 1 }
    ∷ add "Add 5 before 6" record { up = list "0,2,1"; tables = record { depth = list "1,1,1"; group = list "0,1,2"; mark = list "0,0,0" }; batch = list "7"; shown = refuses 5 1 }
    ∷ add "Add 6 before 7" record { up = list "0,0,0"; tables = record { depth = list "0,1,1"; group = list "0,0,0"; mark = list "0,1,1" }; batch = list "7"; shown = refuses 6 1 }
    ∷ add "Add 6: depth" record { up = list "0,0,1,1"; tables = record { depth = list "0,1,2,1"; group = list "0,1,2,3"; mark = list "0,0,0,0" }; batch = []; shown = refuses 6 3 }
    ∷ add "Add 6: depth of the hub" record { up = list "0,0,1,1"; tables = record { depth = list "1,2,3,3"; group = list "0,1,2,3"; mark = list "0,0,0,0" }; batch = []; shown = refuses 6 0 }
    ∷ add "Add 6: the hub marked" record { up = list "0,0,1,1"; tables = record { depth = list "0,1,2,2"; group = list "0,1,2,3"; mark = list "1,0,0,0" }; batch = []; shown = refuses 6 0 }
    ∷ add "Add 6: the hub grouped" record { up = list "0,0,1,1"; tables = record { depth = list "0,1,2,2"; group = list "1,1,2,3"; mark = list "0,0,0,0" }; batch = []; shown = refuses 6 0 }
    ∷ add "Add 6: mark 3" record { up = list "0,0,1,1"; tables = record { depth = list "0,1,2,2"; group = list "0,1,2,3"; mark = list "0,1,3,0" }; batch = []; shown = refuses 6 2 }
    ∷ add "Add 6: a greater name" record { up = list "0,0,1,1"; tables = record { depth = list "0,1,2,2"; group = list "0,1,3,3"; mark = list "0,1,1,1" }; batch = []; shown = refuses 6 2 }
    ∷ add "Add 6: a name under another" record { up = list "0,0,1,1"; tables = record { depth = list "0,1,2,2"; group = list "0,1,2,1"; mark = list "0,1,1,1" }; batch = []; shown = refuses 6 3 }
    ∷ add "Add 6: a name that is not its own" record { up = list "0,0,0,0"; tables = record { depth = list "0,1,1,1"; group = list "0,1,1,2"; mark = list "0,1,1,1" }; batch = []; shown = refuses 6 3 }
    ∷ add "Add 6: lone in a group" record { up = list "0,0,1,1"; tables = record { depth = list "0,1,2,2"; group = list "0,1,2,2"; mark = list "0,1,1,0" }; batch = []; shown = refuses 6 3 }
    ∷ add "Add 6: carried at the hub" record { up = list "0,0,1,1"; tables = record { depth = list "0,1,2,2"; group = list "0,1,2,3"; mark = list "0,2,0,0" }; batch = []; shown = refuses 6 1 }
    ∷ add "Add 6: carried below a lone one" record { up = list "0,0,1,1"; tables = record { depth = list "0,1,2,2"; group = list "0,1,2,3"; mark = list "0,0,2,0" }; batch = []; shown = refuses 6 2 }
    ∷ add "Add 7, odd" record { up = list "0,0"; tables = two; batch = list "0,1 0"; shown = refuses 7 3 }
    ∷ add "Add 7, too many" record { up = list "0,0"; tables = two; batch = again 1025; shown = refuses 7 2050 }
    ∷ add "Add 0, as many as may be" record { up = list "0,0"; tables = two; batch = again 1024; shown = gives 1 (record { depth = list "0,1"; group = list "0,1"; mark = list "0,1" }) }
    ∷ add "Add 7 before 8" record { up = list "0,0"; tables = two; batch = list "5,5 5"; shown = refuses 7 3 }
    ∷ add "Add 8, first end" record { up = list "0,0"; tables = two; batch = list "2,0"; shown = refuses 8 0 }
    ∷ add "Add 8, second end" record { up = list "0,0"; tables = two; batch = list "0,1 0,2"; shown = refuses 8 1 }
    ∷ add "Add 8 before 9" record { up = list "0,0"; tables = two; batch = list "2,2"; shown = refuses 8 0 }
    ∷ add "Add 9" record { up = list "0,0"; tables = two; batch = list "0,1 1,1"; shown = refuses 9 1 }
    ∷ add "Add 9 before 8 in a later link" record { up = list "0,0"; tables = two; batch = list "1,1 2,2"; shown = refuses 9 0 }
    ∷ add "Add 0, what was ringed is now carried" record { up = list "0,0,1"; tables = record { depth = list "0,1,2"; group = list "0,1,2"; mark = list "0,1,1" }; batch = list "0,2"; shown = gives 1 (record { depth = list "0,1,2"; group = list "0,1,2"; mark = list "0,1,2" }) }
    ∷ report "Report 1" record { up = []; tables = nines 1; outputs = nine_bytes 1; shown = refuses 1 0 }
    ∷ report "Report 2, depth" record { up = list "0,0"; tables = record { depth = list "0"; group = list "0,1"; mark = list "0,0" }; outputs = nine_bytes 2; shown = refuses 2 1 }
    ∷ report "Report 2, group" record { up = list "0,0"; tables = record { depth = list "0,1"; group = list "0"; mark = list "0,0" }; outputs = nine_bytes 1; shown = refuses 2 2 }
    ∷ report "Report 2, mark" record { up = list "0,0"; tables = record { depth = list "0,1"; group = list "0,1"; mark = list "0" }; outputs = nine_bytes 1; shown = refuses 2 3 }
    ∷ report "Report 2, machine bytes" record { up = list "0,0"; tables = two; outputs = nine_bytes 1; shown = refuses 2 4 }
    ∷ report "Report 2, link bytes" record { up = list "0,2"; tables = two; outputs = record { machines = list "9,9"; links = list "9" }; shown = refuses 2 5 }
    ∷ report "Report 3" record { up = list "0,2"; tables = two; outputs = nine_bytes 2; shown = refuses 3 1 }
    ∷ report "Report 4, none" record { up = list "1,0"; tables = two; outputs = nine_bytes 2; shown = refuses 4 2 }
    ∷ report "Report 4, second" record { up = list "0,1"; tables = two; outputs = nine_bytes 2; shown = refuses 4 1 }
    ∷ report "Report 5 before 6" record { up = list "0,2,1"; tables = record { depth = list "1,1,1"; group = list "0,1,2"; mark = list "0,0,0" }; outputs = nine_bytes 3; shown = refuses 5 1 }
    ∷ report "Report 6" record { up = list "0,0,0"; tables = record { depth = list "0,1,1"; group = list "0,0,0"; mark = list "0,1,1" }; outputs = nine_bytes 3; shown = refuses 6 1 }
    ∷ report "Report 0, more than one choke" record { up = list "0,0,0,1"; tables = record { depth = list "0,1,1,2"; group = list "0,1,2,3"; mark = list "0,0,0,0" }; outputs = nine_bytes 4; shown = gives 2 (record { machines = list "2,1,0,0"; links = list "0,1,1,1" }) }
    ∷ []

-- every row says what was worked out by hand
abbrev pub Worked : Type 0
Worked = map (λ r. r.said) rows ≡ map (λ r. r.by_hand) rows
