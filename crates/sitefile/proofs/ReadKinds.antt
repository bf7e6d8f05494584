-- What each kind of record leaves over the lent slices, from what the code has done. A front part that is laid back changes nothing, so a slice that
-- the file's definition only carries along is as it came.
use mathlib.Core.Path.{◌≡◌, sym, ap, ◌∙◌}
use mathlib.Core.Logic.{◌≢◌}
use mathlib.Core.List.{List, [], ◌∷◌, ◌++◌}
use Prim.Native.Nat.{ℕ, suc, ◌+◌, ◌≤◌, ◌<◌}
use native.Mathlib.Omega.{arith}
use native.Mathlib.Numerals.{add-one}
use lib.ListN.{length, take, set}
use lib.Seq.{length-take-le, take-suc-set, set-set, set-get_or}
use borrow.Author.Tests.{lt-ltb, le-ltb}
use Rattle.plain.specs.Table.{at}
use Rattle.tables.specs.declared.Answer.{Answer}
use Rattle.tables.specs.declared.Fault.{Fault}
use Rattle.tables.specs.declared.Verdict.TheVariants.{the_data as Verdict, Sound, Refused}
use Rattle.tables.specs.Answer.{answer_to}
use Rattle.tables.specs.Outcome.{outcome, judged}
use Rattle.tables.specs.Tree.{size_verdict, tree_verdict}
use Rattle.tables.specs.Tables.{Tables, tables_of, fresh}
use Rattle.tables.specs.Batch.{numbers_verdict}
use Rattle.tables.proofs.Calls.{limits}
use Rattle.checks.proofs.Checking.{told}
use Rattle.sitefile.specs.Record.{body_length, body_of, word}
use Rattle.sitefile.specs.File as file
use Rattle.sitefile.specs.Next.{Room, read_of, holding, laid_tables, room_of}
use Rattle.sitefile.specs.Reading.{leads, start_front, UplinkDue, LinkDue}
use Rattle.sitefile.specs.declared.Reader.{Reader}
use Rattle.sitefile.specs.declared.Step.TheVariants as steps
use Rattle.sitefile.specs.declared.due.Due.TheVariants as due
use Rattle.site.proofs.Callers.{answer_sound, answer_refused}
use Rattle.plain.proofs.Laid.{laid_front, length_more, laid_more}

abbrev pub reader_at : ℕ → ℕ → ℕ → ℕ → Reader
reader_at place n ups opened = record { place = place; n = n; ups = ups; opened = opened }

-- a number of the part that is handed back as the body is a number of the body
pub number_in : {part body : List ℕ} {m : ℕ} (i : ℕ) → part ≡ body → m ≡ word part i → m ≡ word body i
number_in i b e = e ∙ ap (λ l. word l i) b

-- kind 1
module _ (bytes : List ℕ) (r : Reader) (m : ℕ) {c : Verdict} (e : m ≡ word (body_of bytes r.place) 0) (q : c ≡ size_verdict m) where
  pub size_refused : {a : Answer} {why : Fault} {place : ℕ} → c ≡ Refused why place → a ≡ answer_to c 0
      → (room : Room) → outcome (steps.Refused a) room ≡ leads bytes r due.Size room
  unfolding leads file.done file.size read_of
  size_refused f a room = rw (sym e, told f q, a, f)

  pub size_read : c ≡ Sound → (room : Room) → outcome (steps.Read (reader_at (r.place + 3) m 0 0)) room ≡ leads bytes r due.Size room
  unfolding leads file.done file.size read_of holding body_length
  size_read f room =
      let p : r.place + 1 + 2 ≡ r.place + 3 = omega arith in
      rw (sym e, told f q, p)

-- kind 2
module _ (bytes : List ℕ) (r : Reader) (up depth group mark batch machines links : List ℕ) {u : ℕ} (e : u ≡ word (body_of bytes r.place) 0)
    (d : UplinkDue bytes r (length up) (length depth) (length group) (length mark)) where
  abbrev room₂ : Room
  room₂ = room_of up depth group mark batch machines links

  abbrev grown : List ℕ
  grown = take r.ups up ++ (u ∷ [])

  abbrev after : Reader
  after = reader_at (r.place + 3) r.n (r.ups + 1) 0

  more : r.ups + 1 ≤ length up
  more = let f = d.fronts in omega arith

  grown-length : length grown ≡ r.ups + 1
  grown-length = let h = more in length_more up (u ∷ []) r.ups (omega arith)

  -- before the last
  pub uplink_more : r.ups + 1 < r.n → outcome (steps.Read after) (room_of (set up r.ups u) depth group mark batch machines links) ≡ leads bytes r due.Uplink room₂
  unfolding leads file.done file.uplink read_of holding body_length
  uplink_more h =
      let p : r.place + 1 + 2 ≡ r.place + 3 = omega arith in
      rw (sym e, laid_more up (u ∷ []) r.ups more, grown-length, lt-ltb (r.ups + 1) r.n, p, grown-length)

  -- after the last: Start has answered
  module _ (last : r.n ≤ r.ups + 1) {answer : Answer} {depth' group' mark' : List ℕ}
      (a : outcome answer (tables_of depth' group' mark') ≡ start_front r.n (set up r.ups u) (tables_of depth group mark)) where
    abbrev own : Tables
    own = tables_of depth group mark

    -- the entry that is written
    grown_is : take r.n (set up r.ups u) ≡ grown
    grown_is = let s : suc r.ups ≡ r.n = omega arith in ap (λ k. take k (set up r.ups u)) (sym s) ∙ take-suc-set up r.ups u (omega (arith, more))

    started : outcome answer (tables_of depth' group' mark') ≡ judged (tree_verdict grown) own r.n (laid_tables (fresh grown) own)
    started = rw grown_is at a

    pub uplink_last : answer.code ≡ 0 → outcome (steps.Read after) (room_of (set up r.ups u) depth' group' mark' batch machines links) ≡ leads bytes r due.Uplink room₂
    unfolding leads file.done file.uplink read_of holding body_length
    uplink_last z =
        let p : r.place + 1 + 2 ≡ r.place + 3 = omega arith in
        let (s, _, l) = answer_sound own r.n (laid_tables (fresh grown) own) (tree_verdict grown) started z in
        rw (sym e, laid_more up (u ∷ []) r.ups more, grown-length, le-ltb (r.ups + 1) r.n, s, l, p, grown-length)

    pub uplink_refused : answer.code ≢ 0 → outcome (steps.Refused answer) (room_of (set (set up r.ups u) r.ups (at up r.ups)) depth' group' mark' batch machines links) ≡ leads bytes r due.Uplink room₂
    unfolding leads file.done file.uplink read_of
    uplink_refused f =
        let (s, l) = answer_refused own r.n (laid_tables (fresh grown) own) (tree_verdict grown) f started in
        rw (sym e, set-set up r.ups u (at up r.ups), set-get_or up r.ups 0, grown-length, le-ltb (r.ups + 1) r.n, s.is, ← s.answered, l)

-- kind 3: where the batch may have two numbers more, the slice has room for them
module _ {bytes : List ℕ} {r : Reader} (batch : List ℕ) {c : Verdict} (d : LinkDue bytes r (length batch)) (q : c ≡ numbers_verdict (r.opened + 2)) (f : c ≡ Sound) where
  pub room_second : r.opened + 1 < length batch
  room_second = let k = (limits.links (r.opened + 2)).0 (told f q) in omega (arith, d.size)

  pub room_first : r.opened < length batch
  room_first = let h = room_second in omega arith

module _ (bytes : List ℕ) (r : Reader) (up depth group mark batch machines links : List ℕ) (d : LinkDue bytes r (length batch)) where
  abbrev room₃ : Room
  room₃ = room_of up depth group mark batch machines links

  opened_size : length (take r.opened batch) ≡ r.opened
  opened_size = length-take-le r.opened batch d.inside

  module _ {c : Verdict} (q : c ≡ numbers_verdict (r.opened + 2)) where
    pub link_full : {a : Answer} {why : Fault} {place : ℕ} → c ≡ Refused why place → a ≡ answer_to c 0 → outcome (steps.Refused a) room₃ ≡ leads bytes r due.Link room₃
    unfolding leads file.done file.link read_of
    link_full f a = rw (opened_size, told f q, a, f)

    pub link_read : {a b : ℕ} → a ≡ word (body_of bytes r.place) 0 → b ≡ word (body_of bytes r.place) 1 → c ≡ Sound → r.ups ≤ length up
        → outcome (steps.Read (reader_at (r.place + 5) r.n r.ups (r.opened + 2))) (room_of up depth group mark (set (set batch r.opened a) (r.opened + 1) b) machines links)
        ≡ leads bytes r due.Link room₃
    unfolding leads file.done file.link read_of holding body_length
    link_read {a} {b} ea eb f l =
        let p : r.place + 1 + 4 ≡ r.place + 5 = omega arith in
        let h : r.opened + 2 ≤ length batch = omega (arith, room_second batch d q f) in
        rw (sym ea, sym eb, opened_size, told f q)
        (simp laid_front (rw (add-one r.opened, laid_more batch (a ∷ b ∷ []) r.opened h, p, length-take-le r.ups up l, length_more batch (a ∷ b ∷ []) r.opened d.inside)))
