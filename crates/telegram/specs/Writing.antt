-- Telegrams as they are written into a lent buffer, from document 01's sections Room and Telegrams. Assumes nothing.
use Rattle.std.specs.Prelude.{ℕ, ◌+◌, ◌≤◌, ◌≡◌, Bool, cond, ◌&&◌, Ok, Err, List, ◌++◌, length, get_or, leb, ltb}
use Rattle.refusal.specs.Refusal.{no, then}
use Rattle.lists.specs.Lists.{all, chain, laid}
use Rattle.leb128.specs.Leb128.{spell}
use Rattle.telegram.specs.Fields.{text}
use Rattle.telegram.specs.Reading.{Whole, nowhere, texts, fair}
use Rattle.telegram.specs.Meaning.{sized_bytes, list_bytes, body_bytes, head_bytes, exception_bytes, body_of, heading_of}
use Rattle.telegram.specs.declared.field.Part.{Part}
use Rattle.telegram.specs.declared.list.Names.{Names}
use Rattle.telegram.specs.declared.body.Body.{Body}
use Rattle.telegram.specs.declared.head.Head.{Head}
use Rattle.telegram.specs.declared.since.Exception.{Exception}

-- ---- the bytes of what is to be written, or why it can't be: 4 for a count or length outside its range, 9 for a place not below
-- its count, in the order of the fields

-- a part whose length is in its range and that lies in its slice
abbrev pub part_fits : ℕ → ℕ → List ℕ → Part → Bool
part_fits low high s p = leb low p.len && (leb p.len high && leb (p.start + p.len) (length s))

unfoldable pub list_fits : List ℕ → Names → Bool
list_fits s l = (leb 1 l.count && leb l.count 16) && all l.count (λ i. part_fits 1 16 s (get_or l.parts i nowhere))

-- the first so many names with their lengths
abbrev pub names_spelt : List ℕ → Names → ℕ → Whole (List ℕ)
names_spelt s l count =
    cond (all count (λ i. part_fits 1 16 s (get_or l.parts i nowhere)))
    (Ok (chain count (λ i. sized_bytes (text s (get_or l.parts i nowhere)))))
    (Err (no 4))

unfoldable pub list_spelt : List ℕ → Names → Whole (List ℕ)
list_spelt s l = cond (list_fits s l) (Ok (list_bytes (texts s l))) (Err (no 4))

-- a list of names by itself: 4, then 6
abbrev pub list_judged : List ℕ → Names → Whole Unit
list_judged s l = cond (list_fits s l) (cond (fair (texts s l)) (Ok tt) (Err (no 6))) (Err (no 4))

unfoldable pub body_spelt : ℕ → List ℕ → Body → Whole (List ℕ)
body_spelt count s b =
    cond (leb count 16)
    (cond (ltb b.place.0 count)
    (cond (part_fits 0 32 s b.operation) (Ok (body_bytes (body_of count s b))) (Err (no 4)))
    (Err (no 9)))
    (Err (no 4))

unfoldable pub event_spelt : List ℕ → Names → List ℕ → Body → Whole (List ℕ)
event_spelt t l s b = then (list_spelt t l) (λ names. then (body_spelt l.count s b) (λ body. Ok (spell 1 ++ (names ++ body))))

-- kind, list, sender's place, sender's version, count up to its limit
unfoldable pub head_spelt : ℕ → ℕ → List ℕ → Head → ℕ → Whole (List ℕ)
head_spelt k limit s h count =
    cond (list_fits s h.names)
    (cond (ltb h.sender.0 h.names.count)
    (cond (leb count limit) (Ok (head_bytes k (heading_of s h) count)) (Err (no 4)))
    (Err (no 9)))
    (Err (no 4))

unfoldable pub exception_spelt : ℕ → Exception → Whole (List ℕ)
exception_spelt count e =
    cond (leb count 16) (cond (ltb e.place.0 count) (Ok (exception_bytes e)) (Err (no 9))) (Err (no 4))

-- how many bytes that is
abbrev pub measured : Whole (List ℕ) → Whole ℕ
measured (Ok b) = Ok (length b)
measured (Err k) = Err k

-- ---- the buffer

-- the buffer holds the bytes from a place on, and as many more behind them
abbrev pub room_for : List ℕ → ℕ → List ℕ → ℕ → Bool
room_for out at b behind = leb (at + (length b + behind)) (length out)

-- what writing at a place answers: the place behind, or why nothing was written; 15 where the buffer is too short
abbrev pub write_at : List ℕ → ℕ → ℕ → Whole (List ℕ) → Whole ℕ
write_at out at behind (Ok b) = cond (room_for out at b behind) (Ok (at + length b)) (Err (no 15))
write_at out at behind (Err k) = Err k

abbrev pub bytes_at : List ℕ → ℕ → ℕ → Whole (List ℕ) → List ℕ
bytes_at out at behind (Ok b) = cond (room_for out at b behind) (laid out at b) out
bytes_at out at behind (Err k) = out

-- the answer and the buffer afterwards, for bytes at a place with as many more to come behind them
pub record Wrote (out after : List ℕ) (at behind : ℕ) (what : Whole (List ℕ)) (answer : Whole ℕ) : Type 0 where
  pub answers : answer ≡ write_at out at behind what
  pub holds : after ≡ bytes_at out at behind what

-- what bytes put where they fit give: the place behind them, and the buffer
pub record Put (out after : List ℕ) (at : ℕ) (b : List ℕ) (next : ℕ) : Type 0 where
  pub ends : next ≡ at + length b
  pub holds : after ≡ laid out at b

-- bytes fit from a place on
abbrev pub Room : List ℕ → ℕ → List ℕ → Type 0
Room out at b = at + length b ≤ length out
