-- What a telegram says, wherever its fields stand, and its bytes. Assumes nothing.
use Rattle.std.specs.Prelude.{ℕ, ◌≤◌, ◌<◌, ◌≡◌, true, Ok, Err, length, take, get_or}
use mathlib.Core.List.{List, [], ◌++◌, map, Memᴰ}
use Rattle.lists.specs.Lists.{at, chain, joined}
use Rattle.refusal.specs.Refusal.{then}
use Rattle.leb128.specs.Leb128.{Read, spell, last_number}
use Rattle.telegram.specs.Fields.{text, many}
use Rattle.telegram.specs.Reading.{Whole, texts, fair, body, exception, event, batch, since}
use Rattle.telegram.specs.declared.body.Body.{Body}
use Rattle.telegram.specs.declared.event.Event.{Event}
use Rattle.telegram.specs.declared.head.Head.{Head}
use Rattle.telegram.specs.declared.since.Exception.{Exception}

pub record EventBody : Type 0 where
  pub origin : ℕ
  pub number : ℕ
  pub version : List ℕ
  pub operation : List ℕ

pub record EventTelegram : Type 0 where
  pub names : List (List ℕ)
  pub body : EventBody

-- what batch and since begin with
pub record Heading : Type 0 where
  pub names : List (List ℕ)
  pub sender : ℕ
  pub version : List ℕ

pub record BatchTelegram : Type 0 where
  pub heading : Heading
  pub bodies : List EventBody

pub record SinceTelegram : Type 0 where
  pub heading : Heading
  pub exceptions : List Exception

-- ---- what was read says

abbrev pub body_of : ℕ → List ℕ → Body → EventBody
body_of count s b = record { origin = b.place.0; number = b.number; version = take count b.entries; operation = text s b.operation }

abbrev pub heading_of : List ℕ → Head → Heading
heading_of s h = record { names = texts s h.names; sender = h.sender.0; version = take h.names.count h.entries }

abbrev pub event_of : List ℕ → Event → EventTelegram
event_of s e = record { names = texts s e.names; body = body_of e.names.count s e.body }

-- ---- bytes

-- a length, then the bytes
unfoldable pub sized_bytes : List ℕ → List ℕ
sized_bytes t = spell (length t) ++ t

-- count, then each name as length and bytes
unfoldable pub list_bytes : List (List ℕ) → List ℕ
list_bytes l = spell (length l) ++ chain (length l) (λ i. sized_bytes (get_or l i []))

-- one version entry per listed name
unfoldable pub version_bytes : List ℕ → List ℕ
version_bytes v = chain (length v) (λ j. spell (at v j))

-- origin's place in that list, number, one version entry per listed name, operation length, operation
unfoldable pub body_bytes : EventBody → List ℕ
body_bytes b = spell b.origin ++ (spell b.number ++ (version_bytes b.version ++ sized_bytes b.operation))

-- 1, list, event body
unfoldable pub event_bytes : EventTelegram → List ℕ
event_bytes t = spell 1 ++ (list_bytes t.names ++ body_bytes t.body)

-- kind, list, sender's place, sender's version, count
unfoldable pub head_bytes : ℕ → Heading → ℕ → List ℕ
head_bytes k h count = spell k ++ (list_bytes h.names ++ (spell h.sender ++ (version_bytes h.version ++ spell count)))

-- place and number
unfoldable pub exception_bytes : Exception → List ℕ
exception_bytes e = spell e.place.0 ++ spell e.number

-- 2, .., count, event bodies
unfoldable pub batch_bytes : BatchTelegram → List ℕ
batch_bytes t = head_bytes 2 t.heading (length t.bodies) ++ joined body_bytes t.bodies

-- 3, .., count, pairs of place and number
unfoldable pub since_bytes : SinceTelegram → List ℕ
since_bytes t = head_bytes 3 t.heading (length t.exceptions) ++ joined exception_bytes t.exceptions

-- ---- what a telegram says, or why it is refused

abbrev pub found : {A : Type 0} → Read A → Whole A
found (Ok g) = Ok g.value
found (Err k) = Err k

unfoldable pub event_told : List ℕ → Whole EventTelegram
event_told s = then (event s) (λ e. Ok (event_of s e))

unfoldable pub batch_told : List ℕ → Whole BatchTelegram
batch_told s =
    then (batch s) (λ b.
    then (found (many b.count (body b.head.names.count s) b.bodies)) (λ l.
    Ok (record { heading = heading_of s b.head; bodies = map (body_of b.head.names.count s) l })))

unfoldable pub since_told : List ℕ → Whole SinceTelegram
since_told s =
    then (since s) (λ r.
    then (found (many r.count (exception r.head.names.count s) r.exceptions)) (λ l.
    Ok (record { heading = heading_of s r.head; exceptions = l })))

-- ---- the telegrams that there are: document 01's section Room

-- 1 to 16 names of 1 to 16 bytes, each 0x21 to 0x7E, none twice
pub record GoodList (l : List (List ℕ)) : Type 0 where
  pub some : 1 ≤ length l
  pub few : length l ≤ 16
  pub long : (i : ℕ) → i < length l → 1 ≤ length (get_or l i [])
  pub short : (i : ℕ) → i < length l → length (get_or l i []) ≤ 16
  pub distinct : fair l ≡ true

-- one entry per listed name, each at most the last number
pub record GoodVersion (count : ℕ) (v : List ℕ) : Type 0 where
  pub one_each : length v ≡ count
  pub numbers : (j : ℕ) → at v j ≤ last_number

-- an operation of 0 to 32 bytes
pub record GoodBody (count : ℕ) (b : EventBody) : Type 0 where
  pub listed : b.origin < count
  pub counts : b.number ≤ last_number
  pub version : GoodVersion count b.version
  pub short : length b.operation ≤ 32

pub record GoodHeading (h : Heading) : Type 0 where
  pub list : GoodList h.names
  pub listed : h.sender < length h.names
  pub version : GoodVersion (length h.names) h.version

pub record GoodException (count : ℕ) (e : Exception) : Type 0 where
  pub listed : e.place.0 < count
  pub counts : e.number ≤ last_number

pub record GoodEvent (t : EventTelegram) : Type 0 where
  pub list : GoodList t.names
  pub body : GoodBody (length t.names) t.body

-- 0 to 256 events
pub record GoodBatch (t : BatchTelegram) : Type 0 where
  pub heading : GoodHeading t.heading
  pub few : length t.bodies ≤ 256
  pub bodies : (b : EventBody) → Memᴰ b t.bodies → GoodBody (length t.heading.names) b

-- 0 to 64 exceptions
pub record GoodSince (t : SinceTelegram) : Type 0 where
  pub heading : GoodHeading t.heading
  pub few : length t.exceptions ≤ 64
  pub exceptions : (e : Exception) → Memᴰ e t.exceptions → GoodException (length t.heading.names) e

-- one of the three
pub data Telegram : Type 0 where
  an_event : EventTelegram → Telegram
  a_batch : BatchTelegram → Telegram
  a_since : SinceTelegram → Telegram

abbrev pub Good : Telegram → Type 0
Good (an_event t) = GoodEvent t
Good (a_batch t) = GoodBatch t
Good (a_since t) = GoodSince t

abbrev pub bytes_of : Telegram → List ℕ
bytes_of (an_event t) = event_bytes t
bytes_of (a_batch t) = batch_bytes t
bytes_of (a_since t) = since_bytes t
