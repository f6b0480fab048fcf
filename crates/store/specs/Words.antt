-- What lent words hold. A slot is 27 words: origin's place, number, length, 16 entries of the version, and 8 words that hold the
-- operation's 32 bytes, four to a word, the low byte first. Assumes nothing.
use Rattle.std.specs.Prelude.{ℕ, zero, suc, ◌+◌, ◌*◌, ◌/◌, ◌%◌, ◌<◌, ◌≤◌, ◌≡◌, ◌⊎◌, List, length, get_or}
use Rattle.lists.specs.Lists.{tab}
use Rattle.clock.specs.declared.id.EventId.{EventId}
use Rattle.store.specs.declared.event.Event.{Event}

-- byte j of the word w, 0 the lowest
abbrev pub byte_of : ℕ → ℕ → ℕ
byte_of w zero = w % 256
byte_of w (suc zero) = w / 256 % 256
byte_of w (suc (suc zero)) = w / 65536 % 256
byte_of w (suc (suc (suc j))) = w / 16777216 % 256

-- the word of four bytes of b, from place 4 * k on
unfoldable pub word_of : List ℕ → ℕ → ℕ
word_of b k = get_or b (4 * k) 0 + 256 * get_or b (4 * k + 1) 0 + 65536 * get_or b (4 * k + 2) 0 + 16777216 * get_or b (4 * k + 3) 0

-- the event whose words begin at place a, and the one in slot s
unfoldable pub event_from : List ℕ → ℕ → Event
event_from p a = record {
  origin = record { 0 = get_or p a 0 };
  number = get_or p (a + 1) 0;
  version = record { entries = tab 16 (λ k. get_or p (a + 3 + k) 0) };
  len = get_or p (a + 2) 0;
  operation = tab 32 (λ k. byte_of (get_or p (a + 19 + k / 4) 0) (k % 4));
}

abbrev pub event_at : List ℕ → ℕ → Event
event_at p s = event_from p (27 * s)

-- an event's id
abbrev pub id_of : Event → EventId
id_of e = record { idx = e.origin; seq = e.number }

-- q is p but for the n words from a on, which are f 0, f 1, ..
pub record Ran (p q : List ℕ) (a n : ℕ) (f : ℕ → ℕ) : Type 0 where
  pub long : length q ≡ length p
  pub here : a + n ≤ length p → (k : ℕ) → k < n → get_or q (a + k) 0 ≡ f k
  pub rest : (j : ℕ) → (j < a) ⊎ (a + n ≤ j) → get_or q j 0 ≡ get_or p j 0

-- q is p with e in slot s
pub record Saved (p q : List ℕ) (s : ℕ) (e : Event) : Type 0 where
  pub long : length q ≡ length p
  pub here : 27 * s + 27 ≤ length p → event_at q s ≡ e
  pub there : (t : ℕ) → (t ≡ s → ⊥) → event_at q t ≡ event_at p t
  pub rest : (j : ℕ) → (j < 27 * s) ⊎ (27 * s + 27 ≤ j) → get_or q j 0 ≡ get_or p j 0
