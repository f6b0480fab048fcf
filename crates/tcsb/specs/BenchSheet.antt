-- Document 01's bench sheet, the rows marked P: members A, B, C, we are A. One table, a field for each row. Assumes nothing.
use Rattle.std.specs.Prelude.{ℕ, zero, suc, ◌≡◌, true, false, List, [], ◌∷◌, ◌++◌, take}
use Rattle.refusal.specs.Refusal.{no}
use Rattle.leb128.specs.Leb128.{spell, read_at}
use Rattle.clock.specs.declared.version_vector.Version.{Version}
use Rattle.clock.specs.Version.{compare_of, join_of, dependencies_of, dependencies}
use Rattle.telegram.specs.Reading.{filled}
use Rattle.tcsb.specs.Replica.{State, state_after, Pick, none, at_place, zero_state, receive_of, send_of, next_of, after_pick, is_settled, frontier_call, cut}
use Rattle.std.specs.Prelude.{Ok, Err, Some, None}
use Rattle.std.specs.declared.cmp.Ordering.TheVariants.{Less, Equal, Greater}
use Rattle.leb128.specs.Leb128.{got}

-- ---- versions: {a,b,c}@origin

abbrev pub version : ℕ → ℕ → ℕ → ℕ → Version
version a b c origin = record { members = 3; origin = record { 0 = origin }; row = record { entries = filled 0 (a ∷ b ∷ c ∷ []) } }

-- ---- telegrams of B and C, who list A, B, C and send no operation

abbrev pub telegram : ℕ → ℕ → ℕ → ℕ → ℕ → List ℕ
telegram origin number a b c = 1 ∷ 3 ∷ 1 ∷ 65 ∷ 1 ∷ 66 ∷ 1 ∷ 67 ∷ origin ∷ number ∷ a ∷ b ∷ c ∷ 0 ∷ []

-- ---- runs

abbrev pub founded : State
founded = zero_state ((65 ∷ []) ∷ (66 ∷ []) ∷ (67 ∷ []) ∷ []) 0

abbrev pub received : State → List ℕ → State
received st s = state_after st (receive_of st s)

abbrev pub sent : State → State
sent st = state_after st (send_of st [])

-- so many next calls: the ids of what they delivered, and the state they leave
pub record Nexts : Type 0 where
  pub ids : List (ℕ × ℕ)
  pub state : State

abbrev pub id_of : Pick → List (ℕ × ℕ)
id_of none = []
id_of (at_place i e) = (e.origin.0, e.number) ∷ []

unfoldable pub nexts : ℕ → State → Nexts
nexts zero st = record { ids = []; state = st }
nexts (suc k) st = record { ids = id_of (next_of st) ++ (nexts k (after_pick st (next_of st))).ids; state = (nexts k (after_pick st (next_of st))).state }

abbrev pub B2-waits : State
B2-waits = received founded (telegram 1 2 0 2 0)

abbrev pub without_C1 : State
without_C1 = (nexts 2 (received (received (sent founded) (telegram 1 1 1 1 0)) (telegram 1 2 1 2 0))).state

abbrev pub with_C1 : State
with_C1 = (nexts 3 (received (received (received (sent founded) (telegram 1 1 1 1 0)) (telegram 1 2 1 2 0)) (telegram 2 1 1 2 1))).state

-- the first three of a list that sixteen members would have
abbrev pub three : {A : Type 0} → List A → List A
three = take 3

-- ---- the table

pub record Rows : Type 0 where
  pub greater : compare_of (version 2 0 0 0) (version 1 9 0 0) ≡ Ok (Some Greater)
  pub less : compare_of (version 1 0 9 0) (version 1 1 0 1) ≡ Ok (Some Less)
  pub concurrent : compare_of (version 2 0 0 0) (version 1 1 0 1) ≡ Ok None
  pub equal : compare_of (version 1 1 0 0) (version 1 1 0 1) ≡ Ok (Some Equal)
  pub join_unchanged : join_of (version 2 3 0 0) (version 0 3 5 1) ≡ Ok (version 2 3 0 0)
  pub join_larger : join_of (version 2 3 0 0) (version 0 4 5 1) ≡ Ok (version 2 4 5 0)
  pub join_refused : join_of (version 2 3 0 0) (version 7 0 7 1) ≡ Err (no 11)
  pub depends : dependencies_of (version 1 0 2 0)
      ≡ Ok (dependencies (record { idx = record { 0 = 0 }; seq = 0 } ∷ record { idx = record { 0 = 2 }; seq = 2 } ∷ []))
  pub not_ready : (nexts 1 B2-waits).ids ≡ []
  pub in_order : (nexts 3 (received B2-waits (telegram 1 1 0 1 0))).ids ≡ (1, 1) ∷ (1, 2) ∷ []
  pub lowest_place : (nexts 1 (received (received founded (telegram 2 1 0 0 1)) (telegram 1 1 0 1 0))).ids ≡ (1, 1) ∷ []
  pub spelt_127 : spell 127 ≡ 127 ∷ []
  pub spelt_128 : spell 128 ≡ 128 ∷ 1 ∷ []
  pub spelt_65535 : spell 65535 ≡ 255 ∷ 255 ∷ 3 ∷ []
  pub spelt_65536 : spell 65536 ≡ 128 ∷ 128 ∷ 4 ∷ []
  pub last_number : read_at (255 ∷ 255 ∷ 255 ∷ 255 ∷ 15 ∷ []) 0 ≡ got 4294967295 5
  pub too_large : read_at (255 ∷ 255 ∷ 255 ∷ 255 ∷ 16 ∷ []) 0 ≡ Err (no 2)
  pub not_shortest : read_at (128 ∷ 0 ∷ []) 0 ≡ Err (no 2)
  pub list_ABC : three with_C1.raised.raised ≡ true ∷ true ∷ true ∷ []
  pub frontier_120 : three (cut (frontier_call with_C1)) ≡ 1 ∷ 2 ∷ 0 ∷ []
  pub list_B : three without_C1.raised.raised ≡ false ∷ true ∷ false ∷ []
  pub same : is_settled without_C1 ≡ true
