-- A founded replica is well-formed. Assumes nothing.
use mathlib.Core.Path.{◌≡◌, refl, ap, ◌∙◌}
use mathlib.Core.Bool.{Bool, true, false, cond}
use mathlib.Core.List.Memᴰ
use mathlib.Core.List.{List}
use Prim.Native.Nat.{ℕ, ◌<◌}
use native.Mathlib.Omega.{arith}
use lib.ListN.{length}
use lib.Dec.{ltb}
use borrow.Author.Tests.{ltb-true}
use Rattle.refusal.specs.Refusal.{no}
use Rattle.lists.specs.Lists.{at, tab}
use Rattle.lists.proofs.Laws.{length-tab}
use Rattle.clock.specs.declared.version_vector.Row.{Row}
use Rattle.clock.specs.Entries.{zero_entries}
use Rattle.clock.specs.Matrix.{zero_row, row_of, cell, zero_matrix}
use Rattle.telegram.specs.Reading.{fair}
use Rattle.tcsb.specs.Internalizer.{no_translation}
use Rattle.tcsb.specs.Replica.{State, zero_state, counts_fit, found_of}
use Rattle.tcsb.specs.WellFormed.{GoodEntries, GoodRow, WellFormed}
use Rattle.tcsb.proofs.Places.{tab-each}
use Rattle.tcsb.proofs.Valid.{facts_valid, counts_range}
use Rattle.std.specs.Prelude.{Ok, Err}

pub zero-at : (j : ℕ) → at zero_entries j ≡ 0
zero-at j = tab-each {A = ℕ} 16 0 j

pub zero-good : GoodEntries zero_entries
zero-good = record { sixteen = length-tab {A = ℕ} 16 (λ j. 0); numbers = λ j. rw (zero-at j) (omega arith) }

-- each row of a matrix of zeros
zero_row_lem : (i : ℕ) → row_of (tab 16 (λ k. zero_row)) i ≡ zero_entries
zero_row_lem i = ap (λ (r : Row). r.entries) (tab-each 16 zero_row i)

zero-cell : (i j : ℕ) → cell (tab 16 (λ k. zero_row)) i j ≡ 0
zero-cell i j = ap (λ (l : List ℕ). at l j) (zero_row_lem i) ∙ zero-at j

-- nothing is known of a sender
pub unknown_good : (n : ℕ) → GoodRow n no_translation
unknown_good n = record { few = omega arith; members = λ p h. absurd (omega arith); distinct = λ p q h g e. omega arith }

zero-well : (names : List (List ℕ)) (place : ℕ) → counts_fit names ≡ true → fair names ≡ true → place < length names → WellFormed (zero_state names place)
zero-well names place c d h = record {
  counts = c;
  distinct = d;
  listed = refl;
  ours = h;
  rows = length-tab 16 (λ k. zero_row);
  entries = λ i. rw (zero_row_lem i) zero-good;
  unlisted = λ i j _. zero-cell i j;
  valid =
      facts_valid (zero_matrix place (length names))
      (record {
        two = (counts_range names c).0;
        few = (counts_range names c).1;
        place = h;
        under = λ i j _ _. omega (arith, zero-cell i j);
        largest = λ i j _ _. omega (arith, zero-cell i j);
      });
  one_list = refl;
  cuts = zero-good;
  below = λ i j _ _. omega (arith, zero-at j);
  columns = length-tab {A = Bool} 16 (λ j. false);
  senders = length-tab 16 (λ i. no_translation);
  known = λ i. rw (tab-each 16 no_translation i) (unknown_good (length names));
  inbox_sorted = tt;
  inbox-room = omega arith;
  waits = λ e m. absurd (Memᴰ.not-nil m);
  outbox_sorted = tt;
  outbox-room = omega arith;
  keeps = λ e m. absurd (Memᴰ.not-nil m);
}

pub founded-well : (names : List (List ℕ)) (place : ℕ) (st : State) → found_of names place ≡ Ok st → WellFormed st
unfolding found_of
founded-well names place st = go (counts_fit names) (fair names) (ltb place (length names)) refl refl refl
  where
    go : (a b c : Bool) → counts_fit names ≡ a → fair names ≡ b → ltb place (length names) ≡ c
        → cond a (cond b (cond c (Ok (zero_state names place)) (Err (no 9))) (Err (no 6))) (Err (no 4)) ≡ Ok st → WellFormed st
    go false b c p q r h = absurd (let z : ◌≡◌ {A = ℕ} 0 1 = cc in omega arith)
    go true false c p q r h = absurd (let z : ◌≡◌ {A = ℕ} 0 1 = cc in omega arith)
    go true true false p q r h = absurd (let z : ◌≡◌ {A = ℕ} 0 1 = cc in omega arith)
    go true true true p q r h =
        let e : st ≡ zero_state names place = cc in rw e (zero-well names place p q (ltb-true place (length names) r))
