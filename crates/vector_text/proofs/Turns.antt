-- Decimal digits, byte by byte. Assumes nothing.
use Rattle.std.proofs.Common.{ℕ, ◌≡◌, ◌+◌, ◌-◌, ◌≤◌, ◌<◌, List, length, get_or, take, drop, refl, suc, arith, drop-cons}
use Rattle.std.proofs.Math.ListN.{drop_of_length-le}
use Rattle.std.proofs.lemmas.List.{take_all, length-drop}
use borrow.Author.Tests.{le-leb, lt-leb}
use Rattle.vector_text.specs.Text.{with_digit, number_from}

-- the bytes from a place on, as a part of the text is
pub part_is : (text : List ℕ) (k : ℕ) → take (length text - k) (drop k text) ≡ drop k text
part_is text k = take_all (length text - k) (drop k text) (omega (arith, length-drop k text))

module _ (s : List ℕ) where
  pub digit_more : (value i k : ℕ) → k < length s → 48 ≤ get_or s k 0 → get_or s k 0 ≤ 57
      → number_from value (i + k) (drop k s) ≡ number_from (with_digit value (get_or s k 0 - 48)) (i + (k + 1)) (drop (k + 1) s)
  unfolding number_from
  digit_more value i k lt low high =
      let place : i + k + 1 ≡ i + (k + 1) = omega arith in
      let behind : suc k ≡ k + 1 = omega arith in
      rw (drop-cons s k 0 lt, le-leb 48 (get_or s k 0) low, le-leb (get_or s k 0) 57 high) (cc)

  pub digit_low : (value i k : ℕ) → k < length s → get_or s k 0 < 48 → number_from value (i + k) (drop k s) ≡ record { value = value; next = i + k }
  unfolding number_from
  digit_low value i k lt low = rw (drop-cons s k 0 lt, lt-leb 48 (get_or s k 0) low) refl

  pub digit_high : (value i k : ℕ) → k < length s → 48 ≤ get_or s k 0 → 57 < get_or s k 0 → number_from value (i + k) (drop k s) ≡ record { value = value; next = i + k }
  unfolding number_from
  digit_high value i k lt low high = rw (drop-cons s k 0 lt, le-leb 48 (get_or s k 0) low, lt-leb (get_or s k 0) 57 high) refl

  pub digits_end : (value i k : ℕ) → length s ≤ k → number_from value (i + k) (drop k s) ≡ record { value = value; next = i + k }
  unfolding number_from
  digits_end value i k le = rw (drop_of_length-le s {i = k} le) refl
