-- Elements that stand in a list from a place on. Assumes nothing.
use mathlib.Core.Path.{◌≡◌, refl, sym, ap, ◌∙◌}
use mathlib.Core.List.{List, [], ◌++◌}
use Prim.Native.Nat.{ℕ, ◌+◌, ◌≤◌}
use native.Mathlib.Omega.{arith}
use lib.ListN.{length, take, drop, length-append, length-drop, take-append-drop}
use lib.Seq.{take_all, take-add, drop-drop, take-append_seam, drop-append_seam, take-take, length-take-le}

module _ {A : Type 0} where
  -- these elements stand at a place, and next is the place behind them
  pub record Stands (s : List A) (at : ℕ) (b : List A) (next : ℕ) : Type 0 where
    pub ends : next ≡ at + length b
    pub within : next ≤ length s
    pub same : take (length b) (drop at s) ≡ b

  module _ {s : List A} {at : ℕ} where
    pub stand_none : at ≤ length s → Stands s at [] at
    stand_none h = record { ends = omega arith; within = h; same = refl }

    -- a part of a list
    pub stand_part : (n : ℕ) → at + n ≤ length s → Stands s at (take n (drop at s)) (at + n)
    stand_part n h =
        let l = length-take-le n (drop at s) (omega (arith, length-drop at s)) in
        record { ends = omega (arith, l); within = h; same = rw l }

    pub stand_join : {mid next : ℕ} {b c : List A} → Stands s at b mid → Stands s mid c next → Stands s at (b ++ c) next
    stand_join {mid} {next} {b} {c} p q = record {
      ends = omega (arith, p.ends, q.ends, length-append b c);
      within = q.within;
      same =
          rw (length-append b c, take-add (length b) (length c) (drop at s), p.same, drop-drop (length b) at s, ← p.ends, q.same);
    }

    pub stand_first : (b c : List A) {next : ℕ} → Stands s at (b ++ c) next → Stands s at b (at + length b)
    stand_first b c p = record {
      ends = refl;
      within = omega (arith, p.ends, p.within, length-append b c);
      same =
          sym (take-take (length b) (length (b ++ c)) (drop at s) (omega (arith, length-append b c))) ∙ (ap (take (length b)) p.same ∙ take-append_seam b c);
    }

    pub stand_second : (b c : List A) {next : ℕ} → Stands s at (b ++ c) next → Stands s (at + length b) c next
    stand_second b c p = record {
      ends = omega (arith, p.ends, length-append b c);
      within = p.within;
      same = rw (← drop-drop (length b) at s) (sym (drop-append_seam b _) ∙ (ap (drop (length b)) both ∙ drop-append_seam b c));
    }
      where
        both : b ++ take (length c) (drop (length b) (drop at s)) ≡ b ++ c
        both = ap (λ (l : List A). l ++ take (length c) (drop (length b) (drop at s))) (sym (stand_first b c p).same)
            ∙ (sym (take-add (length b) (length c) (drop at s)) ∙ rw (← length-append b c) p.same)

    pub stand_drop : {next : ℕ} {b : List A} → Stands s at b next → drop at s ≡ b ++ drop next s
    stand_drop {next} {b} p =
        sym (take-append-drop (length b) (drop at s)) ∙ rw (p.same, drop-drop (length b) at s, p.ends)

  pub stand_whole : (s : List A) → Stands s 0 s (length s)
  stand_whole s = record { ends = omega arith; within = omega arith; same = take_all (length s) s (omega arith) }

  -- what stands in the whole of a list is that list
  pub stand_only : {s b : List A} → Stands s 0 b (length s) → s ≡ b
  stand_only {s} {b} p = sym (take_all (length b) s (omega (arith, p.ends))) ∙ p.same
