-- Names to places as the code finds them: what its loops keep, turn by turn, and what its answers say. Assumes nothing.
use mathlib.Core.Path.{◌≡◌, refl, sym, ap, ◌∙◌}
use mathlib.Core.Bool.{Bool, true, false, cond, not}
use mathlib.Core.List.{List, [], ◌∷◌, ◌++◌, map}
use mathlib.Core.Logic.{⊎_elim}
use Prim.Native.Nat.{ℕ, suc, ◌+◌, ◌-◌, ◌≤◌, ◌<◌, min}
use native.Mathlib.Numerals.{add-one}
use native.Mathlib.Omega.{arith}
use lib.ListN.{length, get_or, set, take, drop, replicate, get_or-replicate, length-replicate, length-map, get_or-map, length-append, length-drop, get_or-append, get_or-eq_default}
use lib.Seq.{length-take-le, get_or-take, get_or-drop, get_or-append_right}
use lib.Dec.{ltb, leb, eqb}
use borrow.Author.Tests.{lt-ltb, ltb-true, le-leb, eq-eqb, eqb-true}
use Rattle.refusal.specs.Refusal.{no}
use Rattle.lists.specs.Lists.{at, tab, over}
use Rattle.lists.proofs.Cases.{split}
use Rattle.lists.proofs.Laws.{all_fails, is-tab, length_over, over-at}
use Rattle.lists.proofs.Turns.{Making, make_none, make_more, make_all, Passing, pass_none, pass_more, pass_all}
use Rattle.clock.specs.Entries.{zero_entries}
use Rattle.clock.proofs.Entrywise.{all_told}
use Rattle.telegram.specs.Fields.{text}
use Rattle.telegram.specs.Reading.{nowhere, texts, same_bytes}
use Rattle.telegram.specs.declared.field.Part.{Part}
use Rattle.telegram.specs.declared.list.Names.{Names}
use Rattle.telegram.proofs.Parts.{part_of, texts-at}
use Rattle.telegram.proofs.Filled.{count-texts}
use Rattle.tcsb.specs.declared.internalizer.Translation.{Translation}
use Rattle.tcsb.specs.Internalizer.{place_of, member_at, translation_of, continues, our_place, our_entries}
use Rattle.std.specs.Prelude.{Ok, Err, Option, Some, None, IsTrue, ◌↔◌}
use Rattle.std.specs.List.{position_or_len}

-- ---- the place of a name

-- whether a part is a name
abbrev is_name : List ℕ → List ℕ → Part → Bool
is_name s t p = same_bytes (text s p) t

texts-listed : (s : List ℕ) (names : Names) → names.count ≤ length names.parts → texts s names ≡ map (text s) (take names.count names.parts)
unfolding texts
texts-listed s names h =
    let n = length-take-le names.count names.parts h in
    sym (is-tab [] (map (text s) (take names.count names.parts)) names.count (λ i. text s (get_or names.parts i nowhere)) (length-map (take names.count names.parts) (text s) ∙ n)
    (λ k lt. get_or-map (text s) (take names.count names.parts) k nowhere ∙ ap (text s) (get_or-take names.count names.parts k nowhere lt)))

place-mapped : (s t : List ℕ) (l : List Part) → position_or_len (is_name s t) l ≡ place_of (map (text s) l) t
unfolding place_of
place-mapped s t [] = refl
place-mapped s t (p ∷ l) = rw (place-mapped s t l) (pick (same_bytes (text s p) t) (place_of (map (text s) l) t))
  where
    pick : (b : Bool) (n : ℕ) → cond (not b) (1 + n) 0 ≡ cond b 0 (suc n)
    pick true n = refl
    pick false n = omega arith

-- what stands at a position of a list is there, and else nothing
abbrev pub found_in : {A : Type 0} → ℕ → List A → Option ℕ
found_in i l = cond (ltb i (length l)) (Some i) None

-- the first part that is the name
pub member-listed : (s : List ℕ) (names : Names) (t : List ℕ) → names.count ≤ length names.parts
    → found_in (position_or_len (is_name s t) (take names.count names.parts)) (take names.count names.parts) ≡ member_at (texts s names) t
member-listed s names t h =
    rw (place-mapped s t (take names.count names.parts), ← texts-listed s names h, length-take-le names.count names.parts h, count-texts s names) refl

-- a place that was found is the name's, below the count; where none was, the name's place isn't below it
pub member-some : (l : List (List ℕ)) (t : List ℕ) (i : ℕ) → Some i ≡ member_at l t → (i ≡ place_of l t) × (i < length l)
member-some l t i e = pick (ltb (place_of l t) (length l)) refl e
  where
    pick : (b : Bool) → ltb (place_of l t) (length l) ≡ b → ◌≡◌ {A = Option ℕ} (Some i) (cond b (Some (place_of l t)) None) → (i ≡ place_of l t) × (i < length l)
    pick true h e = let q : i ≡ place_of l t = cc in (q, rw q (ltb-true (place_of l t) (length l) h))
    pick false h e = absurd (let z : ◌≡◌ {A = ℕ} 0 1 = cc in omega arith)

pub member-none : (l : List (List ℕ)) (t : List ℕ) → None ≡ member_at l t → ltb (place_of l t) (length l) ≡ false
member-none l t e = pick (ltb (place_of l t) (length l)) refl e
  where
    pick : (b : Bool) → ltb (place_of l t) (length l) ≡ b → ◌≡◌ {A = Option ℕ} None (cond b (Some (place_of l t)) None) → b ≡ false
    pick true h e = absurd (let z : ◌≡◌ {A = ℕ} 0 1 = cc in omega arith)
    pick false h e = refl

-- ---- the bytes of an operation

-- as many of them as there are, and 0 behind them
pub bytes_kept : (t r : List ℕ) (n : ℕ) → n ≡ min (length t) 32 → r ≡ take n t → r ++ drop n (replicate 32 0) ≡ tab 32 (at t)
bytes_kept t r n e f =
    let m : length r ≡ n = rw f (length-take-le n t (omega arith)) in
    is-tab 0 (r ++ drop n (replicate 32 0)) 32 (at t)
    (omega (arith, length-append r (drop n (replicate 32 0)), length-drop n (replicate {A = ℕ} 32 0), length-replicate {A = ℕ} 32 0))
    (λ k lt. ⊎_elim
    (λ (a : k < n). get_or-append r (drop n (replicate 32 0)) 0 k (omega arith) ∙ rw f (get_or-take n t k 0 a))
    (λ (b : n ≤ k).
    get_or-append_right r (drop n (replicate 32 0)) k 0 (omega arith)
    ∙ (get_or-drop n (replicate 32 0) (k - length r) 0
    ∙ (get_or-replicate {A = ℕ} 32 (n + (k - length r)) 0 0 (omega arith) ∙ sym (get_or-eq_default t 0 {n = k} (omega arith)))))
    (split k n))

-- ---- the row of a list

-- a listed name is a member's; our place of it
abbrev is_member : List (List ℕ) → List (List ℕ) → ℕ → Bool
is_member names listed p = ltb (place_of names (get_or listed p [])) (length names)

abbrev place_at : List (List ℕ) → List (List ℕ) → ℕ → ℕ
place_at names listed p = place_of names (get_or listed p [])

-- the first p names are members, and their places are made
pub record Translating (list : List ℕ) (names : Names) (s : List ℕ) (listed : Names) (places : List ℕ) (p : ℕ) : Type 0 where
  pub made : Making 0 (place_at (texts list names) (texts s listed)) (replicate 16 0) places listed.count p
  pub members : Passing (is_member (texts list names) (texts s listed)) listed.count p

module _ {list : List ℕ} {names : Names} {s : List ℕ} {listed : Names} where
  pub translate_none : listed.count ≤ 16 → Translating list names s listed (replicate 16 0) 0
  translate_none few = record { made = make_none (omega arith); members = pass_none }

  pub translate_more : {places : List ℕ} {p place : ℕ} → Translating list names s listed places p → p < listed.count
      → Some place ≡ member_at (texts list names) (text s (part_of listed p)) → Translating list names s listed (set places p place) (p + 1)
  translate_more {places} {p} {place} M lt e =
      let f = rw (← texts-at s listed p lt) at (member-some (texts list names) (text s (part_of listed p)) place e) in
      record {
        made = rw f.0 (make_more M.made lt);
        members = pass_more M.members lt (lt-ltb (place_at (texts list names) (texts s listed) p) (length (texts list names)) (rw f.0 at f.1));
      }

module _ (list : List ℕ) (names : Names) (s : List ℕ) (listed : Names) where
  -- a name that is no member's
  pub translate_fails : (p : ℕ) → p < listed.count → None ≡ member_at (texts list names) (text s (part_of listed p))
      → translation_of (texts list names) (texts s listed) ≡ Err (no 7)
  unfolding translation_of
  translate_fails p lt e =
      let f = member-none (texts list names) (text s (part_of listed p)) e in
      rw (all_fails (length (texts s listed)) p (is_member (texts list names) (texts s listed)) (omega (arith, count-texts s listed)) (rw (texts-at s listed p lt) f)) refl

  pub translate_all : (places : List ℕ) (p : ℕ) → Translating list names s listed places p → listed.count ≤ p → listed.count ≤ 16
      → Ok (record { count = listed.count; places = places }) ≡ translation_of (texts list names) (texts s listed)
  unfolding translation_of
  translate_all places p M h few =
      rw (count-texts s listed, pass_all M.members h) (λ i. Ok (record { count = listed.count; places = whole i }))
    where
      f : ℕ → ℕ
      f = place_at (texts list names) (texts s listed)

      whole : places ≡ tab 16 (λ p. cond (ltb p listed.count) (f p) 0)
      whole =
          make_all M.made h
          ∙ is-tab 0 (over 0 listed.count f (replicate 16 0)) 16 (λ p. cond (ltb p listed.count) (f p) 0) (length_over 0 listed.count f (replicate 16 0))
          (λ k lt. over-at 0 listed.count f (replicate 16 0) k lt ∙ rw (get_or-replicate {A = ℕ} 16 k 0 0 lt) refl)

-- ---- a row that goes on from the known one

-- a test that answers whether each place of the known row is the same
pub continues_told : (r : Bool) (known row : Translation) → known.count ≤ 16 → known.count ≤ row.count
    → IsTrue r ↔ ((j : ℕ) → j < known.count → at known.places j ≡ at row.places j) → r ≡ continues known row
unfolding continues
continues_told r known row few le h =
    rw (le-leb known.count row.count le)
    (all_told r known.count (λ p. eqb (at known.places p) (at row.places p)) (λ t j lt. eq-eqb (at known.places j) (at row.places j) (h.0 t j lt))
    (λ f. h.1 (λ j lt. eqb-true (at known.places j) (at row.places j) (f j lt))))

pub continues-short : (known row : Translation) → leb known.count row.count ≡ false → false ≡ continues known row
unfolding continues
continues-short known row h = rw h refl

-- ---- entries at our places

-- those of the first p names
pub record Moving (row : Translation) (v r : List ℕ) (p : ℕ) : Type 0 where
  pub within : p ≤ row.count
  pub so_far : r ≡ our_entries p row v

module _ {row : Translation} {v r : List ℕ} where
  pub move_none : r ≡ zero_entries → Moving row v r 0
  unfolding our_entries
  move_none e = record { within = omega arith; so_far = e }

  pub move_more : {p place : ℕ} {q : List ℕ} → Moving row v r p → p < row.count → place ≡ our_place row p → q ≡ set r place (at v p) → Moving row v q (p + 1)
  unfolding our_entries
  move_more {p} {place} {q} M h e w = record { within = omega arith; so_far = rw (add-one, w, e, M.so_far) refl }

  pub move_all : {p : ℕ} → Moving row v r p → row.count ≤ p → r ≡ our_entries row.count row v
  move_all {p} M h = let a : p ≡ row.count = omega (arith, M.within) in M.so_far ∙ rw a refl
