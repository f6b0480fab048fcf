-- The names of a list as parts of the bytes, and what the tests of them answer. Assumes nothing.
use Prim.Native.Nat.{ℕ, zero, suc, ◌+◌, ◌<◌, ◌≤◌}
use native.Mathlib.Omega.{arith}
use mathlib.Core.Path.{◌≡◌, refl, sym, ap, ◌∙◌}
use mathlib.Core.Bool.{Bool, true, false, not, ◌&&◌}
use mathlib.Core.List.{List, [], ◌∷◌}
use lib.ListN.{length, get_or, take, drop}
use lib.Seq.{length-take-le, get_or-take, get_or-drop}
use lib.Dec.{leb, eqb}
use borrow.Author.Tests.{eq-eqb, ne_eqb, eqb-true, eqb-false}
use Rattle.std.specs.List.{list_all, range_with_len}
use Rattle.std.specs.Cmp.Lexicographic.{pointwise}
use Rattle.lists.specs.Lists.{at, all}
use Rattle.lists.proofs.Laws.{all_same}
use Rattle.telegram.proofs.Parts.{texts-at}
use Rattle.telegram.proofs.Filled.{count-texts}
use Rattle.telegram.specs.declared.field.Part.{Part}
use Rattle.telegram.specs.declared.list.Names.{Names}
use Rattle.telegram.specs.Fields.{text}
use Rattle.telegram.specs.Reading.{nowhere, texts, fair_bytes, same_bytes, fair_at, fair}

-- ---- the bytes of a part

pub text_at : (s : List ℕ) (p : Part) (k : ℕ) → k < p.len → at (text s p) k ≡ at s (p.start + k)
text_at s p k h = get_or-take p.len (drop p.start s) k 0 h ∙ get_or-drop p.start s k 0

-- ---- a test of each element of a list, and of each place

all-first : (n : ℕ) (p : ℕ → Bool) → all (suc n) p ≡ (p 0 && all n (λ k. p (suc k)))
unfolding all
all-first zero p = pick (p 0)
  where
    pick : (t : Bool) → (true && t) ≡ (t && true)
    pick true = refl
    pick false = refl
all-first (suc n) p = ap (λ (t : Bool). t && p (suc n)) (all-first n p) ∙ pick (p 0) (all n (λ k. p (suc k))) (p (suc n))
  where
    pick : (a b d : Bool) → ((a && b) && d) ≡ (a && (b && d))
    pick true b d = refl
    pick false b d = refl

pub all-listed : {X : Type 0} (d : X) (p : X → Bool) (l : List X) → list_all p l ≡ all (length l) (λ k. p (get_or l k d))
unfolding all
all-listed d p [] = refl
all-listed d p (x ∷ l) = ap (λ (t : Bool). p x && t) (all-listed d p l) ∙ sym (all-first (length l) (λ k. p (get_or (x ∷ l) k d)))

-- a test of each of n numbers from a on
all-ranged : (p : ℕ → Bool) (a n : ℕ) → list_all p (range_with_len a n) ≡ all n (λ k. p (a + k))
unfolding all
all-ranged p a zero = refl
all-ranged p a (suc n) =
    ap (λ (t : Bool). p a && t) (all-ranged p (a + 1) n ∙ all_same n (λ k. p (a + 1 + k)) (λ k. p (a + suc k)) (λ k lt. ap p (omega arith)))
    ∙ (rw (all-first n (λ k. p (a + k))) (ap (λ (i : ℕ). p i && all n (λ k. p (a + suc k))) (omega arith)))

pub all-counted : (p : ℕ → Bool) (n : ℕ) → list_all p (range_with_len 0 n) ≡ all n p
all-counted p n = all-ranged p 0 n ∙ all_same n (λ k. p (0 + k)) p (λ k lt. ap p (omega arith))

pub fair-listed : (t : List ℕ) → list_all (λ b. leb 33 b && leb b 126) t ≡ fair_bytes t
unfolding fair_bytes
fair-listed t = all-listed 0 (λ b. leb 33 b && leb b 126) t

eqb-suc : (m n : ℕ) → eqb (suc m) (suc n) ≡ eqb m n
eqb-suc m n = pick (eqb m n) refl
  where
    pick : (t : Bool) → eqb m n ≡ t → eqb (suc m) (suc n) ≡ t
    pick true e = eq-eqb (suc m) (suc n) (ap suc (eqb-true m n e))
    pick false e = ne_eqb (suc m) (suc n) (λ h. eqb-false m n e (omega arith))

pub same-listed : (t u : List ℕ) → pointwise eqb t u ≡ same_bytes t u
unfolding same_bytes all
same-listed [] [] = refl
same-listed [] (y ∷ u) = rw (ne_eqb 0 (suc (length u)) (λ e. omega arith)) refl
same-listed (x ∷ t) [] = rw (ne_eqb (suc (length t)) 0 (λ e. omega arith)) refl
same-listed (x ∷ t) (y ∷ u) =
    rw (eqb-suc (length t) (length u))
    (ap (λ (b : Bool). eqb x y && b) (same-listed t u)
    ∙ (pick (eqb x y) (eqb (length t) (length u)) (all (length t) (λ k. eqb (at t k) (at u k)))
    ∙ ap (λ (b : Bool). eqb (length t) (length u) && b) (sym (all-first (length t) (λ k. eqb (at (x ∷ t) k) (at (y ∷ u) k))))))
  where
    pick : (a b d : Bool) → (a && (b && d)) ≡ (b && (a && d))
    pick true b d = refl
    pick false true d = refl
    pick false false d = refl

pub other_length : (t u : List ℕ) → (length t ≡ length u → ⊥) → same_bytes t u ≡ false
unfolding same_bytes
other_length t u h = rw (ne_eqb (length t) (length u) h) refl

-- what a test of two names, or of their lengths, says of them
pub ruleset same_names = (same-listed, other_length)

-- ---- the names of a list

-- the names at two places are the same
abbrev pub same_at : List ℕ → Names → Part → ℕ → Bool
same_at s l p j = same_bytes (text s (get_or l.parts j nowhere)) (text s p)

pub fair-at : (s : List ℕ) (l : Names) (i : ℕ) → i < l.count
    → fair_at (texts s l) i ≡ fair_bytes (text s (get_or l.parts i nowhere)) && all i (λ j. not (same_at s l (get_or l.parts i nowhere) j))
unfolding fair_at
fair-at s l i h = rw (texts-at s l i h) (ap (λ (t : Bool). fair_bytes (text s (get_or l.parts i nowhere)) && t) same)
  where
    same : all i (λ j. not (same_bytes (get_or (texts s l) j []) (text s (get_or l.parts i nowhere)))) ≡ all i (λ j. not (same_at s l (get_or l.parts i nowhere) j))
    same = all_same i (λ j. not (same_bytes (get_or (texts s l) j []) (text s (get_or l.parts i nowhere)))) (λ j. not (same_at s l (get_or l.parts i nowhere) j))
        (λ j lt. rw (texts-at s l j (omega arith)) refl)

-- no name before a fair one is the same
pub fair-before : (s : List ℕ) (l : Names) (i : ℕ) → i < l.count → i ≤ length l.parts → true ≡ fair_bytes (text s (get_or l.parts i nowhere))
    → list_all (λ p. not (same_bytes (text s p) (text s (get_or l.parts i nowhere)))) (take i l.parts) ≡ fair_at (texts s l) i
fair-before s l i h m f =
    let name : Part = get_or l.parts i nowhere in
    let long : length (take i l.parts) ≡ i = length-take-le i l.parts m in
    let test : ℕ → Bool = λ k. not (same_bytes (text s (get_or (take i l.parts) k nowhere)) (text s name)) in
    let same : all (length (take i l.parts)) test ≡ all i (λ j. not (same_at s l name j)) =
    rw long (all_same i test (λ j. not (same_at s l name j)) (λ j lt. rw (get_or-take i l.parts j nowhere lt) refl))
    in
    rw (fair-at s l i h, ← f) (all-listed nowhere (λ p. not (same_bytes (text s p) (text s name))) (take i l.parts) ∙ same)

pub fair-all : (s : List ℕ) (l : Names) → fair (texts s l) ≡ all l.count (fair_at (texts s l))
unfolding fair
fair-all s l = rw (count-texts s l) refl
