-- A list that is admitted gives a row of places of ours, each of another member. Assumes nothing.
use mathlib.Core.Path.{◌≡◌, refl, sym, ap, ◌∙◌}
use mathlib.Core.Bool.{Bool, true, false, cond, not}
use mathlib.Core.List.{List, [], ◌∷◌}
use Prim.Native.Nat.{ℕ, suc, ◌≤◌, ◌<◌}
use native.Mathlib.Nat.{not-suc-le-zero, le_of_suc-le-suc}
use native.Mathlib.Omega.{arith}
use lib.ListN.{length, get_or}
use lib.Seq.{ext_get_or}
use lib.Dec.{ltb, eqb}
use borrow.Author.Tests.{lt-ltb, ltb-true, eqb-true, eqb-false, eq-eqb, not-true}
use Rattle.refusal.specs.declared.Refusal.{Refusal}
use Rattle.refusal.specs.Refusal.{no}
use Rattle.lists.specs.Lists.{at, tab, all}
use Rattle.lists.proofs.Laws.{get_or-tab, all-at, all-each, and_both}
use Rattle.telegram.specs.Reading.{same_bytes, fair_bytes, fair_at, fair}
use Rattle.telegram.proofs.Steps.{whole_same, then_is, if_whole}
use Rattle.tcsb.specs.declared.internalizer.Translation.{Translation}
use Rattle.tcsb.specs.Internalizer.{no_translation, place_of, translation_of, continues, our_place}
use Rattle.tcsb.specs.Replica.{State, own, admitted}
use Rattle.tcsb.specs.WellFormed.{GoodRow}
use Rattle.std.specs.Prelude.{Ok, Err}

-- ---- names

pub same_bytes_lem : (t u : List ℕ) → same_bytes t u ≡ true → t ≡ u
unfolding same_bytes
same_bytes_lem t u e =
    let b = and_both (eqb (length t) (length u)) (all (length t) (λ k. eqb (at t k) (at u k))) e in
    ext_get_or 0 t u (eqb-true (length t) (length u) b.0)
    (λ k lt. eqb-true (at t k) (at u k) (all-at (length t) k (λ k. eqb (at t k) (at u k)) b.1 lt))

pub bytes_same : (t : List ℕ) → same_bytes t t ≡ true
unfolding same_bytes
bytes_same t =
    rw (eq-eqb (length t) (length t) refl, all-each (length t) (λ k. eqb (at t k) (at t k)) (λ k lt. eq-eqb (at t k) (at t k) refl)) refl

-- a name that is found stands at its place
pub place_is : (names : List (List ℕ)) (t : List ℕ) → place_of names t < length names → get_or names (place_of names t) [] ≡ t
unfolding place_of
place_is [] t = λ lt. absurd (not-suc-le-zero lt)
place_is (x ∷ l) t = pick (same_bytes x t) refl (place_is l t)
  where
    pick : (b : Bool) → same_bytes x t ≡ b → (place_of l t < length l → get_or l (place_of l t) [] ≡ t)
        → cond b 0 (suc (place_of l t)) < suc (length l) → get_or (x ∷ l) (cond b 0 (suc (place_of l t))) [] ≡ t
    pick true e h lt = same_bytes_lem x t e
    pick false e h lt = h (le_of_suc-le-suc lt)

-- no name stands twice in a list that is fair
pub fair_apart : (l : List (List ℕ)) (i j : ℕ) → fair l ≡ true → j < i → i < length l → get_or l j [] ≡ get_or l i [] → ⊥
unfolding fair fair_at
fair_apart l i j f lt h e =
    let a = all-at (length l) i (fair_at l) f h in
    let b = and_both (fair_bytes (get_or l i [])) (all i (λ j. not (same_bytes (get_or l j []) (get_or l i [])))) a in
    let c = not-true (same_bytes (get_or l j []) (get_or l i [])) (all-at i j (λ j. not (same_bytes (get_or l j []) (get_or l i []))) b.1 lt) in
    let d : same_bytes (get_or l j []) (get_or l i []) ≡ true = rw e (bytes_same (get_or l i [])) in
    let z : ◌≡◌ {A = ℕ} 0 1 = cc in
    omega arith

-- ---- rows

-- the row of a list
abbrev row_for : List (List ℕ) → List (List ℕ) → Translation
row_for names listed = record { count = length listed; places = tab 16 (λ p. cond (ltb p (length listed)) (place_of names (get_or listed p [])) 0) }

row_at : (names listed : List (List ℕ)) (p : ℕ) → length listed ≤ 16 → p < length listed → our_place (row_for names listed) p ≡ place_of names (get_or listed p [])
row_at names listed p few lt =
    get_or-tab 0 16 (λ p. cond (ltb p (length listed)) (place_of names (get_or listed p [])) 0) p (omega arith) ∙ rw (lt-ltb p (length listed) lt) refl

-- each listed name is a member's
abbrev Members : List (List ℕ) → List (List ℕ) → Type 0
Members names listed = (p : ℕ) → p < length listed → place_of names (get_or listed p []) < length names

row_good : (names listed : List (List ℕ)) → length listed ≤ 16 → fair listed ≡ true → Members names listed → GoodRow (length names) (row_for names listed)
row_good names listed few f m = record {
  few = few;
  members = λ p lt. rw (row_at names listed p few lt) (m p lt);
  distinct = λ p q lt h e. fair_apart listed q p f lt h (sym (name p (omega arith)) ∙ (ap (λ (k : ℕ). get_or names k []) e ∙ name q h));
}
  where
    name : (p : ℕ) → p < length listed → get_or names (our_place (row_for names listed) p) [] ≡ get_or listed p []
    name p lt = rw (row_at names listed p few lt) (place_is names (get_or listed p []) (m p lt))

-- what is translated is the list's row
translation_is : (names listed : List (List ℕ)) (row : Translation) → translation_of names listed ≡ Ok row → Members names listed × (row_for names listed ≡ row)
unfolding translation_of
translation_is names listed row e =
    let i = if_whole (all (length listed) (λ p. ltb (place_of names (get_or listed p [])) (length names))) (Ok (row_for names listed)) (no 7) e in (
      λ p lt.
          ltb-true (place_of names (get_or listed p [])) (length names)
          (all-at (length listed) p (λ p. ltb (place_of names (get_or listed p [])) (length names)) i.0 lt),
      whole_same i.1,
    )

-- ---- lists that are admitted

-- the row of so many names of n members, and its sender is another than we
pub record AdmittedRow (n ours count sender : ℕ) (row : Translation) : Type 0 where
  pub counts : row.count ≡ count
  pub good : GoodRow n row
  pub other : our_place row sender ≡ ours → ⊥

-- what a test didn't refuse
if_not : {A : Type 0} (t : Bool) (k : Refusal) {a b : A} → cond t (Err k) (Ok a) ≡ Ok b → (t ≡ false) × (a ≡ b)
if_not true k e = absurd (let z : ◌≡◌ {A = ℕ} 0 1 = cc in omega arith)
if_not false k e = (refl, whole_same e)

pub admitted-is : (st : State) (listed : List (List ℕ)) (sender : ℕ) (row : Translation) → length listed ≤ 16 → fair listed ≡ true
    → admitted st listed sender ≡ Ok row → AdmittedRow (length st.names) (own st) (length listed) sender row
unfolding admitted
admitted-is st listed sender row few f e =
    then_is (translation_of st.names listed) _ e (λ r er e1.
    let i = if_whole (continues (get_or st.known (our_place r sender) no_translation) r) _ (no 8) e1 in
    let o = if_not (eqb (our_place r sender) (own st)) (no 10) i.1 in
    let t = translation_is st.names listed r er in
    let q = t.1 ∙ o.1 in
    record {
      counts = sym (ap (λ (r : Translation). r.count) q);
      good = rw (← q) (row_good st.names listed few f t.0);
      other = rw (← o.1) (eqb-false (our_place r sender) (own st) o.0);
    })
