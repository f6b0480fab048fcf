-- Equality of the clocks over their members is an equivalence. Assumes nothing.
use Rattle.std.specs.Prelude.{ℕ, ◌≡◌, ◌<◌, Bool, true, ◌&&◌, List, eqb}
use mathlib.Core.Path.{refl, sym, ◌∙◌, subst}
use borrow.Author.Tests.{eqb-true, eq-eqb}
use Rattle.std.specs.Cmp.{IsPartialEquivalence, IsEquivalence, partial_equiv_from_equiv, equiv, both_ways}
use Rattle.lists.specs.Lists.{at}
use Rattle.lists.proofs.Laws.{all-at, all-each, and_both}
use Rattle.clock.specs.Entries.{same_entries}
use Rattle.clock.specs.Version.{same_version}
use Rattle.clock.specs.Frontier.{same_frontier}
use Rattle.clock.specs.Matrix.{row_of, same_rows, same_matrix}
use Rattle.clock.specs.declared.version_vector.Row.{Row}
use Rattle.clock.specs.declared.version_vector.Version.{Version}
use Rattle.clock.specs.declared.causal_frontier.CausalFrontier.{CausalFrontier}
use Rattle.clock.specs.declared.matrix_clock.MatrixClock.{MatrixClock}

both_true : {a b : Bool} → a ≡ true → b ≡ true → (a && b) ≡ true
both_true p q = rw (p, q) refl

-- ---- rows

pub same-entries_each : (n : ℕ) (a b : List ℕ) → ((j : ℕ) → j < n → at a j ≡ at b j) → same_entries n a b ≡ true
same-entries_each n a b h = all-each n (λ j. eqb (at a j) (at b j)) (λ j l. eq-eqb (at a j) (at b j) (h j l))

pub same_entry : (n : ℕ) (a b : List ℕ) → same_entries n a b ≡ true → (j : ℕ) → j < n → at a j ≡ at b j
same_entry n a b e j l = eqb-true (at a j) (at b j) (all-at n j (λ k. eqb (at a k) (at b k)) e l)

pub entries-equiv : (n : ℕ) → IsEquivalence (same_entries n)
entries-equiv n = equiv (record {
  symm = λ a b. both_ways (same_entries n a b) (same_entries n b a) (turn a b) (turn b a);
  trans = λ a b c p q. same-entries_each n a c (λ j l. same_entry n a b p j l ∙ same_entry n b c q j l);
}) (λ a. same-entries_each n a a (λ j l. refl))
  where
    turn : (a b : List ℕ) → same_entries n a b ≡ true → same_entries n b a ≡ true
    turn a b e = same-entries_each n b a (λ j l. sym (same_entry n a b e j l))

pub rows-equiv : (n : ℕ) → IsEquivalence (same_rows n)
rows-equiv n = equiv (record {
  symm = λ a b. both_ways (same_rows n a b) (same_rows n b a) (turn a b) (turn b a);
  trans = λ a b c p q. all-each n (λ i. same_entries n (row_of a i) (row_of c i))
      (λ i l. (entries-equiv n).congr (row_of a i) (row_of b i) (row_of c i) (here a b p i l) ∙ here b c q i l);
}) (λ a. all-each n (λ i. same_entries n (row_of a i) (row_of a i)) (λ i l. (entries-equiv n).refl (row_of a i)))
  where
    here : (a b : List Row) → same_rows n a b ≡ true → (i : ℕ) → i < n → same_entries n (row_of a i) (row_of b i) ≡ true
    here a b e i l = all-at n i (λ k. same_entries n (row_of a k) (row_of b k)) e l

    turn : (a b : List Row) → same_rows n a b ≡ true → same_rows n b a ≡ true
    turn a b e = all-each n (λ i. same_entries n (row_of b i) (row_of a i))
        (λ i l. (entries-equiv n).symm (row_of b i) (row_of a i) ∙ here a b e i l)

-- ---- equal counts, and what is the same over them

module _ {K : Type 0} (count : K → ℕ) (E : ℕ → K → K → Bool) (law : (n : ℕ) → IsEquivalence (E n)) where
  abbrev over_count : K → K → Bool
  over_count x y = eqb (count x) (count y) && E (count x) x y

  counts : (x y : K) → over_count x y ≡ true → count x ≡ count y
  counts x y e = eqb-true (count x) (count y) ((and_both (eqb (count x) (count y)) (E (count x) x y) e).0)

  rest : (x y : K) → over_count x y ≡ true → E (count x) x y ≡ true
  rest x y e = (and_both (eqb (count x) (count y)) (E (count x) x y) e).1

  counted : (x y : K) → count x ≡ count y → E (count x) x y ≡ true → over_count x y ≡ true
  counted x y p q = both_true (eq-eqb (count x) (count y) p) q

  turn : (x y : K) → over_count x y ≡ true → over_count y x ≡ true
  turn x y e =
      counted y x (sym (counts x y e)) (subst (λ (n : ℕ). E n y x ≡ true) (counts x y e) ((law (count x)).symm y x ∙ rest x y e))

  over-count_equiv : IsEquivalence over_count
  over-count_equiv = equiv (record {
    symm = λ x y. both_ways (over_count x y) (over_count y x) (turn x y) (turn y x);
    trans = λ x y z p q. counted x z (counts x y p ∙ counts y z q)
        ((law (count x)).congr x y z (rest x y p) ∙ subst (λ (n : ℕ). E n y z ≡ true) (sym (counts x y p)) (rest y z q));
  }) (λ x. counted x x refl ((law (count x)).refl x))

-- two tests
both_equiv : {K : Type 0} {E F : K → K → Bool} → IsEquivalence E → IsEquivalence F → IsEquivalence (λ x y. E x y && F x y)
both_equiv {K} {E} {F} e f = equiv (record {
  symm = λ x y. rw (e.symm x y, f.symm x y) refl;
  trans = λ x y z p q.
      let a = and_both (E x y) (F x y) p in let b = and_both (E y z) (F y z) q in
      both_true (e.congr x y z a.0 ∙ b.0) (f.congr x y z a.1 ∙ b.1);
}) (λ x. both_true (e.refl x) (f.refl x))

-- a test of a part
part_equiv : {K X : Type 0} (f : K → X) {E : X → X → Bool} → IsEquivalence E → IsEquivalence (λ x y. E (f x) (f y))
part_equiv f e = record {
  refl = λ x. e.refl (f x);
  symm = λ x y. e.symm (f x) (f y);
  congr = λ x y z. e.congr (f x) (f y) (f z);
}

number-equiv : IsEquivalence (λ x y. eqb x y)
number-equiv = equiv (record {
  symm = λ x y. both_ways (eqb x y) (eqb y x) (λ e. eq-eqb y x (sym (eqb-true x y e))) (λ e. eq-eqb x y (sym (eqb-true y x e)));
  trans = λ x y z p q. eq-eqb x z (eqb-true x y p ∙ eqb-true y z q);
}) (λ x. eq-eqb x x refl)

-- ---- the clocks

pub same_version_equiv : IsEquivalence same_version
same_version_equiv =
    over-count_equiv (λ (v : Version). v.members)
    (λ n a b. eqb a.origin.0 b.origin.0 && same_entries n a.row.entries b.row.entries)
    (λ n. both_equiv (part_equiv (λ (v : Version). v.origin.0) number-equiv) (part_equiv (λ (v : Version). v.row.entries) (entries-equiv n)))

pub same_frontier_equiv : IsEquivalence same_frontier
same_frontier_equiv =
    over-count_equiv (λ (f : CausalFrontier). f.members)
    (λ n a b. same_entries n a.row.entries b.row.entries)
    (λ n. part_equiv (λ (f : CausalFrontier). f.row.entries) (entries-equiv n))

pub same_matrix_equiv : IsEquivalence same_matrix
same_matrix_equiv =
    over-count_equiv (λ (m : MatrixClock). m.members)
    (λ n a b. eqb a.origin.0 b.origin.0 && same_rows n a.rows b.rows)
    (λ n. both_equiv (part_equiv (λ (m : MatrixClock). m.origin.0) number-equiv) (part_equiv (λ (m : MatrixClock). m.rows) (rows-equiv n)))

pub same_version_per : IsPartialEquivalence same_version
same_version_per = partial_equiv_from_equiv same_version_equiv

pub same_frontier_per : IsPartialEquivalence same_frontier
same_frontier_per = partial_equiv_from_equiv same_frontier_equiv

pub same_matrix_per : IsPartialEquivalence same_matrix
same_matrix_per = partial_equiv_from_equiv same_matrix_equiv
