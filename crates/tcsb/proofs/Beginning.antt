-- Founding a replica: what is judged of the names that are lent is what its definition asks, and the replica that is made is good. Assumes nothing.
use mathlib.Core.Path.{◌≡◌, refl, sym, ap, ◌∙◌}
use mathlib.Core.Bool.{Bool, true, false, cond, ◌&&◌, ◌||◌}
use mathlib.Core.List.{List, []}
use Prim.Native.Nat.{ℕ, ◌+◌, ◌≤◌, ◌<◌}
use native.Mathlib.Omega.{arith}
use lib.ListN.{length, get_or}
use lib.Dec.{leb, ltb}
use borrow.Author.Tests.{lt-ltb, le-ltb, le-leb, leb-true, leb-false, eq-eqb}
use Rattle.refusal.specs.declared.Refusal.{Refusal}
use Rattle.refusal.specs.Refusal.{no}
use Rattle.lists.specs.Lists.{all}
use Rattle.lists.proofs.Laws.{all-at, all-each, and_both}
use Rattle.clock.specs.declared.causal_frontier.CausalFrontier.{CausalFrontier}
use Rattle.clock.specs.declared.matrix_clock.MatrixClock.{MatrixClock}
use Rattle.clock.specs.Entries.{zero_entries}
use Rattle.clock.specs.Version.{fits_of}
use Rattle.clock.specs.Matrix.{zero_matrix, new_matrix}
use Rattle.clock.specs.Frontier.{new_frontier}
use Rattle.telegram.specs.Reading.{nowhere, texts, fair}
use Rattle.telegram.specs.Writing.{list_fits, list_judged}
use Rattle.telegram.specs.declared.list.Names.{Names}
use Rattle.telegram.proofs.Filled.{count-texts}
use Rattle.telegram.proofs.Steps.{whole_same}
use Rattle.telegram.proofs.Parts.{list_fits_lem, fits_list, texts-at, length-text, length_name}
use Rattle.store.proofs.Freeing.{empty_good}
use Rattle.tcsb.specs.declared.tcsb.Tcsb.{Tcsb}
use Rattle.tcsb.specs.Replica.{State, zero_state, counts_fit, found_of}
use Rattle.tcsb.specs.Tcsb.{has_words, zero_tcsb, view, Sound, inside, founding_of, Founds}
use Rattle.tcsb.proofs.Valid.{done_fits, counts_range}
use Rattle.tcsb.proofs.Founding.{founded-well}
use Rattle.tcsb.proofs.Calls.{good-after, not_both}
use Rattle.std.specs.Prelude.{Result, Ok, Err}

-- ---- the names

-- the length of each name
counts-at : (names : List (List ℕ)) (i : ℕ) → counts_fit names ≡ true → i < length names → (1 ≤ length (get_or names i [])) × (length (get_or names i []) ≤ 16)
unfolding counts_fit
counts-at names i h lt =
    let a = and_both (leb 2 (length names) && leb (length names) 16) (all (length names) (λ i. leb 1 (length (get_or names i [])) && leb (length (get_or names i [])) 16)) h in
    let b = and_both (leb 1 (length (get_or names i []))) (leb (length (get_or names i [])) 16)
    (all-at (length names) i (λ i. leb 1 (length (get_or names i [])) && leb (length (get_or names i [])) 16) a.1 lt) in
    (leb-true 1 (length (get_or names i [])) b.0, leb-true (length (get_or names i [])) 16 b.1)

at-counts : (names : List (List ℕ)) → 2 ≤ length names → length names ≤ 16 → ((i : ℕ) → i < length names → (1 ≤ length (get_or names i [])) × (length (get_or names i []) ≤ 16))
    → counts_fit names ≡ true
unfolding counts_fit
at-counts names h g each =
    rw (
      le-leb 2 (length names) h,
      le-leb (length names) 16 g,
      all-each (length names) (λ i. leb 1 (length (get_or names i [])) && leb (length (get_or names i [])) 16)
          (λ i lt. rw (le-leb 1 (length (get_or names i [])) (each i lt).0, le-leb (length (get_or names i [])) 16 (each i lt).1) refl),
    ) refl

module _ (list : List ℕ) (names : Names) where
  inside-at : (i : ℕ) → inside list names ≡ true → i < names.count → (get_or names.parts i nowhere).start + (get_or names.parts i nowhere).len ≤ length list
  inside-at i h lt =
      leb-true ((get_or names.parts i nowhere).start + (get_or names.parts i nowhere).len) (length list)
      (all-at names.count i (λ i. leb ((get_or names.parts i nowhere).start + (get_or names.parts i nowhere).len) (length list)) h lt)

  -- names that lie inside the list and have their counts fit
  fits_both_lem : inside list names ≡ true → counts_fit (texts list names) ≡ true → list_fits list names ≡ true
  fits_both_lem h g =
      let n = count-texts list names in
      let r = counts_range (texts list names) g in
      list_fits_lem (record {
        some = omega (arith, n, r.0);
        few = omega (arith, n, r.1);
        parts = λ i lt.
            let e = ap length (texts-at list names i lt) ∙ length-text list (get_or names.parts i nowhere) (inside-at i h lt) in
            let c = counts-at (texts list names) i g (omega (arith, n)) in
            record { least = omega (arith, e, c.0); most = omega (arith, e, c.1); within = inside-at i h lt };
      })

  fits_inside : list_fits list names ≡ true → inside list names ≡ true
  fits_inside h =
      all-each names.count (λ i. leb ((get_or names.parts i nowhere).start + (get_or names.parts i nowhere).len) (length list))
      (λ i lt. le-leb ((get_or names.parts i nowhere).start + (get_or names.parts i nowhere).len) (length list) ((fits_list list names h).parts i lt).within)

  fits_counts : list_fits list names ≡ true → 2 ≤ names.count → counts_fit (texts list names) ≡ true
  fits_counts h two =
      let n = count-texts list names in
      let l = fits_list list names h in
      at-counts (texts list names) (omega (arith, n)) (omega (arith, n, l.few)) (λ i lt.
      let e = length_name l i (omega (arith, n)) in
      (omega (arith, e, (l.parts i (omega (arith, n))).least), omega (arith, e, (l.parts i (omega (arith, n))).most)))

-- ---- what founding answers

-- what founding answers to names whose count and lengths are right
abbrev pub fairly_placed : List (List ℕ) → ℕ → Result State Refusal
fairly_placed names place = cond (fair names) (cond (ltb place (length names)) (Ok (zero_state names place)) (Err (no 9))) (Err (no 6))

-- a frontier of zeros
abbrev pub zero_cut : ℕ → CausalFrontier
zero_cut n = record { members = n; row = record { entries = zero_entries } }

module _ (list : List ℕ) (names : Names) (place : ℕ) (p q : List ℕ) where
  no_words : has_words (length p) (length q) ≡ false → founding_of list names place p q ≡ Err (no 4)
  unfolding founding_of
  no_words h = rw h refl

  not-counted : counts_fit (texts list names) ≡ false → founding_of list names place p q ≡ Err (no 4)
  unfolding founding_of found_of
  not-counted h = go (has_words (length p) (length q) && inside list names)
    where
      go : (b : Bool)
          → cond b (cond (counts_fit (texts list names)) (fairly_placed (texts list names) place) (Err (no 4))) (Err (no 4)) ≡ Err (no 4)
      go true = rw h refl
      go false = refl

  too_few : names.count < 2 → founding_of list names place p q ≡ Err (no 4)
  too_few h = not-counted (few (counts_fit (texts list names)) refl)
    where
      few : (b : Bool) → counts_fit (texts list names) ≡ b → counts_fit (texts list names) ≡ false
      few true e = absurd (omega (arith, (counts_range (texts list names) e).0, count-texts list names))
      few false e = e

  not-inside : inside list names ≡ false → founding_of list names place p q ≡ Err (no 4)
  unfolding founding_of
  not-inside h = go (has_words (length p) (length q))
    where
      go : (b : Bool) → cond (b && inside list names) (found_of (texts list names) place) (Err (no 4)) ≡ Err (no 4)
      go true = rw h refl
      go false = refl

  unfit : list_fits list names ≡ false → founding_of list names place p q ≡ Err (no 4)
  unfit h = go (inside list names) (counts_fit (texts list names)) refl refl
    where
      go : (a b : Bool) → inside list names ≡ a → counts_fit (texts list names) ≡ b → founding_of list names place p q ≡ Err (no 4)
      go false b e f = not-inside e
      go true false e f = not-counted f
      go true true e f = absurd (let y = fits_both_lem list names e f in let z : ◌≡◌ {A = ℕ} 0 1 = cc in omega arith)

  -- the words and the names are right so far
  pub record Fit : Type 0 where
    pub words : has_words (length p) (length q) ≡ true
    pub fits : list_fits list names ≡ true
    pub two : 2 ≤ names.count

  fit_found : Fit → founding_of list names place p q ≡ fairly_placed (texts list names) place
  unfolding founding_of found_of
  fit_found f = rw (f.words, fits_inside list names f.fits, fits_counts list names f.fits f.two) refl

  -- ---- refusals

  founds_not : {k : Refusal} → founding_of list names place p q ≡ Err k → Founds list names place p q (Err k)
  founds_not e = record {
    answers = rw e refl;
    leaves = λ t w. absurd (let z : ◌≡◌ {A = ℕ} 0 1 = cc in omega arith);
    good = λ t w. absurd (let z : ◌≡◌ {A = ℕ} 0 1 = cc in omega arith);
  }

  pub founds_short : has_words (length p) (length q) ≡ false → Founds list names place p q (Err (no 4))
  founds_short n = founds_not (no_words n)

  pub founds_few : names.count < 2 → Founds list names place p q (Err (no 4))
  founds_few n = founds_not (too_few n)

  pub founds_unjudged : {o : Result (Unit {0}) Refusal} {k : Refusal} → has_words (length p) (length q) ≡ true → 2 ≤ names.count → o ≡ list_judged list names → o ≡ Err k
      → Founds list names place p q (Err k)
  founds_unjudged {o} {k} w two j g = founds_not (go (list_fits list names) (fair (texts list names)) refl refl (sym j ∙ g))
    where
      go : (a b : Bool) → list_fits list names ≡ a → fair (texts list names) ≡ b
          → ◌≡◌ {A = Result (Unit {0}) Refusal} (cond a (cond b (Ok tt) (Err (no 6))) (Err (no 4))) (Err k) → founding_of list names place p q ≡ Err k
      go false b e f z = rw (unfit e) cc
      go true false e f z = rw (fit_found (record { words = w; fits = e; two = two }), f) cc
      go true true e f z = absurd (let z : ◌≡◌ {A = ℕ} 0 1 = cc in omega arith)

  -- the names are judged to be right
  pub record Judged : Type 0 where
    pub fit : Fit
    pub distinct : fair (texts list names) ≡ true

  pub judged : {o : Result (Unit {0}) Refusal} → has_words (length p) (length q) ≡ true → 2 ≤ names.count → o ≡ list_judged list names → o ≡ Ok (tt {0}) → Judged
  judged {o} w two j g = go (list_fits list names) (fair (texts list names)) refl refl (sym j ∙ g)
    where
      go : (a b : Bool) → list_fits list names ≡ a → fair (texts list names) ≡ b
          → ◌≡◌ {A = Result (Unit {0}) Refusal} (cond a (cond b (Ok tt) (Err (no 6))) (Err (no 4))) (Ok tt) → Judged
      go false b e f z = absurd (let z : ◌≡◌ {A = ℕ} 0 1 = cc in omega arith)
      go true false e f z = absurd (let z : ◌≡◌ {A = ℕ} 0 1 = cc in omega arith)
      go true true e f z = record { fit = record { words = w; fits = e; two = two }; distinct = f }

  few-judged : Judged → names.count ≤ 16
  few-judged J = (fits_list list names J.fit.fits).few

  -- our own place is the only thing that is left to be refused
  place_judged : Judged → fits_of names.count names.count place place ≡ cond (leb names.count place) (Err (no 9)) (Ok (tt {0}))
  unfolding fits_of
  place_judged J = rw (le-ltb names.count 2 J.fit.two, le-ltb 16 names.count (few-judged J), eq-eqb names.count names.count refl) (pick (leb names.count place))
    where
      pick : (b : Bool) → cond (b || b) (Err (no 9)) (Ok (tt {0})) ≡ cond b (Err (no 9)) (Ok (tt {0}))
      pick true = refl
      pick false = refl

  pub founds_nowhere : {m : Result MatrixClock Refusal} {k : Refusal} → Judged → m ≡ new_matrix place names.count → m ≡ Err k → Founds list names place p q (Err k)
  founds_nowhere {m} {k} J e h = founds_not (go (leb names.count place) refl (sym e ∙ h))
    where
      go : (b : Bool) → leb names.count place ≡ b → new_matrix place names.count ≡ Err k → founding_of list names place p q ≡ Err k
      go true l z =
          let le = leb-true names.count place l in
          let z1 = rw (place_judged J, l) at z in
          fit_found J.fit ∙ rw (J.distinct, le-ltb place (length (texts list names)) (omega (arith, count-texts list names))) cc
      go false l z = let z1 = rw (place_judged J, l) at z in absurd (let y : ◌≡◌ {A = ℕ} 0 1 = cc in omega arith)

  -- a matrix that was made is one of zeros, and our place is one of its members'
  pub matrix_made : {m : Result MatrixClock Refusal} {matrix : MatrixClock} → Judged → m ≡ new_matrix place names.count → m ≡ Ok matrix
      → (place < names.count) × (matrix ≡ zero_matrix place names.count)
  matrix_made {m} {matrix} J e h = go (leb names.count place) refl (sym e ∙ h)
    where
      go : (b : Bool) → leb names.count place ≡ b → new_matrix place names.count ≡ Ok matrix → (place < names.count) × (matrix ≡ zero_matrix place names.count)
      go true l z = let z1 = rw (place_judged J, l) at z in absurd (let y : ◌≡◌ {A = ℕ} 0 1 = cc in omega arith)
      go false l z = let z1 = rw (place_judged J, l) at z in (leb-false names.count place l, sym (whole_same z1))

  -- no frontier is refused then
  cut_judged : Judged → new_frontier names.count ≡ Ok (zero_cut names.count)
  cut_judged J =
      let some : 0 < names.count = omega (arith, J.fit.two) in
      rw (done_fits names.count names.count 0 0 (record { two = J.fit.two; few = few-judged J; like = refl; place = some; another = some })) refl

  pub cut_made : {f : Result CausalFrontier Refusal} {frontier : CausalFrontier} → Judged → f ≡ new_frontier names.count → f ≡ Ok frontier → frontier ≡ zero_cut names.count
  cut_made J e h = whole_same (sym h ∙ (e ∙ cut_judged J))

  pub cut_refused : {f : Result CausalFrontier Refusal} {k : Refusal} → Judged → f ≡ new_frontier names.count → f ≡ Err k → ⊥
  cut_refused J e h = not_both (sym (cut_judged J) ∙ (sym e ∙ h))

  -- ---- the replica of zeros

  zero-view : view (zero_tcsb names place) list p q ≡ zero_state (texts list names) place
  zero-view = rw (count-texts list names) refl

  zero-sound : Fit → Sound (zero_tcsb names place) list p q
  zero-sound f =
      let b = and_both (leb 1728 (length p)) (leb 6912 (length q)) f.words in
      let m = leb-true 1728 (length p) b.0 in
      let n = leb-true 6912 (length q) b.1 in
      record {
        stores = record { inbox = empty_good 64 p (omega arith) (omega (arith, m)); outbox = empty_good 256 q (omega arith) (omega (arith, n)) };
        inside = f.fits;
      }

  fit_whole : Judged → place < names.count → found_of (texts list names) place ≡ Ok (zero_state (texts list names) place)
  unfolding found_of
  fit_whole J lt =
      rw (
        fits_counts list names J.fit.fits J.fit.two,
        J.distinct,
        lt-ltb place (length (texts list names)) (omega (arith, count-texts list names)),
      ) refl

  pub founds_done : {t : Tcsb} → Judged → place < names.count → t ≡ zero_tcsb names place → Founds list names place p q (Ok t)
  founds_done {t} J lt h =
      rw h (record {
        answers = rw is refl;
        leaves = λ t' e. is ∙ ap Ok (sym zero-view ∙ ap (λ (u : Tcsb). view u list p q) (whole_same e));
        good = λ t' e. rw (← whole_same e) (good-after (zero-sound J.fit) zero-view (founded-well (texts list names) place (zero_state (texts list names) place) (fit_whole J lt)));
      })
    where
      is : founding_of list names place p q ≡ Ok (zero_state (texts list names) place)
      is = fit_found J.fit ∙ rw (J.distinct, lt-ltb place (length (texts list names)) (omega (arith, count-texts list names))) refl
