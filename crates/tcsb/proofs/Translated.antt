-- A version and an event body at our places. Assumes nothing.
use mathlib.Core.Path.{◌≡◌, refl, sym, ap, ◌∙◌}
use mathlib.Core.Bool.{Bool, true, false, not, ◌||◌}
use mathlib.Core.List.{List, [], ◌∷◌}
use mathlib.Core.Logic.{⊎_elim}
use Prim.Native.Nat.{ℕ, zero, suc, ◌≤◌, ◌<◌}
use native.Mathlib.Nat.{not-suc-le-zero}
use native.Mathlib.Omega.{arith}
use lib.ListN.{length, get_or, set, length-set}
use lib.Seq.{get_or-set_same, get_or-set_other}
use lib.Dec.{eqb}
use borrow.Author.Tests.{eqb-true, eqb-false, not-false}
use Rattle.lists.specs.Lists.{at}
use Rattle.lists.proofs.Cases.{split}
use Rattle.lists.proofs.Laws.{length-tab}
use Rattle.leb128.specs.Leb128.{last_number}
use Rattle.telegram.specs.Fields.{text}
use Rattle.telegram.specs.declared.body.Body.{Body}
use Rattle.tcsb.specs.declared.internalizer.Translation.{Translation}
use Rattle.tcsb.specs.Internalizer.{our_place, our_entries, event_of}
use Rattle.tcsb.specs.Replica.{misnumbered}
use Rattle.tcsb.specs.WellFormed.{GoodRow, GoodEvent}
use Rattle.tcsb.proofs.Founding.{zero-at}
use Rattle.tcsb.proofs.Heard.{BodyHeard}

-- an element behind a write is the one written, or the one that was there
pub set_keeps : {A : Type 0} (P : A → Type 0) (l : List A) (i : ℕ) (x : A) (k : ℕ) (d : A) → (k ≡ i → P x) → P (get_or l k d) → P (get_or (set l i x) k d)
set_keeps P [] i x k d f h = h
set_keeps P (y ∷ l) zero x zero d f h = f refl
set_keeps P (y ∷ l) zero x (suc k) d f h = h
set_keeps P (y ∷ l) (suc i) x zero d f h = h
set_keeps P (y ∷ l) (suc i) x (suc k) d f h = set_keeps P l i x k d (λ e. f (ap suc e)) h

-- ---- entries

pub our_length : (k : ℕ) (row : Translation) (v : List ℕ) → length (our_entries k row v) ≡ 16
unfolding our_entries
our_length zero row v = length-tab {A = ℕ} 16 (λ j. 0)
our_length (suc k) row v = length-set (our_entries k row v) (our_place row k) (at v k) ∙ our_length k row v

pub our_most : (k : ℕ) (row : Translation) (v : List ℕ) → ((j : ℕ) → at v j ≤ last_number) → (j : ℕ) → at (our_entries k row v) j ≤ last_number
unfolding our_entries
our_most zero row v h j = omega (arith, zero-at j)
our_most (suc k) row v h j = set_keeps (λ n. n ≤ last_number) (our_entries k row v) (our_place row k) (at v k) j 0 (λ e. h k) (our_most k row v h j)

-- a place that no listed name has
pub our_none : (k : ℕ) (row : Translation) (v : List ℕ) (j : ℕ) → ((p : ℕ) → p < k → our_place row p ≡ j → ⊥) → at (our_entries k row v) j ≡ 0
unfolding our_entries
our_none zero row v j h = zero-at j
our_none (suc k) row v j h =
    set_keeps (λ n. n ≡ 0) (our_entries k row v) (our_place row k) (at v k) j 0 (λ e. absurd (h k (omega arith) (sym e)))
    (our_none k row v j (λ p lt. h p (omega arith)))

-- a listed name's entry stands at our place of it
pub our_at : {n : ℕ} {row : Translation} → n ≤ 16 → GoodRow n row → (k : ℕ) (v : List ℕ) (p : ℕ) → k ≤ row.count → p < k
    → at (our_entries k row v) (our_place row p) ≡ at v p
unfolding our_entries
our_at few g zero v p h lt = absurd (not-suc-le-zero lt)
our_at {n} {row} few g (suc k) v p h lt =
    ⊎_elim
    (λ a. get_or-set_other (our_entries k row v) (our_place row k) (our_place row p) (at v k) 0 (λ e. g.distinct p k a h e)
    ∙ our_at few g k v p (omega arith) a)
    (λ (b : k ≤ p).
    let e : p ≡ k = omega arith in
    rw e (get_or-set_same (our_entries k row v) (our_place row k) (at v k) 0 (omega (arith, our_length k row v, g.members k h))))
    (split p k)

-- ---- events

-- neither of two tests
pub or_neither : (a b : Bool) → (a || b) ≡ false → (a ≡ false) × (b ≡ false)
or_neither true b e = absurd (let z : ◌≡◌ {A = ℕ} 0 1 = cc in omega arith)
or_neither false b e = (refl, e)

pub event-good : {n : ℕ} {row : Translation} → n ≤ 16 → GoodRow n row → (s : List ℕ) (b : Body) → BodyHeard row.count b → misnumbered b ≡ false
    → GoodEvent n (event_of row s b)
unfolding event_of
event-good {n} {row} few g s b h m =
    let t = or_neither (eqb b.number 0) (not (eqb b.number (at b.entries b.place.0))) m in
    let some = eqb-false b.number 0 t.0 in
    record {
      member = g.members b.place.0 h.listed;
      some = ⊎_elim (λ (a : b.number < 1). absurd (some (omega arith))) (λ a. a) (split b.number 1);
      numbered =
          eqb-true b.number (at b.entries b.place.0) (not-false (eqb b.number (at b.entries b.place.0)) t.1)
          ∙ sym (our_at few g row.count b.entries b.place.0 (omega arith) h.listed);
      version = record { sixteen = our_length row.count row b.entries; numbers = our_most row.count row b.entries h.numbers };
      unlisted = λ j le. our_none row.count row b.entries j (λ p lt e. omega (arith, g.members p lt));
      short = h.short;
      operation = length-tab 32 (λ k. at (text s b.operation) k);
    }
