-- What every call of the replica keeps: refusals where the words lent are too short, and a good replica after it. Assumes nothing.
use mathlib.Core.Path.{◌≡◌, refl, sym, ap, ◌∙◌, subst}
use mathlib.Core.Bool.{Bool, true, false, cond, true≢false}
use mathlib.Core.List.{List}
use Prim.Native.Nat.{ℕ, ◌+◌, ◌≤◌}
use native.Mathlib.Omega.{arith}
use lib.ListN.{length}
use lib.Dec.{leb}
use borrow.Author.Tests.{le-leb}
use Rattle.refusal.specs.declared.Refusal.{Refusal}
use Rattle.refusal.specs.Refusal.{no}
use Rattle.telegram.specs.Writing.{Wrote}
use Rattle.telegram.proofs.Parts.{fits_list}
use Rattle.tcsb.specs.Replica.{State, Call, not_done, state_after}
use Rattle.tcsb.specs.WellFormed.{WellFormed}
use Rattle.tcsb.specs.Tcsb.{has_words, view, Sound, Good, Does, DoesIf, Writes}
use Rattle.tcsb.specs.declared.tcsb.Tcsb.{Tcsb}
use Rattle.std.specs.Prelude.{Result, Ok, Err}

-- the parts are sound, and the replica is what a well-formed state says
pub good-after : {t : Tcsb} {list p q : List ℕ} {st : State} → Sound t list p q → view t list p q ≡ st → WellFormed st → Good t list p q
good-after s e w = record { sound = s; well = subst WellFormed (sym e) w }

-- ---- the stores of a good replica

module _ {t : Tcsb} {list p q : List ℕ} (g : Good t list p q) where
  pub inbox_words : 1728 ≤ length p
  inbox_words = omega (arith, g.sound.stores.inbox.room)

  pub outbox_words : 6912 ≤ length q
  outbox_words = omega (arith, g.sound.stores.outbox.room)

  pub inbox-count : t.inbox.order.count ≤ 64
  inbox-count = omega (arith, g.sound.stores.inbox.counts)

-- at most sixteen names
pub few-names : {t : Tcsb} {list p q : List ℕ} → Good t list p q → t.names.count ≤ 16
few-names {t} {list} g = (fits_list list t.names g.sound.inside).few

-- no good replica has words that are too short
pub words_fit : {t : Tcsb} {list p q : List ℕ} → Good t list p q → has_words (length p) (length q) ≡ true
words_fit {t} {list} {p} {q} g = rw (le-leb 1728 (length p) (inbox_words g), le-leb 6912 (length q) (outbox_words g)) refl

pub words_none : {t : Tcsb} {list p q : List ℕ} → has_words (length p) (length q) ≡ false → Good t list p q → ⊥
words_none e g = true≢false (sym (words_fit g) ∙ e)

-- ---- refusals

-- no answer is a refusal, too
pub not_both : {A : Type 0} {a : A} {k : Refusal} → Ok a ≡ Err k → ⊥
not_both e = let z : ◌≡◌ {A = ℕ} 0 1 = cc in omega arith

-- refused with 4 where no good replica has these words
pub does_short : {A : Type 0} {list p q : List ℕ} {words : Bool} {t : Tcsb} {want : State → Call A} → (Good t list p q → ⊥)
    → Does list p p q q words t t (Err (no 4)) want
does_short h = record {
  answers = λ g. absurd (h g);
  leaves = λ g. absurd (h g);
  good = λ g. g;
  kept = λ k e. (refl, (refl, refl));
  short = λ e. refl;
}

pub writes_short : {list p q out : List ℕ} {words : Bool} {t : Tcsb} {want : State → Call (List ℕ)} → (Good t list p q → ⊥)
    → Writes list p p q q out out words t t (Err (no 4)) want
writes_short h = record {
  wrote = λ g. absurd (h g);
  leaves = λ g. absurd (h g);
  good = λ g. g;
  kept = λ k e. (refl, (refl, (refl, refl)));
  short = λ e. refl;
}

-- a part of a call
pub refused_if : {fact : Type 0} {A : Type 0} {list p q : List ℕ} {t : Tcsb} {k : Refusal} {want : State → Call A} → (fact → Good t list p q → want (view t list p q) ≡ not_done k)
    → DoesIf fact list p p q q t t (Err k) want
refused_if h = record {
  answers = λ f g. rw (h f g) refl;
  leaves = λ f g. rw (h f g) refl;
  sound = λ f g. g.sound;
  kept = λ k e. (refl, (refl, refl));
}

-- a call whose words are long enough
pub refused_call : {A : Type 0} {list p q : List ℕ} {words : Bool} {t : Tcsb} {k : Refusal} {want : State → Call A} → words ≡ true
    → (Good t list p q → want (view t list p q) ≡ not_done k) → Does list p p q q words t t (Err k) want
refused_call w h = record {
  answers = λ g. rw (h g) refl;
  leaves = λ g. rw (h g) refl;
  good = λ g. g;
  kept = λ k e. (refl, (refl, refl));
  short = λ e. absurd (let z : ◌≡◌ {A = ℕ} 0 1 = cc in omega arith);
}

-- ---- a call and its part

-- a call is its part, where the words are long enough, the fact holds of a good replica, and its definition keeps states well-formed
pub does_part : {fact : Type 0} {A : Type 0} {list p p' q q' : List ℕ} {words : Bool} {t t' : Tcsb} {answer : Result A Refusal} (want : State → Call A)
    → words ≡ true → (Good t list p q → fact)
    → ((st : State) → WellFormed st → WellFormed (state_after st (want st))) → DoesIf fact list p p' q q' t t' answer want
    → Does list p p' q q' words t t' answer want
does_part want w f keeps d = record {
  answers = λ g. d.answers (f g) g;
  leaves = λ g. d.leaves (f g) g;
  good = λ g. good-after (d.sound (f g) g) (d.leaves (f g) g) (keeps _ g.well);
  kept = d.kept;
  short = λ e. absurd (let z : ◌≡◌ {A = ℕ} 0 1 = cc in omega arith);
}

-- ---- whether the bytes of an answer fit into the buffer lent

module _ (b : List ℕ) {out after : List ℕ} {answer : Result ℕ Refusal} (w : Wrote out after 0 0 (Ok b) answer) where
  answer_is : answer ≡ cond (leb (length b) (length out)) (Ok (0 + length b)) (Err (no 15))
  answer_is = w.answers ∙ ap (λ (n : ℕ). cond (leb n (length out)) (Ok (0 + length b)) (Err (no 15))) (omega arith)

  -- nothing was written, so they don't
  pub room-none : {k : Refusal} → answer ≡ Err k → leb (length b) (length out) ≡ false
  room-none {k} e = go (leb (length b) (length out)) answer_is
    where
      go : (r : Bool) → answer ≡ cond r (Ok (0 + length b)) (Err (no 15)) → r ≡ false
      go true f = absurd (let z : ◌≡◌ {A = ℕ} 0 1 = cc in omega arith)
      go false f = refl

  -- something was written, so they do
  pub room-some : {next : ℕ} → answer ≡ Ok next → leb (length b) (length out) ≡ true
  room-some {next} e = go (leb (length b) (length out)) answer_is
    where
      go : (r : Bool) → answer ≡ cond r (Ok (0 + length b)) (Err (no 15)) → r ≡ true
      go true f = refl
      go false f = absurd (let z : ◌≡◌ {A = ℕ} 0 1 = cc in omega arith)
