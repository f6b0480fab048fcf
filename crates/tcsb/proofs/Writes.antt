-- What the calls that write promise, from what their parts do. Assumes nothing.
use mathlib.Core.Path.{◌≡◌, refl, ap}
use mathlib.Core.Bool.{Bool, true, false, cond}
use mathlib.Core.List.{List}
use Prim.Native.Nat.{ℕ, ◌≤◌, ◌<◌}
use native.Mathlib.Omega.{arith}
use lib.ListN.{length}
use lib.Dec.{leb}
use borrow.Author.Tests.{le-leb}
use Rattle.refusal.specs.declared.Refusal.{Refusal}
use Rattle.refusal.specs.Refusal.{no}
use Rattle.telegram.specs.Writing.{Wrote}
use Rattle.tcsb.specs.Replica.{State, Call, done, not_done, state_after, lent}
use Rattle.tcsb.specs.WellFormed.{WellFormed}
use Rattle.tcsb.specs.Tcsb.{view, Sound, Good, Writes, WritesIf}
use Rattle.tcsb.proofs.Calls.{good-after, outbox_words, writes_short, room-none, room-some}
use Rattle.tcsb.specs.declared.tcsb.Tcsb.{Tcsb}
use Rattle.std.specs.Prelude.{Result, Ok, Err}
use Rattle.std.specs.Result.{IsErrAnd}

-- what was written is not refused
pub next_clash : {A : Type 0} {n : ℕ} {k : Refusal} → Ok n ≡ Err k → A
next_clash e = let z : ◌≡◌ {A = ℕ} 0 1 = cc in absurd (omega arith)

-- a refusal that is passed on by `?` is the same one
pub passed_on : {A : Type 0} (r : Result A Refusal) (k : Refusal) {P : Refusal → Type 0} → IsErrAnd r P → ((j : Refusal) → P j → j ≡ k) → r ≡ Err k
passed_on (Ok a) k h f = absurd h
passed_on (Err j) k h f = ap Err (f j h)

-- ---- the parts, from a fact on

module _ {F : Type 0} {list p q out : List ℕ} {t : Tcsb} (want : State → Call (List ℕ)) where
  -- the call is refused before anything is written
  pub if_refused : {k : Refusal} → (F → Good t list p q → want (view t list p q) ≡ not_done k) → WritesIf F list p p q q out out t t (Err k) want
  if_refused h = record {
    wrote = λ f g. rw (h f g) (record { answers = refl; holds = refl });
    leaves = λ f g. rw (h f g) refl;
    sound = λ f g. g.sound;
    kept = λ j said. (refl, (refl, (refl, refl)));
  }

  module _ {after : List ℕ} {answer : Result ℕ Refusal} (b : List ℕ) (st : State) (is : F → Good t list p q → want (view t list p q) ≡ done b st)
      (w : F → Good t list p q → Wrote out after 0 0 (Ok b) answer) where
    -- what is to be written has no room
    pub if_unwritten : {k : Refusal} → answer ≡ Err k → after ≡ out → WritesIf F list p p q q out after t t (Err k) want
    if_unwritten said same = record {
      wrote = λ f g. rw (is f g) (rw said at (w f g));
      leaves = λ f g. rw (is f g, room-none b (w f g) said) refl;
      sound = λ f g. g.sound;
      kept = λ j told. (refl, (refl, (refl, same)));
    }

    pub if_written : {t' : Tcsb} {q' : List ℕ} {n : ℕ} → answer ≡ Ok n → (F → Good t list p q → view t' list p q' ≡ st) → (F → Good t list p q → Sound t' list p q')
        → WritesIf F list p p q q' out after t t' (Ok n) want
    if_written said view-is s = record {
      wrote = λ f g. rw (is f g) (rw said at (w f g));
      leaves = λ f g. rw (is f g, room-some b (w f g) said) (view-is f g);
      sound = s;
      kept = λ j told. next_clash told;
    }

-- ---- the whole call

lent-well : (out : List ℕ) (st : State) (c : Call (List ℕ)) → WellFormed st → WellFormed (state_after st c) → WellFormed (state_after st (lent out c))
lent-well out st (done b after) w a = pick (leb (length b) (length out))
  where
    pick : (t : Bool) → WellFormed (state_after st (cond t (done b after) (not_done (no 15))))
    pick true = a
    pick false = w
lent-well out st (not_done k) w a = w

pub writes_of : {F : Type 0} {list p q q' out after : List ℕ} {t t' : Tcsb} {answer : Result ℕ Refusal} (want : State → Call (List ℕ)) → 6912 ≤ length q → (Good t list p q → F)
    → ((st : State) → WellFormed st → WellFormed (state_after st (want st))) → WritesIf F list p p q q' out after t t' answer want
    → Writes list p p q q' out after (leb 6912 (length q)) t t' answer want
writes_of {list = list} {p = p} {q = q} {out = out} {t = t} want room fact well w = record {
  wrote = λ g. w.wrote (fact g) g;
  leaves = λ g. w.leaves (fact g) g;
  good = λ g.
      good-after (w.sound (fact g) g) (w.leaves (fact g) g)
      (lent-well out (view t list p q) (want (view t list p q)) g.well (well (view t list p q) g.well));
  kept = w.kept;
  short = λ f. let z : ◌≡◌ {A = ℕ} 0 1 = (let y = le-leb 6912 (length q) room in cc) in absurd (omega arith);
}

-- where nothing is assumed but that the replica is good
pub writes_all : {list p q q' out after : List ℕ} {t t' : Tcsb} {answer : Result ℕ Refusal} (want : State → Call (List ℕ)) → 6912 ≤ length q
    → ((st : State) → WellFormed st → WellFormed (state_after st (want st))) → WritesIf (Good t list p q) list p p q q' out after t t' answer want
    → Writes list p p q q' out after (leb 6912 (length q)) t t' answer want
writes_all want room well w = writes_of want room (λ g. g) well w

-- words that are too short
pub unsent_short : {list p q out : List ℕ} {t : Tcsb} (want : State → Call (List ℕ)) → length q < 6912
    → Writes list p p q q out out (leb 6912 (length q)) t t (Err (no 4)) want
unsent_short want lt = writes_short (λ g. omega (arith, outbox_words g))
