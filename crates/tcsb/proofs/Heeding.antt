-- An event telegram received: a body that was read is refused or taken as its definition says. Assumes nothing.
use mathlib.Core.Path.{◌≡◌, refl, sym, ap, ◌∙◌}
use mathlib.Core.Bool.{Bool, true, false, cond}
use mathlib.Core.List.{List, [], ◌∷◌}
use Prim.Native.Nat.{ℕ, ◌≤◌}
use native.Mathlib.Omega.{arith}
use lib.ListN.{length, get_or}
use borrow.Author.Tests.{lt-ltb, le-leb}
use Rattle.refusal.specs.declared.Refusal.{Refusal}
use Rattle.refusal.specs.Refusal.{no}
use Rattle.telegram.specs.Reading.{texts, event}
use Rattle.telegram.specs.declared.event.Event as heard
use Rattle.telegram.proofs.Steps.{whole_same}
use Rattle.store.specs.declared.event.Event.{Event}
use Rattle.store.specs.Orders.{in_range}
use Rattle.tcsb.specs.declared.internalizer.Translation.{Translation}
use Rattle.tcsb.specs.declared.tcsb.Tcsb.{Tcsb}
use Rattle.tcsb.specs.declared.receive.Verdict.{Verdict}
use Rattle.tcsb.specs.Internalizer.{no_translation, our_place, event_of}
use Rattle.tcsb.specs.Replica.{State, members, own, Call, done, not_done, answer_of, state_after, first}
use Rattle.tcsb.specs.Replica.{admitted_by, admitted, extended, misnumbered, verdict_of, recorded, receive_of}
use Rattle.tcsb.specs.Tcsb.{has_words, with_known, view, Stores, Good, Does, DoesIf}
use Rattle.tcsb.specs.Receive.{Takes}
use Rattle.tcsb.proofs.Valid.{members_range}
use Rattle.tcsb.proofs.Admitted.{AdmittedRow}
use Rattle.tcsb.proofs.Heard.{event_heard}
use Rattle.tcsb.proofs.Receiving.{heard_row, event_arrived, received-well}
use Rattle.tcsb.proofs.Calls.{few-names, refused_if, refused_call, does_part}
use Rattle.std.specs.Prelude.{Result, Ok, Err}

-- ---- a telegram that was read

-- what its body is answered
abbrev body_of : State → List ℕ → heard.Event → Call Verdict
body_of st s read =
    first (admitted st (texts s read.names) read.body.place.0) (λ row.
    cond (misnumbered read.body) (not_done (no 11))
    (first (recorded st (event_of row s read.body ∷ [])) (λ after.
    done (verdict_of st (event_of row s read.body)) (extended after (our_place row read.body.place.0) row))))

heard_of : (st : State) (s : List ℕ) (read : heard.Event) → event s ≡ Ok read → receive_of st s ≡ body_of st s read
unfolding receive_of
heard_of st s read e = rw e refl

-- what is told of its list
abbrev pub Admits : Tcsb → List ℕ → List ℕ → heard.Event → Result Translation Refusal → Type 0
Admits t list s read r =
    t.names.count ≤ 16 → read.names.count ≤ 16 → ((i : ℕ) → (get_or t.known i no_translation).count ≤ 16)
    → r ≡ admitted_by (texts list t.names) t.known t.matrix.origin.0 (texts s read.names) read.body.place.0

-- ---- one event's answer

not-recorded : (g : Result State Refusal) (v : Verdict) (k : Refusal) → Err k ≡ answer_of (first g (λ after. done v after)) → g ≡ Err k
not-recorded (Ok st) v k e = absurd (let z : ◌≡◌ {A = ℕ} 0 1 = cc in omega arith)
not-recorded (Err j) v k e = cc

recorded_told : (g : Result State Refusal) (st st' : State) (v w : Verdict) → Ok v ≡ answer_of (first g (λ after. done w after))
    → st' ≡ state_after st (first g (λ after. done w after)) → (v ≡ w) × (g ≡ Ok st')
recorded_told (Ok after) st st' v w e h = (whole_same e, ap Ok (sym h))
recorded_told (Err k) st st' v w e h = absurd (let z : ◌≡◌ {A = ℕ} 0 1 = cc in omega arith)

-- ---- a body

module _ (t : Tcsb) (list p q s : List ℕ) (read : heard.Event) where
  abbrev means : State
  means = view t list p q

  admits : {r : Result Translation Refusal} → Admits t list s read r → event s ≡ Ok read → Good t list p q → r ≡ admitted means (texts s read.names) read.body.place.0
  unfolding admitted
  admits A f g = A (few-names g) (event_heard s read f).0.few (λ i. (g.well.known i).few)

  -- its list is refused
  pub body_refused : {r : Result Translation Refusal} {k : Refusal} → Admits t list s read r → r ≡ Err k
      → DoesIf (event s ≡ Ok read) list p p q q t t (Err k) (λ st. receive_of st s)
  body_refused A e = refused_if (λ f g. heard_of means s read f ∙ rw (sym (admits A f g) ∙ e) refl)

  -- it is numbered wrong
  pub body-misnumbered : {r : Result Translation Refusal} {row : Translation} {b : Bool} → Admits t list s read r → r ≡ Ok row → b ≡ misnumbered read.body → b ≡ true
      → DoesIf (event s ≡ Ok read) list p p q q t t (Err (no 11)) (λ st. receive_of st s)
  body-misnumbered A e m n = refused_if (λ f g. heard_of means s read f ∙ rw (sym (admits A f g) ∙ e, ← m, n) refl)

  -- it is tried: its row, its event, and what became of that
  pub record Tried (p' q' : List ℕ) (row : Translation) (e : Event) (t' : Tcsb) (answer : Result Verdict Refusal) : Type 0 where
    pub admitted : Admits t list s read (Ok row)
    pub numbered : misnumbered read.body ≡ false
    pub made : row.count ≤ 16 → e ≡ event_of row s read.body
    pub takes : Takes p p' q q' t e t' answer

  pub tried : {p' q' : List ℕ} {r : Result Translation Refusal} {row : Translation} {b : Bool} {e : Event} {t' : Tcsb} {answer : Result Verdict Refusal}
      → Admits t list s read r → r ≡ Ok row
      → b ≡ misnumbered read.body → b ≡ false → (row.count ≤ 16 → e ≡ event_of row s read.body) → Takes p p' q q' t e t' answer → Tried p' q' row e t' answer
  tried A o m n made T = record { admitted = λ a b h. sym o ∙ A a b h; numbered = sym m ∙ n; made = made; takes = T }

  module _ {p' q' : List ℕ} {row : Translation} {e : Event} {t' : Tcsb} {answer : Result Verdict Refusal} (T : Tried p' q' row e t' answer)
      (f : event s ≡ Ok read) (g : Good t list p q) where
    row_told_lem : admitted means (texts s read.names) read.body.place.0 ≡ Ok row
    row_told_lem = sym (admits T.admitted f g)

    row_is : AdmittedRow (members means) (own means) read.names.count read.body.place.0 row
    row_is = heard_row row g.well (event_heard s read f).0 row_told_lem

    event-is : e ≡ event_of row s read.body
    event-is = T.made row_is.good.few

    in_range_lem : in_range e ≡ true
    in_range_lem =
        let h = (event_arrived g.well row_is s read.body (event_heard s read f).1 T.numbered row_is.other).good in
        rw (event-is, lt-ltb (event_of row s read.body).origin.0 16 (omega (arith, h.member, (members_range g.well).1)), le-leb (event_of row s read.body).len 32 h.short) refl

    want_is : receive_of means s ≡ first (recorded means (e ∷ [])) (λ after. done (verdict_of means e) (extended after (our_place row read.body.place.0) row))
    want_is = heard_of means s read f ∙ rw (row_told_lem, T.numbered, event-is) refl

  -- it finds no room
  pub body_full : {p' q' : List ℕ} {row : Translation} {e : Event} {t' : Tcsb} {answer : Result Verdict Refusal} {k : Refusal} → Tried p' q' row e t' answer → answer ≡ Err k
      → DoesIf (event s ≡ Ok read) list p p' q q' t t' (Err k) (λ st. receive_of st s)
  body_full {p'} {q'} {row} {e} {t'} {answer} {k} T h =
      let same = T.takes.kept k h in
      rw (same.0, same.1.0, same.1.1)
      (refused_if (λ f g. want_is T f g ∙ rw (not-recorded (recorded means (e ∷ [])) (verdict_of means e) k (sym h ∙ T.takes.answers list g.sound.stores)) refl))

  -- it is taken, or not news
  pub body-taken : {p' q' : List ℕ} {row : Translation} {e : Event} {t1 t' : Tcsb} {answer : Result Verdict Refusal} {v : Verdict} {i : ℕ}
      → Tried p' q' row e t1 answer → answer ≡ Ok v
      → i ≡ our_place row read.body.place.0 → t' ≡ with_known t1 i row
      → DoesIf (event s ≡ Ok read) list p p' q q' t t' (Ok v) (λ st. receive_of st s)
  body-taken {p'} {q'} {row} {e} {t1} {t'} {answer} {v} {i} T h ei et = record {
    answers = λ f g. rw (want_is T f g, (told f g).1) (ap Ok (told f g).0);
    leaves = λ f g. rw (et, ei, want_is T f g, (told f g).1) refl;
    sound = λ f g. rw et (record { stores = stored f g; inside = rw (names_same) g.sound.inside });
    kept = λ k z. absurd (let z : ◌≡◌ {A = ℕ} 0 1 = cc in omega arith);
  }
    where
      told : event s ≡ Ok read → Good t list p q → (v ≡ verdict_of means e) × (recorded means (e ∷ []) ≡ Ok (view t1 list p' q'))
      told f g =
          recorded_told (recorded means (e ∷ [])) means (view t1 list p' q') v (verdict_of means e)
          (sym h ∙ T.takes.answers list g.sound.stores) (T.takes.leaves list g.sound.stores (in_range_lem T f g))

      stored : event s ≡ Ok read → Good t list p q → Stores (with_known t1 i row) p' q'
      stored f g = let S = T.takes.stores g.sound.stores in record { inbox = S.inbox; outbox = S.outbox }

      names_same : t1.names ≡ t.names
      names_same = ap (λ (u : Tcsb). u.names) T.takes.fixed

-- ---- a telegram

unheard : (st : State) (s : List ℕ) (k : Refusal) → event s ≡ Err k → receive_of st s ≡ not_done k
unfolding receive_of
unheard st s k e = rw e refl

module _ (t : Tcsb) (list p q s : List ℕ) where
  -- it can't be read
  pub receive_unread : {k : Refusal} → has_words (length p) (length q) ≡ true → event s ≡ Err k
      → Does list p p q q (has_words (length p) (length q)) t t (Err k) (λ st. receive_of st s)
  receive_unread {k} w e = refused_call w (λ g. unheard (view t list p q) s k e)

  -- it was read
  pub receive_read : {read : heard.Event} {p' q' : List ℕ} {t' : Tcsb} {answer : Result Verdict Refusal} → has_words (length p) (length q) ≡ true → event s ≡ Ok read
      → DoesIf (event s ≡ Ok read) list p p' q q' t t' answer (λ st. receive_of st s)
      → Does list p p' q q' (has_words (length p) (length q)) t t' answer (λ st. receive_of st s)
  receive_read w e d = does_part (λ st. receive_of st s) w (λ g. e) (λ st. received-well st s) d
