-- What pull does, from what its parts do. Assumes nothing.
use mathlib.Core.Path.{◌≡◌, refl, sym, ap, ◌∙◌}
use mathlib.Core.List.{List}
use Prim.Native.Nat.{ℕ, ◌≤◌}
use native.Mathlib.Omega.{arith}
use lib.ListN.{length, get_or}
use lib.Dec.{leb}
use Rattle.refusal.specs.declared.Refusal.{Refusal}
use Rattle.telegram.specs.Fields.{counted, many}
use Rattle.telegram.specs.Reading.{texts, head, exception, since_form, since}
use Rattle.telegram.specs.declared.since.Exception.{Exception}
use Rattle.telegram.specs.declared.since.Since.{Since}
use Rattle.telegram.proofs.Steps.{got_carry, after_is, ended_is, fairly-is}
use Rattle.telegram.proofs.Inside.{counted_range}
use Rattle.telegram.proofs.Filled.{count-texts}
use Rattle.store.specs.declared.event.Event.{Event}
use Rattle.store.specs.declared.order.Slots.{Slots}
use Rattle.store.specs.Orders.{events, keep}
use Rattle.store.proofs.Sorting.{keep_in}
use Rattle.tcsb.specs.Internalizer.{no_translation, our_place, our_entries}
use Rattle.tcsb.specs.Replica.{State, Call, done, not_done, admitted_by, admitted, extended, batch_written, is_wanted, pull_of}
use Rattle.tcsb.specs.Tcsb.{view, with_known, Sound, Good, Writes, WritesIf}
use Rattle.tcsb.specs.Writing.{AllWritable, WritesBatch, wanted_by, Wants, ReadsIds, Asks}
use Rattle.tcsb.specs.declared.internalizer.Translation.{Translation}
use Rattle.tcsb.specs.declared.tcsb.Tcsb.{Tcsb}
use Rattle.tcsb.specs.declared.batch.Ids.{Ids}
use Rattle.tcsb.proofs.Valid.{members_range}
use Rattle.tcsb.proofs.Heard.{since_heard}
use Rattle.tcsb.proofs.Admitted.{admitted-is}
use Rattle.tcsb.proofs.Receiving.{pulled_well}
use Rattle.tcsb.proofs.Wanting.{keep_same, wants-same}
use Rattle.tcsb.proofs.Batches.{members_named}
use Rattle.tcsb.proofs.Writes.{if_refused, if_unwritten, if_written, writes_of, writes_all}
use Rattle.std.specs.Prelude.{Result, Ok, Err}
use Rattle.leb128.specs.Leb128.{got}

-- ---- a since that was read

-- its exceptions, 64 at most
pub record SinceHeld (s : List ℕ) (r : Since) : Type 0 where
  pub items : List Exception
  pub end : ℕ
  pub reads : many r.count (exception r.head.names.count s) r.exceptions ≡ got items end
  pub few : r.count ≤ 64

since_form_held : (s : List ℕ) (r : Since) → since_form s ≡ Ok r → SinceHeld s r
unfolding since_form
since_form_held s r h =
    after_is (head 3 s) _ (ended_is s _ h) (λ x mid eh e1.
    after_is (counted 0 64 s mid) _ e1 (λ count start ec e2.
    after_is (many count (exception x.names.count s) start) _ e2 (λ items end em eq.
    got_carry (λ (r : Since) next. SinceHeld s r) eq (record { items = items; end = end; reads = em; few = (counted_range 0 64 s mid count start ec).most }))))

pub since_held : (s : List ℕ) (r : Since) → since s ≡ Ok r → SinceHeld s r
since_held s r e = since_form_held s r (fairly-is s (λ (r : Since). r.head.names) (since_form s) e).0

-- ---- the definition, by its cases

module _ (st : State) (s : List ℕ) where
  pull_unread : {k : Refusal} → since s ≡ Err k → pull_of st s ≡ not_done k
  unfolding pull_of
  pull_unread e = rw e refl

  pull_unknown : (r : Since) {k : Refusal} → since s ≡ Ok r → admitted st (texts s r.head.names) r.head.sender.0 ≡ Err k → pull_of st s ≡ not_done k
  unfolding pull_of
  pull_unknown r e a = rw (e, (since_held s r e).reads, a) refl

  pull_is : (r : Since) (row : Translation) (e : since s ≡ Ok r) → admitted st (texts s r.head.names) r.head.sender.0 ≡ Ok row
      → pull_of st s ≡ done (batch_written st (keep (is_wanted row (our_place row r.head.sender.0) (our_entries row.count row r.head.entries) (since_held s r e).items) st.outbox))
      (extended st (our_place row r.head.sender.0) row)
  unfolding pull_of
  pull_is r row e a = rw (e, (since_held s r e).reads, a) refl

abbrev pulling : List ℕ → State → Call (List ℕ)
pulling s st = pull_of st s

-- ---- the answer

module _ (t : Tcsb) (list q s out : List ℕ) (r : Since) (row : Translation) {a : ℕ} {v : List ℕ} {ids : Ids} {slots : Slots} {after : List ℕ} {answer : Result ℕ Refusal}
    (place : a ≡ our_place row r.head.sender.0) (entries : row.count ≤ 16 → v ≡ our_entries row.count row r.head.entries)
    (reads : ReadsIds s r.exceptions r.head.names.count r.count row ids) (few : r.count ≤ 64) (wants : Wants q t.outbox.order a v ids slots)
    (writes : WritesBatch list q slots out after t answer) (p : List ℕ) where
  row_few : Asks list p q t s r row → Good t list p q → row.count ≤ 16
  row_few f g =
      let h = since_heard s r f.0 in
      let c = count-texts s r.head.names in
      omega (arith, (admitted-is (view t list p q) (texts s r.head.names) r.head.sender.0 row (omega (arith, c, h.few)) h.distinct f.1).counts, c, h.few)

  slots_are : (f : Asks list p q t s r row) → Good t list p q
      → events q slots ≡ keep (is_wanted row (our_place row r.head.sender.0) (our_entries row.count row r.head.entries) (since_held s r f.0).items) (events q t.outbox.order)
  slots_are f g =
      let h = since_held s r f.0 in
      wants.wants (omega (arith, reads.few)) (omega (arith, g.sound.stores.outbox.counts))
      ∙ keep_same (wanted_by a v ids) (is_wanted row (our_place row r.head.sender.0) (our_entries row.count row r.head.entries) h.items) (events q t.outbox.order)
      (wants-same row h.items ids place (entries (row_few f g)) (reads.has h.items h.end h.reads))

  slots_writable : Asks list p q t s r row → Good t list p q → AllWritable q slots t.matrix.members
  slots_writable f g = record {
    few = (members_range g.well).1;
    room = wants.few;
    each = λ e m.
        let k = keep_in _ (events q t.outbox.order) (rw (slots_are f g) at m) in
        let w = (g.well.keeps e k.0).good in
        record { listed = w.member; short = w.short };
  }

  answer_is : Asks list p q t s r row → Good t list p q
      → pull_of (view t list p q) s ≡ done (batch_written (view t list p q) (events q slots)) (extended (view t list p q) (our_place row r.head.sender.0) row)
  answer_is f g =
      pull_is (view t list p q) s r row f.0 f.1
      ∙ ap (λ (es : List Event). done (batch_written (view t list p q) es) (extended (view t list p q) (our_place row r.head.sender.0) row)) (sym (slots_are f g))

  pub answer_refused : {k : Refusal} → answer ≡ Err k
      → WritesIf (Asks list p q t s r row) list p p q q out after t t (Err k) (λ st. pull_of st s)
  answer_refused {k} said =
      if_unwritten (pulling s) (batch_written (view t list p q) (events q slots)) (extended (view t list p q) (our_place row r.head.sender.0) row) answer_is
      (λ f g. writes.wrote p q g (slots_writable f g)) said (writes.kept k said)

  known-view : {t' : Tcsb} → t' ≡ with_known t a row → view t' list p q ≡ extended (view t list p q) (our_place row r.head.sender.0) row
  known-view e = rw (e, place) refl

  known-sound : {t' : Tcsb} → t' ≡ with_known t a row → Good t list p q → Sound t' list p q
  known-sound e g = rw e (record { stores = record { inbox = g.sound.stores.inbox; outbox = g.sound.stores.outbox }; inside = g.sound.inside })

  pub answer_done : {t' : Tcsb} {n : ℕ} → answer ≡ Ok n → t' ≡ with_known t a row
      → WritesIf (Asks list p q t s r row) list p p q q out after t t' (Ok n) (λ st. pull_of st s)
  answer_done said e =
      if_written (pulling s) (batch_written (view t list p q) (events q slots)) (extended (view t list p q) (our_place row r.head.sender.0) row) answer_is
      (λ f g. writes.wrote p q g (slots_writable f g)) said (λ f g. known-view e) (λ f g. known-sound e g)

-- ---- the call's returns

module _ (t : Tcsb) (list q s out : List ℕ) (room : 6912 ≤ length q) (p : List ℕ) where
  pub pull_bad : {k : Refusal} → since s ≡ Err k → Writes list p p q q out out (leb 6912 (length q)) t t (Err k) (λ st. pull_of st s)
  pull_bad said = writes_all (pulling s) room (λ st. pulled_well st s) (if_refused (pulling s) (λ f g. pull_unread (view t list p q) s said))

  module _ {r : Since} (said : since s ≡ Ok r) {w : Result Translation Refusal}
      (admits : t.names.count ≤ 16 → r.head.names.count ≤ 16 → ((i : ℕ) → (get_or t.known i no_translation).count ≤ 16)
      → w ≡ admitted_by (texts list t.names) t.known t.matrix.origin.0 (texts s r.head.names) r.head.sender.0) where
    admits_is : Good t list p q → w ≡ admitted (view t list p q) (texts s r.head.names) r.head.sender.0
    unfolding admitted
    admits_is g = admits (omega (arith, members_named g, (members_range g.well).1)) (since_heard s r said).few (λ i. (g.well.known i).few)

    pub pull_strange : {k : Refusal} → w ≡ Err k → Writes list p p q q out out (leb 6912 (length q)) t t (Err k) (λ st. pull_of st s)
    pull_strange no_row =
        writes_all (pulling s) room (λ st. pulled_well st s)
        (if_refused (pulling s) (λ f g. pull_unknown (view t list p q) s r said (sym (admits_is g) ∙ no_row)))

    pub pull_answered : {row : Translation} {t' : Tcsb} {after : List ℕ} {answer : Result ℕ Refusal} → w ≡ Ok row
        → WritesIf (Asks list p q t s r row) list p p q q out after t t' answer (λ st. pull_of st s)
        → Writes list p p q q out after (leb 6912 (length q)) t t' answer (λ st. pull_of st s)
    pull_answered a-row does = writes_of (pulling s) room (λ g. (said, sym (admits_is g) ∙ a-row)) (λ st. pulled_well st s) does
