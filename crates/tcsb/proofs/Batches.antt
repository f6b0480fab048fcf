-- A head and what follows it, written one behind the other: batches and sinces. Assumes nothing.
use mathlib.Core.Path.{◌≡◌, refl, sym, ap, ◌∙◌}
use mathlib.Core.Bool.{Bool, true, false, cond}
use mathlib.Core.List.{List, ◌++◌}
use Prim.Native.Nat.{ℕ, ◌+◌, ◌≤◌, ◌<◌}
use native.Mathlib.Omega.{arith}
use lib.ListN.{length, take, get_or, length-append, length-map}
use lib.Seq.{length-take-le}
use lib.Dec.{leb}
use borrow.Author.Tests.{le-leb, lt-ltb, leb-true}
use Rattle.refusal.specs.declared.Refusal.{Refusal}
use Rattle.refusal.specs.Refusal.{no}
use Rattle.lists.specs.Lists.{laid}
use Rattle.lists.proofs.Laws.{length-tab}
use Rattle.lists.proofs.Joined.{joined-map}
use Rattle.telegram.specs.Fields.{text}
use Rattle.telegram.specs.Reading.{nowhere, texts}
use Rattle.telegram.specs.Meaning.{body_bytes, exception_bytes, head_bytes, batch_bytes, since_bytes}
use Rattle.telegram.specs.Writing.{head_spelt, write_at, bytes_at, Room, Put, Wrote}
use Rattle.telegram.specs.declared.head.Head.{Head}
use Rattle.telegram.proofs.Laying.{room_second, put_then}
use Rattle.store.specs.declared.event.Event.{Event}
use Rattle.store.specs.declared.order.Slots.{Slots}
use Rattle.store.specs.Words.{event_at}
use Rattle.store.specs.Orders.{events}
use Rattle.tcsb.specs.Replica.{State, members, written_body, heading_written, batch_written, exception_of, since_of}
use Rattle.tcsb.specs.Tcsb.{view, Good, WritesOnly}
use Rattle.tcsb.specs.Writing.{head_of, body_spelt_at, exception_spelt_at, items_bytes, AllWritable, ItemsWidth, PutsItems, WritesBatch}
use Rattle.tcsb.specs.declared.tcsb.Tcsb.{Tcsb}
use Rattle.tcsb.proofs.Valid.{members_range}
use Rattle.tcsb.proofs.Writes.{next_clash}
use Rattle.std.specs.Prelude.{Result, Ok, Err}

-- ---- two things written one behind the other

-- where nothing was written, the buffer is as it was
pub wrote_kept : {out after : List ℕ} {at behind : ℕ} (g : Result (List ℕ) Refusal) {answer : Result ℕ Refusal} {k : Refusal} → Wrote out after at behind g answer
    → answer ≡ Err k → after ≡ out
wrote_kept {out} {after} {at} {behind} (Ok b) {answer} {k} w said = pick (leb (at + (length b + behind)) (length out)) w.answers w.holds
  where
    pick : (t : Bool) → answer ≡ cond t (Ok (at + length b)) (Err (no 15)) → after ≡ cond t (laid out at b) out → after ≡ out
    pick true e h = let z : ◌≡◌ {A = ℕ} 0 1 = cc in absurd (omega arith)
    pick false e h = h
wrote_kept (Err j) w said = w.holds

module _ {out mid : List ℕ} {behind : ℕ} {g : Result (List ℕ) Refusal} {a : List ℕ} (b : List ℕ) {answer : Result ℕ Refusal} (spelt : g ≡ Ok a) (more : behind ≡ length b)
    (w : Wrote out mid 0 behind g answer) where
  -- both have room where the first has it and as much behind it
  both_fit : leb (0 + (length (a ++ b) + 0)) (length out) ≡ leb (0 + (length a + behind)) (length out)
  both_fit = ap (λ (n : ℕ). leb n (length out)) (omega (arith, length-append a b))

  answer_is : answer ≡ write_at out 0 behind (Ok a)
  answer_is = rw spelt at w.answers

  mid_is : mid ≡ bytes_at out 0 behind (Ok a)
  mid_is = rw spelt at w.holds

  pub both_refused : {k : Refusal} → answer ≡ Err k → Wrote out mid 0 0 (Ok (a ++ b)) (Err k)
  both_refused {k} said =
      let e = pick (leb (0 + (length a + behind)) (length out)) answer_is mid_is in
      record { answers = rw both_fit e.0; holds = rw both_fit e.1 }
    where
      pick : (t : Bool) → answer ≡ cond t (Ok (0 + length a)) (Err (no 15)) → mid ≡ cond t (laid out 0 a) out
          → (Err k ≡ cond t (Ok (0 + length (a ++ b))) (Err (no 15))) × (mid ≡ cond t (laid out 0 (a ++ b)) out)
      pick true e h = let z : ◌≡◌ {A = ℕ} 0 1 = cc in absurd (omega arith)
      pick false e h = (sym said ∙ e, h)

  pub both_wrote : {at next : ℕ} {after : List ℕ} → answer ≡ Ok at → (Room mid at b → Put mid after at b next) → Wrote out after 0 0 (Ok (a ++ b)) (Ok next)
  both_wrote {at} {next} {after} said puts = pick (leb (0 + (length a + behind)) (length out)) refl answer_is mid_is
    where
      pick : (t : Bool) → leb (0 + (length a + behind)) (length out) ≡ t → answer ≡ cond t (Ok (0 + length a)) (Err (no 15)) → mid ≡ cond t (laid out 0 a) out
          → Wrote out after 0 0 (Ok (a ++ b)) (Ok next)
      pick true fits e h =
          let first : Put out mid 0 a at = record { ends = cc; holds = h } in
          let room : Room out 0 (a ++ b) = omega (arith, length-append a b, leb-true (0 + (length a + behind)) (length out) fits) in
          let all : Put out after 0 (a ++ b) next = put_then room first (puts (room_second b room first)) in
          record { answers = rw (both_fit, fits) (ap Ok all.ends); holds = rw (both_fit, fits) all.holds }
      pick false fits e h = let z : ◌≡◌ {A = ℕ} 0 1 = cc in absurd (omega arith)

-- ---- heads

-- our list has as many names as we have members
pub members_named : {t : Tcsb} {list p q : List ℕ} → Good t list p q → t.names.count ≡ t.matrix.members
unfolding texts
members_named {t} {list} g = sym (length-tab t.names.count (λ i. text list (get_or t.names.parts i nowhere))) ∙ g.well.listed

pub head-is : {t : Tcsb} {list p q : List ℕ} (k limit count : ℕ) → Good t list p q → count ≤ limit
    → head_spelt k limit list (head_of t) count ≡ Ok (head_bytes k (heading_written (view t list p q)) count)
unfolding head_spelt
head-is {t} {list} k limit count g few =
    rw (g.sound.inside, members_named g, lt-ltb t.matrix.origin.0 t.matrix.members g.well.ours, le-leb count limit few) refl

-- a head, and behind it what is measured by r
module _ {t : Tcsb} {list p q : List ℕ} (g : Good t list p q) (k limit count : ℕ) (few : count ≤ limit) {h : Head} (e : h ≡ head_of t) (b : List ℕ) {r : Result ℕ Refusal}
    (long : r ≡ Ok (length b)) where
  behind-is : {behind : ℕ} → r ≡ Ok behind → behind ≡ length b
  behind-is said = cc

  spelt_is : head_spelt k limit list h count ≡ Ok (head_bytes k (heading_written (view t list p q)) count)
  spelt_is = rw e (head-is k limit count g few)

  pub head_refused : {out mid : List ℕ} {behind : ℕ} {answer : Result ℕ Refusal} {why : Refusal} → r ≡ Ok behind → Wrote out mid 0 behind (head_spelt k limit list h count) answer
      → answer ≡ Err why → Wrote out mid 0 0 (Ok (head_bytes k (heading_written (view t list p q)) count ++ b)) (Err why)
  head_refused said w told = both_refused b spelt_is (behind-is said) w told

  pub head-wrote : {out mid after : List ℕ} {behind at next : ℕ} {answer : Result ℕ Refusal} → r ≡ Ok behind → Wrote out mid 0 behind (head_spelt k limit list h count) answer
      → answer ≡ Ok at → (Room mid at b → Put mid after at b next) → Wrote out after 0 0 (Ok (head_bytes k (heading_written (view t list p q)) count ++ b)) (Ok next)
  head-wrote said w told puts = both_wrote b spelt_is (behind-is said) w told puts

width_clash : {A : Type 0} {r : Result ℕ Refusal} {n : ℕ} {k : Refusal} → r ≡ Ok n → r ≡ Err k → A
width_clash a b = let z : ◌≡◌ {A = ℕ} 0 1 = cc in absurd (omega arith)

-- how many events some slots have
pub length-events : (p : List ℕ) (slots : Slots) → length slots.at ≡ 256 → slots.count ≤ 256 → length (events p slots) ≡ slots.count
length-events p slots long few = length-map (take slots.count slots.at) (event_at p) ∙ length-take-le slots.count slots.at (omega arith)

-- ---- batches

pub batch-is : (st : State) (es : List Event) (count : ℕ) → length es ≡ count
    → head_bytes 2 (heading_written st) count ++ items_bytes body_spelt_at (members st) es ≡ batch_written st es
unfolding batch_bytes
batch-is st es count e = rw (length-map es (written_body (members st)), e, joined-map body_bytes (written_body (members st)) es) refl

module _ (list : List ℕ) {words : List ℕ} {slots : Slots} (out : List ℕ) {t : Tcsb} {h : Head} {r : Result ℕ Refusal} (e : h ≡ head_of t)
    (wide : ItemsWidth body_spelt_at words slots h.names.count r) where
  -- the widths in our count of members
  bodies-long : {p q : List ℕ} → Good t list p q → AllWritable words slots t.matrix.members → r ≡ Ok (length (items_bytes body_spelt_at t.matrix.members (events words slots)))
  bodies-long g a = let w : ItemsWidth body_spelt_at words slots t.matrix.members r = rw (e, members_named g) at wide in w.is a

  whole_batch : {p q after : List ℕ} {answer : Result ℕ Refusal} → Good t list p q → AllWritable words slots t.matrix.members
      → Wrote out after 0 0 (Ok (head_bytes 2 (heading_written (view t list p q)) slots.count ++ items_bytes body_spelt_at t.matrix.members (events words slots))) answer
      → Wrote out after 0 0 (Ok (batch_written (view t list p q) (events words slots))) answer
  whole_batch {p} {q} g a w = rw (batch-is (view t list p q) (events words slots) slots.count (length-events words slots wide.long a.room)) at w

  pub batch_wide : {k : Refusal} → r ≡ Err k → WritesBatch list words slots out out t (Err k)
  batch_wide said = record { wrote = λ p q g a. width_clash (bodies-long g a) said; kept = λ j told. refl }

  pub batch_refused : {mid : List ℕ} {behind : ℕ} {answer : Result ℕ Refusal} {k : Refusal} → r ≡ Ok behind → Wrote out mid 0 behind (head_spelt 2 256 list h slots.count) answer
      → answer ≡ Err k → WritesBatch list words slots out mid t (Err k)
  batch_refused said w told = record {
    wrote = λ p q g a. whole_batch g a (head_refused g 2 256 slots.count a.room e (items_bytes body_spelt_at t.matrix.members (events words slots)) (bodies-long g a) said w told);
    kept = λ j again. wrote_kept _ w told;
  }

  pub batch-wrote : {mid after : List ℕ} {behind at next : ℕ} {answer : Result ℕ Refusal} → r ≡ Ok behind → Wrote out mid 0 behind (head_spelt 2 256 list h slots.count) answer
      → answer ≡ Ok at → PutsItems body_spelt_at mid after at words slots h.names.count next → WritesBatch list words slots out after t (Ok next)
  batch-wrote {mid} {after} {behind} {at} {next} said w told puts = record {
    wrote = λ p q g a.
        let s : PutsItems body_spelt_at mid after at words slots t.matrix.members next = rw (e, members_named g) at puts in
        whole_batch g a (head-wrote g 2 256 slots.count a.room e (items_bytes body_spelt_at t.matrix.members (events words slots)) (bodies-long g a) said w told (s.puts a));
    kept = λ j again. next_clash again;
  }

-- ---- sinces

pub since-is : (st : State) (n count : ℕ) → length st.inbox ≡ count → head_bytes 3 (heading_written st) count ++ items_bytes exception_spelt_at n st.inbox ≡ since_of st
unfolding since_bytes since_of
since-is st n count e = rw (length-map st.inbox exception_of, e, joined-map exception_bytes exception_of st.inbox) refl

-- each waiting event can be written, and at most 64 wait
pub waiting_writable : {t : Tcsb} {list p q : List ℕ} → Good t list p q → AllWritable p t.inbox.order t.matrix.members × (t.inbox.order.count ≤ 64)
waiting_writable {t} g =
    let few : t.inbox.order.count ≤ 64 = omega (arith, g.sound.stores.inbox.counts) in (
      record {
        few = (members_range g.well).1;
        room = omega arith;
        each = λ e m. record { listed = (g.well.waits e m).good.member; short = (g.well.waits e m).good.short };
      },
      few,
    )

long_enough : {A : Type 0} (p : List ℕ) → 1728 ≤ length p → leb 1728 (length p) ≡ false → A
long_enough p room f = let z : ◌≡◌ {A = ℕ} 0 1 = (let y = le-leb 1728 (length p) room in cc) in absurd (omega arith)

module _ (list : List ℕ) {p : List ℕ} (out : List ℕ) {t : Tcsb} {h : Head} {r : Result ℕ Refusal} (room : 1728 ≤ length p) (e : h ≡ head_of t)
    (wide : ItemsWidth exception_spelt_at p t.inbox.order h.names.count r) where
  ids-long : {q : List ℕ} → Good t list p q → r ≡ Ok (length (items_bytes exception_spelt_at t.matrix.members (events p t.inbox.order)))
  ids-long g = let w : ItemsWidth exception_spelt_at p t.inbox.order t.matrix.members r = rw (e, members_named g) at wide in w.is (waiting_writable g).0

  whole_since : {q after : List ℕ} {answer : Result ℕ Refusal} → Good t list p q
      → Wrote out after 0 0
      (Ok (head_bytes 3 (heading_written (view t list p q)) t.inbox.order.count ++ items_bytes exception_spelt_at t.matrix.members (events p t.inbox.order))) answer
      → Wrote out after 0 0 (Ok (since_of (view t list p q))) answer
  whole_since {q} g w = rw (since-is (view t list p q) t.matrix.members t.inbox.order.count (length-events p t.inbox.order wide.long (omega (arith, (waiting_writable g).1)))) at w

  pub since_wide : {k : Refusal} → r ≡ Err k → (q : List ℕ) → WritesOnly list p q out out (leb 1728 (length p)) t (Err k) since_of
  since_wide said q = record { wrote = λ g. width_clash (ids-long g) said; kept = λ j told. refl; short = λ f. long_enough p room f }

  pub since_refused : {mid : List ℕ} {behind : ℕ} {answer : Result ℕ Refusal} {k : Refusal} → r ≡ Ok behind
      → Wrote out mid 0 behind (head_spelt 3 64 list h t.inbox.order.count) answer
      → answer ≡ Err k → (q : List ℕ) → WritesOnly list p q out mid (leb 1728 (length p)) t (Err k) since_of
  since_refused said w told q = record {
    wrote = λ g. whole_since g
        (head_refused g 3 64 t.inbox.order.count (waiting_writable g).1 e (items_bytes exception_spelt_at t.matrix.members (events p t.inbox.order)) (ids-long g) said w told);
    kept = λ j again. wrote_kept _ w told;
    short = λ f. long_enough p room f;
  }

  pub since-wrote : {mid after : List ℕ} {behind at next : ℕ} {answer : Result ℕ Refusal} → r ≡ Ok behind
      → Wrote out mid 0 behind (head_spelt 3 64 list h t.inbox.order.count) answer
      → answer ≡ Ok at → PutsItems exception_spelt_at mid after at p t.inbox.order h.names.count next
      → (q : List ℕ) → WritesOnly list p q out after (leb 1728 (length p)) t (Ok next) since_of
  since-wrote {mid} {after} {behind} {at} {next} said w told puts q = record {
    wrote = λ g.
        let s : PutsItems exception_spelt_at mid after at p t.inbox.order t.matrix.members next = rw (e, members_named g) at puts in
        whole_since g (head-wrote g 3 64 t.inbox.order.count (waiting_writable g).1 e (items_bytes exception_spelt_at t.matrix.members (events p t.inbox.order))
        (ids-long g) said w told (s.puts (waiting_writable g).0));
    kept = λ j again. next_clash again;
    short = λ f. long_enough p room f;
  }

-- words that are too short
pub since-short : {list p out : List ℕ} {t : Tcsb} → length p < 1728 → (q : List ℕ) → WritesOnly list p q out out (leb 1728 (length p)) t (Err (no 4)) since_of
since-short {list} {p} {out} {t} lt q = record {
  wrote = λ g. absurd (omega (arith, g.sound.stores.inbox.room));
  kept = λ j told. refl;
  short = λ f. refl;
}
