-- What the events of some slots give, measured and written one behind the other. Assumes nothing.
use mathlib.Core.Path.{◌≡◌, refl, sym, ap, ◌∙◌}
use mathlib.Core.Bool.{true}
use mathlib.Core.List.{List, ◌++◌, map}
use Prim.Native.Nat.{ℕ, ◌+◌, ◌*◌, ◌≤◌, ◌<◌}
use native.Mathlib.Omega.{arith}
use lib.ListN.{length, get_or, length-append, length-map, get_or-map}
use lib.Dec.{leb}
use borrow.Author.Tests.{le-leb, lt-ltb}
use Rattle.refusal.specs.declared.Refusal.{Refusal}
use Rattle.std.specs.Result.{result_unwrap_or}
use Rattle.lists.specs.Lists.{chain, joined}
use Rattle.lists.proofs.Laws.{chain_more, chain-room}
use Rattle.lists.proofs.Joined.{chain-joined, joined-map}
use Rattle.leb128.specs.Leb128.{spell}
use Rattle.leb128.proofs.Spelling.{width_range}
use Rattle.telegram.specs.Meaning.{exception_bytes}
use Rattle.telegram.specs.Writing.{body_spelt, exception_spelt, measured, Room, Put, Wrote}
use Rattle.telegram.specs.declared.body.Body.{Body}
use Rattle.telegram.specs.declared.since.Exception.{Exception}
use Rattle.telegram.proofs.Parts.{part_fits_lem}
use Rattle.telegram.proofs.Spelt.{body_spelt_lem, body_small, exception_spelt_lem}
use Rattle.telegram.proofs.Laying.{put_none, put_then, room_second}
use Rattle.store.specs.declared.event.Event.{Event}
use Rattle.store.specs.declared.order.Slots.{Slots}
use Rattle.store.specs.Words.{event_at}
use Rattle.store.specs.Orders.{In, events, meant}
use Rattle.tcsb.specs.Replica.{exception_of}
use Rattle.tcsb.specs.Writing.{event_body, body_spelt_at, exception_spelt_at, Writable, AllWritable, Measures, PutsItem, ItemsWidth, PutsItems}
use Rattle.tcsb.proofs.Places.{in_at}
use Rattle.std.specs.Prelude.{Result, Ok, Err}

-- ---- bytes counted, 311 at most each time

-- the bytes of f 0 .. f (i - 1), where a fact holds
pub record Counting (F : Type 0) (f : ℕ → List ℕ) (i total : ℕ) : Type 0 where
  pub small : total ≤ 311 * i
  pub so_far : F → total ≡ length (chain i f)

module _ {F : Type 0} {f : ℕ → List ℕ} where
  pub count_none : Counting F f 0 0
  unfolding chain
  count_none = record { small = omega arith; so_far = λ h. refl }

  pub count-more : {i total w : ℕ} → Counting F f i total → w ≤ 311 → (F → w ≡ length (f i)) → Counting F f (i + 1) (total + w)
  count-more {i} {total} {w} c most is = record {
    small = omega (arith, c.small);
    so_far = λ h. rw (chain_more i f, length-append (chain i f) (f i)) (omega (arith, c.so_far h, is h));
  }

-- ---- bytes written

-- f 0 .. f (i - 1), of n, stand in their place where a fact holds and all have room
pub record Placed (F : Type 0) (f : ℕ → List ℕ) (n : ℕ) (before now : List ℕ) (at next i : ℕ) : Type 0 where
  pub long : length now ≡ length before
  pub so_far : F → Room before at (chain n f) → Put before now at (chain i f) next

module _ {F : Type 0} {f : ℕ → List ℕ} {n : ℕ} {before : List ℕ} {at : ℕ} where
  pub placed-none : Placed F f n before before at at 0
  unfolding chain
  placed-none = record { long = refl; so_far = λ h r. put_none before at }

  pub placed-more : {now after : List ℕ} {next m i : ℕ} → Placed F f n before now at next i → i < n → length after ≡ length now
      → (F → Room now next (f i) → Put now after next (f i) m) → Placed F f n before after at m (i + 1)
  placed-more {now} {after} {next} {m} {i} p lt same puts = record {
    long = same ∙ p.long;
    so_far = λ h r.
        let s : Put before now at (chain i f) next = p.so_far h r in
        let both : Room before at (chain i f ++ f i) = omega (arith, length-append (chain i f) (f i), chain-room i n f lt, r) in
        rw (chain_more i f) (put_then both s (puts h (room_second (f i) both s)));
  }

-- ---- the events of slots by place

-- the event in the slot at a place
abbrev pub event_in : List ℕ → Slots → ℕ → Event
event_in p slots j = event_at p (get_or (meant slots) j 0)

module _ (p : List ℕ) (slots : Slots) where
  pub event_in_lem : (i : ℕ) → i < length (meant slots) → In (event_in p slots i) (events p slots)
  event_in_lem i lt =
      let l : List ℕ = meant slots in
      let size : length (map (event_at p) l) ≡ length l = length-map l (event_at p) in
      rw (get_or-map (event_at p) l i 0) at (in_at (map (event_at p) l) i (event_at p 0) (omega arith))

  pub events-joined : (f : Event → List ℕ) → chain (length (meant slots)) (λ j. f (event_in p slots j)) ≡ joined f (events p slots)
  events-joined f = chain-joined (λ v. f (event_at p v)) 0 (meant slots) ∙ sym (joined-map f (event_at p) (meant slots))

-- ---- one event

-- an event that is written behind n names is spelt so, its operation having its 32 bytes
pub body_spelt_is : (e : Event) (n : ℕ) → length e.operation ≡ 32 → n ≤ 16 → Writable n e → body_spelt n e.operation (event_body e) ≡ Ok (body_spelt_at n e)
unfolding body_spelt
body_spelt_is e n long few w =
    rw (
      le-leb n 16 few,
      lt-ltb e.origin.0 n w.listed,
      part_fits_lem {low = 0} {high = 32} {s = e.operation} {p = (event_body e).operation}
          (record { least = omega arith; most = w.short; within = omega (arith, w.short, long) }),
    )
    refl

pub exception_spelt_is : (e : Event) (n : ℕ) → n ≤ 16 → Writable n e → exception_spelt n (exception_of e) ≡ Ok (exception_spelt_at n e)
unfolding exception_spelt
exception_spelt_is e n few w = rw (le-leb n 16 few, lt-ltb e.origin.0 n w.listed) refl

pub exception_small : (n : ℕ) (x : Exception) {w : ℕ} {r : Result ℕ Refusal} → r ≡ measured (exception_spelt n x) → r ≡ Ok w → w ≤ 311
unfolding exception_spelt exception_bytes
exception_small n x {w} told said =
    let f = exception_spelt_lem n x told said in
    omega (arith, f.spelt.long, length-append (spell x.place.0) (spell x.number), width_range x.place.0, width_range x.number)

-- what one event takes
pub body-measured : (e : Event) (n : ℕ) {b : Body} {r : Result ℕ Refusal} → length e.operation ≡ 32 → b ≡ event_body e → r ≡ measured (body_spelt n e.operation b)
    → Measures body_spelt_at e n r
body-measured e n long is told = record {
  is = λ few w. told ∙ ap measured (ap (body_spelt n e.operation) is ∙ body_spelt_is e n long few w);
  few = λ w said. body_small (body_spelt_lem n e.operation (event_body e) (told ∙ ap (λ (x : Body). measured (body_spelt n e.operation x)) is) said);
}

pub exception-measured : (e : Event) (n : ℕ) {x : Exception} {r : Result ℕ Refusal} → x ≡ exception_of e → r ≡ measured (exception_spelt n x) → Measures exception_spelt_at e n r
exception-measured e n {x} is told = record {
  is = λ few w. told ∙ ap measured (ap (exception_spelt n) is ∙ exception_spelt_is e n few w);
  few = λ w said. exception_small n x told said;
}

-- what was written where it had room was put there
pub wrote-puts : {out after : List ℕ} {at next : ℕ} {g : Result (List ℕ) Refusal} {b : List ℕ} {answer : Result ℕ Refusal} → g ≡ Ok b → Wrote out after at 0 g answer
    → next ≡ result_unwrap_or answer at → Room out at b → Put out after at b next
wrote-puts {out} {after} {at} {next} {g} {b} {answer} e w said room =
    let fits : leb (at + (length b + 0)) (length out) ≡ true = le-leb (at + (length b + 0)) (length out) (omega arith) in
    let told : answer ≡ Ok (at + length b) = w.answers ∙ rw (e, fits) refl in
    record { ends = said ∙ ap (λ (r : Result ℕ Refusal). result_unwrap_or r at) told; holds = w.holds ∙ rw (e, fits) refl }

pub body-puts : {out after : List ℕ} {at next : ℕ} (e : Event) (n : ℕ) {b : Body} {answer : Result ℕ Refusal} → length e.operation ≡ 32 → b ≡ event_body e
    → Wrote out after at 0 (body_spelt n e.operation b) answer → next ≡ result_unwrap_or answer at → PutsItem body_spelt_at out after at e n next
body-puts e n long is w said = record { puts = λ few h room. wrote-puts (ap (body_spelt n e.operation) is ∙ body_spelt_is e n long few h) w said room }

pub exception-puts : {out after : List ℕ} {at next : ℕ} (e : Event) (n : ℕ) {x : Exception} {answer : Result ℕ Refusal} → x ≡ exception_of e
    → Wrote out after at 0 (exception_spelt n x) answer → next ≡ result_unwrap_or answer at → PutsItem exception_spelt_at out after at e n next
exception-puts e n is w said = record { puts = λ few h room. wrote-puts (ap (exception_spelt n) is ∙ exception_spelt_is e n few h) w said room }

-- ---- what the loops over the slots keep, and what that gives in the end

module _ (spelt : ℕ → Event → List ℕ) (p : List ℕ) (slots : Slots) (n : ℕ) where
  abbrev pub item_in : ℕ → List ℕ
  item_in j = spelt n (event_in p slots j)

  pub writable_in : (i : ℕ) → i < length (meant slots) → AllWritable p slots n → Writable n (event_in p slots i)
  writable_in i lt a = a.each (event_in p slots i) (event_in_lem p slots i lt)

  -- what was loaded from the slot at a place
  pub loaded_at : {items : List ℕ} {e : Event} (i : ℕ) → items ≡ meant slots → e ≡ event_at p (get_or items i 0) → e ≡ event_in p slots i
  loaded_at i same is = is ∙ ap (λ (l : List ℕ). event_at p (get_or l i 0)) same

  pub loaded_writable : {items : List ℕ} {e : Event} (i : ℕ) → items ≡ meant slots → e ≡ event_at p (get_or items i 0) → i < length items → AllWritable p slots n → Writable n e
  loaded_writable i same is lt a = rw (loaded_at i same is) (writable_in i (rw same at lt) a)

  pub item_counted : {items : List ℕ} {e : Event} {i total w : ℕ} → items ≡ meant slots → e ≡ event_at p (get_or items i 0) → i < length items
      → Counting (AllWritable p slots n) item_in i total → Measures spelt e n (Ok w) → Counting (AllWritable p slots n) item_in (i + 1) (total + w)
  item_counted {e = e} {i} {w = w} same is lt c m = count-more c (m.few w refl)
      (λ a. let z : Ok w ≡ Ok (length (spelt n e)) = m.is a.few (loaded_writable i same is lt a) in let y : w ≡ length (spelt n e) = cc in
      y ∙ ap (λ (x : Event). length (spelt n x)) (loaded_at i same is))

  pub item_refused : {items : List ℕ} {e : Event} {i : ℕ} {k : Refusal} {r : Result ℕ Refusal} → length slots.at ≡ 256 → items ≡ meant slots
      → e ≡ event_at p (get_or items i 0) → i < length items → Measures spelt e n (Err k) → ItemsWidth spelt p slots n r
  item_refused {e = e} {i} {k} long same is lt m = record {
    long = long;
    is = λ a. let z : ◌≡◌ {A = Result ℕ Refusal} (Err k) (Ok (length (spelt n e))) = m.is a.few (loaded_writable i same is lt a) in
        let y : ◌≡◌ {A = ℕ} 0 1 = cc in absurd (omega arith);
  }

  pub items-counted : {items : List ℕ} {i total : ℕ} → length slots.at ≡ 256 → items ≡ meant slots → Counting (AllWritable p slots n) item_in i total → i ≡ length items
      → ItemsWidth spelt p slots n (Ok total)
  items-counted {i = i} long same c end = let all : i ≡ length (meant slots) = end ∙ ap length same in record {
    long = long;
    is = λ a. ap Ok (c.so_far a ∙ ap length (rw all (events-joined p slots (spelt n))));
  }

  pub item_placed : {items before now after : List ℕ} {e : Event} {at next i m : ℕ} → items ≡ meant slots → e ≡ event_at p (get_or items i 0) → i < length items
      → Placed (AllWritable p slots n) item_in (length (meant slots)) before now at next i → length after ≡ length now → PutsItem spelt now after next e n m
      → Placed (AllWritable p slots n) item_in (length (meant slots)) before after at m (i + 1)
  item_placed {i = i} same is lt c long puts = placed-more c (rw same at lt) long
      (λ a. rw (loaded_at i same is) at (puts.puts a.few (loaded_writable i same is lt a)))

  pub items-placed : {items out after : List ℕ} {at next i : ℕ} → items ≡ meant slots
      → Placed (AllWritable p slots n) item_in (length (meant slots)) out after at next i → i ≡ length items → PutsItems spelt out after at p slots n next
  items-placed {i = i} same c end = let all : i ≡ length (meant slots) = end ∙ ap length same in record {
    puts = λ a room.
        let e = events-joined p slots (spelt n) in
        rw (← e) (rw all at (c.so_far a (rw e room)));
  }
