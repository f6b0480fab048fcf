-- The steps of a batch: a walk over its bodies that decides every refusal and counts, and a second one that stores. Assumes nothing.
use Rattle.std.specs.Prelude.{ℕ, ◌+◌, ◌≤◌, ◌≡◌, Bool, true, false, cond, ◌&&◌, ◌||◌, List, [], ◌∷◌, ◌++◌, map, length, get_or, set, eqb}
use Rattle.refusal.specs.declared.Refusal.{Refusal}
use Rattle.lists.specs.Lists.{tab, any}
use Rattle.clock.specs.Version.{no_id, same_id}
use Rattle.telegram.specs.Fields.{many}
use Rattle.telegram.specs.Reading.{body, batch, texts}
use Rattle.telegram.specs.declared.body.Body.{Body}
use Rattle.telegram.specs.declared.batch.Batch.{Batch}
use Rattle.store.specs.declared.event.Event.{Event}
use Rattle.store.specs.Orders.{In, Sorted, events, find_from, in_range}
use Rattle.tcsb.specs.Internalizer.{event_of}
use Rattle.tcsb.specs.Replica.{State, admitted, taken_of, insert_all, some_own, some_misnumbered, tally_of}
use Rattle.tcsb.specs.Tcsb.{view, Stores, with_stores}
use Rattle.tcsb.specs.Receive.{new_to}
use Rattle.tcsb.specs.declared.internalizer.Translation.{Translation}
use Rattle.tcsb.specs.declared.tcsb.Tcsb.{Tcsb}
use Rattle.tcsb.specs.declared.receive.Verdict.{Verdict}
use Rattle.tcsb.specs.declared.receive.Verdict.TheVariants.{Taken, Duplicate, Stale}
use Rattle.tcsb.specs.declared.batch.Tally.{Tally}
use Rattle.tcsb.specs.declared.batch.Ids.{Ids}
use Rattle.tcsb.specs.declared.batch.Survey.{Survey}
use Rattle.std.specs.Prelude.{Result, Ok, Err}
use Rattle.leb128.specs.Leb128.{got}

-- ---- ids

abbrev pub no_ids : Ids
no_ids = record { at = tab 256 (λ k. no_id); count = 0 }

abbrev pub has_id : Ids → ℕ → ℕ → Bool
has_id ids o n = any ids.count (λ k. same_id (get_or ids.at k no_id) (record { idx = record { 0 = o }; seq = n }))

abbrev pub with_id : Ids → ℕ → ℕ → Ids
with_id ids o n = record { at = set ids.at ids.count (record { idx = record { 0 = o }; seq = n }); count = ids.count + 1 }

-- the array has its places
pub record Long (ids : Ids) : Type 0 where
  pub places : length ids.at ≡ 256

-- some event of a list has an id
unfoldable pub has_in : ℕ → ℕ → List Event → Bool
has_in o n [] = false
has_in o n (x ∷ l) = (eqb x.origin.0 o && eqb x.number n) || has_in o n l

-- ---- the walk

abbrev pub raised_tally : Tally → Verdict → Tally
raised_tally t Taken = record { taken = t.taken + 1; duplicate = t.duplicate; stale = t.stale }
raised_tally t Duplicate = record { taken = t.taken; duplicate = t.duplicate + 1; stale = t.stale }
raised_tally t Stale = record { taken = t.taken; duplicate = t.duplicate; stale = t.stale + 1 }

abbrev pub no_survey : Survey
no_survey = record {
  own = false;
  misnumbered = false;
  tally = record { taken = 0; duplicate = 0; stale = 0 };
  ids = no_ids;
  waiting = 0;
  kept = 0;
}

-- no count is above n
pub record Few (n : ℕ) (v : Survey) : Type 0 where
  pub taken : v.tally.taken ≤ n
  pub duplicate : v.tally.duplicate ≤ n
  pub stale : v.tally.stale ≤ n
  pub ids : v.ids.count ≤ n
  pub waiting : v.waiting ≤ n
  pub kept : v.kept ≤ n

-- with the id of an event that is to be taken
abbrev pub noted_by : List ℕ → List ℕ → Tcsb → Survey → Event → Survey
noted_by p q t v e =
    cond (has_id v.ids e.origin.0 e.number) v
    (record {
      own = v.own;
      misnumbered = v.misnumbered;
      tally = v.tally;
      ids = with_id v.ids e.origin.0 e.number;
      waiting = v.waiting + new_to (find_from e.origin.0 e.number 0 (events p t.inbox.order));
      kept = v.kept + new_to (find_from e.origin.0 e.number 0 (events q t.outbox.order));
    })

-- what the walk has found after some bodies
pub record Surveys (st : State) (row : Translation) (s : List ℕ) (bs : List Body) (v : Survey) : Type 0 where
  pub own : v.own ≡ some_own st row bs
  pub misnumbered : v.misnumbered ≡ some_misnumbered bs
  pub tally : v.tally ≡ tally_of st (map (event_of row s) bs)
  pub ids : (o n : ℕ) → has_id v.ids o n ≡ has_in o n (taken_of st (map (event_of row s) bs))
  pub waiting : length st.inbox + v.waiting ≡ length (insert_all (taken_of st (map (event_of row s) bs)) st.inbox)
  pub kept : length st.outbox + v.kept ≡ length (insert_all (taken_of st (map (event_of row s) bs)) st.outbox)

pub record SurveysMore (p q : List ℕ) (t : Tcsb) (row : Translation) (s : List ℕ) (v : Survey) (b : Body) (v' : Survey) : Type 0 where
  pub few : (n : ℕ) → Few n v → Few (n + 1) v'
  pub more : (list : List ℕ) (bs : List Body) → row.count ≤ 16 → Sorted (events p t.inbox.order) → Sorted (events q t.outbox.order)
      → Surveys (view t list p q) row s bs v → Surveys (view t list p q) row s (bs ++ (b ∷ [])) v'

pub record SurveysAll (p q : List ℕ) (t : Tcsb) (row : Translation) (s : List ℕ) (at names count : ℕ) (r : Result Survey Refusal) : Type 0 where
  pub all : (list : List ℕ) (bs : List Body) (end : ℕ) → row.count ≤ 16 → names ≤ 16 → Sorted (events p t.inbox.order) → Sorted (events q t.outbox.order)
      → many count (body names s) at ≡ got bs end → (v : Survey) × ((r ≡ Ok v) × Surveys (view t list p q) row s bs v)
  pub fails : (k : Refusal) → names ≤ 16 → many count (body names s) at ≡ Err k → r ≡ Err k

-- ---- storing

-- the events of some bodies that are to be taken are put into both stores where they find room; nothing else changes
pub record Records (p p' q q' : List ℕ) (t : Tcsb) (es : List Event) (t' : Tcsb) : Type 0 where
  pub inbox : length (insert_all (taken_of (view t [] p q) es) (events p t.inbox.order)) ≤ 64
      → events p' t'.inbox.order ≡ insert_all (taken_of (view t [] p q) es) (events p t.inbox.order)
  pub outbox : length (insert_all (taken_of (view t [] p q) es) (events q t.outbox.order)) ≤ 256
      → events q' t'.outbox.order ≡ insert_all (taken_of (view t [] p q) es) (events q t.outbox.order)
  pub stores : Stores t' p' q'

pub record RecordsBody (p p' q q' : List ℕ) (t : Tcsb) (row : Translation) (s : List ℕ) (b : Body) (t' : Tcsb) : Type 0 where
  pub fixed : t' ≡ with_stores t t'.inbox t'.outbox
  pub puts : Stores t p q → row.count ≤ 16 → in_range (event_of row s b) ≡ true → Records p p' q q' t (event_of row s b ∷ []) t'

pub record RecordsAll (p p' q q' : List ℕ) (t : Tcsb) (row : Translation) (s : List ℕ) (at names count : ℕ) (t' : Tcsb) : Type 0 where
  pub fixed : t' ≡ with_stores t t'.inbox t'.outbox
  pub puts : (bs : List Body) (end : ℕ) → Stores t p q → row.count ≤ 16 → names ≤ 16 → many count (body names s) at ≡ got bs end
      → ((b : Body) → In b bs → in_range (event_of row s b) ≡ true) → Records p p' q q' t (map (event_of row s) bs) t'

-- ---- a batch that was read, and its sender's row
abbrev pub Admits : List ℕ → List ℕ → List ℕ → Tcsb → List ℕ → Batch → Translation → Type 0
Admits list p q t s b row = (batch s ≡ Ok b) × (admitted (view t list p q) (texts s b.head.names) b.head.sender.0 ≡ Ok row)
