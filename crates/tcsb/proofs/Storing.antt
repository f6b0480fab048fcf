-- What the second walk over a batch's bodies stores, body by body. Assumes nothing.
use mathlib.Core.Path.{◌≡◌, refl, sym, ap, ◌∙◌}
use mathlib.Core.Bool.{true, false}
use mathlib.Core.List.{List, [], ◌∷◌, ◌++◌, map}
use Prim.Native.Nat.{ℕ, ◌+◌, ◌≤◌, ◌<◌}
use native.Mathlib.Omega.{arith}
use lib.ListN.{length}
use Rattle.refusal.specs.declared.Refusal.{Refusal}
use Rattle.telegram.specs.Fields.{many}
use Rattle.telegram.specs.Reading.{body, body_at}
use Rattle.telegram.specs.declared.body.Body.{Body}
use Rattle.store.specs.declared.event.Event.{Event}
use Rattle.store.specs.Orders.{In, events, in_range, keep}
use Rattle.tcsb.specs.declared.internalizer.Translation.{Translation}
use Rattle.tcsb.specs.declared.tcsb.Tcsb.{Tcsb}
use Rattle.tcsb.specs.declared.receive.Verdict.{Verdict}
use Rattle.tcsb.specs.Internalizer.{event_of}
use Rattle.tcsb.specs.Replica.{verdict_by, verdict_of, is_duplicate, is_stale, is_taken, taken_of, insert_all}
use Rattle.tcsb.specs.Tcsb.{view, Stores, with_stores}
use Rattle.tcsb.specs.Receive.{Recorded}
use Rattle.tcsb.specs.Survey.{Records, RecordsBody, RecordsAll}
use Rattle.store.proofs.Pruning.{keep_append}
use Rattle.tcsb.proofs.Inserting.{insert_all-append, insert_all_one, insert_all-none, insert_all-long, keep_yes, keep-no, map-append}
use Rattle.tcsb.proofs.Surveying.{verdict_by_lem}
use Rattle.tcsb.proofs.Walked.{Reached, reach_none, reach_more, reach_bad, reach_all, body-done, body_refused}
use Rattle.std.specs.Prelude.{Ok, Err}
use Rattle.leb128.specs.Leb128.{Read, got}
use Rattle.leb128.specs.declared.Got.{Got}

-- what is taken does not depend on the stores
pub taken-fixed : (t t₀ : Tcsb) (list list₀ p p₀ q q₀ : List ℕ) (es : List Event) → t ≡ with_stores t₀ t.inbox t.outbox
    → taken_of (view t list p q) es ≡ taken_of (view t₀ list₀ p₀ q₀) es
unfolding verdict_of is_duplicate is_stale
taken-fixed t t₀ list list₀ p p₀ q q₀ es h = ap (λ (x : Tcsb). keep (λ e. is_taken (verdict_by x.matrix x.frontier e)) es) h

-- ---- one body

records_as : {p p' q q' : List ℕ} {t t' : Tcsb} (es l : List Event) → taken_of (view t [] p q) es ≡ l
    → (length (insert_all l (events p t.inbox.order)) ≤ 64 → events p' t'.inbox.order ≡ insert_all l (events p t.inbox.order))
    → (length (insert_all l (events q t.outbox.order)) ≤ 256 → events q' t'.outbox.order ≡ insert_all l (events q t.outbox.order))
    → Stores t' p' q' → Records p p' q q' t es t'
records_as es l e a b s = record { inbox = rw e a; outbox = rw e b; stores = s }

pub records_same : {p q : List ℕ} {t : Tcsb} (es : List Event) → taken_of (view t [] p q) es ≡ [] → Stores t p q → Records p p q q t es t
records_same {p} {q} {t} es e s =
    records_as es [] e (λ h. sym (insert_all-none (events p t.inbox.order))) (λ h. sym (insert_all-none (events q t.outbox.order))) s

module _ {s : List ℕ} {row : Translation} {b : Body} {e : Event} {w : Verdict} where
  pub body-taken : {p p' q q' : List ℕ} {t t' : Tcsb} → (row.count ≤ 16 → e ≡ event_of row s b) → w ≡ verdict_by t.matrix t.frontier e → is_taken w ≡ true
      → Recorded p p' q q' t e t' → RecordsBody p p' q q' t row s b t'
  body-taken {p} {p'} {q} {q'} {t} {t'} ee ew wt R = record {
    fixed = R.fixed;
    puts = λ st few ir.
        let ie : in_range e ≡ true = rw (ee few) ir in
        let tk : taken_of (view t [] p q) (e ∷ []) ≡ e ∷ [] =
        keep_yes (λ e. is_taken (verdict_of (view t [] p q) e)) e (ap is_taken (sym (verdict_by_lem (view t [] p q) e) ∙ sym ew) ∙ wt) in
        rw (← ee few)
        (records_as (e ∷ []) (e ∷ []) tk
        (λ h. R.inbox.list 64 st.inbox ie (rw (insert_all_one e (events p t.inbox.order)) at h) ∙ sym (insert_all_one e (events p t.inbox.order)))
        (λ h. R.outbox.list 256 st.outbox ie (rw (insert_all_one e (events q t.outbox.order)) at h) ∙ sym (insert_all_one e (events q t.outbox.order)))
        (record { inbox = R.inbox.good 64 st.inbox; outbox = R.outbox.good 256 st.outbox }));
  }

  pub body_left : {p q : List ℕ} {t : Tcsb} → (row.count ≤ 16 → e ≡ event_of row s b) → w ≡ verdict_by t.matrix t.frontier e → is_taken w ≡ false → RecordsBody p p q q t row s b t
  body_left {p} {q} {t} ee ew wt = record {
    fixed = refl;
    puts = λ st few ir.
        rw (← ee few)
        (records_same (e ∷ []) (keep-no (λ e. is_taken (verdict_of (view t [] p q) e)) e (ap is_taken (sym (verdict_by_lem (view t [] p q) e) ∙ sym ew) ∙ wt)) st);
  }

-- ---- one body more

taken_none : (p q : List ℕ) (t : Tcsb) → taken_of (view t [] p q) [] ≡ []
unfolding keep
taken_none p q t = refl

-- a list grown in two steps that has room at the end has room at the first
grown : (c : ℕ) (a b l m : List Event) (x : List Event) → x ≡ a ++ b → (length (insert_all a l) ≤ c → m ≡ insert_all a l) → length (insert_all x l) ≤ c
    → (m ≡ insert_all a l) × (length (insert_all b m) ≤ c)
grown c a b l m x e f h =
    let g : length (insert_all b (insert_all a l)) ≤ c = rw (e, insert_all-append a b l) at h in
    let q = f (omega (arith, insert_all-long b (insert_all a l), g)) in
    (q, rw q g)

records_more : {p₀ p p' q₀ q q' : List ℕ} {t₀ t t' : Tcsb} (es : List Event) (e : Event) → t ≡ with_stores t₀ t.inbox t.outbox → Records p₀ p q₀ q t₀ es t
    → Records p p' q q' t (e ∷ []) t' → Records p₀ p' q₀ q' t₀ (es ++ (e ∷ [])) t'
records_more {p₀} {p} {p'} {q₀} {q} {q'} {t₀} {t} {t'} es e fx R S =
    let st = view t₀ [] p₀ q₀ in
    let a = taken_of st es in
    let b = taken_of (view t [] p q) (e ∷ []) in
    let l : taken_of st (es ++ (e ∷ [])) ≡ a ++ b =
    keep_append (λ e. is_taken (verdict_of st e)) es (e ∷ []) ∙ ap (λ (x : List Event). a ++ x) (sym (taken-fixed t t₀ [] [] p p₀ q q₀ (e ∷ []) fx)) in
    records_as (es ++ (e ∷ [])) (a ++ b) l
    (λ h.
    let g = grown 64 a b (events p₀ t₀.inbox.order) (events p t.inbox.order) (a ++ b) refl R.inbox h in
    S.inbox g.1 ∙ (ap (λ (x : List Event). insert_all b x) g.0 ∙ sym (insert_all-append a b (events p₀ t₀.inbox.order))))
    (λ h.
    let g = grown 256 a b (events q₀ t₀.outbox.order) (events q t.outbox.order) (a ++ b) refl R.outbox h in
    S.outbox g.1 ∙ (ap (λ (x : List Event). insert_all b x) g.0 ∙ sym (insert_all-append a b (events q₀ t₀.outbox.order))))
    S.stores

-- ---- the loop over bodies

-- how far the walk has come
pub record StoredSo (p₀ p q₀ q : List ℕ) (t₀ : Tcsb) (row : Translation) (s : List ℕ) (at names count : ℕ) (t : Tcsb) (next i : ℕ) : Type 0 where
  pub fixed : t ≡ with_stores t₀ t.inbox t.outbox
  pub reached : (bs : List Body) (end : ℕ) → Stores t₀ p₀ q₀ → row.count ≤ 16 → names ≤ 16 → many count (body names s) at ≡ got bs end
      → ((b : Body) → In b bs → in_range (event_of row s b) ≡ true)
      → Reached (body names s) count bs end i next (λ l. Records p₀ p q₀ q t₀ (map (event_of row s) l) t)

module _ {p₀ q₀ s : List ℕ} {t₀ : Tcsb} {row : Translation} {at names count : ℕ} where
  pub store_none : StoredSo p₀ p₀ q₀ q₀ t₀ row s at names count t₀ at 0
  store_none = record {
    fixed = refl;
    reached = λ bs end st h few m ir. reach_none m (records_same [] (taken_none p₀ q₀ t₀) st);
  }

  pub store_more : {p p' q q' : List ℕ} {t t' : Tcsb} {next i : ℕ} {r : Read Body} {g : Got Body} → StoredSo p₀ p q₀ q t₀ row s at names count t next i → i < count
      → r ≡ body_at names s next → r ≡ Ok g → RecordsBody p p' q q' t row s g.value t'
      → StoredSo p₀ p' q₀ q' t₀ row s at names count t' g.next (i + 1)
  store_more {p} {p'} {q} {q'} {t} {t'} {next} {i} {r} {g} S lt e o m = record {
    fixed = m.fixed ∙ ap (λ (x : Tcsb). with_stores x t'.inbox t'.outbox) S.fixed;
    reached = λ bs end st h few k ir.
        reach_more (λ l. Records p₀ p' q₀ q' t₀ (map (event_of row s) l) t') g.value g.next (S.reached bs end st h few k ir) lt (body-done names s next few e o)
        (λ l z x. rw (map-append (event_of row s) l g.value) (records_more (map (event_of row s) l) (event_of row s g.value) S.fixed x (m.puts x.stores h (ir g.value z))));
  }

  pub store_refused : {p q : List ℕ} {t : Tcsb} {next i : ℕ} {r : Read Body} {k : Refusal} → StoredSo p₀ p q₀ q t₀ row s at names count t next i → i < count
      → r ≡ body_at names s next → r ≡ Err k → RecordsAll p₀ p q₀ q t₀ row s at names count t
  store_refused {p} {q} {t} {next} S lt e o = record {
    fixed = S.fixed;
    puts = λ bs end st h few m ir. absurd (reach_bad (S.reached bs end st h few m ir) lt (body_refused names s next few e o));
  }

  pub store_all : {p q : List ℕ} {t : Tcsb} {next i : ℕ} → StoredSo p₀ p q₀ q t₀ row s at names count t next i → count ≤ i → RecordsAll p₀ p q₀ q t₀ row s at names count t
  store_all {p} {q} {t} S le = record {
    fixed = S.fixed;
    puts = λ bs end st h few m ir. reach_all (λ l. Records p₀ p q₀ q t₀ (map (event_of row s) l) t) (S.reached bs end st h few m ir) le;
  }
