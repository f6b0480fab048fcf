-- What is made of a head, a count and the place of the first thing, once they are read. Assumes nothing.
use Prim.Native.Nat.{ℕ}
use mathlib.Core.Path.{◌≡◌, refl, ap, ◌∙◌}
use mathlib.Core.Bool.{Bool, true, false, cond}
use mathlib.Core.List.{List}
use lib.ListN.{length}
use lib.Dec.{eqb}
use Rattle.std.specs.Prelude.{Ok, Err}
use Rattle.refusal.specs.Refusal.{no, then}
use Rattle.leb128.specs.Leb128.{Read, got}
use Rattle.telegram.specs.Fields.{after, counted, many}
use Rattle.telegram.specs.Reading.{Whole, ended, texts, fair, fairly, body, exception, head, items_of, items_rest, items_form, items, batch_form, batch, since_form, since}
use Rattle.telegram.specs.declared.list.Names.{Names}
use Rattle.telegram.specs.declared.head.Head.{Head}
use Rattle.telegram.specs.declared.items.Items.{Items}
use Rattle.telegram.specs.declared.batch.Batch.{Batch}
use Rattle.telegram.specs.declared.since.Since.{Since}

-- something else is made of what was read
abbrev made : {A B : Type 0} → (A → B) → Read A → Read B
made g r = after r (λ a next. got (g a) next)

after_made : {A B C : Type 0} (g : B → C) (r : Read A) (f : A → ℕ → Read B) → after r (λ a next. made g (f a next)) ≡ made g (after r f)
after_made g (Ok x) f = refl
after_made g (Err k) f = refl

module _ {A B : Type 0} (k limit : ℕ) (f : ℕ → List ℕ → ℕ → Read A) (g : Items → B) (s : List ℕ) where
  rest : (h : Head) (a : ℕ) → items_rest limit f (λ h count start. g (items_of h count start)) s a h ≡ made g (items_rest limit f items_of s a h)
  rest h a =
      (λ i. after (counted 0 limit s a) (λ count b. after_made g (many count (f h.names.count s) b) (λ _ next. got (items_of h count b) next) i))
      ∙ after_made g (counted 0 limit s a) (λ count b. after (many count (f h.names.count s) b) (λ _ next. got (items_of h count b) next))

  form : after (head k s) (λ h a. items_rest limit f (λ h count start. g (items_of h count start)) s a h) ≡ made g (after (head k s) (λ h a. items_rest limit f items_of s a h))
  form = (λ i. after (head k s) (λ h a. rest h a i)) ∙ after_made g (head k s) (λ h a. items_rest limit f items_of s a h)

  told : (namesIn : B → Names) → ((i : Items) → namesIn (g i) ≡ i.head.names) → (r : Read Items)
      → fairly s namesIn (ended s (made g r)) ≡ then (fairly s (λ (i : Items). i.head.names) (ended s r)) (λ i. Ok (g i))
  told namesIn same (Err j) = refl
  told namesIn same (Ok x) = whole (eqb x.next (length s))
    where
      both : (t : Bool) → ◌≡◌ {A = Whole B} (cond t (Ok (g x.value)) (Err (no 6))) (then (cond t (Ok x.value) (Err (no 6))) (λ i. Ok (g i)))
      both true = refl
      both false = refl

      whole : (t : Bool)
          → fairly s namesIn (cond t (Ok (g x.value)) (Err (no 5))) ≡ then (fairly s (λ (i : Items). i.head.names) (cond t (Ok x.value) (Err (no 5)))) (λ i. Ok (g i))
      whole true = rw (same x.value) (both (fair (texts s x.value.head.names)))
      whole false = refl

  items_made : (namesIn : B → Names) → ((i : Items) → namesIn (g i) ≡ i.head.names)
      → fairly s namesIn (items_form k limit f (λ h count start. g (items_of h count start)) s) ≡ then (items k limit f s) (λ i. Ok (g i))
  items_made namesIn same =
      ap (λ (r : Read B). fairly s namesIn (ended s r)) form ∙ told namesIn same (after (head k s) (λ h a. items_rest limit f items_of s a h))

-- a batch and a since are what was read of their things
abbrev pub as_batch : Items → Batch
as_batch i = record { head = i.head; count = i.count; bodies = i.start }

pub batch_made : (s : List ℕ) → batch s ≡ then (items 2 256 body s) (λ i. Ok (as_batch i))
unfolding batch_form
batch_made s = items_made 2 256 body as_batch s (λ (b : Batch). b.head.names) (λ i. refl)

abbrev pub as_since : Items → Since
as_since i = record { head = i.head; count = i.count; exceptions = i.start }

pub since_made : (s : List ℕ) → since s ≡ then (items 3 64 exception s) (λ i. Ok (as_since i))
unfolding since_form
since_made s = items_made 3 64 exception as_since s (λ (r : Since). r.head.names) (λ i. refl)
