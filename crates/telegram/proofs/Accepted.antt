-- What is read, piece by piece, is what its meaning is spelt by. Assumes nothing.
use mathlib.Core.Path.{◌≡◌, refl, ap, ◌∙◌}
use mathlib.Core.Bool.{true, ◌&&◌, and-eq-true_iff}
use mathlib.Core.List.{List, [], ◌++◌}
use mathlib.Core.Logic.{⊎_elim}
use Prim.Native.Nat.{ℕ, zero, suc, ◌+◌, ◌-◌, ◌≤◌, ◌<◌}
use native.Mathlib.Omega.{arith}
use lib.ListN.{length, take, drop, get_or, get_or-eq_default, length-take, length-drop}
use lib.Dec.{leb, ltb, eqb}
use borrow.Author.Tests.{ltb-true, leb-true, eqb-true}
use Rattle.refusal.specs.Refusal.{no}
use Rattle.lists.proofs.Laws.{get_or-tab}
use Rattle.lists.proofs.Cases.{split}
use Rattle.lists.specs.Lists.{joined}
use Rattle.lists.proofs.Joined.{Each, each_at, each_none, each_more, joined-map, chain-joined}
use Rattle.lists.proofs.Stands.{Stands, stand_none, stand_part, stand_join, stand_only}
use Rattle.leb128.specs.Leb128.{Read, got, spell, last_number}
use Rattle.leb128.proofs.Spelling.{Bytes, only_spelling, width_range}
use Rattle.telegram.specs.Fields.{number, kind, counted, placed, part, sized, text, many}
use Rattle.telegram.specs.Reading.{nowhere, filled, names, list, entries, body, head, exception, texts, fair}
use Rattle.telegram.specs.Meaning.{body_of, heading_of, sized_bytes, list_bytes, version_bytes, body_bytes, head_bytes, exception_bytes, GoodList, GoodVersion, GoodBody, GoodException}
use Rattle.telegram.specs.declared.field.Part.{Part}
use Rattle.telegram.specs.declared.list.Names.{Names}
use Rattle.telegram.specs.declared.body.Body.{Body}
use Rattle.telegram.specs.declared.head.Head.{Head}
use Rattle.telegram.specs.declared.since.Exception.{Exception}
use Rattle.telegram.proofs.Parts.{PartIs, ListIs, length-text, length_name}
use Rattle.telegram.proofs.Filled.{take-filled, count-texts, texts_named}
use Rattle.telegram.proofs.Steps.{got_carry, after_is, if_got, judged-is}

-- a thing's bytes stand from a place to the next, and it is as it should be
pub record Said {A : Type 0} (s : List ℕ) (bytes : A → List ℕ) (Fit : A → Type 0) (at : ℕ) (a : A) (next : ℕ) : Type 0 where
  pub stands : Stands s at (bytes a) next
  pub fit : Fit a

-- so many things, one behind the other
pub record SaidAll {A : Type 0} (s : List ℕ) (bytes : A → List ℕ) (Fit : A → Type 0) (k at : ℕ) (l : List A) (next : ℕ) : Type 0 where
  pub count : length l ≡ k
  pub stands : Stands s at (joined bytes l) next
  pub fit : Each Fit l

-- an entry of a list, or the 0 past its end
pub each-or-none : (l : List ℕ) → Each (λ n. n ≤ last_number) l → (j : ℕ) → get_or l j 0 ≤ last_number
each-or-none l h j =
    ⊎_elim (λ lt. each_at (λ n. n ≤ last_number) 0 l h j lt) (λ le. omega (arith, get_or-eq_default l 0 {n = j} le)) (split j (length l))

-- ---- lists

pub list-good : {s : List ℕ} {l : Names} → ListIs s l → fair (texts s l) ≡ true → GoodList (texts s l)
list-good {s} {l} h e =
    let c = count-texts s l in
    record {
      some = omega (arith, c, h.some);
      few = omega (arith, c, h.few);
      long = λ i lt. omega (arith, length_name h i (omega (arith, c)), (h.parts i (omega (arith, c))).least);
      short = λ i lt. omega (arith, length_name h i (omega (arith, c)), (h.parts i (omega (arith, c))).most);
      distinct = e;
    }

-- what a body says, and where its operation stands
pub record BodyIs (s : List ℕ) (count : ℕ) (b : Body) : Type 0 where
  pub good : GoodBody count (body_of count s b)
  pub operation : PartIs 0 32 s b.operation

-- what a head says, and where its names stand
pub record HeadIs (s : List ℕ) (h : Head) : Type 0 where
  pub list : ListIs s h.names
  pub listed : h.sender.0 < h.names.count
  pub version : GoodVersion h.names.count (take h.names.count h.entries)

-- a head's bytes, when a count stands behind them
record HeadStands (s : List ℕ) (k : ℕ) (h : Head) (next : ℕ) : Type 0 where
  heads : HeadIs s h
  stands : (count end : ℕ) → Stands s next (spell count) end → Stands s 0 (head_bytes k (heading_of s h) count) end

-- a head, a count up to its limit, and so many things with nothing behind them
pub record Carries (s : List ℕ) {A : Type 0} (k limit : ℕ) (f : ℕ → ℕ → Read A) (spelt : ℕ → A → List ℕ) (Fit : ℕ → A → Type 0) (h : Head) (count start : ℕ) : Type 0 where
  pub items : List A
  pub reads : many count (f h.names.count) start ≡ got items (length s)
  pub counted : length items ≡ count
  pub few : count ≤ limit
  pub heads : HeadIs s h
  pub fit : Each (Fit h.names.count) items
  pub same : s ≡ head_bytes k (heading_of s h) count ++ joined (spelt h.names.count) items

module _ {s : List ℕ} (bytes : Bytes s) where
  -- ---- numbers

  number_is : (at n next : ℕ) → number s at ≡ got n next → Said s spell (λ n. n ≤ last_number) at n next
  number_is at n next e =
      let r = only_spelling s at n next bytes e in
      let d : next - at ≡ length (spell n) = omega (arith, r.behind) in
      let b = rw d at r.bytes in
      record {
        stands = record {
          ends = r.behind;
          within = omega (arith, r.behind, width_range n, ap length b, length-take (length (spell n)) (drop at s), length-drop at s);
          same = b;
        };
        fit = r.range;
      }

  pub kind-is : (k at n next : ℕ) → kind k s at ≡ got n next → Stands s at (spell k) next
  unfolding kind
  kind-is k at n next e =
      let j = judged-is (no 3) (λ n. eqb n k) (number s at) n next e in
      rw (eqb-true n k j.0) at (number_is at n next j.1).stands

  counted_is : (low high at n next : ℕ) → counted low high s at ≡ got n next → Said s spell (λ n. (low ≤ n) × (n ≤ high)) at n next
  unfolding counted
  counted_is low high at n next e =
      let j = judged-is (no 4) (λ n. leb low n && leb n high) (number s at) n next e in
      let b = (and-eq-true_iff (leb low n) (leb n high)).0 j.0 in
      record { stands = (number_is at n next j.1).stands; fit = (leb-true low n b.0, leb-true n high b.1) }

  placed-is : (count at n next : ℕ) → placed count s at ≡ got n next → Said s spell (λ n. n < count) at n next
  unfolding placed
  placed-is count at n next e =
      let j = judged-is (no 9) (λ n. ltb n count) (number s at) n next e in
      record { stands = (number_is at n next j.1).stands; fit = ltb-true n count j.0 }

  -- ---- bytes

  part-is : (n at : ℕ) (p : Part) (next : ℕ) → part n s at ≡ got p next → Said s (text s) (λ p. (p.len ≡ n) × (p.start + p.len ≤ length s)) at p next
  unfolding part
  part-is n at p next e =
      let i = if_got (leb (at + n) (length s)) (got (record { start = at; len = n }) (at + n)) (no 1) e in
      let h = leb-true (at + n) (length s) i.0 in
      got_carry (Said s (text s) (λ p. (p.len ≡ n) × (p.start + p.len ≤ length s)) at) i.1 (record { stands = stand_part n h; fit = (refl, h) })

  sized-is : (low high at : ℕ) (p : Part) (next : ℕ) → sized low high s at ≡ got p next → Said s (λ p. sized_bytes (text s p)) (PartIs low high s) at p next
  unfolding sized sized_bytes
  sized-is low high at p next e =
      after_is _ _ e (λ n mid en ep.
      let c = counted_is low high at n mid en in
      let r = part-is n mid p next ep in
      let l : length (text s p) ≡ n = length-text s p r.fit.1 ∙ r.fit.0 in
      record {
        stands = stand_join (rw (← l) at c.stands) r.stands;
        fit = record { least = omega (arith, r.fit.0, c.fit); most = omega (arith, r.fit.0, c.fit); within = r.fit.1 };
      })

  -- ---- several things

  many_is : {A : Type 0} (f : ℕ → Read A) (spelt : A → List ℕ) (Fit : A → Type 0) → ((at : ℕ) (a : A) (next : ℕ) → f at ≡ got a next → Said s spelt Fit at a next)
      → (k at : ℕ) (l : List A) (next : ℕ) → at ≤ length s → many k f at ≡ got l next → SaidAll s spelt Fit k at l next
  unfolding many joined
  many_is f spelt Fit each zero at l next h e = got_carry (SaidAll s spelt Fit zero at) e (record { count = refl; stands = stand_none h; fit = each_none Fit })
  many_is f spelt Fit each (suc k) at l next h e =
      after_is (f at) _ e (λ a mid ea el.
      after_is (many k f mid) _ el (λ rest end er eq.
      let x = each at a mid ea in
      let r = many_is f spelt Fit each k mid rest end x.stands.within er in
      got_carry (SaidAll s spelt Fit (suc k) at) eq
      (record { count = ap suc r.count; stands = stand_join x.stands r.stands; fit = each_more Fit a rest x.fit r.fit })))

  -- ---- lists of names

  names-is : (count at : ℕ) (l : Names) (next : ℕ) → at ≤ length s → 1 ≤ count → count ≤ 16 → names count s at ≡ got l next
      → Said s (λ l. joined sized_bytes (texts s l)) (λ l. (l.count ≡ count) × ListIs s l) at l next
  unfolding names
  names-is count at l next h low high e =
      after_is (many count (sized 1 16 s) at) _ e (λ parts end ep eq.
      let r = many_is (sized 1 16 s) (λ p. sized_bytes (text s p)) (PartIs 1 16 s) (sized-is 1 16) count at parts end h ep in
      got_carry (Said s (λ l. joined sized_bytes (texts s l)) (λ l. (l.count ≡ count) × ListIs s l) at) eq
      (record {
        stands = rw (texts_named s parts (omega (arith, r.count)), joined-map sized_bytes (text s) parts) r.stands;
        fit = (
          r.count,
          record {
            some = omega (arith, r.count);
            few = omega (arith, r.count);
            parts = λ i lt. rw (get_or-tab nowhere 16 (λ j. get_or parts j nowhere) i (omega (arith, r.count))) (each_at (PartIs 1 16 s) nowhere parts r.fit i lt);
          },
        );
      }))

  pub list-is : (at : ℕ) (l : Names) (next : ℕ) → list s at ≡ got l next → Said s (λ l. list_bytes (texts s l)) (ListIs s) at l next
  unfolding list list_bytes
  list-is at l next e =
      after_is (counted 1 16 s at) _ e (λ count mid ec en.
      let c = counted_is 1 16 at count mid ec in
      let r = names-is count mid l next c.stands.within c.fit.0 c.fit.1 en in
      let n : length (texts s l) ≡ count = count-texts s l ∙ r.fit.0 in
      record { stands = rw (chain-joined sized_bytes [] (texts s l)) (stand_join (rw (← n) at c.stands) r.stands); fit = r.fit.1 })

  -- ---- event bodies

  entries-is : (count at : ℕ) (v : List ℕ) (next : ℕ) → at ≤ length s → count ≤ 16 → entries count s at ≡ got v next
      → Said s (λ v. version_bytes (take count v)) (λ v. GoodVersion count (take count v)) at v next
  unfolding entries version_bytes
  entries-is count at v next h few e =
      after_is (many count (number s) at) _ e (λ numbers end en eq.
      let r = many_is (number s) spell (λ n. n ≤ last_number) number_is count at numbers end h en in
      let f : take count (filled 0 numbers) ≡ numbers = take-filled 0 count numbers r.count few in
      got_carry (Said s (λ v. version_bytes (take count v)) (λ v. GoodVersion count (take count v)) at) eq
      (record {
        stands = rw (f, chain-joined spell 0 numbers) r.stands;
        fit = rw f (record { one_each = r.count; numbers = each-or-none numbers r.fit });
      }))

  pub body_is : (count : ℕ) → count ≤ 16 → (at : ℕ) (b : Body) (next : ℕ) → body count s at ≡ got b next
      → Said s (λ b. body_bytes (body_of count s b)) (BodyIs s count) at b next
  unfolding body body_bytes
  body_is count few at b next e =
      after_is (placed count s at) _ e (λ place a ep e1.
      after_is (number s a) _ e1 (λ number c en e2.
      after_is (entries count s c) _ e2 (λ version d ev e3.
      after_is (sized 0 32 s d) _ e3 (λ operation end eo eq.
      let p = placed-is count at place a ep in
      let n = number_is a number c en in
      let v = entries-is count c version d n.stands.within few ev in
      let o = sized-is 0 32 d operation end eo in
      got_carry (Said s (λ b. body_bytes (body_of count s b)) (BodyIs s count) at) eq
      (record {
        stands = stand_join p.stands (stand_join n.stands (stand_join v.stands o.stands));
        fit = record {
          good = record { listed = p.fit; counts = n.fit; version = v.fit; short = omega (arith, length-text s operation o.fit.within, o.fit.most) };
          operation = o.fit;
        };
      })))))

  pub exception-is : (count at : ℕ) (x : Exception) (next : ℕ) → exception count s at ≡ got x next → Said s exception_bytes (GoodException count) at x next
  unfolding exception exception_bytes
  exception-is count at x next e =
      after_is (placed count s at) _ e (λ place a ep e1.
      after_is (number s a) _ e1 (λ number end en eq.
      let p = placed-is count at place a ep in
      let n = number_is a number end en in
      got_carry (Said s exception_bytes (GoodException count) at) eq
      (record { stands = stand_join p.stands n.stands; fit = record { listed = p.fit; counts = n.fit } })))

  -- ---- batches and sinces

  head-is : (k : ℕ) (h : Head) (next : ℕ) → head k s ≡ got h next → HeadStands s k h next
  unfolding head head_bytes
  head-is k h next e =
      after_is (kind k s 0) _ e (λ _ a ek e1.
      after_is (list s a) _ e1 (λ l b el e2.
      after_is (placed l.count s b) _ e2 (λ sender c ep e3.
      after_is (entries l.count s c) _ e3 (λ version end ev eq.
      let n = list-is a l b el in
      let p = placed-is l.count b sender c ep in
      let v = entries-is l.count c version end p.stands.within n.fit.few ev in
      got_carry (HeadStands s k) eq
      (record {
        heads = record { list = n.fit; listed = p.fit; version = v.fit };
        stands = λ count end q. stand_join (kind-is k 0 _ a ek) (stand_join n.stands (stand_join p.stands (stand_join v.stands q)));
      })))))

  pub carries : {A : Type 0} (k limit : ℕ) (f : ℕ → ℕ → Read A) (spelt : ℕ → A → List ℕ) (Fit : ℕ → A → Type 0)
      → ((count : ℕ) → count ≤ 16 → (at : ℕ) (a : A) (next : ℕ) → f count at ≡ got a next → Said s (spelt count) (Fit count) at a next)
      → (h : Head) (mid count start : ℕ) (items : List A) → head k s ≡ got h mid → counted 0 limit s mid ≡ got count start
      → many count (f h.names.count) start ≡ got items (length s) → Carries s k limit f spelt Fit h count start
  carries k limit f spelt Fit each h mid count start items eh ec em =
      let a = head-is k h mid eh in
      let c = counted_is 0 limit mid count start ec in
      let n = h.names.count in
      let m = many_is (f n) (spelt n) (Fit n) (each n a.heads.list.few) count start items (length s) c.stands.within em in
      record {
        items = items;
        reads = em;
        counted = m.count;
        few = c.fit.1;
        heads = a.heads;
        fit = m.fit;
        same = stand_only (stand_join (a.stands count start c.stands) m.stands);
      }
