-- What loops keep that read several things, one behind the other, of which it is known that they can be read. Assumes nothing.
use mathlib.Core.Path.{◌≡◌, refl, sym, ap, ◌∙◌}
use mathlib.Core.List.Memᴰ
use mathlib.Core.List.{List, [], ◌∷◌, ◌++◌, append_assoc, append-nil}
use Prim.Native.Nat.{ℕ, suc, ◌+◌, ◌-◌, ◌≤◌, ◌<◌}
use native.Mathlib.Omega.{arith}
use borrow.Author.Tests.{le-leb}
use Rattle.refusal.specs.declared.Refusal.{Refusal}
use Rattle.telegram.specs.Fields.{after, many}
use Rattle.telegram.specs.Reading.{body, body_at}
use Rattle.telegram.proofs.Steps.{got_same, after_is}
use Rattle.store.specs.Orders.{In}
use Rattle.std.specs.Prelude.{Ok, Err}
use Rattle.leb128.specs.Leb128.{Read, got}
use Rattle.leb128.specs.declared.Got.{Got}
use Rattle.telegram.specs.declared.body.Body.{Body}

module _ {A : Type 0} (f : ℕ → Read A) where
  many-none : (n at : ℕ) {l : List A} {end : ℕ} → n ≡ 0 → many n f at ≡ got l end → l ≡ []
  unfolding many
  many-none n at e h = sym (got_same (rw e at h)).0

  many-first : (n m at : ℕ) {l : List A} {end : ℕ} (a : A) (next : ℕ) → n ≡ suc m → f at ≡ got a next → many n f at ≡ got l end
      → after (many m f next) (λ l end. got (a ∷ l) end) ≡ got l end
  unfolding many
  many-first n m at a next e h g = rw (e, h) at g

  many-bad : (n m at : ℕ) {l : List A} {end : ℕ} (k : Refusal) → n ≡ suc m → f at ≡ Err k → many n f at ≡ got l end → Err k ≡ got l end
  unfolding many
  many-bad n m at k e h g = rw (e, h) at g

bad-got : {A : Type 0} {k : Refusal} {a : A} {next : ℕ} → Err k ≡ got a next → ⊥
bad-got e = let z : ◌≡◌ {A = ℕ} 0 1 = cc in omega arith

module _ {A : Type 0} (f : ℕ → Read A) where
  -- what can't be read as a whole can't be read behind a thing that was read
  pub many-fails : (n m at : ℕ) (k : Refusal) (a : A) (next : ℕ) → n ≡ suc m → f at ≡ got a next → many n f at ≡ Err k → many m f next ≡ Err k
  unfolding many
  many-fails n m at k a next e h g = go (many m f next) (rw (e, h) at g)
    where
      go : (r : Read (List A)) → after r (λ l end. got (a ∷ l) end) ≡ Err k → r ≡ Err k
      go (Ok x) p = absurd (bad-got (sym p))
      go (Err j) p = p

  pub many-same : (n m at : ℕ) (k j : Refusal) → n ≡ suc m → f at ≡ Err j → many n f at ≡ Err k → j ≡ k
  unfolding many
  many-same n m at k j e h g = let p : ◌≡◌ {A = Read (List A)} (Err j) (Err k) = rw (e, h) at g in cc

  pub many-ends : (n at : ℕ) (k : Refusal) → n ≡ 0 → many n f at ≡ Err k → ⊥
  unfolding many
  many-ends n at k e g = let p : ◌≡◌ {A = Read (List A)} (got [] at) (Err k) = rw e at g in bad-got (sym p)

-- an element behind some others
in_behind : {A : Type 0} (l : List A) (a : A) (m : List A) → In a (l ++ (a ∷ m))
in_behind [] a m = Memᴰ.head refl
in_behind (x ∷ l) a m = Memᴰ.tail (in_behind l a m)

-- of the things of a list, n in number, i are read, and the others stand from a place on; P holds of those that are read
pub record Reached {A : Type 0} (f : ℕ → Read A) (n : ℕ) (l : List A) (end i next : ℕ) (P : List A → Type 0) : Type 0 where
  pub read : List A
  pub rest : List A
  pub parts : read ++ rest ≡ l
  pub left : many (n - i) f next ≡ got rest end
  pub so_far : P read

module _ {A : Type 0} {f : ℕ → Read A} {n : ℕ} {l : List A} {end : ℕ} where
  pub reach_none : {at : ℕ} {P : List A → Type 0} → many n f at ≡ got l end → P [] → Reached f n l end 0 at P
  reach_none {at} e p = record { read = []; rest = l; parts = refl; left = let q : n - 0 ≡ n = omega arith in rw q e; so_far = p }

  pub reach_more : {i next : ℕ} {P : List A → Type 0} (Q : List A → Type 0) (a : A) (mid : ℕ) → Reached f n l end i next P → i < n → f next ≡ got a mid
      → ((m : List A) → In a l → P m → Q (m ++ (a ∷ []))) → Reached f n l end (i + 1) mid Q
  reach_more {i} {next} {P} Q a mid R lt e step =
      after_is (many (n - (i + 1)) f mid) (λ l end. got (a ∷ l) end) (many-first f (n - i) (n - (i + 1)) next a mid (omega arith) e R.left)
      (λ m last em eq.
      let g = got_same eq in
      let parts : R.read ++ (a ∷ m) ≡ l = ap (λ (x : List A). R.read ++ x) g.0 ∙ R.parts in
      record {
        read = R.read ++ (a ∷ []);
        rest = m;
        parts = append_assoc R.read (a ∷ []) m ∙ parts;
        left = em ∙ ap (λ (k : ℕ). got m k) g.1;
        so_far = step R.read (rw (← parts) (in_behind R.read a m)) R.so_far;
      })

  pub reach_bad : {i next : ℕ} {P : List A → Type 0} {k : Refusal} → Reached f n l end i next P → i < n → f next ≡ Err k → ⊥
  reach_bad {i} {next} {P} {k} R lt e = bad-got (many-bad f (n - i) (n - (i + 1)) next k (omega arith) e R.left)

  pub reach_all : {i next : ℕ} (P : List A → Type 0) → Reached f n l end i next P → n ≤ i → P l
  reach_all {i} {next} P R h =
      let e = many-none f (n - i) next (omega arith) R.left in
      let q : R.read ≡ l = sym (append-nil R.read) ∙ (ap (λ (x : List A). R.read ++ x) (sym e) ∙ R.parts) in
      rw (← q) R.so_far

-- ---- a body that was read, of a list of at most sixteen names

few-names : (count : ℕ) (s : List ℕ) (at : ℕ) → count ≤ 16 → body_at count s at ≡ body count s at
few-names count s at h = rw (le-leb count 16 h) refl

pub body-done : (count : ℕ) (s : List ℕ) (at : ℕ) {r : Read Body} {g : Got Body} → count ≤ 16 → r ≡ body_at count s at → r ≡ Ok g → body count s at ≡ got g.value g.next
body-done count s at few e h = sym (few-names count s at few) ∙ (sym e ∙ h)

pub body_refused : (count : ℕ) (s : List ℕ) (at : ℕ) {r : Read Body} {k : Refusal} → count ≤ 16 → r ≡ body_at count s at → r ≡ Err k → body count s at ≡ Err k
body_refused count s at few e h = sym (few-names count s at few) ∙ (sym e ∙ h)
