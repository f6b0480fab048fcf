-- What loops keep that read one thing behind the other. Assumes nothing.
use Prim.Native.Nat.{ℕ, suc, ◌+◌, ◌-◌, ◌<◌, ◌≤◌}
use native.Mathlib.Omega.{arith}
use mathlib.Core.Path.{◌≡◌, refl, sym, ap, ◌∙◌}
use mathlib.Core.List.{List, [], ◌∷◌, ◌++◌, append_assoc, append-nil}
use lib.ListN.{length, set, length-append}
use Rattle.refusal.specs.declared.Refusal.{Refusal}
use Rattle.lists.proofs.Laws.{tab_push}
use Rattle.std.specs.Prelude.{Ok, Err}
use Rattle.leb128.specs.Leb128.{Read, got}
use Rattle.telegram.specs.Fields.{after, many, end_of}
use Rattle.telegram.specs.Reading.{filled}

module _ {A : Type 0} (f : ℕ → Read A) where
  many-none : (n at : ℕ) → n ≡ 0 → many n f at ≡ got [] at
  unfolding many
  many-none n at e = rw e refl

  -- a first thing, and what is behind it
  many-first : (n m at : ℕ) (a : A) (next : ℕ) → n ≡ suc m → f at ≡ got a next → many n f at ≡ after (many m f next) (λ l end. got (a ∷ l) end)
  unfolding many
  many-first n m at a next e h = rw (e, h) refl

  many-bad : (n m at : ℕ) (k : Refusal) → n ≡ suc m → f at ≡ Err k → many n f at ≡ Err k
  unfolding many
  many-bad n m at k e h = rw (e, h) refl

-- ---- a loop that keeps what it read in sixteen places

-- what a reading got, put behind what was read before
abbrev behind : {A : Type 0} → List A → Read (List A) → Read (List A)
behind r g = after g (λ l next. got (r ++ l) next)

pub record Filling {A : Type 0} (d : A) (f : ℕ → Read A) (n at : ℕ) (kept : List A) (i next : ℕ) : Type 0 where
  pub read : List A
  pub long : length read ≡ i
  pub few : n ≤ 16
  pub within : i ≤ n
  pub holds : kept ≡ filled d read
  pub rest : many n f at ≡ behind read (many (n - i) f next)

module _ {A : Type 0} {d : A} {f : ℕ → Read A} {n at : ℕ} where
  pub fill_none : n ≤ 16 → (kept : List A) → kept ≡ filled d [] → Filling d f n at kept 0 at
  fill_none h kept e = record { read = []; long = refl; few = h; within = omega arith; holds = e; rest = let q : n - 0 ≡ n = omega arith in rw q (all (many n f at)) }
    where
      all : (g : Read (List A)) → g ≡ behind [] g
      all (Ok g) = refl
      all (Err k) = refl

  pub fill_more : {kept : List A} {i next : ℕ} {a : A} {end : ℕ} → Filling d f n at kept i next → i < n → f next ≡ got a end → Filling d f n at (set kept i a) (i + 1) end
  fill_more {kept} {i} {next} {a} {end} M h e = record {
    read = M.read ++ (a ∷ []);
    long = length-append M.read (a ∷ []) ∙ ap (λ (k : ℕ). k + 1) M.long;
    few = M.few;
    within = omega arith;
    holds = rw (M.holds, ← M.long) (tab_push d 16 M.read a (omega (arith, M.long, M.few)));
    rest = M.rest ∙ (ap (behind M.read) (many-first f (n - i) (n - (i + 1)) next a end (omega arith) e) ∙ all (many (n - (i + 1)) f end));
  }
    where
      all : (g : Read (List A)) → behind M.read (after g (λ l end. got (a ∷ l) end)) ≡ behind (M.read ++ (a ∷ [])) g
      all (Ok g) = ap (λ (l : List A). got l g.next) (sym (append_assoc M.read (a ∷ []) g.value))
      all (Err k) = refl

  pub fill_bad : {kept : List A} {i next : ℕ} {k : Refusal} → Filling d f n at kept i next → i < n → f next ≡ Err k → many n f at ≡ Err k
  fill_bad {kept} {i} {next} {k} M h e = M.rest ∙ ap (behind M.read) (many-bad f (n - i) (n - (i + 1)) next k (omega arith) e)

  pub fill_all : {kept : List A} {i next : ℕ} (M : Filling d f n at kept i next) → n ≤ i → (many n f at ≡ got M.read next) × (length M.read ≡ n)
  fill_all {kept} {i} {next} M h =
      (M.rest ∙ (ap (behind M.read) (many-none f (n - i) next (omega arith)) ∙ ap (λ (l : List A). got l next) (append-nil M.read)), omega (arith, M.long, M.within))

-- ---- a loop that only goes to the end

pub record Walking {A : Type 0} (f : ℕ → Read A) (n at i next : ℕ) : Type 0 where
  pub within : i ≤ n
  pub rest : end_of (many n f at) ≡ end_of (many (n - i) f next)

module _ {A : Type 0} {f : ℕ → Read A} {n at : ℕ} where
  pub walk_none : Walking f n at 0 at
  walk_none = record { within = omega arith; rest = let q : n - 0 ≡ n = omega arith in rw q refl }

  pub walk_more : {i next : ℕ} {a : A} {end : ℕ} → Walking f n at i next → i < n → f next ≡ got a end → Walking f n at (i + 1) end
  walk_more {i} {next} {a} {end} M h e = record {
    within = omega arith;
    rest = M.rest ∙ (ap end_of (many-first f (n - i) (n - (i + 1)) next a end (omega arith) e) ∙ all (many (n - (i + 1)) f end));
  }
    where
      all : (g : Read (List A)) → end_of (after g (λ l end. got (a ∷ l) end)) ≡ end_of g
      all (Ok g) = refl
      all (Err k) = refl

  pub walk_bad : {i next : ℕ} {k : Refusal} → Walking f n at i next → i < n → f next ≡ Err k → Err k ≡ end_of (many n f at)
  walk_bad {i} {next} {k} M h e = sym (M.rest ∙ ap end_of (many-bad f (n - i) (n - (i + 1)) next k (omega arith) e))

  pub walk_all : {i next : ℕ} → Walking f n at i next → n ≤ i → Ok next ≡ end_of (many n f at)
  walk_all {i} {next} M h = sym (M.rest ∙ ap end_of (many-none f (n - i) next (omega arith)))
