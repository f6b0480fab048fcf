-- The loop that lists a version's dependencies. Assumes nothing.
use mathlib.Core.Path.{◌≡◌, refl, sym, ap, ◌∙◌}
use mathlib.Core.Bool.{Bool, true, false, cond}
use mathlib.Core.List.{List, [], ◌∷◌, ◌++◌, append-nil}
use Prim.Native.Nat.{ℕ, zero, suc, ◌+◌, ◌≤◌, ◌<◌}
use native.Mathlib.Numerals.{add-one}
use native.Mathlib.Omega.{arith}
use lib.ListN.{length, set, length-append}
use lib.Dec.{eqb}
use borrow.Author.Tests.{eq-eqb, ne_eqb}
use Rattle.clock.specs.Version.{entry_of, dependency_id, dependency_at, dependencies_to, dependencies, sixteen_ids, no_id}
use Rattle.clock.specs.declared.id.EventId.{EventId}
use Rattle.clock.specs.declared.version_vector.Version.{Version}
use Rattle.clock.specs.declared.version_vector.Dependencies.{Dependencies}
use Rattle.lists.proofs.Laws.{tab_push}

-- at most one a place
pub dependencies-few : (v : Version) (n : ℕ) → length (dependencies_to n v) ≤ n
unfolding dependencies_to
dependencies-few v zero = omega arith
dependencies-few v (suc n) =
    let h : length (dependencies_to n v) ≤ n = dependencies-few v n in
    rw (length-append (dependencies_to n v) (dependency_at v n)) (one (eqb (entry_of v n) 0) h)
  where
    one : (b : Bool) → length (dependencies_to n v) ≤ n → length (dependencies_to n v) + length (cond b [] (dependency_id n v.origin.0 (entry_of v n) ∷ [])) ≤ suc n
    one true h = omega arith
    one false h = omega arith

-- an id of zeros
pub no_id_is : (d : EventId) → d.idx.0 ≡ 0 → d.seq ≡ 0 → d ≡ no_id
no_id_is d e f = λ i. record { idx = record { 0 = e i }; seq = f i }

-- one more behind the list
pushed : (l : List EventId) (x : EventId) → length l < 16
    → record { count = length l + 1; ids = set (sixteen_ids l) (length l) x } ≡ dependencies (l ++ (x ∷ []))
pushed l x h = rw (tab_push no_id 16 l x h, length-append l (x ∷ [])) refl

-- the dependencies of the places below i, of n
pub record Listing (v : Version) (n i : ℕ) (r : Dependencies) : Type 0 where
  pub few : n ≤ 16
  pub within : i ≤ n
  pub bound : r.count ≤ i
  pub so_far : r ≡ dependencies (dependencies_to i v)

module _ {v : Version} {n : ℕ} where
  pub list-none : n ≤ 16 → {r : Dependencies} → r ≡ dependencies [] → Listing v n 0 r
  unfolding dependencies_to
  list-none h {r} e = record { few = h; within = omega arith; bound = omega (arith, ap (λ (d : Dependencies). d.count) e); so_far = e }

  -- an entry of 0 names nothing
  pub list_skip : {i : ℕ} {r : Dependencies} → Listing v n i r → i < n → entry_of v i ≡ 0 → Listing v n (i + 1) r
  unfolding dependencies_to
  list_skip {i} {r} M h e = record {
    few = M.few;
    within = omega arith;
    bound = omega (arith, M.bound);
    so_far = M.so_far ∙ sym (rw (add-one, eq-eqb (entry_of v i) 0 e) (ap dependencies (append-nil (dependencies_to i v))));
  }

  -- an entry above 0 is listed
  pub list-more : {i : ℕ} {r : Dependencies} → Listing v n i r → i < n → (entry_of v i ≡ 0 → ⊥)
      → Listing v n (i + 1) (record { count = r.count + 1; ids = set r.ids r.count (dependency_id i v.origin.0 (entry_of v i)) })
  unfolding dependencies_to
  list-more {i} {r} M h e =
      let small : length (dependencies_to i v) < 16 = omega (arith, dependencies-few v i, M.few) in
      record {
        few = M.few;
        within = omega arith;
        bound = omega (arith, M.bound);
        so_far =
            ap (λ (d : Dependencies). record { count = d.count + 1; ids = set d.ids d.count (dependency_id i v.origin.0 (entry_of v i)) }) M.so_far
            ∙ (pushed (dependencies_to i v) (dependency_id i v.origin.0 (entry_of v i)) small
            ∙ sym (rw (add-one, ne_eqb (entry_of v i) 0 e) refl));
      }

  pub list_all : {i : ℕ} {r : Dependencies} → Listing v n i r → n ≤ i → r ≡ dependencies (dependencies_to n v)
  list_all {i} {r} M h = let e : i ≡ n = omega (arith, M.within) in M.so_far ∙ ap (λ (k : ℕ). dependencies (dependencies_to k v)) e
