-- Lists that are kept in sixteen places. Assumes nothing.
use mathlib.Core.Path.{◌≡◌, sym, ap, ◌∙◌}
use mathlib.Core.List.{List, [], map}
use Prim.Native.Nat.{ℕ, ◌≤◌}
use native.Mathlib.Omega.{arith}
use lib.ListN.{length, take, get_or, length-map, get_or-map}
use lib.Seq.{ext_get_or, length-take-le, get_or-take}
use Rattle.lists.proofs.Laws.{length-tab, get_or-tab, is-tab}
use Rattle.telegram.specs.Fields.{text}
use Rattle.telegram.specs.Reading.{filled, nowhere, names_of, texts}
use Rattle.telegram.specs.declared.field.Part.{Part}
use Rattle.telegram.specs.declared.list.Names.{Names}

-- the first places hold the list
pub take-filled : {A : Type 0} (d : A) (n : ℕ) (l : List A) → length l ≡ n → n ≤ 16 → take n (filled d l) ≡ l
take-filled d n l e h =
    let c = length-take-le n (filled d l) (omega (arith, length-tab 16 (λ j. get_or l j d))) in
    ext_get_or d (take n (filled d l)) l (c ∙ sym e)
    (λ k lt. get_or-take n (filled d l) k d (omega (arith, c)) ∙ get_or-tab d 16 (λ j. get_or l j d) k (omega (arith, c)))

pub count-texts : (s : List ℕ) (l : Names) → length (texts s l) ≡ l.count
unfolding texts
count-texts s l = length-tab l.count (λ i. text s (get_or l.parts i nowhere))

-- the names of a list, in their order
pub texts_named : (s : List ℕ) (l : List Part) → length l ≤ 16 → texts s (names_of l) ≡ map (text s) l
unfolding texts
texts_named s l h =
    sym (is-tab [] (map (text s) l) (length l) (λ i. text s (get_or (filled nowhere l) i nowhere)) (length-map l (text s))
    (λ k lt. get_or-map (text s) l k nowhere ∙ ap (text s) (sym (get_or-tab nowhere 16 (λ j. get_or l j nowhere) k (omega arith)))))
