-- Lists by place, over a count. Assumes nothing.
use Rattle.std.specs.Prelude.{ℕ, zero, suc, ◌+◌, min, Bool, true, false, cond, ◌&&◌, ◌||◌, List, [], ◌∷◌, ◌++◌, length, get_or, take, drop, ltb}

-- the entry at a place, and 0 where there is none
abbrev pub at : List ℕ → ℕ → ℕ
at r j = get_or r j 0

-- f 0, f 1, .. f (n - 1)
unfoldable pub tab : {A : Type 0} → ℕ → (ℕ → A) → List A
tab zero f = []
tab (suc n) f = f zero ∷ tab n (λ k. f (suc k))

-- a list whose first n elements are made f 0, f 1, ..; d is what stands past a list's end
unfoldable pub over : {A : Type 0} → A → ℕ → (ℕ → A) → List A → List A
over d n f r = tab (length r) (λ j. cond (ltb j n) (f j) (get_or r j d))

-- each place below n passes a test; some place does
unfoldable pub all : ℕ → (ℕ → Bool) → Bool
all zero p = true
all (suc k) p = all k p && p k

unfoldable pub any : ℕ → (ℕ → Bool) → Bool
any zero p = false
any (suc k) p = any k p || p k

-- f 0 + f 1 + .. + f (n - 1)
unfoldable pub sum : ℕ → (ℕ → ℕ) → ℕ
sum zero f = 0
sum (suc k) f = sum k f + f k

-- the least of f 0, f 1, .. f k
unfoldable pub least : ℕ → (ℕ → ℕ) → ℕ
least zero f = f 0
least (suc k) f = min (least k f) (f (suc k))

-- f 0, f 1, .. f (n - 1), one behind the other
unfoldable pub chain : {A : Type 0} → ℕ → (ℕ → List A) → List A
chain zero f = []
chain (suc k) f = chain k f ++ f k

-- what each element is spelt by, one behind the other
unfoldable pub joined : {A X : Type 0} → (X → List A) → List X → List A
joined f [] = []
joined f (x ∷ l) = f x ++ joined f l

-- a list put into another from a place on, and every other element as it was
abbrev pub laid : {A : Type 0} → List A → ℕ → List A → List A
laid out at b = take at out ++ (b ++ drop (at + length b) out)
