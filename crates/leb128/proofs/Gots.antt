-- What two equal readings have in common. Assumes nothing.
use Rattle.std.specs.Prelude.{ℕ, ◌≡◌, Ok, Err}
use mathlib.Core.Path.{ap}
use Rattle.leb128.specs.Leb128.{Read, got}

value_in : {A : Type 0} → A → Read A → A
value_in d (Ok g) = g.value
value_in d (Err k) = d

next_in : {A : Type 0} → Read A → ℕ
next_in (Ok g) = g.next
next_in (Err k) = 0

pub got_value : {A : Type 0} {a b : A} {n m : ℕ} → got a n ≡ got b m → a ≡ b
unfolding value_in
got_value {a = a} e = ap (value_in a) e

pub got_next : {A : Type 0} {a b : A} {n m : ℕ} → got a n ≡ got b m → n ≡ m
unfolding next_in
got_next e = ap next_in e
