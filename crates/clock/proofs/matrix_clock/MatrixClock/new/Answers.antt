use mathlib.Core.Path.{◌≡◌, ap, ◌∙◌}
use mathlib.Core.List.{List}
use Prim.Native.Nat.{ℕ}
use Rattle.std.specs.Prelude.{Ok}
use Rattle.clock.specs.declared.version_vector.Row.{Row}
use Rattle.clock.specs.declared.matrix_clock.MatrixClock.{MatrixClock}
use Rattle.lists.specs.Lists.{tab}
use Rattle.clock.specs.Matrix.{zero_row}
use Rattle.lists.proofs.Laws.{tab-same}
use Rattle.clock.proofs.matrix_clock.MatrixClock.new.Goals as goal

pub returns : goal.returns
returns c =
    let row : c.zeros-row.result ≡ zero_row = ap (λ (l : List ℕ). record { entries = l }) c.zeros-row.ensures in
    rw (← c.fit.ensures, c.in_ok-fit.was)
    (let m : List Row → MatrixClock = λ l. record { members = c.args.members; origin = c.args.origin; rows = l } in
    ap (λ (l : List Row). Ok (m l)) (tab-same 16 c.zeros-row.result ∙ ap (λ (r : Row). tab 16 (λ k. r)) row))
