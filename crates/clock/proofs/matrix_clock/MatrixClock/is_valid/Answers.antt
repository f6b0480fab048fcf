use mathlib.Core.Path.{sym, ◌∙◌}
use Rattle.clock.proofs.Matrices.{fits_done, below-diagonal}
use Rattle.clock.proofs.matrix_clock.MatrixClock.is_valid.Goals as goal

pub returns-then-rows_at_most : goal.returns-then-rows_at_most
returns-then-rows_at_most c =
    rw (
      c.rows_at_most-then-rows_at_most.ensures,
      c.row.ensures,
      ← c.fit.ensures,
      c.in_ok-fit.was,
      ← below-diagonal c.args.self.now.members c.args.self.now.rows (fits_done _ _ _ _ (sym c.fit.ensures ∙ c.in_ok-fit.was)).few,
      ← c.diagonal_row.ensures,
      ← c.rows_at_most.ensures,
      c.if-rows_at_most.true,
    )

pub returns-else-rows_at_most : goal.returns-else-rows_at_most
returns-else-rows_at_most c =
    rw (
      ← c.fit.ensures,
      c.in_ok-fit.was,
      ← below-diagonal c.args.self.now.members c.args.self.now.rows (fits_done _ _ _ _ (sym c.fit.ensures ∙ c.in_ok-fit.was)).few,
      ← c.diagonal_row.ensures,
      ← c.rows_at_most.ensures,
      c.if-rows_at_most.false,
    )
