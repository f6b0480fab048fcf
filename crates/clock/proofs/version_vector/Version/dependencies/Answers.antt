use mathlib.Core.Path.{sym, ◌∙◌}
use Rattle.clock.proofs.Matrices.{fits_done}
use Rattle.clock.proofs.version_vector.Version.dependencies.Goals as goal

pub dependencies_listed-requires : goal.dependencies_listed-requires
dependencies_listed-requires c = (fits_done _ _ _ _ (sym c.fit.ensures ∙ c.in_ok-fit.was)).few
