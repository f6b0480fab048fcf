-- Two ids are equal, as derived, where they are the same. Assumes nothing.
use Rattle.std.specs.Prelude.{◌≡◌, refl}
use Rattle.clock.specs.Version.{same_id}
use Rattle.clock.specs.declared.id.EventId.{EventId}
use Rattle.clock.specs.contracts.id.EventIdPartialEq.TheImpl as derived

pub same_id_is : (a b : EventId) → (derived.ghosts).eq a b ≡ same_id a b
same_id_is a b = refl
