use Prim.Native.Nat.{ℕ}
use Rattle.lists.proofs.Laws.{tab-same}
use Rattle.store.proofs.order.Slots.none.Goals as goal

pub returns : goal.returns
returns c = rw (tab-same {A = ℕ} 256 0)
