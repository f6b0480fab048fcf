-- A flush keeps a replica well-formed. Assumes nothing.
use Prim.Native.Nat.{ℕ, zero, suc}
use lib.ListN.{length}
use Rattle.tcsb.specs.Replica.{State, Pick, none, at_place, Flushed, state_after, delivered, after_pick, next_of, flush_more, flushed, flush_of}
use Rattle.tcsb.specs.WellFormed.{WellFormed}
use Rattle.tcsb.proofs.Settling.{frontier-well}
use Rattle.tcsb.proofs.Delivering.{next_well}

-- one delivery more, or none and the frontier call
more-well : (rest : State → Flushed) → ((st : State) → WellFormed st → WellFormed (rest st).state) → (st : State) (p : Pick)
    → WellFormed st → WellFormed (after_pick st p) → WellFormed (flush_more rest st p).state
more-well rest h st none w a = frontier-well st w
more-well rest h st (at_place i e) w a = h (delivered st i e) a

pub flushed-well : (k : ℕ) (st : State) → WellFormed st → WellFormed (flushed k st).state
unfolding flushed
flushed-well zero st w = frontier-well st w
flushed-well (suc k) st w = more-well (flushed k) (flushed-well k) st (next_of st) w (next_well st w)

pub flush_well : (st : State) → WellFormed st → WellFormed (state_after st (flush_of st))
unfolding flush_of
flush_well st w = flushed-well (length st.inbox) st w
