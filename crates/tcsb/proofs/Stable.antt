-- The frontier call as the code makes it. Assumes nothing.
use mathlib.Core.Path.{◌≡◌, refl, sym, ap, ◌∙◌}
use mathlib.Core.Bool.{Bool, true, false}
use mathlib.Core.List.{List}
use Prim.Native.Nat.{ℕ, ◌≤◌}
use lib.ListN.{length}
use lib.Dec.{leb}
use borrow.Author.Tests.{le-leb}
use Rattle.refusal.specs.declared.Refusal.{Refusal}
use Rattle.clock.specs.declared.causal_frontier.CausalFrontier.{CausalFrontier}
use Rattle.clock.specs.Entries.{same_entries}
use Rattle.clock.specs.Frontier.{with_cut}
use Rattle.clock.specs.Matrix.{column_wise_min}
use Rattle.store.specs.declared.order.Store.{Store}
use Rattle.store.specs.Orders.{Pruned}
use Rattle.tcsb.specs.Replica.{State, members, own, settled_of, is_settled, frontier_call, stable_call}
use Rattle.tcsb.specs.WellFormed.{WellFormed}
use Rattle.tcsb.specs.Tcsb.{view, Good, Does}
use Rattle.tcsb.specs.declared.tcsb.Tcsb.{Tcsb}
use Rattle.tcsb.proofs.Valid.{done_fits, members_range}
use Rattle.tcsb.proofs.Settling.{frontier-well}
use Rattle.tcsb.proofs.Calls.{good-after}
use Rattle.std.specs.Prelude.{Result, Ok, Some, None}

-- the matrix of a well-formed state answers
settles : {st : State} → WellFormed st → column_wise_min st.matrix st.frontier st.raised ≡ Ok (with_cut st.frontier (settled_of st))
settles {st} w =
    let n = members_range w in
    rw (done_fits (members st) st.frontier.members (own st) (own st) (record { two = n.0; few = n.1; like = sym w.one_list; place = w.ours; another = w.ours })) refl

not_short : {A : Type 0} (q : List ℕ) → 6912 ≤ length q → leb 6912 (length q) ≡ false → A
not_short q long s = absurd (let c = le-leb 6912 (length q) long in cc)

-- the replica after a frontier that moved
abbrev pub after_frontier : Tcsb → CausalFrontier → Store → Tcsb
after_frontier t frontier outbox = record {
  names = t.names;
  matrix = t.matrix;
  frontier = frontier;
  raised = t.raised;
  known = t.known;
  inbox = t.inbox;
  outbox = outbox;
}

module _ {q : List ℕ} {t : Tcsb} {answer : Result CausalFrontier Refusal} {f : CausalFrontier} {same : Bool} (long : 6912 ≤ length q)
    (is : answer ≡ column_wise_min t.matrix t.frontier t.raised) (ok : answer ≡ Ok f)
    (tests : same ≡ same_entries t.matrix.members f.row.entries t.frontier.row.entries) where
  settled_is : {list p : List ℕ} → Good t list p q → f ≡ with_cut t.frontier (settled_of (view t list p q))
  settled_is g = let h = settles g.well in cc

  settled_by : {list p : List ℕ} → Good t list p q → same ≡ is_settled (view t list p q)
  settled_by g = tests ∙ ap (λ (r : CausalFrontier). same_entries t.matrix.members r.row.entries t.frontier.row.entries) (settled_is g)

  pub stable_same : same ≡ true → (list p : List ℕ) → Does list p p q q (leb 6912 (length q)) t t (Ok None) stable_call
  unfolding frontier_call
  stable_same e list p = record {
    answers = λ g. rw (← settled_by g, e) refl;
    leaves = λ g. rw (← settled_by g, e) refl;
    good = λ g. g;
    kept = λ k _. (refl, (refl, refl));
    short = λ s. not_short q long s;
  }

  pub stable_moved : {left : Store} {done : Bool} → same ≡ false → Pruned q t.outbox left f.row.entries done
      → (list p : List ℕ) → Does list p p q q (leb 6912 (length q)) t (after_frontier t f left) (Ok (Some f)) stable_call
  unfolding frontier_call
  stable_moved {left} e d list p = record {
    answers = λ g. rw (← settled_by g, e, settled_is g) refl;
    leaves = leaves;
    good = λ g. good-after
        (record { stores = record { inbox = g.sound.stores.inbox; outbox = d.good 256 g.sound.stores.outbox }; inside = g.sound.inside })
        (leaves g) (frontier-well (view t list p q) g.well);
    kept = λ k c. cc;
    short = λ s. not_short q long s;
  }
    where
      leaves : Good t list p q → view (after_frontier t f left) list p q ≡ frontier_call (view t list p q)
      leaves g = rw (← settled_by g, e, d.list 256 g.sound.stores.outbox, settled_is g) refl
