use mathlib.Core.Path.{sym, ◌∙◌}
use native.Mathlib.Omega.{arith}
use Rattle.tcsb.proofs.Wanting.{except_none, except_more, excepts_bad, excepts_all}
use Rattle.tcsb.proofs.writing.read_ids.Goals as goal

pub loop-init : goal.loop-init
loop-init c = except_none c.requires c.none-ids.result c.none-ids.ensures

pub returns-in_default : goal.returns-in_default
returns-in_default c =
    let l = c.loop.invariant in
    record {
      few = omega (arith, l.counts, l.within);
      has = excepts_bad _ l c.loop-test.true (sym c.read_exception.ensures ∙ c.in_default.is);
    }

pub loop-preserved : goal.loop-preserved
loop-preserved c =
    except_more c.loop.invariant c.loop-test.true (sym c.read_exception.ensures ∙ c.in-Ok.is) c.our_place.ensures c.push.ensures

pub returns : goal.returns
returns c =
    let l = c.loop.invariant in
    record { few = omega (arith, l.counts, l.within); has = excepts_all _ l c.loop-test.false }
