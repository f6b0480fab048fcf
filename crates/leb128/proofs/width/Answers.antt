use Prim.Native.Nat.{◌/◌}
use native.Mathlib.Omega.{arith}
use mathlib.Core.Path.{sym}
use Rattle.leb128.proofs.Laws.{width_one, width_more}
use Rattle.leb128.proofs.width.Goals as goal

pub returns-then-value-lt128 : goal.returns-then-value-lt128
returns-then-value-lt128 c = let n = c.args.value in sym (width_one 4 n (omega arith))

pub returns-then-value-lt16384 : goal.returns-then-value-lt16384
returns-then-value-lt16384 c = let n = c.args.value in sym (width_more 3 n _ (omega arith) (width_one 3 (n / 128) (omega arith)))

pub returns-then-value-lt2097152 : goal.returns-then-value-lt2097152
returns-then-value-lt2097152 c = let n = c.args.value in sym (width_more 3 n _ (omega arith) (width_more 2 (n / 128) _ (omega arith) (width_one 2 (n / 128 / 128) (omega arith))))

pub returns-then-value-lt268435456 : goal.returns-then-value-lt268435456
returns-then-value-lt268435456 c = let n = c.args.value in sym (width_more 3 n _ (omega arith) (width_more 2 (n / 128) _ (omega arith) (width_more 1 (n / 128 / 128) _ (omega arith) (width_one 1 (n / 128 / 128 / 128) (omega arith)))))

pub returns : goal.returns
returns c = let n = c.args.value in sym (width_more 3 n _ (omega arith) (width_more 2 (n / 128) _ (omega arith) (width_more 1 (n / 128 / 128) _ (omega arith) (width_more 0 (n / 128 / 128 / 128) _ (omega arith) (width_one 0 (n / 128 / 128 / 128 / 128) (omega arith))))))
