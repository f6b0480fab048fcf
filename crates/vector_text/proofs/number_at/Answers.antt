use Rattle.std.proofs.Common.{ℕ, ◌≡◌, ◌+◌, ◌-◌, length, List, sym, ap, ◌∙◌, refl, arith, min, take, drop}
use Rattle.std.proofs.lemmas.List.{length-drop}
use Rattle.vector_text.proofs.Turns.{part_is, digit_more, digit_low, digit_high, digits_end}
use Rattle.vector_text.proofs.number_at.Goals as goal
use Rattle.vector_text.proofs.number_at.Goals.{then-b-lt48-via-then-b-lt48, then-b-lt48-via-else-b-lt48+then-b-gt57}

pub loop-i-init : goal.loop-i-init
loop-i-init c =
    let n : c.min-start.result + 0 ≡ min c.args.at (length c.args.text.now) = omega (arith, c.min-start.ensures) in
    rw (part_is c.args.text.now c.min-start.result, n, c.min-start.ensures) refl

pub returns-then-b-lt48-clause-told : goal.returns-then-b-lt48-clause-told
returns-then-b-lt48-clause-told c =
    let s = take (length c.args.text.now - c.min-start.result) (drop c.min-start.result c.args.text.now) in
    elim c.then-b-lt48.branch [
      | then-b-lt48-via-then-b-lt48 w ↦ sym (c.loop-i.invariant ∙ digit_low s c.loop-i.value c.min-start.result c.loop-i.i c.loop-i-test.true w.if-b-lt48.true)
      | then-b-lt48-via-else-b-lt48+then-b-gt57 w ↦
          sym (c.loop-i.invariant ∙ digit_high s c.loop-i.value c.min-start.result c.loop-i.i c.loop-i-test.true w.if-b-lt48.false w.if-b-gt57.true)
    ]

pub loop-i-preserved : goal.loop-i-preserved
loop-i-preserved c =
    let s = take (length c.args.text.now - c.min-start.result) (drop c.min-start.result c.args.text.now) in
    c.loop-i.invariant ∙ rw c.from.ensures (digit_more s c.loop-i.value c.min-start.result c.loop-i.i c.loop-i-test.true c.if-b-lt48.false c.if-b-gt57.false)

pub returns-clause-told : goal.returns-clause-told
returns-clause-told c =
    let text = c.args.text.now in
    let k = c.min-start.result in
    let s = take (length text - k) (drop k text) in
    let e : length s ≡ length text - k = ap (λ (l : List ℕ). length l) (part_is text k) ∙ length-drop k text in
    let end : k + c.loop-i.i ≡ length text = omega (arith, e, c.min-start.ensures, c.loop-i-test.false, c.loop-i.auto.i-end) in
    sym (c.loop-i.invariant ∙ (digits_end s c.loop-i.value k c.loop-i.i c.loop-i-test.false ∙ (λ j. record { value = c.loop-i.value; next = end j })))
