use Rattle.std.proofs.Common.{◌≡◌, ◌+◌, ◌*◌, ◌^◌, ◌≤◌, length, Err, ap, ◌∙◌, arith, rules}
use Rattle.refusals.specs.declared.SheetFault.TheVariants.{Field}
use Rattle.text.proofs.ReadMore.{sum_room, sum_wrong, sum_more, sum_end}
use Rattle.text.proofs.numbers.digits.Goals.{After-from}
use Rattle.text.proofs.numbers.digits.Goals as goal

pub returns-in_default-clause-value : goal.returns-in_default-clause-value
returns-in_default-clause-value c =
    ap (λ k. Err (Field k)) c.saturating_add.ensures
    ∙ sum_wrong _ _ _ _ _ c.loop-i.invariant _ c.loop-i-test.true c.digit.ensures.value c.in_default.is

space : (c : After-from) → c.from.result * c.loop-i.sum + c.args.base ≤ 2 ^ 64
space c =
    let room = sum_room _ _ _ _ _ c.loop-i.invariant (omega (arith, c.in-Some.ensures.small)) c.loop-i-test.true in
    omega (arith, room, ap (λ b. b * c.loop-i.sum) c.from.ensures)

pub overflow_mul-sum : goal.overflow_mul-sum
overflow_mul-sum c = omega (arith, space c, c.in-Some.ensures.small)

pub overflow_add-sum : goal.overflow_add-sum
overflow_add-sum c = omega (arith, space (goal.at.overflow_add-sum c).After-from, c.in-Some.ensures.small)

pub loop-i-preserved : goal.loop-i-preserved
loop-i-preserved c =
    let more =
    sum_more _ _ _ _ _ c.loop-i.invariant _ c.in-Some.digit c.loop-i-test.true c.digit.ensures.value c.in-Some.is c.in-Some.ensures.small
    in
    search rules

pub returns : goal.returns
returns c =
    let all : c.loop-i.i ≡ length c.args.field.text.now = omega arith in
    let end = sum_end _ _ _ _ _ c.loop-i.invariant all in
    record { value = end.0; small = end.1 }
