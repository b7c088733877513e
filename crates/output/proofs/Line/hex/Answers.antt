use Rattle.std.proofs.Common.{◌≡◌, ℕ, zero, suc, ◌-◌, ◌/◌, ◌%◌, ◌^◌, ◌<◌, ◌∷◌, refl, ap, sub-one, arith}
use Rattle.output.specs.Hex.{hex, sign}
use Rattle.output.proofs.Chain.{onward_as, onward_more, onward_cut, onward_end, puts_err, cut_past}
use Rattle.output.proofs.Line.hex.Goals as goal

-- The digits that are left are the sign `b` of the first of them, `d`, and those after it.
hex_more : (right n d b : ℕ) → 0 < right → d ≡ n / 16 ^ (right - 1) % 16 → b ≡ sign d → hex right n ≡ b ∷ hex (right - 1) n
unfolding hex
hex_more zero n d b h e f = absurd (omega arith)
hex_more (suc k) n d b h e f = rw (f, e, sub-one (suc k)) refl

pub returns-then-self : goal.returns-then-self
returns-then-self c = cut_past (hex c.args.width c.args.n) (omega arith) (omega arith)

pub returns-in_err-put : goal.returns-in_err-put
returns-in_err-put c =
    let more = hex_more c.loop-right.right c.args.n c.digit_at.result c.sign_of.result c.loop-right-test.true c.digit_at.ensures c.sign_of.ensures in
    let rest = hex (c.loop-right.right - 1) c.args.n in
    puts_err {b = c.put.new.self} c.from_residual.result c.from_residual.ensures.0
    (onward_cut rest c.in_err-put.ensures (onward_as more c.loop-right.invariant))

pub loop-right-preserved : goal.loop-right-preserved
loop-right-preserved c =
    let more = hex_more c.loop-right.right c.args.n c.digit_at.result c.sign_of.result c.loop-right-test.true c.digit_at.ensures c.sign_of.ensures in
    onward_more c.in_ok-put.ensures (onward_as more c.loop-right.invariant)

pub returns : goal.returns
unfolding hex
returns c =
    let none : c.loop-right.right ≡ 0 = omega arith in
    onward_end (onward_as (ap (λ k. hex k c.args.n) none) c.loop-right.invariant)
