use Rattle.std.proofs.Common.{◌^◌, ◌≤◌, refl, arith, pow_mono}
use native.Mathlib.Nat.{div-eq_of_lt}
use Rattle.units.specs.Units.{has}
use Rattle.parts.proofs.simulated.lock_bit.Goals as goal

pub returns-then-unit-lt64 : goal.returns-then-unit-lt64
unfolding has
returns-then-unit-lt64 c = refl

pub returns-else-unit-lt64 : goal.returns-else-unit-lt64
unfolding has
returns-else-unit-lt64 c =
    let above : 64 ≤ c.args.unit = omega arith in
    let wide : 2 ^ 64 ≤ 2 ^ c.args.unit = pow_mono above in
    rw (div-eq_of_lt {n = c.args.locks} {m = 2 ^ c.args.unit} (omega arith))
