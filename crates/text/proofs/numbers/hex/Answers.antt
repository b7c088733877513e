use Rattle.std.proofs.Common.{arith}
use Rattle.text.proofs.numbers.hex.Goals as goal
use native.Mathlib.Nat.{pow-le-pow_right}

pub digits-requires : goal.digits-requires
digits-requires c = record { room = pow-le-pow_right {n = 16} (omega arith) {j = 16} (omega arith) }
