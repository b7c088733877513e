use Rattle.std.proofs.Common.{◌<◌, arith}
use Rattle.std.proofs.lemmas.Nat.{one_shl, pow_below}
use Rattle.chip.proofs.effect.one_at.Goals as goal

pub returns : goal.returns
returns c =
    let h : c.args.unit < 64 = omega arith in
    let e = one_shl c.args.unit 64 h in
    record { value = e; bound = omega (arith, e, pow_below c.args.unit 62 c.requires) }
