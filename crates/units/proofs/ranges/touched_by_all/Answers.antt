-- Before the first turn all ranges are still to come.
use Rattle.std.proofs.Common.{refl, not}
use Rattle.std.proofs.lemmas.Iterator.Adapters.{position_from-zero}
use Rattle.units.specs.Ranges.{inside}
use Rattle.units.proofs.ranges.touched_by_all.Goals as goal

pub loop-at-init : goal.loop-at-init
loop-at-init c = (position_from-zero (λ r. not (inside r)) c.args.ranges.now, refl)
