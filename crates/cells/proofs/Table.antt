-- The examples hold: antt computes both sides of each.
use Rattle.std.proofs.Common.{refl}
use Rattle.units.specs.Units.{has}
use Rattle.units.specs.Codes.{set_of}
use Rattle.units.specs.Ranges.{touching}
use Rattle.chip.specs.Effect.{locked}
use Rattle.picture.specs.Protection.{protected}
use Rattle.plan.specs.Plan.{smallest, by_lock_bits, locked_for_good, chosen, sweep, lock_plan}
use Rattle.cells.specs.Cells.{Cells}

pub table : Cells
unfolding has set_of touching locked protected smallest by_lock_bits locked_for_good chosen sweep lock_plan
table =
    record {
      code_1 = refl;
      code_20 = refl;
      code_21 = refl;
      code_38 = refl;
      lower_half = refl;
      code_37 = refl;
      code_13 = refl;
      block_30 = refl;
      pin_lock = (refl, refl);
      unpinned = refl;
      unlock_first = refl;
      register_lock = (refl, refl);
    }
