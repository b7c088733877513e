-- A chip with a part number that is not known, as a chip's state.
use Rattle.std.specs.Prelude.{◌≡◌, ℕ, ◌^◌, ◌<◌, ◌≤◌, Bool, true, false, ◌≢◌, bit_and}
use Rattle.chip.specs.declared.model.Part.TheVariants.{Other}
use Rattle.chip.specs.declared.model.Arming.{Arming}
use Rattle.chip.specs.declared.model.Arming.TheVariants.{Disarmed, Stored}
use Rattle.chip.specs.declared.model.State.{State}
use Rattle.foreign.specs.declared.memory.Memory.{Memory}

abbrev pub latch : Bool → Arming
latch true = Stored
latch false = Disarmed

abbrev pub foreign_state : Memory → State
foreign_state m =
    record {
      face =
          record { part = Other m.number; working = record { sr1 = m.sr1; sr2 = 0; sr3 = 0 }; locks = 0; wp = m.wp };
      stored = record { sr1 = 0; sr2 = 0; sr3 = 0 };
      arming = latch m.armed;
      busy = m.busy;
      slow = 0;
      carry = m.carry;
    }

-- The number is neither of the known ones, and the bounds hold.
abbrev pub Strange : ℕ → Type 0
Strange n = (n < 2 ^ 24) × ((n ≢ 15695893) × (n ≢ 15675413))

abbrev pub Kept : Memory → Type 0
Kept m = (bit_and m.sr1 252 ≡ m.sr1) × ((m.busy ≤ 1000) × (m.carry ≤ 1000000))
