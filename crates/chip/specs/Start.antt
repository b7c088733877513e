-- How a chip starts.
use Rattle.std.specs.Prelude.{◌≡◌, ◌≤◌, bit_and}
use Rattle.chip.specs.Effect.{Clear, lock_bits, lasting}
use Rattle.chip.specs.declared.model.Part.{Part}
use Rattle.chip.specs.declared.model.Arming.TheVariants.{Disarmed}
use Rattle.chip.specs.declared.model.Start.{Start}
use Rattle.chip.specs.declared.model.State.{State}

-- What a chip of a part may start with: no bit that must read 0, slow to 1,000 and carry to 1,000,000.
pub record Startable (p : Part) (x : Start) : Type 0 where
  pub clear : Clear p x.registers
  pub locked : bit_and x.locks (lock_bits p) ≡ x.locks
  pub slowly : x.slow ≤ 1000
  pub carries : x.carry ≤ 1000000

-- The state it starts in: the stored registers are those given, less SRL and SUS; nothing is armed or busy.
abbrev pub started : Part → Start → State
started p x =
    record {
      face = record { part = p; working = x.registers; locks = x.locks; wp = x.wp };
      stored = lasting x.registers;
      arming = Disarmed;
      busy = 0;
      slow = x.slow;
      carry = x.carry;
    }
