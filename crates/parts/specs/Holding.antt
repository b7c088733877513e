-- What a simulated chip holds, read as a chip's state.
use Rattle.std.specs.Prelude.{ℕ, Bool, true, false}
use Rattle.chip.specs.Effect.{lasting}
use Rattle.chip.specs.Step.{fresh_locks}
use Rattle.chip.specs.declared.model.Part.{Part}
use Rattle.chip.specs.declared.model.Part.TheVariants.{Jw, Xa}
use Rattle.chip.specs.declared.model.Arming.{Arming}
use Rattle.chip.specs.declared.model.Arming.TheVariants.{Disarmed, Stored}
use Rattle.chip.specs.declared.model.Registers.{Registers}
use Rattle.chip.specs.declared.model.Start.{Start}
use Rattle.chip.specs.declared.model.State.{State}
use Rattle.parts.specs.declared.held.Held.{Held}
use Rattle.parts.specs.declared.line.Line.{Line}
use Rattle.parts.specs.declared.jw_memory.JwMemory.{JwMemory}
use Rattle.parts.specs.declared.xa_memory.XaMemory.{XaMemory}

-- The state of a chip that holds this, at the end of this line.
abbrev pub over : Held → Line → State
over h l =
    record {
      face = record { part = h.part; working = h.working; locks = h.locks; wp = l.wp };
      stored = h.stored;
      arming = h.arming;
      busy = l.busy;
      slow = l.slow;
      carry = l.carry;
    }

-- What a chip holds that starts so, and what power leaves of what it holds.
abbrev pub first : Part → Start → Held
first p x = record { part = p; working = x.registers; stored = lasting x.registers; locks = x.locks; arming = Disarmed }

abbrev pub repowered : Held → Held
repowered h = record { part = h.part; working = h.stored; stored = h.stored; locks = fresh_locks h.part h.locks; arming = Disarmed }

-- What a W25Q16JW's memory holds.
abbrev pub jw_held : JwMemory → Held
jw_held m = record { part = Jw; working = m.working; stored = m.stored; locks = m.locks; arming = m.arming }

-- The W25X16A has one register, which a write stores at once.
abbrev pub xa_registers : ℕ → Registers
xa_registers sr1 = record { sr1 = sr1; sr2 = 0; sr3 = 0 }

-- It has no volatile arming.
abbrev pub xa_arming : Bool → Arming
xa_arming true = Stored
xa_arming false = Disarmed

abbrev pub xa_held : XaMemory → Held
xa_held m = record { part = Xa; working = xa_registers m.sr1; stored = xa_registers m.sr1; locks = 0; arming = xa_arming m.armed }
