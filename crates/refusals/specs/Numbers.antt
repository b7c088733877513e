-- The number of each refusal, 1 to 17, and the place in the line that is told with it.
use Rattle.std.specs.Prelude.{ℕ}
use Rattle.refusals.specs.declared.CableFault.{CableFault}
use Rattle.refusals.specs.declared.CableFault.TheVariants.{Down, Busy}
use Rattle.refusals.specs.declared.RunFault.{RunFault}
use Rattle.refusals.specs.declared.RunFault.TheVariants.{Code, Beyond, Cut, OtherSession, Blind, LiftOut, Suspended, NoCode, RegisterLock, PinLock, Cable, UnknownPart, Full}
use Rattle.refusals.specs.declared.SheetFault.{SheetFault}
use Rattle.refusals.specs.declared.SheetFault.TheVariants.{Bytes, Word, Count, Field, NoChip, Run, Room}

abbrev pub cable_number : CableFault → ℕ
cable_number Down = 14
cable_number Busy = 15

abbrev pub run_number : RunFault → ℕ
run_number Code = 4
run_number (Beyond at) = 5
run_number (Cut at) = 6
run_number OtherSession = 7
run_number Blind = 8
run_number LiftOut = 9
run_number Suspended = 10
run_number NoCode = 11
run_number RegisterLock = 12
run_number PinLock = 13
run_number (Cable fault carried) = cable_number fault
run_number UnknownPart = 16
run_number Full = 17

abbrev pub sheet_number : SheetFault → ℕ
sheet_number (Bytes place) = 1
sheet_number Word = 2
sheet_number (Count length) = 3
sheet_number (Field place) = 4
sheet_number NoChip = 8
sheet_number (Run fault place) = run_number fault
sheet_number Room = 17

abbrev pub sheet_place : SheetFault → ℕ
sheet_place (Bytes place) = place
sheet_place Word = 0
sheet_place (Count length) = length
sheet_place (Field place) = place
sheet_place NoChip = 0
sheet_place (Run fault place) = place
sheet_place Room = 0
