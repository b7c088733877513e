-- Which units are protected, and which commands on the array that lets through.
use Rattle.std.specs.Prelude.{◌≡◌, ℕ, ◌+◌, ◌-◌, ◌*◌, ◌/◌, ◌%◌, Bool, true, false, cond, ◌&&◌, ◌⊎◌, Some, None, Option, ◌==◌, bit_and}
use Rattle.units.specs.Units.{unit_at, has}
use Rattle.units.specs.Codes.{set_of}
use Rattle.units.specs.Ranges.{touching, Holds}
use Rattle.units.specs.declared.ranges.Range.{Range}
use Rattle.chip.specs.declared.model.Part.{Part}
use Rattle.chip.specs.declared.model.Part.TheVariants.{Jw, Xa, Other}
use Rattle.chip.specs.declared.model.Face.{Face}
use Rattle.picture.specs.declared.array.ArrayCommand.{ArrayCommand}
use Rattle.picture.specs.declared.array.ArrayCommand.TheVariants.{ProgramPage, EraseSector, EraseHalfBlock, EraseBlock, EraseChip}

-- The block protection code: CMP of SR2, then SEC, TB, BP2, BP1 and BP0 of SR1.
abbrev pub code : Face → ℕ
code f = f.working.sr2 / 64 % 2 * 32 + f.working.sr1 / 4 % 32

-- The protected units: with WPS 1 those whose lock bit is set, else those of the code.
unfoldable pub protected : Face → ℕ
protected f = cond (f.working.sr3 / 4 % 2 == 1) f.locks (set_of (code f))

-- The commands that change the array: 02h, 20h, 52h, D8h and C7h.
abbrev pub array_command : ℕ → Option ArrayCommand
array_command c =
    cond (c == 2) (Some ProgramPage)
    (cond (c == 32) (Some EraseSector)
    (cond (c == 82) (Some EraseHalfBlock) (cond (c == 216) (Some EraseBlock) (cond (c == 199) (Some EraseChip) None))))

-- How many bytes each changes.
abbrev pub extent : ArrayCommand → ℕ
extent ProgramPage = 256
extent EraseSector = 4096
extent EraseHalfBlock = 32768
extent EraseBlock = 65536
extent EraseChip = 2097152

-- The bytes that it changes at an address: the aligned region around it.
abbrev pub region : ArrayCommand → ℕ → Range
region c address = record { first = address / extent c * extent c; last = address / extent c * extent c + extent c - 1 }

-- The W25X16A has no 52h.
abbrev pub offers : Part → ArrayCommand → Bool
offers Jw c = true
offers Xa ProgramPage = true
offers Xa EraseSector = true
offers Xa EraseHalfBlock = false
offers Xa EraseBlock = true
offers Xa EraseChip = true
offers (Other n) c = false

-- A command on the array is obeyed when the part has it and it touches no protected unit.
unfoldable pub obeys : Face → ArrayCommand → ℕ → Bool
obeys f c address = offers f.part c && bit_and (touching (region c address)) (protected f) == 0

-- What that says of single bytes: obeyed, none of them lies in a protected unit; ignored, the part lacks the command
-- or one of them does.
abbrev pub Judged : Bool → Face → ArrayCommand → ℕ → Type 0
Judged true f c address = (offers f.part c ≡ true) × ((b : ℕ) → Holds (region c address) b → has (protected f) (unit_at b) ≡ 0)
Judged false f c address =
    (offers f.part c ≡ false) ⊎ ((b : ℕ) × Holds (region c address) b × (has (protected f) (unit_at b) ≡ 1))
