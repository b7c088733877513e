-- Which commands meet a wish, or why none do.
use Rattle.std.specs.Prelude.{ℕ, zero, suc, ◌+◌, ◌*◌, ◌/◌, ◌%◌, Bool, true, false, cond, not, ◌&&◌, ◌||◌, List, [], ◌∷◌, ◌++◌, Some, None, Ok, Err, Option, Result, ◌==◌, bit_and}
use Rattle.units.specs.Codes.{set_of}
use Rattle.units.specs.Units.{first_of, has}
use Rattle.chip.specs.Effect.{locked}
use Rattle.chip.specs.declared.model.Part.{Part}
use Rattle.chip.specs.declared.model.Part.TheVariants.{Jw, Xa, Other}
use Rattle.chip.specs.declared.model.Face.{Face}
use Rattle.chip.specs.declared.model.Command.{Command}
use Rattle.chip.specs.declared.model.Bytes.TheVariants.{Zero, One, Two, Three}
use Rattle.picture.specs.Protection.{protected}
use Rattle.plan.specs.declared.wish.Term.{Term}
use Rattle.plan.specs.declared.wish.Term.TheVariants.{Now, Kept}
use Rattle.plan.specs.declared.wish.Route.{Route}
use Rattle.plan.specs.declared.wish.Route.TheVariants.{Nothing, Settings, Locks}
use Rattle.refusals.specs.declared.RunFault.{RunFault}
use Rattle.refusals.specs.declared.RunFault.TheVariants.{NoCode, RegisterLock, PinLock}

-- The smallest code below n that gives the set, if one does.
abbrev pub or_else : Option ℕ → Option ℕ → Option ℕ
or_else (Some c) d = Some c
or_else None d = d

unfoldable pub smallest : ℕ → ℕ → Option ℕ
smallest zero w = None
smallest (suc n) w = or_else (smallest n w) (cond (set_of n == w) (Some n) None)

-- The W25X16A has neither SEC nor CMP, so only the codes below 16.
abbrev pub codes_of : Part → ℕ
codes_of Jw = 64
codes_of Xa = 16
codes_of (Other n) = 0

-- WPS reads 1, and SRL does.
unfoldable pub by_lock_bits : Face → Bool
by_lock_bits f = f.working.sr3 / 4 % 2 == 1

unfoldable pub locked_for_good : Face → Bool
locked_for_good f = f.working.sr2 % 2 == 1

-- Why locked registers cannot be written: SRL, else /WP.
abbrev pub lock_fault : Face → RunFault
lock_fault f = cond (locked_for_good f) RegisterLock PinLock

-- The code, where the registers can be written.
abbrev pub if_unlocked : Face → ℕ → Result Route RunFault
if_unlocked f c = cond (locked f) (Err (lock_fault f)) (Ok (Settings c))

-- Only a code would do.
abbrev pub by_code : Option ℕ → Face → Result Route RunFault
by_code None f = Err NoCode
by_code (Some c) f = if_unlocked f c

-- The lock bits protect already, or WPS can be raised.
abbrev pub by_locks : Face → Result Route RunFault
by_locks f = cond (by_lock_bits f || not (locked f)) (Ok Locks) (Err (lock_fault f))

-- A code where there is one and it can be written, else the lock bits.
abbrev pub by_either : Option ℕ → Face → Result Route RunFault
by_either None f = by_locks f
by_either (Some c) f = cond (locked f) (by_locks f) (Ok (Settings c))

-- What stands already needs no command; of the W25Q16JW only for now, since its stored registers cannot be read.
abbrev pub unless_set : Bool → Result Route RunFault → Result Route RunFault
unless_set settled r = cond settled (Ok Nothing) r

abbrev pub chosen_by : Option ℕ → Part → Term → Bool → Face → Result Route RunFault
chosen_by c Jw Now settled f = unless_set settled (by_either c f)
chosen_by c Jw Kept settled f = by_code c f
chosen_by c Xa t settled f = unless_set settled (by_code c f)
chosen_by c (Other n) t settled f = Err NoCode

-- The route that a wish takes from what is read, or why there is none.
unfoldable pub chosen : Face → ℕ → Term → Result Route RunFault
chosen f w t = chosen_by (smallest (codes_of f.part) w) f.part t (protected f == w) f

-- A command of its code alone.
abbrev pub bare_command : ℕ → Command
bare_command code = record { code = code; bytes = Zero }

-- Arming: 50h for now, 06h for what is stored, too.
abbrev pub arm : Term → Command
arm Now = bare_command 80
arm Kept = bare_command 6

-- The bytes of SR1, SR2 and SR3: other bits as read, with 0 for those that cannot be written.
abbrev pub first_byte : Face → ℕ → ℕ
first_byte f c = bit_and f.working.sr1 128 + c % 32 * 4

abbrev pub second_byte : Face → ℕ → ℕ
second_byte f c = bit_and f.working.sr2 59 + c / 32 * 64

abbrev pub third_byte : Face → ℕ → ℕ
third_byte f wps = bit_and f.working.sr3 224 + wps * 4

abbrev pub is_kept : Term → Bool
is_kept Now = false
is_kept Kept = true

-- SR1 and SR2 by one command, then WPS lowered where it is 1, and always for kept.
abbrev pub settings : Part → Term → Face → ℕ → List Command
settings Jw t f c =
    arm t ∷ (record { code = 1; bytes = Two (first_byte f c) (second_byte f c) }
    ∷ cond (by_lock_bits f || is_kept t) (arm t ∷ (record { code = 17; bytes = One (third_byte f 0) } ∷ [])) [])
settings Xa t f c = bare_command 6 ∷ (record { code = 1; bytes = One (first_byte f c) } ∷ [])
settings (Other n) t f c = []

-- A command at a unit's first address, after 06h.
abbrev pub at_unit : ℕ → ℕ → List Command
at_unit code u =
    bare_command 6
    ∷ (record { code = code; bytes = Three (first_of u / 65536) (first_of u / 256 % 256) (first_of u % 256) } ∷ [])

-- The commands of the units below n that pass a test, rising.
unfoldable pub sweep : (ℕ → Bool) → ℕ → ℕ → List Command
sweep test code zero = []
sweep test code (suc n) = sweep test code n ++ cond (test n) (at_unit code n) []

-- Wanted, and its lock bit is 0; not wanted, and it is 1.
abbrev pub to_lock : ℕ → ℕ → ℕ → Bool
to_lock locks w u = has w u == 1 && has locks u == 0

abbrev pub to_unlock : ℕ → ℕ → ℕ → Bool
to_unlock locks w u = has w u == 0 && has locks u == 1

-- The wanted units are locked before the others are unlocked, by 36h and 39h, and WPS is raised last.
unfoldable pub lock_plan : Face → ℕ → List Command
lock_plan f w =
    sweep (to_lock f.locks w) 54 62
    ++ (sweep (to_unlock f.locks w) 57 62
    ++ cond (by_lock_bits f) [] (arm Now ∷ (record { code = 17; bytes = One (third_byte f 1) } ∷ [])))

-- The commands of a route.
abbrev pub commands_of : Route → Face → ℕ → Term → List Command
commands_of Nothing f w t = []
commands_of (Settings c) f w t = settings f.part t f c
commands_of Locks f w t = lock_plan f w

abbrev pub commands_in : Result Route RunFault → Face → ℕ → Term → Result (List Command) RunFault
commands_in (Ok r) f w t = Ok (commands_of r f w t)
commands_in (Err e) f w t = Err e

-- The plan for a wish.
abbrev pub planned : Face → ℕ → Term → Result (List Command) RunFault
planned f w t = commands_in (chosen f w t) f w t
