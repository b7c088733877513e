-- What a command asks of a part, when the part takes it, and what it changes.
use Rattle.std.specs.Prelude.{◌≡◌, ℕ, ◌+◌, ◌-◌, ◌*◌, ◌/◌, ◌%◌, ◌^◌, Bool, true, false, cond, not, ◌&&◌, ◌||◌, ◌==◌, bit_and, bit_or, bit_xor, nat_lt}
use Rattle.units.specs.Units.{unit_at}
use Rattle.chip.specs.declared.model.Part.{Part}
use Rattle.chip.specs.declared.model.Part.TheVariants.{Jw, Xa, Other}
use Rattle.chip.specs.declared.model.Arming.{Arming}
use Rattle.chip.specs.declared.model.Arming.TheVariants.{Disarmed, Volatile, Stored}
use Rattle.chip.specs.declared.model.Registers.{Registers}
use Rattle.chip.specs.declared.model.Bits.{Bits}
use Rattle.chip.specs.declared.model.Face.{Face}
use Rattle.chip.specs.declared.model.Bytes.{Bytes}
use Rattle.chip.specs.declared.model.Bytes.TheVariants.{Zero, One, Two, Three}
use Rattle.chip.specs.declared.model.Command.{Command}
use Rattle.chip.specs.declared.model.RegisterWrite.{RegisterWrite}
use Rattle.chip.specs.declared.model.RegisterWrite.TheVariants.{First, FirstTwo, Second, Third}
use Rattle.chip.specs.declared.model.Relock.{Relock}
use Rattle.chip.specs.declared.model.Relock.TheVariants.{Lock, Unlock, LockAll, UnlockAll}
use Rattle.chip.specs.declared.model.Order.{Order}
use Rattle.chip.specs.declared.model.Order.TheVariants.{Ignored, Arm, Write, Change}

-- The part number: EF8015h, EF3015h or another.
abbrev pub number_of : Part → ℕ
number_of Jw = 15695893
number_of Xa = 15675413
number_of (Other n) = n

-- The part of a number.
abbrev pub part_of : ℕ → Part
part_of n = cond (n == 15695893) Jw (cond (n == 15675413) Xa (Other n))

-- The bits of SR1, SR2 and SR3 that a part has, less WEL and BUSY: FCh, FBh, E4h and BCh. The others read 0.
abbrev pub bits1 : Part → ℕ
bits1 Jw = 252
bits1 Xa = 188
bits1 (Other n) = 252

abbrev pub bits2 : Part → ℕ
bits2 Jw = 251
bits2 Xa = 0
bits2 (Other n) = 255

abbrev pub bits3 : Part → ℕ
bits3 Jw = 228
bits3 Xa = 0
bits3 (Other n) = 255

-- The lock bits that a part has.
abbrev pub lock_bits : Part → ℕ
lock_bits Jw = 2 ^ 62 - 1
lock_bits Xa = 0
lock_bits (Other n) = 2 ^ 62 - 1

-- All of these at once.
abbrev pub bits_of : Part → Bits
bits_of p = record { registers = record { sr1 = bits1 p; sr2 = bits2 p; sr3 = bits3 p }; locks = lock_bits p }

-- No register bit is set that the part lacks.
abbrev pub Clear : Part → Registers → Type 0
Clear p r = (bit_and r.sr1 (bits1 p) ≡ r.sr1) × ((bit_and r.sr2 (bits2 p) ≡ r.sr2) × (bit_and r.sr3 (bits3 p) ≡ r.sr3))

-- No bit is set that must read 0.
abbrev pub Plain : Face → Type 0
Plain f = Clear f.part f.working × (bit_and f.locks (lock_bits f.part) ≡ f.locks)

-- A face with the bits that the part lacks taken for 0.
abbrev pub plain_face : Face → Face
plain_face f =
    record {
      part = f.part;
      working =
          record {
            sr1 = bit_and f.working.sr1 (bits1 f.part);
            sr2 = bit_and f.working.sr2 (bits2 f.part);
            sr3 = bit_and f.working.sr3 (bits3 f.part);
          };
      locks = bit_and f.locks (lock_bits f.part);
      wp = f.wp;
    }

-- Codes without bytes: 06h, 50h, 04h, 7Eh, 98h.
abbrev pub bare : Part → ℕ → Order
bare Jw code =
    cond (code == 6) (Arm Stored)
    (cond (code == 80) (Arm Volatile)
    (cond (code == 4) (Arm Disarmed)
    (cond (code == 126) (Change LockAll) (cond (code == 152) (Change UnlockAll) Ignored))))
bare Xa code = cond (code == 6) (Arm Stored) (cond (code == 4) (Arm Disarmed) Ignored)
bare (Other n) code = Ignored

-- Codes with one byte: 01h, 31h, 11h.
abbrev pub with_byte : Part → ℕ → ℕ → Order
with_byte Jw code a =
    cond (code == 1) (Write (First a)) (cond (code == 49) (Write (Second a)) (cond (code == 17) (Write (Third a)) Ignored))
with_byte Xa code a = cond (code == 1) (Write (First a)) Ignored
with_byte (Other n) code a = Ignored

-- 01h with two bytes.
abbrev pub with_two : Part → ℕ → ℕ → ℕ → Order
with_two Jw code a b = cond (code == 1) (Write (FirstTwo a b)) Ignored
with_two Xa code a b = Ignored
with_two (Other n) code a b = Ignored

-- 36h and 39h with an address of the array.
abbrev pub at_address : Part → ℕ → ℕ → Order
at_address Jw code address =
    cond (nat_lt address 2097152)
    (cond (code == 54) (Change (Lock (unit_at address))) (cond (code == 57) (Change (Unlock (unit_at address))) Ignored)) Ignored
at_address Xa code address = Ignored
at_address (Other n) code address = Ignored

abbrev pub by_bytes : Part → ℕ → Bytes → Order
by_bytes p code Zero = bare p code
by_bytes p code (One a) = with_byte p code a
by_bytes p code (Two a b) = with_two p code a b
by_bytes p code (Three a b c) = at_address p code (a * 65536 + b * 256 + c)

-- What a command asks of a part: with another count of bytes, or a code that the part lacks, nothing.
unfoldable pub order_of : Part → Command → Order
order_of p m = by_bytes p m.code m.bytes

-- The registers are locked: SRL, or SRP with QE 0 and /WP low.
unfoldable pub locked : Face → Bool
locked f =
    (f.working.sr2 % 2 == 1)
    || (f.working.sr1 / 128 == 1 && (f.working.sr2 / 2 % 2 == 0 && not f.wp))

-- SUS reads 1.
unfoldable pub suspended : Face → Bool
suspended f = f.working.sr2 / 128 == 1

abbrev pub armed : Arming → Bool
armed Disarmed = false
armed Volatile = true
armed Stored = true

abbrev pub armed_stored : Arming → Bool
armed_stored Disarmed = false
armed_stored Volatile = false
armed_stored Stored = true

-- A register write wants an arming, registers that are not locked, and SUS 0; a change of lock bits wants the stored arming.
abbrev pub accepts : Order → Arming → Face → Bool
accepts Ignored a f = false
accepts (Arm b) a f = true
accepts (Write w) a f = armed a && (not (locked f) && not (suspended f))
accepts (Change l) a f = armed_stored a

-- SR2 once a byte is written: CMP, QE and SRL as written, LB bits never fall, SUS stays.
abbrev pub second : Part → ℕ → ℕ → ℕ
second p b old = bit_or (bit_and b (bit_and (bits2 p) 123)) (bit_and old 184)

-- The registers once a write is in.
abbrev pub written : Part → RegisterWrite → Registers → Registers
written p (First a) r = record { sr1 = bit_and a (bits1 p); sr2 = r.sr2; sr3 = r.sr3 }
written p (FirstTwo a b) r = record { sr1 = bit_and a (bits1 p); sr2 = second p b r.sr2; sr3 = r.sr3 }
written p (Second b) r = record { sr1 = r.sr1; sr2 = second p b r.sr2; sr3 = r.sr3 }
written p (Third b) r = record { sr1 = r.sr1; sr2 = r.sr2; sr3 = bit_and b (bits3 p) }

-- What of the registers lasts: all but SRL and SUS.
abbrev pub lasting : Registers → Registers
lasting r = record { sr1 = r.sr1; sr2 = bit_and r.sr2 122; sr3 = r.sr3 }

-- The lock bits once changed; there is no unit above 61.
abbrev pub relocked : Relock → ℕ → ℕ
relocked (Lock u) m = cond (nat_lt u 62) (bit_or m (2 ^ u)) m
relocked (Unlock u) m = cond (nat_lt u 62) (bit_xor m (bit_and m (2 ^ u))) m
relocked LockAll m = 2 ^ 62 - 1
relocked UnlockAll m = 0

-- Only the W25Q16JW has lock bits.
abbrev pub locks_after : Part → Relock → ℕ → ℕ
locks_after Jw l m = relocked l m
locks_after Xa l m = m
locks_after (Other n) l m = m

-- What can be read once an order is taken.
abbrev pub face_after : Order → Face → Face
face_after Ignored f = f
face_after (Arm a) f = f
face_after (Write w) f = record { part = f.part; working = written f.part w f.working; locks = f.locks; wp = f.wp }
face_after (Change l) f = record { part = f.part; working = f.working; locks = locks_after f.part l f.locks; wp = f.wp }

-- The latch once an order is taken: the latest arming counts, and a write or a change ends it.
abbrev pub arming_after : Order → Arming → Arming
arming_after Ignored a = a
arming_after (Arm b) a = b
arming_after (Write w) a = Disarmed
arming_after (Change l) a = Disarmed
