-- What the fields of a record say. A number that is well written and not allowed is told at its field's start.
use Rattle.std.specs.Prelude.{ℕ, Bool, true, false, cond, Ok, Err, codes, Result, ◌==◌, bit_and, nat_le}
use Rattle.chip.specs.Effect.{bits1, bits2, bits3, lock_bits}
use Rattle.chip.specs.declared.model.Part.{Part}
use Rattle.chip.specs.declared.model.Part.TheVariants.{Jw, Xa}
use Rattle.chip.specs.declared.model.Start.{Start}
use Rattle.refusals.specs.declared.SheetFault.{SheetFault}
use Rattle.refusals.specs.declared.SheetFault.TheVariants.{Field}
use Rattle.text.specs.Fields.{FieldText, after}
use Rattle.text.specs.Numbers.{hex_of, decimal_of}
use Rattle.records.specs.Records.{ChipText}
use Rattle.std.specs.Str.{bytes_eq}

-- Digits of which only these bits may be set.
abbrev pub bits_in : ℕ → ℕ → FieldText → Result ℕ SheetFault
bits_in width bits f = after (hex_of width f) (λ v. cond (bit_and v bits == v) (Ok v) (Err (Field f.at)))

-- 0 or 1.
abbrev pub level_in : FieldText → Result Bool SheetFault
level_in f = after (hex_of 1 f) (λ v. cond (v == 0) (Ok false) (cond (v == 1) (Ok true) (Err (Field f.at))))

-- A decimal number up to a bound.
abbrev pub count_in : ℕ → ℕ → FieldText → Result ℕ SheetFault
count_in longest most f = after (decimal_of longest f) (λ n. cond (nat_le n most) (Ok n) (Err (Field f.at)))

abbrev pub part_in : FieldText → Result Part SheetFault
part_in f = cond (bytes_eq f.text (codes "JW")) (Ok Jw) (cond (bytes_eq f.text (codes "XA")) (Ok Xa) (Err (Field f.at)))

-- The fields of a chip record, in their order.
abbrev pub values_in : Part → ChipText → Result Start SheetFault
values_in p f =
    after (bits_in 2 (bits1 p) f.sr1) (λ sr1. after (bits_in 2 (bits2 p) f.sr2) (λ sr2.
    after (bits_in 2 (bits3 p) f.sr3) (λ sr3. after (bits_in 16 (lock_bits p) f.locks) (λ locks.
    after (level_in f.wp) (λ wp. after (count_in 4 1000 f.slow) (λ slow. after (count_in 7 1000000 f.carry) (λ carry.
    Ok (record { registers = record { sr1 = sr1; sr2 = sr2; sr3 = sr3 }; locks = locks; wp = wp; slow = slow; carry = carry }))))))))
