-- Worked examples: what codes protect, which code is chosen for a set, and what is planned from what is read.
use Rattle.std.specs.Prelude.{◌≡◌, ◌-◌, ◌^◌, true, false, [], ◌∷◌, Some, None, Ok, Err}
use Rattle.units.specs.Codes.{set_of}
use Rattle.units.specs.Ranges.{touching}
use Rattle.chip.specs.declared.model.Part.TheVariants.{Jw}
use Rattle.chip.specs.declared.model.Face.{Face}
use Rattle.chip.specs.declared.model.Bytes.TheVariants.{Zero, Two, Three}
use Rattle.plan.specs.Plan.{smallest, planned}
use Rattle.plan.specs.declared.wish.Term.TheVariants.{Now, Kept}
use Rattle.refusals.specs.Numbers.{run_number}
use Rattle.refusals.specs.declared.RunFault.TheVariants.{RegisterLock, PinLock}

-- A W25Q16JW with SRP 1 and /WP low, no lock bit set: QE 0, so that /WP locks its registers.
abbrev pub pinned : Face
pinned = record { part = Jw; working = record { sr1 = 0x80; sr2 = 0x00; sr3 = 0x00 }; locks = 0; wp = false }

-- The same with QE 1, so that /WP locks nothing.
abbrev pub quad : Face
quad = record { part = Jw; working = record { sr1 = 0x80; sr2 = 0x02; sr3 = 0x00 }; locks = 0; wp = false }

-- A W25Q16JW with SRL 1, WPS 1 and all lock bits set, /WP high.
abbrev pub frozen : Face
frozen = record { part = Jw; working = record { sr1 = 0x00; sr2 = 0x01; sr3 = 0x04 }; locks = 2 ^ 62 - 1; wp = true }

pub record Cells : Type 0 where
  -- Block 31; its upper half, by two codes; nothing at all.
  pub code_1 : set_of 1 ≡ 0x3fffc00000000000
  pub code_20 : set_of 20 ≡ 0x3fc0000000000000
  pub code_21 : set_of 21 ≡ 0x3fc0000000000000
  pub code_38 : set_of 38 ≡ 0
  -- The lower half of the array is units 0 to 30; codes 13 and 37 give it, and 13 is chosen.
  pub lower_half : touching (record { first = 0x000000; last = 0x0fffff }) ≡ 0x000000007fffffff
  pub code_37 : set_of 37 ≡ 0x000000007fffffff
  pub code_13 : smallest 64 0x000000007fffffff ≡ Some 13
  -- Block 30 alone is unit 45, and has no code.
  pub block_30 : smallest 64 (2 ^ 45) ≡ None
  -- The whole array for now: refused by number 13; with QE 1 written under 50h.
  pub pin_lock : (planned pinned (2 ^ 62 - 1) Now ≡ Err PinLock) × (run_number PinLock ≡ 13)
  pub unpinned :
      planned quad (2 ^ 62 - 1) Now
      ≡ Ok (record { code = 0x50; bytes = Zero } ∷ (record { code = 0x01; bytes = Two 0x98 0x02 } ∷ []))
  -- All but unit 0 for now, by its lock bit; nothing at all, kept, is refused by number 12.
  pub unlock_first :
      planned frozen (2 ^ 62 - 2) Now
      ≡ Ok (record { code = 0x06; bytes = Zero } ∷ (record { code = 0x39; bytes = Three 0x00 0x00 0x00 } ∷ []))
  pub register_lock : (planned frozen 0 Kept ≡ Err RegisterLock) × (run_number RegisterLock ≡ 12)
