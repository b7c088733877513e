-- A register write sets no bit that the part lacks.
use Rattle.std.proofs.Common.{◌≡◌, ℕ, ◌^◌, ◌<◌, arith}
use lib.Bits.{bit_and, bit_or, and_self}
use Rattle.chip.specs.Effect.{bits2, lock_bits}
use Rattle.chip.specs.declared.model.Part.{Part}
use Rattle.chip.specs.declared.model.Part.TheVariants.{Jw, Xa, Other}
use Rattle.chip.proofs.Ands.{inside, still_inside, both_inside, inside_all, below_all}

-- What is cut to a mask lies inside it.
pub cut : (b x m : ℕ) → x ≡ m → bit_and (bit_and b x) m ≡ bit_and b x
cut b x m e = rw e (inside b m m (and_self m))

-- The bits of SR2 that a write brings are some of those that the part has.
brought : (p : Part) → bit_and (bit_and (bits2 p) 123) (bits2 p) ≡ bit_and (bits2 p) 123
brought p = still_inside (bits2 p) 123 (bits2 p) (and_self (bits2 p))

pub second_inside : (p : Part) (b old x : ℕ) → x ≡ bits2 p → bit_and old (bits2 p) ≡ old →
    bit_and (bit_or (bit_and b (bit_and x 123)) (bit_and old 184)) (bits2 p) ≡ bit_or (bit_and b (bit_and x 123)) (bit_and old 184)
second_inside p b old x e h =
    rw e
    (both_inside (bit_and b (bit_and (bits2 p) 123)) (bit_and old 184) (bits2 p)
    (inside b (bit_and (bits2 p) 123) (bits2 p) (brought p)) (still_inside old 184 (bits2 p) h))

-- The lock bits of the W25Q16JW stay below 2 ^ 62.
pub locks_plain : (p : Part) → p ≡ Jw → (m r : ℕ) → (m < 2 ^ 62 → r < 2 ^ 62) → bit_and m (lock_bits p) ≡ m → bit_and r (lock_bits p) ≡ r
locks_plain Jw e m r h f = inside_all 62 r (h (below_all m f))
locks_plain Xa e m r h f = let z : ◌≡◌ {A = ℕ} 0 1 = cc in let n : ⊥ = omega arith in elim n [ ]
locks_plain (Other k) e m r h f = let z : ◌≡◌ {A = ℕ} 0 1 = cc in let n : ⊥ = omega arith in elim n [ ]
