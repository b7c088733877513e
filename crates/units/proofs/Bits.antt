-- Sets of units as numbers: what union, intersection, one unit and a run of units have, and that a set is known by its bits.
-- Assumes nothing.
use Rattle.std.proofs.Common.{◌≡◌, ℕ, zero, suc, ◌-◌, ◌/◌, ◌%◌, ◌^◌, ◌<◌, ◌≤◌, min, max, ◌⊎◌, sym, ap, ◌∙◌, inl, inr, ⊎_elim, arith}
use lib.Bits.{bit_and, bit_or}
use Rattle.std.proofs.lemmas.Nat.{pow_pos, and_le_l}
use Rattle.std.proofs.lemmas.Nat.Bits.{bit_at-lt, bit_at-pow_other, bit_at-pow_same, bit_at-suc, bit_at-zero, bit_at_and, bit_at_lowest, bit_at_mask_above, bit_at_mask_below, bit_at_mask_inside, bit_at_or, same_from_bits_below}
use Rattle.std.proofs.lemmas.Bool.{cases_lt}
use Rattle.units.specs.Units.{has}

pub has_bit : (m u : ℕ) → has m u < 2
unfolding has
has_bit = bit_at-lt

pub has_or : (a b u : ℕ) → has (bit_or a b) u ≡ max (has a u) (has b u)
unfolding has
has_or = bit_at_or

pub has_either : (a b u : ℕ) → has (bit_or a b) u ≡ 1 → (has a u ≡ 1) ⊎ (has b u ≡ 1)
has_either a b u e =
    ⊎_elim (λ (l : has a u < 1). inr (omega (arith, has_or a b u))) (λ l. inl (omega (arith, has_bit a u))) (cases_lt (has a u) 1)

pub has_and : (a b u : ℕ) → has (bit_and a b) u ≡ min (has a u) (has b u)
unfolding has
has_and = bit_at_and

pub has_none : (u : ℕ) → has 0 u ≡ 0
unfolding has
has_none = bit_at-zero

-- The set of the units from i up to but not including j.
pub has_run : (i j u : ℕ) → i ≤ u → u < j → has (2 ^ j - 2 ^ i) u ≡ 1
unfolding has
has_run = bit_at_mask_inside

-- And no unit beside it.
pub has_run_only : (i j u : ℕ) → has (2 ^ j - 2 ^ i) u ≡ 1 → (i ≤ u) × (u < j)
unfolding has
has_run_only i j u e = (
  ⊎_elim (λ (l : u < i). let z : ⊥ = omega (arith, bit_at_mask_below i j u l) in absurd z) (λ l. l) (cases_lt u i),
  ⊎_elim (λ l. l) (λ (l : j ≤ u). let z : ⊥ = omega (arith, bit_at_mask_above i j u l) in absurd z) (cases_lt u j),
)

pub has_one : (u : ℕ) → has (2 ^ u) u ≡ 1
unfolding has
has_one = bit_at-pow_same

pub has_other : (u v : ℕ) → (u ≡ v → ⊥) → has (2 ^ u) v ≡ 0
unfolding has
has_other u v n = bit_at-pow_other u v (λ e. n (sym e))

-- Sets of units below k with the same units are the same number.
pub ext : (k a b : ℕ) → a < 2 ^ k → b < 2 ^ k → ((u : ℕ) → u < k → has a u ≡ has b u) → a ≡ b
unfolding has
ext = same_from_bits_below

-- The other units below k.
pub has_complement : (k m u : ℕ) → m < 2 ^ k → u < k → has (2 ^ k - 1 - m) u ≡ 1 - has m u
unfolding has
has_complement zero m u h l = let z : ⊥ = omega arith in absurd z
has_complement (suc k) m zero h l = rw (bit_at_lowest (2 ^ suc k - 1 - m), bit_at_lowest m) (omega (arith, pow_pos k))
has_complement (suc k) m (suc u) h l =
    let e : (2 ^ suc k - 1 - m) / 2 ≡ 2 ^ k - 1 - m / 2 = omega (arith, pow_pos k) in
    rw (bit_at-suc (2 ^ suc k - 1 - m) u, bit_at-suc m u, e) (has_complement k (m / 2) u (omega arith) (omega arith))

-- A set that is not empty has a unit.
pub has_some : (k m : ℕ) → m < 2 ^ k → 0 < m → (u : ℕ) × (u < k) × (has m u ≡ 1)
unfolding has
has_some zero m h l = let z : ⊥ = omega arith in absurd z
has_some (suc k) m h l =
    ⊎_elim
    (λ (e : m % 2 < 1).
    let next = has_some k (m / 2) (omega arith) (omega arith) in
    (suc next.0, omega arith, bit_at-suc m next.0 ∙ next.2))
    (λ (e : 1 ≤ m % 2). (0, omega arith, bit_at_lowest m ∙ omega arith))
    (cases_lt (m % 2) 1)

-- Two sets meet in a unit just if their intersection is not empty.
pub has_both : (k a b : ℕ) → a < 2 ^ k → 0 < bit_and a b → (u : ℕ) × (u < k) × (has a u ≡ 1) × (has b u ≡ 1)
has_both k a b h l =
    let s = has_some k (bit_and a b) (omega (arith, and_le_l a b)) l in
    let x = has_and a b s.0 in
    let y = has_bit a s.0 in
    let z = has_bit b s.0 in
    (s.0, s.1, omega (arith, s.2), omega (arith, s.2))

pub has_not_both : (a b u : ℕ) → bit_and a b ≡ 0 → has a u ≡ 1 → has b u ≡ 1 → ⊥
has_not_both a b u e h l = let n = ap (λ (m : ℕ). has m u) e in omega (arith, has_and a b u, has_none u)
