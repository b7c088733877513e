use Rattle.std.proofs.Common.{◌≡◌, ℕ, zero, suc, ◌*◌, ◌/◌, ◌%◌, ◌^◌, ◌<◌, ◌≤◌, refl, pow-suc, mul-suc, arith, pow-add, rules}
use native.Mathlib.Nat.{div-eq_of_lt, pow-le-pow_right}
use Rattle.output.proofs.digit_at.Goals as goal

-- A hex digit is four bits.
four_bits : (k : ℕ) → 16 ^ k ≡ 2 ^ (4 * k)
four_bits zero = refl
four_bits (suc k) = rw (pow-suc 16 k, mul-suc 4 k, pow-add 2 (4 * k) 4, four_bits k) refl

-- A number of 64 bits has sixteen hex digits, and above them only zeros.
above : (n k : ℕ) → n < 2 ^ 64 → 16 ≤ k → 0 ≡ n / 16 ^ k % 16
above n k h l =
    let far : 16 ^ 16 ≤ 16 ^ k = pow-le-pow_right (omega arith) l in
    let none : n / 16 ^ k ≡ 0 = div-eq_of_lt (omega arith) in
    rw none refl

pub returns-then-right-lt16 : goal.returns-then-right-lt16
returns-then-right-lt16 c = rw (four_bits c.args.right) (search rules)

pub returns-else-right-lt16 : goal.returns-else-right-lt16
returns-else-right-lt16 c = above c.args.n c.args.right (search rules) (search rules)
