-- The register bytes that a code is written by: what each setting reads in them, by tests at every byte and code.
use Rattle.std.proofs.Common.{◌≡◌, ℕ, ◌+◌, ◌*◌, ◌/◌, ◌%◌, ◌<◌, ◌≤◌, ◌∙◌, arith}
use lib.Bits.{bit_and, bit_or}
use Rattle.std.proofs.lemmas.Nat.{and_le_r}
use Rattle.units.proofs.Tests.{same_below, same_below2}

-- What lies inside a mask is no greater.
pub inside_le : (x m : ℕ) → bit_and x m ≡ x → x ≤ m
inside_le x m e = let l = and_le_r x m in omega arith

-- A code is CMP and the five bits of SR1.
pub code_joined : (x y c : ℕ) → x ≡ c / 32 → y ≡ c % 32 → x * 32 + y ≡ c
code_joined x y c p q = omega arith

-- SR1 of each part once it is written: r as read, x the five bits of the code.
abbrev pub first_jw : ℕ → ℕ → ℕ
first_jw r x = bit_and (bit_and r 128 + x * 4) 252

abbrev pub first_xa : ℕ → ℕ → ℕ
first_xa r x = bit_and (bit_and r 128 + x * 4) 188

pub first_jw_code : (r x : ℕ) → r < 256 → x < 32 → first_jw r x / 4 % 32 ≡ x
first_jw_code = same_below2 256 32 (λ r x. first_jw r x / 4 % 32) (λ r x. x) tt

pub first_jw_srp : (r x : ℕ) → r < 256 → x < 32 → first_jw r x / 128 ≡ r / 128
first_jw_srp = same_below2 256 32 (λ r x. first_jw r x / 128) (λ r x. r / 128) tt

pub first_xa_code : (r x : ℕ) → r < 256 → x < 16 → first_xa r x / 4 % 32 ≡ x
first_xa_code = same_below2 256 16 (λ r x. first_xa r x / 4 % 32) (λ r x. x) tt

pub first_xa_srp : (r x : ℕ) → r < 256 → x < 16 → first_xa r x / 128 ≡ r / 128
first_xa_srp = same_below2 256 16 (λ r x. first_xa r x / 128) (λ r x. r / 128) tt

-- SR2 once it is written: q as read, y the CMP of the code, k what stood in the register.
abbrev pub second_jw : ℕ → ℕ → ℕ → ℕ
second_jw q y k = bit_or (bit_and (bit_and q 59 + y * 64) 123) (bit_and k 184)

pub second_cmp : (q y : ℕ) → q < 256 → y < 2 → second_jw q y q / 64 % 2 ≡ y
second_cmp = same_below2 256 2 (λ q y. second_jw q y q / 64 % 2) (λ q y. y) tt

pub second_srl : (q y : ℕ) → q < 256 → y < 2 → second_jw q y q % 2 ≡ q % 2
second_srl = same_below2 256 2 (λ q y. second_jw q y q % 2) (λ q y. q % 2) tt

pub second_qe : (q y : ℕ) → q < 256 → y < 2 → second_jw q y q / 2 % 2 ≡ q / 2 % 2
second_qe = same_below2 256 2 (λ q y. second_jw q y q / 2 % 2) (λ q y. q / 2 % 2) tt

pub second_lb : (q y : ℕ) → q < 256 → y < 2 → second_jw q y q / 8 % 8 ≡ q / 8 % 8
second_lb = same_below2 256 2 (λ q y. second_jw q y q / 8 % 8) (λ q y. q / 8 % 8) tt

pub second_sus : (q y : ℕ) → q < 256 → y < 2 → second_jw q y q / 128 ≡ q / 128
second_sus = same_below2 256 2 (λ q y. second_jw q y q / 128) (λ q y. q / 128) tt

-- The stored SR2 is another byte, of which only CMP matters: it is the byte's, and so the code's.
stored_cmp_byte : (b k : ℕ) → b < 128 → k < 128 → bit_and (bit_and (bit_or (bit_and b 123) (bit_and k 184)) 122) 122 / 64 % 2 ≡ b / 64 % 2
stored_cmp_byte = same_below2 128 128 (λ b k. bit_and (bit_and (bit_or (bit_and b 123) (bit_and k 184)) 122) 122 / 64 % 2) (λ b k. b / 64 % 2) tt

byte_cmp : (q y : ℕ) → q < 256 → y < 2 → (bit_and q 59 + y * 64) / 64 % 2 ≡ y
byte_cmp = same_below2 256 2 (λ q y. (bit_and q 59 + y * 64) / 64 % 2) (λ q y. y) tt

pub stored_cmp : (q y k : ℕ) → q < 256 → y < 2 → k < 128 → bit_and (bit_and (second_jw q y k) 122) 122 / 64 % 2 ≡ y
stored_cmp q y k h l m =
    let small = and_le_r q 59 in stored_cmp_byte (bit_and q 59 + y * 64) k (omega arith) m ∙ byte_cmp q y h l

-- SR3 once WPS is written 0.
abbrev pub third_jw : ℕ → ℕ
third_jw d = bit_and (bit_and d 224 + 0 * 4) 228

pub third_wps : (d : ℕ) → d < 256 → third_jw d / 4 % 2 ≡ 0
third_wps = same_below 256 (λ d. third_jw d / 4 % 2) (λ d. 0) tt

pub third_hold : (d : ℕ) → d < 256 → third_jw d / 128 ≡ d / 128
third_hold = same_below 256 (λ d. third_jw d / 128) (λ d. d / 128) tt

pub third_drv : (d : ℕ) → d < 256 → third_jw d / 32 % 4 ≡ d / 32 % 4
third_drv = same_below 256 (λ d. third_jw d / 32 % 4) (λ d. d / 32 % 4) tt
