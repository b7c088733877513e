-- Masks: `and` distributes over `or`, so what lies inside a mask stays inside it.
use Rattle.std.proofs.Common.{◌≡◌, ℕ, ◌-◌, ◌/◌, ◌^◌, ◌<◌, sym, refl, ap, ◌∙◌, mod-eq_of_lt, arith}
use lib.Bits.{bit_and, bit_or, bit_xor, and_step, or_step, and_shr, or_shr, and_mask, and_le_r, and_comm, and_self, xor_add_and}
use lib.Arith.{bin_ind}
use Rattle.std.proofs.lemmas.Nat.{and_assoc, and-not}
use Rattle.std.specs.Int.{w64, bit_not}

and_over_or : (a b c : ℕ) → bit_and (bit_or a b) c ≡ bit_or (bit_and a c) (bit_and b c)
and_over_or =
    bin_ind (λ n. (b c : ℕ) → bit_and (bit_or n b) c ≡ bit_or (bit_and n c) (bit_and b c)) (λ b c. refl)
    (λ n ih b c.
    let p = or_step n b in
    let q = and_step (bit_or n b) c in
    let r = and_step n c in
    let s = and_step b c in
    let t = or_step (bit_and n c) (bit_and b c) in
    let l : bit_and (bit_or n b / 2) (c / 2) ≡ bit_and (bit_or (n / 2) (b / 2)) (c / 2) =
    ap (λ x. bit_and x (c / 2)) (or_shr n b 1) in
    let m : bit_or (bit_and n c / 2) (bit_and b c / 2) ≡ bit_or (bit_and (n / 2) (c / 2)) (bit_and b c / 2) =
    ap (λ x. bit_or x (bit_and b c / 2)) (and_shr n c 1) in
    let k : bit_or (bit_and (n / 2) (c / 2)) (bit_and b c / 2) ≡ bit_or (bit_and (n / 2) (c / 2)) (bit_and (b / 2) (c / 2)) =
    ap (bit_or (bit_and (n / 2) (c / 2))) (and_shr b c 1) in
    let h = ih (b / 2) (c / 2) in
    omega arith)

-- What is cut to a mask lies inside every mask that holds it.
pub inside : (v m b : ℕ) → bit_and m b ≡ m → bit_and (bit_and v m) b ≡ bit_and v m
inside v m b e = and_assoc b v m ∙ ap (bit_and v) e

-- What lies inside a mask does so when it is cut further.
pub still_inside : (x m b : ℕ) → bit_and x b ≡ x → bit_and (bit_and x m) b ≡ bit_and x m
still_inside x m b e = and_assoc b x m ∙ ap (bit_and x) (and_comm m b) ∙ sym (and_assoc m x b) ∙ ap (λ z. bit_and z m) e

-- Two numbers inside a mask have their `or` inside it.
pub both_inside : (x y b : ℕ) → bit_and x b ≡ x → bit_and y b ≡ y → bit_and (bit_or x y) b ≡ bit_or x y
both_inside x y b e f = and_over_or x y b ∙ ap (λ z. bit_or z (bit_and y b)) e ∙ ap (bit_or x) f

-- A number below 2 ^ k is all inside the mask of k bits, and the other way round.
pub inside_all : (k n : ℕ) → n < 2 ^ k → bit_and n (2 ^ k - 1) ≡ n
inside_all k n h = and_mask n k ∙ mod-eq_of_lt h

pub below_all : (n : ℕ) → bit_and n 4611686018427387903 ≡ n → n < 2 ^ 62
below_all n e = let l = and_le_r n 4611686018427387903 in omega arith

-- The bits of a number that another lacks.
pub lacked : (n m : ℕ) → n < 2 ^ 64 → m < 2 ^ 62 → bit_and n (bit_not w64 m) ≡ bit_xor n (bit_and n m)
lacked n m h k =
    let parts = and-not 64 m n (omega arith) h in
    let apart = xor_add_and n (bit_and n m) in
    let twice : bit_and n (bit_and n m) ≡ bit_and n m =
    and_comm n (bit_and n m) ∙ still_inside n m n (and_self n) in
    omega (arith, parts, apart, twice, and_comm m n, and_comm (bit_not w64 m) n)
