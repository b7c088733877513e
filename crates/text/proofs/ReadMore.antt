-- One more digit of a number.
use Rattle.std.proofs.Common.{◌≡◌, ℕ, ◌+◌, ◌*◌, ◌^◌, ◌<◌, ◌≤◌, List, length, get_or, drop, Some, None, Ok, Option, sym, ap, ◌∙◌, add_assoc, mul-le-mul_left, mul-add, add-one, arith}
use Rattle.std.proofs.lemmas.List.{at_drop_more, at_drop_all}
use Rattle.text.specs.Numbers.{digit, read, misread, with_digit}
use native.Mathlib.Nat.{pow-succ', pow-le-pow_right}

module _ (base sum at : ℕ) (xs : List ℕ) (i : ℕ) where
  step : i < length xs
      → read base sum at (drop i xs)
      ≡ with_digit (digit base (get_or xs i 0)) at (λ d. read base (base * sum + d) (at + 1) (drop (i + 1) xs))
  unfolding read
  step h = at_drop_more (read base sum at) xs i 0 h

  read_wrong : i < length xs → digit base (get_or xs i 0) ≡ None → read base sum at (drop i xs) ≡ misread at
  read_wrong h e = step h ∙ ap (λ o. with_digit o at (λ d. read base (base * sum + d) (at + 1) (drop (i + 1) xs))) e

  read_more : (d : ℕ) → i < length xs → digit base (get_or xs i 0) ≡ Some d
      → read base sum at (drop i xs) ≡ read base (base * sum + d) (at + 1) (drop (i + 1) xs)
  read_more d h e = step h ∙ ap (λ o. with_digit o at (λ d. read base (base * sum + d) (at + 1) (drop (i + 1) xs))) e

  read_end : length xs ≤ i → read base sum at (drop i xs) ≡ Ok sum
  unfolding read
  read_end h = at_drop_all (read base sum at) xs i h

-- The digits before the place i of a text told `sum`, and the rest goes on from there.
pub record SoFar (base at : ℕ) (xs : List ℕ) (sum i : ℕ) : Type 0 where
  pub small : sum < base ^ i
  pub same : read base sum (at + i) (drop i xs) ≡ read base 0 at xs

-- One more digit gives a number below the next power.
grows : (base s i : ℕ) → s < base ^ i → base * s + base ≤ base ^ (i + 1)
grows base s i h =
    let e : base ^ (i + 1) ≡ base * base ^ i = rw add-one (pow-succ' base i) in
    let m : base * (s + 1) ≤ base * base ^ i = mul-le-mul_left base (omega arith) in
    omega (arith, mul-add base s 1)

module _ (base at : ℕ) (xs : List ℕ) (sum i : ℕ) (so_far : SoFar base at xs sum i) where
  pub sum_under : (most : ℕ) → 0 < base → i ≤ most → sum < base ^ most
  sum_under most b k = omega (arith, so_far.small, pow-le-pow_right {n = base} b {i = i} {j = most} k)

  -- The number of the digits before the last has room for one more.
  pub sum_room : 0 < base → i < length xs → base * sum + base ≤ base ^ length xs
  sum_room b k =
      let w : i + 1 ≤ length xs = omega arith in
      omega (arith, grows base sum i so_far.small, pow-le-pow_right {n = base} b {i = i + 1} {j = length xs} w)

  -- `o` is what the code made of the byte at i.
  pub sum_wrong : (o : Option ℕ) → i < length xs → o ≡ digit base (get_or xs i 0) → o ≡ None → misread (at + i) ≡ read base 0 at xs
  sum_wrong o h v none = sym (read_wrong base sum (at + i) xs i h (sym v ∙ none)) ∙ so_far.same

  pub sum_more : (o : Option ℕ) (d : ℕ) → i < length xs → o ≡ digit base (get_or xs i 0) → o ≡ Some d → d < base
      → SoFar base at xs (base * sum + d) (i + 1)
  sum_more o d h v some k =
      record {
        small = omega (arith, grows base sum i so_far.small);
        same =
            ap (λ p. read base (base * sum + d) p (drop (i + 1) xs)) (sym (add_assoc at i 1))
            ∙ sym (read_more base sum (at + i) xs i d h (sym v ∙ some))
            ∙ so_far.same;
      }

  pub sum_end : i ≡ length xs → (Ok sum ≡ read base 0 at xs) × (sum < base ^ length xs)
  sum_end e = (sym (read_end base sum (at + i) xs i (omega arith)) ∙ so_far.same, omega (arith, so_far.small, ap (λ k. base ^ k) e))
