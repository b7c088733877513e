-- The sets that the block protection codes give.
-- Assumes nothing.
use Rattle.std.proofs.Common.{◌≡◌, ℕ, ◌^◌, ◌<◌, ◌≤◌, Bool, true, false, T, Bor, List, Some, None, Option, MatchOption, min, if◌then◌else◌, ltb, map, sym, refl, subst, ap, ◌∙◌, arith, ltb→lt}
use Rattle.std.specs.List.{range_with_len}
use Rattle.std.specs.Option.{option_copied}
use Rattle.std.specs.Slice.{IsItemAt}
use Rattle.std.proofs.lemmas.Bool.{cond-false, cond_below, ltb-false}
use Rattle.std.proofs.lemmas.List.FromFn.{get_or-map-range_with_len}
use Rattle.units.specs.Codes.{set_of}
use Rattle.units.proofs.Tests.{each_below}

-- No code protects a unit beyond the last.
pub set_small : (code : ℕ) → code < 64 → set_of code < 2 ^ 62
unfolding set_of
set_small code h = ltb→lt (set_of code) (2 ^ 62) (each_below 64 (λ c. ltb (set_of c) (2 ^ 62)) tt code h)

-- What a code gives that may have more than six bits.
abbrev pub given : ℕ → Option ℕ
given code = if ltb code 64 then Some (set_of code) else None

pub given_small : (code : ℕ) → MatchOption (given code) (64 ≤ code) (λ m. m < 2 ^ 62)
given_small code = by (ltb code 64) refl where
  by : (b : Bool) → ltb code 64 ≡ b → MatchOption (if b then Some (set_of code) else None) (64 ≤ code) (λ m. m < 2 ^ 62)
  by true e = set_small code (ltb→lt code 64 (subst T (sym e) tt))
  by false e = ltb-false code 64 e

-- The table that has each code's set at its place.
abbrev pub table : List ℕ
table = map set_of (range_with_len 0 64)

-- What is looked up in it.
pub row : (code : ℕ) (r : Option (Bor ℕ)) → IsItemAt table code r → option_copied r ≡ given code
row code None h = sym (cond-false (ltb code 64) _ _ (sym h.0))
row code (Some x) h =
    let below : code < 64 = ltb→lt code 64 (subst T h.0 tt) in
    ap Some (h.1 ∙ get_or-map-range_with_len set_of 0 64 code code x.now below (omega arith)) ∙ cond_below code 64 _ _ below

-- The first code that protects just the set, as a search below `top` finds it.
pub smallest : (set codes top : ℕ) (o : Option ℕ) → top ≡ min codes 64 →
    MatchOption o ((k : ℕ) → 0 ≤ k → k < top → k < 64 → set_of k ≡ set → ⊥)
    (λ i. (0 ≤ i) × (i < top) × ((i < 64) × (set_of i ≡ set)) × ((k : ℕ) → 0 ≤ k → k < i → k < 64 → set_of k ≡ set → ⊥)) →
    MatchOption o ((k : ℕ) → k < min codes 64 → set_of k ≡ set → ⊥)
    (λ i. (i < min codes 64) × (set_of i ≡ set) × ((k : ℕ) → k < i → set_of k ≡ set → ⊥))
smallest set codes top None e none = λ k h. none k (omega arith) (omega arith) (omega arith)
smallest set codes top (Some i) e (low, high, found, below) = (omega arith, found.1, λ k h. below k (omega arith) h (omega arith))
