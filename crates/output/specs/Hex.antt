use Rattle.std.specs.Prelude.{ℕ, zero, suc, ◌+◌, ◌/◌, ◌%◌, ◌^◌, cond, List, [], ◌∷◌, nat_lt}

-- The sign of a digit below 16: 0 to 9, then A to F.
abbrev pub sign : ℕ → ℕ
sign d = cond (nat_lt d 10) (48 + d) (55 + d)

-- The low hex digits of `n`, `width` of them.
unfoldable pub hex : ℕ → ℕ → List ℕ
hex zero n = []
hex (suc right) n = sign (n / 16 ^ right % 16) ∷ hex right n
