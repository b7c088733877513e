use Rattle.std.specs.Prelude.{ℕ, zero, suc, List, [], ◌∷◌}

-- A list once another is written over it from the place `at` on, as far as it reaches.
unfoldable pub laid : {A : Type 0} → List A → ℕ → List A → List A
laid [] at text = []
laid (x ∷ xs) zero [] = x ∷ xs
laid (x ∷ xs) zero (b ∷ text) = b ∷ laid xs zero text
laid (x ∷ xs) (suc at) text = x ∷ laid xs at text
