-- Where a text is cut.
use Rattle.std.specs.Prelude.{ℕ, Bool, not, ◌==◌}

-- Any byte but the mark.
abbrev pub other : ℕ → ℕ → Bool
other mark b = not (b == mark)
