-- What it is to take commands, and the two that do: places, and bare room for so many.
use Rattle.std.specs.Prelude.{◌≡◌, ℕ, ◌+◌, ◌-◌, ◌<◌, List, [], ◌++◌, length, Result, MatchResult}
use Rattle.chip.specs.declared.model.Command.{Command}
use Rattle.places.specs.declared.Places.{Places}
use Rattle.plan.specs.declared.sink.Room.{Room}
use Rattle.refusals.specs.declared.RunFault.{RunFault}
use Rattle.refusals.specs.declared.RunFault.TheVariants.{Full}

-- All of the commands are taken, or there is too little room.
abbrev pub Writes : {S : Type 0} → (S → ℕ) → (List Command → S → S → Type 0) → List Command → Result (Unit {0}) RunFault → S → S → Type 0
Writes room takes cs r was is = MatchResult r (λ _. takes cs was is) (λ f. (f ≡ Full) × (room was < length cs))

-- Commands are taken one after the other, and each takes up one place of the room.
pub record SinkLaws {S : Type 0} (room : S → ℕ) (takes : List Command → S → S → Type 0) : Type 0 where
  pub none : (s : S) → takes [] s s
  pub more : {cs ds : List Command} {s t u : S} → takes cs s t → takes ds t u → takes (cs ++ ds) s u
  pub counted : {cs : List Command} {s t : S} → takes cs s t → room t + length cs ≡ room s

-- The places past the entries.
abbrev pub places_left : Places Command → ℕ
places_left p = length p.slots.now - p.len

-- Bare room only grows less.
abbrev pub TakesRoom : List Command → Room → Room → Type 0
TakesRoom cs was is = is.left + length cs ≡ was.left
