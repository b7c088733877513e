use Rattle.std.specs.Prelude.{◌≡◌, ℕ, ◌+◌, ◌<◌, ◌≤◌, max, List, length, Result, MatchResult}
use Rattle.output.specs.declared.Line.{Line}
use Rattle.output.specs.declared.NoRoom.{NoRoom}
use Rattle.places.specs.Laid.{laid}

-- The line writes to the same bytes and counts in the same place, from the same start.
pub record Held (was is : Line) : Type 0 where
  pub bytes : is.bytes.ghost_name ≡ was.bytes.ghost_name
  pub len : is.len.ghost_name ≡ was.len.ghost_name
  pub start : is.start ≡ was.start

-- There was room for the whole text, and it stands after what was there.
pub record Kept (text : List ℕ) (was is : Line) : Type 0 where
  pub room : was.len.now + length text ≤ length was.bytes.now
  pub all : is.bytes.now ≡ laid was.bytes.now was.len.now text
  pub long : is.len.now ≡ was.len.now + length text
  pub held : Held was is

-- The room ended within the text, which is written as far as the bytes reach: the line has come to their end, or stays where it was past it.
pub record Cut (text : List ℕ) (was is : Line) : Type 0 where
  pub room : length was.bytes.now < was.len.now + length text
  pub all : is.bytes.now ≡ laid was.bytes.now was.len.now text
  pub long : is.len.now ≡ max was.len.now (length was.bytes.now)
  pub held : Held was is

-- What a writer of `text` answers and leaves: the whole text if there is room, else a refusal.
abbrev pub Puts : {A : Type 0} → List ℕ → Result A NoRoom → Line → Line → Type 0
Puts text r was is = MatchResult r (λ _. Kept text was is) (λ _. Cut text was is)
