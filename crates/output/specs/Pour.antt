use Rattle.std.specs.Prelude.{◌≡◌, ℕ, ◌+◌, ◌<◌, ◌≤◌, Bool, true, false, cond, List, [], ◌∷◌, ◌++◌, length, take, Result, MatchResult, nat_le}
use Rattle.output.specs.declared.NoRoom.{NoRoom}
use Rattle.output.specs.declared.Output.{Output}
use Rattle.places.specs.Laid.{laid}

-- There was room for the line, and it stands after what was there.
pub record Whole (text : List ℕ) (was is : Output) : Type 0 where
  pub room : was.len + length text ≤ length was.bytes.now
  pub all : is.bytes.now ≡ laid was.bytes.now was.len text
  pub long : is.len ≡ was.len + length text
  pub lent : is.bytes.ghost_name ≡ was.bytes.ghost_name

-- There was no room for the line: the length is as it was, and past it the bytes hold what was tried.
pub record Back (text : List ℕ) (was is : Output) : Type 0 where
  pub room : length was.bytes.now < was.len + length text
  pub all : is.bytes.now ≡ laid was.bytes.now was.len text
  pub long : is.len ≡ was.len
  pub lent : is.bytes.ghost_name ≡ was.bytes.ghost_name

-- What saying one line answers and leaves.
abbrev pub Said : {A : Type 0} → List ℕ → Result A NoRoom → Output → Output → Type 0
Said text r was is = MatchResult r (λ _. Whole text was is) (λ _. Back text was is)

-- What is said, the text that is taken back for want of room, and whether there was one.
pub record Paper : Type 0 where
  pub said : List ℕ
  pub lost : List ℕ
  pub full : Bool

-- The texts, after what is said so far, as long as whole ones fit the room.
unfoldable pub pour : List ℕ → ℕ → List (List ℕ) → Paper
pour said room [] = record { said = said; lost = []; full = false }
pour said room (t ∷ ts) =
    cond (nat_le (length said + length t) room)
    (pour (said ++ t) room ts)
    (record { said = said; lost = t; full = true })

-- The texts, after what the output holds, as long as whole ones fit its bytes.
abbrev pub poured : List (List ℕ) → Output → Paper
poured ts was = pour (take was.len was.bytes.now) (length was.bytes.now) ts

-- The output holds the texts that fit, and `full` says whether one did not.
pub record Poured (full : Bool) (ts : List (List ℕ)) (was is : Output) : Type 0 where
  pub all : is.bytes.now ≡ laid was.bytes.now 0 ((poured ts was).said ++ (poured ts was).lost)
  pub long : is.len ≡ length (poured ts was).said
  pub ended : (poured ts was).full ≡ full
  pub lent : is.bytes.ghost_name ≡ was.bytes.ghost_name

-- What saying many texts answers and leaves.
abbrev pub Pours : {A : Type 0} → List (List ℕ) → Result A NoRoom → Output → Output → Type 0
Pours ts r was is = MatchResult r (λ _. Poured false ts was is) (λ _. Poured true ts was is)

-- How many bytes the texts have together.
unfoldable pub total : List (List ℕ) → ℕ
total [] = 0
total (t ∷ ts) = length t + total ts
