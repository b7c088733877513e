-- What a list over lent places holds, and what writing to it leaves.
use Rattle.std.specs.Prelude.{◌≡◌, ℕ, ◌+◌, ◌≤◌, List, length}
use Rattle.places.specs.Laid.{laid}
use Rattle.places.specs.declared.Places.{Places}

-- These entries stand after those that were there; the places beyond them are as before.
pub record Added {A : Type 0} (entries : List A) (slots : List A) (len : ℕ) (slots' : List A) (len' : ℕ) : Type 0 where
  pub room : len + length entries ≤ length slots
  pub all : slots' ≡ laid slots len entries
  pub long : len' ≡ len + length entries

-- So it is with the list before and after, over the same lent places.
pub record Adds {A : Type 0} (entries : List A) (was is : Places A) : Type 0 where
  pub added : Added entries was.slots.now was.len is.slots.now is.len
  pub lent : is.slots.ghost_name ≡ was.slots.ghost_name
