-- What a chip means: how it answers an exchange, and what its state is after it.
use Rattle.std.specs.Prelude.{◌≡◌, ℕ, ◌+◌, ◌-◌, ◌*◌, ◌^◌, ◌<◌, ◌≤◌, Bool, cond, ◌==◌, ◌≢◌, bit_and}
use Rattle.units.specs.Units.{has}
use Rattle.chip.specs.Effect.{number_of, Clear, Plain, order_of, accepts, written, lasting, face_after, arming_after}
use Rattle.chip.specs.declared.model.Part.{Part}
use Rattle.chip.specs.declared.model.Part.TheVariants.{Jw, Xa, Other}
use Rattle.chip.specs.declared.model.Arming.{Arming}
use Rattle.chip.specs.declared.model.Arming.TheVariants.{Disarmed, Volatile, Stored}
use Rattle.chip.specs.declared.model.Registers.{Registers}
use Rattle.chip.specs.declared.model.State.{State}
use Rattle.chip.specs.declared.model.Command.{Command}
use Rattle.chip.specs.declared.model.Question.{Question}
use Rattle.chip.specs.declared.model.Question.TheVariants.{Status1, Status2, Status3, PartNumber, Lock}
use Rattle.chip.specs.declared.model.Exchange.{Exchange}
use Rattle.chip.specs.declared.model.Exchange.TheVariants.{Ask, Send}
use Rattle.chip.specs.declared.model.Answer.{Answer}
use Rattle.chip.specs.declared.model.Answer.TheVariants.{Down, Carried, Value}
use Rattle.chip.specs.declared.model.Order.{Order}
use Rattle.chip.specs.declared.model.Order.TheVariants.{Ignored, Arm, Write, Change}

-- WEL shows the stored arming, and no other.
abbrev pub wel : Arming → ℕ
wel Disarmed = 0
wel Volatile = 0
wel Stored = 1

-- SR1 as it is answered: WEL and BUSY stand in its two low bits.
abbrev pub status1 : State → ℕ
status1 s = s.face.working.sr1 + (2 * wel s.arming + cond (s.busy == 0) 0 1)

-- What a question is answered; while BUSY, all but SR1 are answered with ones.
abbrev pub asked : Question → State → ℕ
asked Status1 s = status1 s
asked Status2 s = cond (s.busy == 0) s.face.working.sr2 255
asked Status3 s = cond (s.busy == 0) s.face.working.sr3 255
asked PartNumber s = cond (s.busy == 0) (number_of s.face.part) 16777215
asked (Lock u) s = cond (s.busy == 0) (has s.face.locks u) 1

-- A read of SR1 is one of those that show BUSY.
abbrev pub polled : Question → State → State
polled Status1 s = record { face = s.face; stored = s.stored; arming = s.arming; busy = s.busy - 1; slow = s.slow; carry = s.carry }
polled Status2 s = s
polled Status3 s = s
polled PartNumber s = s
polled (Lock u) s = s

-- The registers that power brings back, and the busy time, once an order is taken: a write under the stored arming
-- goes into the stored registers too, and takes its time.
abbrev pub stored_after : Order → State → Registers
stored_after Ignored s = s.stored
stored_after (Arm a) s = s.stored
stored_after (Write w) s = cond (wel s.arming == 1) (lasting (written s.face.part w s.stored)) s.stored
stored_after (Change l) s = s.stored

abbrev pub busy_after : Order → State → ℕ
busy_after Ignored s = s.busy
busy_after (Arm a) s = s.busy
busy_after (Write w) s = cond (wel s.arming == 1) s.slow s.busy
busy_after (Change l) s = s.busy

-- The state once an order is taken.
abbrev pub taken : Order → State → State
taken o s =
    record {
      face = face_after o s.face;
      stored = stored_after o s;
      arming = arming_after o s.arming;
      busy = busy_after o s;
      slow = s.slow;
      carry = s.carry;
    }

-- The state once a command has reached a chip that is not busy.
unfoldable pub obeyed : Command → State → State
obeyed m s = cond (accepts (order_of s.face.part m) s.arming s.face) (taken (order_of s.face.part m) s) s

-- The state with one exchange less to carry.
abbrev pub charged : State → State
charged s = record { face = s.face; stored = s.stored; arming = s.arming; busy = s.busy; slow = s.slow; carry = s.carry - 1 }

abbrev pub heard : Exchange → State → Answer
heard (Ask q) s = Value (asked q s)
heard (Send m) s = Carried

abbrev pub moved : Exchange → State → State
moved (Ask q) s = polled q (charged s)
moved (Send m) s = cond (s.busy == 0) (obeyed m (charged s)) (charged s)

-- The answer to an exchange: down once the cable carries no more.
abbrev pub answered : Exchange → State → Answer
answered e s = cond (s.carry == 0) Down (heard e s)

-- The state after an exchange: as it was where the cable carries no more.
abbrev pub after : Exchange → State → State
after e s = cond (s.carry == 0) s (moved e s)

-- The level of /WP is set from outside.
abbrev pub keyed : Bool → State → State
keyed high s =
    record {
      face = record { part = s.face.part; working = s.face.working; locks = s.face.locks; wp = high };
      stored = s.stored;
      arming = s.arming;
      busy = s.busy;
      slow = s.slow;
      carry = s.carry;
    }

-- The lock bits that power leaves: all set, where there are any.
abbrev pub fresh_locks : Part → ℕ → ℕ
fresh_locks Jw m = 2 ^ 62 - 1
fresh_locks Xa m = m
fresh_locks (Other n) m = m

-- Power off and on.
abbrev pub powered : State → State
powered s =
    record {
      face = record { part = s.face.part; working = s.stored; locks = fresh_locks s.face.part s.face.locks; wp = s.face.wp };
      stored = s.stored;
      arming = Disarmed;
      busy = 0;
      slow = s.slow;
      carry = s.carry;
    }

-- What is owed by each part beyond that.
abbrev pub Own : Part → State → Type 0
Own Jw s = Unit {0}
Own Xa s = (s.stored ≡ s.face.working) × (s.arming ≢ Volatile)
Own (Other n) s = (n < 2 ^ 24) × ((n ≢ 15695893) × (n ≢ 15675413))

-- Every state that a chip can be in.
pub record Sound (s : State) : Type 0 where
  pub face : Plain s.face
  pub stored : Clear s.face.part s.stored
  pub lasts : bit_and s.stored.sr2 122 ≡ s.stored.sr2
  pub busy : s.busy ≤ 1000
  pub slow : s.slow ≤ 1000
  pub carry : s.carry ≤ 1000000
  pub own : Own s.face.part s

-- What a chip with this part number owes to an exchange: everything where the part is known,
-- else what SR1 and the part number are answered.
abbrev pub Owes : Part → Exchange → Type 0
Owes Jw e = Unit {0}
Owes Xa e = Unit {0}
Owes (Other n) (Ask Status1) = Unit {0}
Owes (Other n) (Ask Status2) = ⊥
Owes (Other n) (Ask Status3) = ⊥
Owes (Other n) (Ask PartNumber) = Unit {0}
Owes (Other n) (Ask (Lock u)) = ⊥
Owes (Other n) (Send m) = ⊥

abbrev pub Known : Part → Type 0
Known Jw = Unit {0}
Known Xa = Unit {0}
Known (Other n) = ⊥

-- An exchange with a chip: the step where the part owes it, and of any part that its number and /WP stay,
-- that it is down exactly when the cable carries no more, and that each exchange carried costs one.
pub record Exchanged (e : Exchange) (s : State) (r : Answer) (t : State) : Type 0 where
  pub part : t.face.part ≡ s.face.part
  pub level : t.face.wp ≡ s.face.wp
  pub carry : t.carry ≡ s.carry - 1
  pub down : s.carry ≡ 0 → r ≡ Down
  pub up : r ≡ Down → s.carry ≡ 0
  pub step : Owes s.face.part e → (r ≡ answered e s) × (t ≡ after e s)

-- /WP is set: nothing else changes where the part is known; a part that is not keeps its number and its carry.
pub record Keyed (high : Bool) (s t : State) : Type 0 where
  pub part : t.face.part ≡ s.face.part
  pub level : t.face.wp ≡ high
  pub carry : t.carry ≡ s.carry
  pub step : Known s.face.part → t ≡ keyed high s

-- Power off and on: a part that is not known keeps its number, its carry and /WP.
pub record Powered (s t : State) : Type 0 where
  pub part : t.face.part ≡ s.face.part
  pub level : t.face.wp ≡ s.face.wp
  pub carry : t.carry ≡ s.carry
  pub step : Known s.face.part → t ≡ powered s
