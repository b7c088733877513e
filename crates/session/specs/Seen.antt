-- How the answers to a look's questions are put together.
use Rattle.std.specs.Prelude.{ℕ, ◌/◌, ◌%◌, Bool, false, cond, ◌==◌, bit_and}
use Rattle.chip.specs.declared.model.Part.{Part}
use Rattle.chip.specs.declared.model.Arming.TheVariants.{Disarmed, Stored}
use Rattle.chip.specs.declared.model.State.{State}
use Rattle.picture.specs.declared.reading.Reading.{Reading}
use Rattle.picture.specs.Shown.{masked}
use Rattle.session.specs.declared.rest.Rest.{Rest}

-- SR2, SR3 and the lock bits.
abbrev pub rest_of : State → Rest
rest_of s = record { sr2 = s.face.working.sr2; sr3 = s.face.working.sr3; locks = s.face.locks }

-- What is seen, with SR1 as it was answered.
abbrev pub seen : Part → ℕ → Rest → Bool → Reading
seen p sr1 x wp =
    masked
    (record {
      face = record { part = p; working = record { sr1 = bit_and sr1 252; sr2 = x.sr2; sr3 = x.sr3 }; locks = x.locks; wp = wp };
      arming = cond (sr1 / 2 % 2 == 1) Stored Disarmed;
      busy = false;
    })
