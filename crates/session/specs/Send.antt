-- Sending the commands of a plan: which exchanges are made, and what they leave of the chip and of the picture.
use Rattle.std.specs.Prelude.{ℕ, ◌+◌, Bool, true, false, cond, List, [], ◌∷◌, Ok, Err, Result, ◌==◌, nat_lt}
use Rattle.chip.specs.Effect.{order_of}
use Rattle.chip.specs.Step.{after}
use Rattle.chip.specs.declared.model.Arming.{Arming}
use Rattle.chip.specs.declared.model.Arming.TheVariants.{Disarmed, Volatile, Stored}
use Rattle.chip.specs.declared.model.Command.{Command}
use Rattle.chip.specs.declared.model.Exchange.TheVariants.{Send}
use Rattle.chip.specs.declared.model.Order.{Order}
use Rattle.chip.specs.declared.model.Order.TheVariants.{Ignored, Arm, Write, Change}
use Rattle.chip.specs.declared.model.State.{State}
use Rattle.picture.specs.Shown.{followed, busy_shown}
use Rattle.picture.specs.declared.reading.Reading.{Reading}
use Rattle.refusals.specs.declared.CableFault.{CableFault}
use Rattle.refusals.specs.declared.CableFault.TheVariants.{Down, Busy}
use Rattle.refusals.specs.declared.Sent.{Sent}
use Rattle.session.specs.Asked.{spent, reads, carried_reads, last_busy}

-- The chip, and what is known of it.
pub record World : Type 0 where
  pub state : State
  pub reading : Reading

-- A wait for BUSY 0: how it ends, and what it leaves.
abbrev pub wait_answer : State → Result (Unit {0}) CableFault
wait_answer s = cond (nat_lt s.carry (reads s)) (Err Down) (cond (nat_lt s.busy 100) (Ok tt) (Err Busy))

abbrev pub waited : World → World
waited w =
    record {
      state = spent (carried_reads w.state) w.state;
      reading = busy_shown (last_busy w.state (wait_answer w.state) w.reading.busy) w.reading;
    }

abbrev pub waiting : World → Result (Unit {0}) CableFault × World
waiting w = (wait_answer w.state, waited w)

-- One command, carried.
abbrev pub sent_on : Command → World → World
sent_on m w = record { state = after (Send m) w.state; reading = followed m w.reading }

-- A register write under 06h is waited for.
abbrev pub stores : Order → Arming → Bool
stores Ignored a = false
stores (Arm b) a = false
stores (Write x) Disarmed = false
stores (Write x) Volatile = false
stores (Write x) Stored = true
stores (Change l) a = false

abbrev pub awaits : Command → Reading → Bool
awaits m r = stores (order_of r.face.part m) r.arming

-- What is still to come, unless a wait failed; the fault goes along with the count of commands carried.
abbrev pub unless_failed : Result (Unit {0}) CableFault → ℕ → World → Result (Unit {0}) Sent × World → Result (Unit {0}) Sent × World
unless_failed (Ok u) n w later = later
unless_failed (Err f) n w later = (Err (record { fault = f; carried = n }), w)

-- One command, with the wait that it may want.
abbrev pub one_sent : Command → World → Result (Unit {0}) Sent × World
one_sent m w =
    cond (w.state.carry == 0) (Err (record { fault = Down; carried = 0 }), w)
    (cond (awaits m w.reading)
    (unless_failed (wait_answer (sent_on m w).state) 1 (waited (sent_on m w)) (Ok tt, waited (sent_on m w)))
    (Ok tt, sent_on m w))

abbrev pub and_then : Result (Unit {0}) Sent → World → ℕ → (World → Result (Unit {0}) Sent × World) → Result (Unit {0}) Sent × World
and_then (Ok u) w n later = later w
and_then (Err s) w n later = (Err (record { fault = s.fault; carried = n + s.carried }), w)

-- Further commands after one, unless that failed; n were carried before it.
abbrev pub further : Result (Unit {0}) Sent × World → ℕ → (World → Result (Unit {0}) Sent × World) → Result (Unit {0}) Sent × World
further p n later = and_then p.0 p.1 n later

-- The commands one by one, n of them carried before.
unfoldable pub sends : List Command → ℕ → World → Result (Unit {0}) Sent × World
sends [] n w = (Ok tt, w)
sends (m ∷ ms) n w = further (one_sent m w) n (λ u. sends ms (n + 1) u)

-- A plan: a wait first, even where there is no command.
abbrev pub sending : List Command → World → Result (Unit {0}) Sent × World
sending ms w = unless_failed (wait_answer w.state) 0 (waited w) (sends ms 0 (waited w))
