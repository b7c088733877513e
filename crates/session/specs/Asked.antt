-- What a run of questions finds, and what it costs: each that the cable carries, one of its exchanges.
use Rattle.std.specs.Prelude.{◌≡◌, ℕ, ◌+◌, ◌-◌, ◌*◌, ◌<◌, ◌≤◌, min, Bool, cond, is_err, Result, MatchResult, ◌==◌, nat_lt}
use Rattle.chip.specs.Step.{wel, asked, polled, charged}
use Rattle.chip.specs.declared.model.Question.{Question}
use Rattle.chip.specs.declared.model.State.{State}
use Rattle.refusals.specs.declared.CableFault.{CableFault}
use Rattle.refusals.specs.declared.CableFault.TheVariants.{Down, Busy}
use Rattle.session.specs.declared.asking.WaitFault.{WaitFault}

-- The state once n questions are carried, SR1 alone being asked while BUSY shows.
abbrev pub spent : ℕ → State → State
spent n s =
    record { face = s.face; stored = s.stored; arming = s.arming; busy = s.busy - n; slow = s.slow; carry = s.carry - n }

-- So many questions, asked in a row, answer x; or the cable is down before the last of them.
abbrev pub Finds : {X : Type 0} → ℕ → X → State → Result X CableFault → State → Type 0
Finds n x s r t =
    MatchResult r (λ v. (n ≤ s.carry) × ((v ≡ x) × (t ≡ spent n s)))
    (λ f. (s.carry < n) × ((f ≡ Down) × (t ≡ spent s.carry s)))

-- SR1 as it is read once BUSY is 0.
abbrev pub idle_status : State → ℕ
idle_status s = s.face.working.sr1 + 2 * wel s.arming

-- How often SR1 is read before the first other question or command: until BUSY is 0, at most 100 times.
abbrev pub reads : State → ℕ
reads s = cond (nat_lt s.busy 100) (s.busy + 1) 100

abbrev pub GivesUp : State → CableFault → State → Type 0
GivesUp s Down t = (s.carry < reads s) × (t ≡ spent s.carry s)
GivesUp s Busy t = (100 ≤ s.busy) × ((100 ≤ s.carry) × (t ≡ spent 100 s))

-- A wait ends when SR1 shows BUSY 0; it gives up on the hundredth read that does not, or when the cable is down, and then
-- BUSY was seen if there was a read.
abbrev pub Waits : State → Result ℕ WaitFault → State → Type 0
Waits s r t =
    MatchResult r (λ v. (s.busy < 100) × ((s.busy < s.carry) × ((v ≡ idle_status s) × (t ≡ spent (s.busy + 1) s))))
    (λ f. GivesUp s f.fault t × (f.busy ≡ nat_lt 0 s.carry))

-- One question, as the chip's step answers it.
abbrev pub Asks : Question → State → Result ℕ CableFault → State → Type 0
Asks q s r t = MatchResult r (λ v. (0 < s.carry) × ((v ≡ asked q s) × (t ≡ polled q (charged s)))) (λ f. (s.carry ≡ 0) × ((f ≡ Down) × (t ≡ s)))

-- The reads of SR1 that are carried.
abbrev pub carried_reads : State → ℕ
carried_reads s = min s.carry (reads s)

-- BUSY as SR1 was last read: as it was where it was not, and 1 unless the wait ended well.
abbrev pub last_busy : {X : Type 0} → State → Result X CableFault → Bool → Bool
last_busy s r was = cond (carried_reads s == 0) was (is_err r)
