-- What it is for a wish to be met, what is held on the way, and that a plan is refused exactly where none exists.
use Rattle.std.specs.Prelude.{◌≡◌, ℕ, ◌/◌, ◌%◌, ◌^◌, ◌<◌, false, List, [], ◌∷◌, Ok, Err, Result}
use Rattle.units.specs.Units.{has}
use Rattle.chip.specs.Effect.{Plain, suspended}
use Rattle.chip.specs.Step.{Sound, Known, obeyed, powered}
use Rattle.chip.specs.declared.model.Command.{Command}
use Rattle.chip.specs.declared.model.Face.{Face}
use Rattle.chip.specs.declared.model.Registers.{Registers}
use Rattle.chip.specs.declared.model.State.{State}
use Rattle.picture.specs.Protection.{protected}
use Rattle.plan.specs.Plan.{planned}
use Rattle.plan.specs.declared.wish.Term.{Term}
use Rattle.plan.specs.declared.wish.Term.TheVariants.{Now, Kept}
use Rattle.refusals.specs.declared.RunFault.{RunFault}

-- A chip that reads so: any stored registers and any arming, not busy, and its writes take no time.
pub record Reads (f : Face) (s : State) : Type 0 where
  pub sound : Sound s
  pub face : s.face ≡ f
  pub idle : s.busy ≡ 0
  pub quick : s.slow ≡ 0

-- What commands would make of such a chip.
abbrev pub would : List Command → State → State
would [] s = s
would (m ∷ ms) s = would ms (obeyed m s)

-- SRP, SRL, LB, QE, HOLD/RST and DRV stand as they did.
pub record Stands (r q : Registers) : Type 0 where
  pub srp : q.sr1 / 128 ≡ r.sr1 / 128
  pub srl : q.sr2 % 2 ≡ r.sr2 % 2
  pub qe : q.sr2 / 2 % 2 ≡ r.sr2 / 2 % 2
  pub lb : q.sr2 / 8 % 8 ≡ r.sr2 / 8 % 8
  pub hold : q.sr3 / 128 ≡ r.sr3 / 128
  pub drv : q.sr3 / 32 % 4 ≡ r.sr3 / 32 % 4

-- Just the set is protected, and the other settings stand.
pub record Shows (w : ℕ) (f g : Face) : Type 0 where
  pub just : protected g ≡ w
  pub stands : Stands f.working g.working

-- A wish is met: for now, and for kept after power too.
abbrev pub Met : Term → ℕ → Face → State → Type 0
Met Now w f s = Shows w f s.face
Met Kept w f s = Shows w f s.face × (protected (powered s).face ≡ w)

-- A unit that is protected before and in the wish is protected, and one in neither is not.
pub record Held (before wish after : ℕ) : Type 0 where
  pub kept : (u : ℕ) → u < 62 → has before u ≡ 1 → has wish u ≡ 1 → has after u ≡ 1
  pub free : (u : ℕ) → u < 62 → has before u ≡ 0 → has wish u ≡ 0 → has after u ≡ 0

-- After each of the commands.
abbrev pub Always : (State → Type 0) → List Command → State → Type 0
Always P [] s = Unit {0}
Always P (m ∷ ms) s = P (obeyed m s) × Always P ms (obeyed m s)

-- No list of commands would meet the wish on every chip that reads so.
abbrev pub Unreachable : Face → ℕ → Term → Type 0
Unreachable f w t = (cs : List Command) → ((s : State) → Reads f s → Met t w f (would cs s)) → ⊥

-- These commands meet it on each, and hold what is shared after every one.
pub record Reaches (cs : List Command) (f : Face) (w : ℕ) (t : Term) : Type 0 where
  pub met : (s : State) → Reads f s → Met t w f (would cs s)
  pub held : (s : State) → Reads f s → Always (λ x. Held (protected f) w (protected x.face)) cs s

abbrev pub Verdict : Result (List Command) RunFault → Face → ℕ → Term → Type 0
Verdict (Ok cs) f w t = Reaches cs f w t
Verdict (Err e) f w t = Unreachable f w t

-- For whatever is read of a chip of a known part that is not suspended, and every wish.
abbrev pub Lawful : Face → ℕ → Term → Type 0
Lawful f w t = Known f.part → suspended f ≡ false → w < 2 ^ 62 → Verdict (planned f w t) f w t

abbrev pub Exact : Type 0
Exact = (f : Face) (w : ℕ) (t : Term) → Plain f → Lawful f w t
