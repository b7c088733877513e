-- The laws over the chip's whole step: with questions between the commands, writes that take time, and a cable that may go down.
use Rattle.std.specs.Prelude.{◌≡◌, ℕ, ◌^◌, ◌<◌, ◌≤◌, false, ◌⊎◌, List, [], ◌∷◌, ◌++◌, length, Ok}
use Rattle.chip.specs.Effect.{suspended}
use Rattle.chip.specs.Step.{Sound, Known, after}
use Rattle.chip.specs.declared.model.Command.{Command}
use Rattle.chip.specs.declared.model.Exchange.{Exchange}
use Rattle.chip.specs.declared.model.Exchange.TheVariants.{Ask, Send}
use Rattle.chip.specs.declared.model.Face.{Face}
use Rattle.chip.specs.declared.model.State.{State}
use Rattle.picture.specs.Protection.{protected}
use Rattle.plan.specs.Plan.{planned}
use Rattle.plan.specs.declared.wish.Term.{Term}
use Rattle.laws.specs.Laws.{Met, Held}

-- The state after exchanges.
abbrev pub after_all : List Exchange → State → State
after_all [] s = s
after_all (e ∷ es) s = after_all es (after e s)

-- After each of the exchanges.
abbrev pub Each : (State → Type 0) → List Exchange → State → Type 0
Each P [] s = Unit {0}
Each P (e ∷ es) s = P (after e s) × Each P es (after e s)

-- The commands among exchanges, in their order.
abbrev pub commands : List Exchange → List Command
commands [] = []
commands (Ask q ∷ es) = commands es
commands (Send m ∷ es) = m ∷ commands es

-- Each command is sent when the chip is not busy, or the cable carries no more.
abbrev pub Paced : List Exchange → State → Type 0
Paced [] s = Unit {0}
Paced (Ask q ∷ es) s = Paced es (after (Ask q) s)
Paced (Send m ∷ es) s = ((s.busy ≡ 0) ⊎ (s.carry ≡ 0)) × Paced es (after (Send m) s)

-- A chip of a known part that shows this face, busy or not, with any time for its writes and any count of the cable.
pub record Showing (f : Face) (s : State) : Type 0 where
  pub sound : Sound s
  pub face : s.face ≡ f
  pub known : Known f.part
  pub calm : suspended f ≡ false

-- A plan as far as it was sent, whether it was carried or not, holds what is shared after each exchange.
abbrev pub HeldWhole : Type 0
HeldWhole =
    (f : Face) (w : ℕ) (t : Term) (s : State) (xs : List Exchange) (rest : List Command) → Showing f s → w < 2 ^ 62 →
    planned f w t ≡ Ok (commands xs ++ rest) → Paced xs s → Each (λ x. Held (protected f) w (protected x.face)) xs s

-- A plan that was sent and carried as a whole meets its wish.
abbrev pub MetWhole : Type 0
MetWhole =
    (f : Face) (w : ℕ) (t : Term) (s : State) (xs : List Exchange) → Showing f s → w < 2 ^ 62 →
    planned f w t ≡ Ok (commands xs) → Paced xs s → length xs ≤ s.carry → Met t w f (after_all xs s)
