-- A chip and its picture, as a world, and what a run of exchanges leaves of them.
use Rattle.std.specs.Prelude.{◌≡◌}
use Rattle.chip.specs.Step.{Known}
use Rattle.chip.specs.declared.model.State.{State}
use Rattle.session.specs.Send.{World}
use Rattle.session.specs.declared.send.Link.{Link}

abbrev pub world : {C : Type 0} → (C → State) → Link C → World
world state l = record { state = state l.chip.now; reading = l.picture.reading }

-- A link stays one to the same chip, whose part stays; of a known part, answer and world are those that are told.
pub record Runs {C X : Type 0} (state : C → State) (told : World → X × World) (l : Link C) (answer : X) (m : Link C) : Type 0 where
  pub same_chip : m.chip.ghost_name ≡ l.chip.ghost_name
  pub part : (world state m).state.face.part ≡ (world state l).state.face.part
  pub run : Known (world state l).state.face.part → told (world state l) ≡ (answer, world state m)
