-- A simulated chip of either part, read as a chip's state.
use Rattle.chip.specs.declared.model.State.{State}
use Rattle.parts.specs.Holding.{over, jw_held, xa_held}
use Rattle.parts.specs.declared.any.AnyPart.{AnyPart}
use Rattle.parts.specs.declared.any.AnyPart.TheVariants.{Jw, Xa}

abbrev pub any_state : AnyPart → State
any_state (Jw x) = over (jw_held x.memory) x.line
any_state (Xa x) = over (xa_held x.memory) x.line
