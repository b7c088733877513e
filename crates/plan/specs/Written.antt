-- What writing commands into places answers and leaves.
use Rattle.std.specs.Prelude.{◌≡◌, ℕ, ◌<◌, List, length, Ok, Err, Result, MatchResult}
use Rattle.chip.specs.declared.model.Command.{Command}
use Rattle.plan.specs.declared.wish.Route.{Route}
use Rattle.plan.specs.declared.wish.Route.TheVariants.{Nothing, Settings, Locks}
use Rattle.places.specs.Pushed.{Added}
use Rattle.refusals.specs.declared.RunFault.{RunFault}
use Rattle.refusals.specs.declared.RunFault.TheVariants.{Full}

-- A route by a code is by one of six bits.
abbrev pub Codable : Route → Type 0
Codable Nothing = Unit {0}
Codable (Settings c) = c < 64
Codable Locks = Unit {0}

-- The plan stands in the first places and the others are as before; refused, all are.
abbrev pub Plans : Result (List Command) RunFault → Result ℕ RunFault → List Command → List Command → Type 0
Plans (Ok cs) r slots slots' =
    MatchResult r (λ n. (n ≡ length cs) × Added cs slots 0 slots' n)
    (λ f. (f ≡ Full) × ((length slots < length cs) × (slots' ≡ slots)))
Plans (Err e) r slots slots' = (r ≡ Err e) × (slots' ≡ slots)
