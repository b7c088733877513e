use Rattle.std.proofs.Common.{◌≡◌, ◌+◌, length}
use Rattle.text.specs.Fields.{left}
use Rattle.text.proofs.fields.Fields.at_most.Given as goal

-- Of the fields that were left so many are read.
abbrev pub invariant-loop-read : goal.invariant-loop-read
invariant-loop-read l =
    (length (left l.rest).fields + l.read ≡ length (left l.self).fields) × ((left l.rest).size ≡ (left l.self).size)
