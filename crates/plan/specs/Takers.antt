-- Places and bare room keep the laws of a sink.
use Rattle.std.proofs.Common.{length-append, arith}
use Rattle.places.specs.Pushed.{Adds}
use Rattle.places.proofs.Pushes.{adds_none, adds_more, adds_room}
use Rattle.plan.specs.Sinks.{SinkLaws, places_left, TakesRoom}

pub places_laws : SinkLaws places_left Adds
places_laws = record { none = adds_none; more = adds_more; counted = adds_room }

pub room_laws : SinkLaws (λ r. r.left) TakesRoom
room_laws = record {
  none = λ r. omega arith;
  more = λ {cs} {ds} p q. let l = length-append cs ds in omega (arith, p, q);
  counted = λ p. p;
}
