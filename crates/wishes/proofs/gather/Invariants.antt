use Rattle.std.proofs.Common.{◌≡◌, ◌+◌, length}
use Rattle.places.specs.Laid.{laid}
use Rattle.text.specs.Fields.{fields_left}
use Rattle.wishes.specs.Wishes.{readable}
use Rattle.wishes.proofs.gather.Given as goal

-- What is still to be laid, after what is, ends as laying all.
abbrev pub invariant-loop-field : goal.invariant-loop-field
invariant-loop-field l =
    record {
      can : (goal.iterator-loop-field).can_next l.field-iterator;
      ends : (goal.iterator-loop-field).is_finite l.field-iterator;
      lies :
          laid l.list.slots.now l.list.len (readable (fields_left l.field-iterator))
          ≡ laid l.initial.list.slots.now l.initial.list.len (readable (fields_left l.fields));
      long :
          l.list.len + length (readable (fields_left l.field-iterator))
          ≡ l.initial.list.len + length (readable (fields_left l.fields));
      size : length l.list.slots.now ≡ length l.initial.list.slots.now;
      same : l.list.slots.ghost_name ≡ l.initial.list.slots.ghost_name;
    }
