-- What a picture shows.
use Rattle.std.specs.Prelude.{ℕ, ◌+◌, ◌*◌, Bool, true, false, cond, bit_and}
use Rattle.chip.specs.Effect.{plain_face, order_of, accepts, face_after, arming_after}
use Rattle.chip.specs.declared.model.Command.{Command}
use Rattle.chip.specs.Step.{wel}
use Rattle.picture.specs.declared.reading.Reading.{Reading}

-- A reading with the bits that the part lacks taken for 0.
abbrev pub masked : Reading → Reading
masked r = record { face = plain_face r.face; arming = r.arming; busy = r.busy }

-- A reading once the level of /WP is set.
abbrev pub rekeyed : Bool → Reading → Reading
rekeyed high r =
    record {
      face = record { part = r.face.part; working = r.face.working; locks = r.face.locks; wp = high };
      arming = r.arming;
      busy = r.busy;
    }

abbrev pub bit_of : Bool → ℕ
bit_of true = 1
bit_of false = 0

-- SR1 with WEL and BUSY in its two low bits.
abbrev pub status_shown : Reading → ℕ
status_shown r = bit_and r.face.working.sr1 252 + (2 * wel r.arming + bit_of r.busy)

-- A reading once a command was carried: it follows what the chip does, BUSY stays as SR1 was last read.
unfoldable pub followed : Command → Reading → Reading
followed m r =
    cond (accepts (order_of r.face.part m) r.arming r.face)
    (record {
      face = face_after (order_of r.face.part m) r.face;
      arming = arming_after (order_of r.face.part m) r.arming;
      busy = r.busy;
    })
    r

-- A reading once SR1 was read again.
abbrev pub busy_shown : Bool → Reading → Reading
busy_shown b r = record { face = r.face; arming = r.arming; busy = b }
