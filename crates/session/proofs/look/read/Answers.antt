use Rattle.std.proofs.Common.{◌≡◌, rules}
use Rattle.chip.specs.declared.model.Part.TheVariants.{Jw, Xa}
use Rattle.session.specs.Asked.{idle_status}
use Rattle.session.specs.Seen.{rest_of}
use Rattle.session.proofs.Pictured.{pictured, nothing_beyond}
use Rattle.session.proofs.look.read.Goals as goal
use Rattle.session.proofs.look.read.Goals.{in-Jw+in_ok-rest-in-Jw, in-Xa}

pub returns-clause-answer : goal.returns-clause-answer
returns-clause-answer g c =
    let s = g.C.Chip.state c.args.chip.now in
    let sound = g.met.C.Chip.sound c.args.chip.now in
    let sr1 : c.in_ok-sr1.sr1 ≡ idle_status s = search rules in
    elim c.match-part.branch [
      | in-Jw+in_ok-rest-in-Jw w ↦
          let part : s.face.part ≡ Jw = search rules in
          let rest : c.match-part.rest ≡ rest_of s = search rules in
          let level : c.level.result ≡ s.face.wp = search rules in
          let shown = pictured s Jw _ _ _ c.picture_of.result.reading sound tt part sr1 rest level (search rules) in
          search rules
      | in-Xa w ↦
          let part : s.face.part ≡ Xa = search rules in
          let rest : c.match-part.rest ≡ rest_of s = search (rules, nothing_beyond s sound part) in
          let level : c.level.result ≡ s.face.wp = search rules in
          let shown = pictured s Xa _ _ _ c.picture_of.result.reading sound tt part sr1 rest level (search rules) in
          search rules
    ]
