use Rattle.std.proofs.Common.{refl}
use Rattle.spec_olc.specs.Meaning.{in_some, seen_of}
use Rattle.olc_descend.proofs.looking.read_whole.Goals as goal

pub returns-in-Some-clause-reports : goal.returns-in-Some-clause-reports
returns-in-Some-clause-reports g c =
    rw (c.saw.ensures.task, c.saw.ensures.event)
    (record {
      seen = seen_of g.P.HasMeaning.meaning c.in-Some.found.seen;
      spare = in_some g.P.HasMeaning.meaning c.in-Some.found.spare;
      question = in_some g.P.HasMeaning.meaning c.in-Some.found.question;
      looking = c.in-Some.ensures.some;
      is = refl;
    })

pub returns-clause-reports : goal.returns-clause-reports
returns-clause-reports g c = rw (c.refused.ensures.task, c.refused.ensures.event) (c.in-None.ensures.none, refl)
