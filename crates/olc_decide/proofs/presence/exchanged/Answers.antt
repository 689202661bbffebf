use Rattle.std.proofs.Common.{sym, ap, ◌∙◌}
use Rattle.spec_olc.specs.Meaning.{in_some}
use Rattle.olc_decide.proofs.presence.exchanged.Goals as goal

pub returns-else-same : goal.returns-else-same
returns-else-same g c = (
  sym (g.met.P.HasMeaning.same_by_meaning c.args.current.now c.args.old.now) ∙ sym (c.if-not-same.ensures),
  (g.P.HasMeaning.meaning c.in-Some.new, ap (in_some g.P.HasMeaning.meaning) c.in-Some.is, sym (g.met.P.HasMeaning.same_by_meaning c.in-Some.new c.args.current.now) ∙ sym (c.if-same.ensures)),
)
