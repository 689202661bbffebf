use Rattle.std.proofs.Common.{IsSome, sym, subst, ◌∙◌}
use Rattle.spec_olc.proofs.Owed.{read_first, way_ends}
use Rattle.spec_olc.proofs.Steps.{some_is}
use Rattle.spec_olc.specs.State.{CallState}
use Rattle.spec_olc.specs.declared.types.Outcome.TheVariants.{Ask, Decided}
use Rattle.spec_olc.proofs.laws.a_reply_needs_a_read.Goals as goal

pub returns : goal.returns
returns g c = record {
  decided = λ old new id call env report reply here step.
      subst (λ (f : CallState g.P.HasMeaning.Meaning). IsSome f.seen) (some_is step.call call (sym step.in_flight ∙ here))
      (read_first g.P.Payload.always_shared g.P.HasMeaning.same_meaning old new id step.call env report (Decided reply) report.kind step.event tt);
  asked = λ old new id call env report question here step.
      subst (λ (f : CallState g.P.HasMeaning.Meaning). IsSome f.seen) (some_is step.call call (sym step.in_flight ∙ here))
      (read_first g.P.Payload.always_shared g.P.HasMeaning.same_meaning old new id step.call env report (Ask question) report.kind step.event tt);
  ends = λ old new id call env report out reply slot checks ok e there. way_ends _ _ old new id call env report out checks ok reply e slot there;
}
