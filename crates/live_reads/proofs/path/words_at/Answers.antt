use Rattle.std.proofs.Common.{ap, subst, ◌+◌, ◌∙◌}
use Rattle.word_segments.specs.Segments.{AreWords}
use Rattle.live_layout.specs.Encodes.{words_of}
use Rattle.live_reads.proofs.Views.{if_some, name_slot}
use Rattle.live_reads.proofs.path.words_at.Goals as goal

pub returns : goal.returns
returns c = if_some c.span.result (λ words h. λ a named. (
  h.0 ∙ ap (λ x. x + 1) (c.words_in.ensures ∙ ap words_of (c.form_below.ensures a.shape.key a.shape.form named)),
  subst (λ k. AreWords k c.args.nodes.now words.now) (c.slot_below.ensures a.shape.key (name_slot a c.args.name named)) h.1,
)) c.span.ensures
