use Rattle.word_segments.proofs.Sizes.{within_far}
use Rattle.word_segments.proofs.place.locate_far.Goals as goal

pub returns-clause-within : goal.returns-clause-within
returns-clause-within c = within_far c.args.place c.requires
