use Rattle.std.proofs.Common.{◌∙◌, ap}
use Rattle.word_hazards.specs.Views.{View}
use Rattle.word_owners.proofs.owners.Owners.lend_by.Goals as goal

pub validate-requires-clause-own : goal.validate-requires-clause-own
validate-requires-clause-own c = (c.args.hazard, ap (λ (v : View). v.hazard) c.announce.ensures.announced ∙ c.requires.hazard.1)
