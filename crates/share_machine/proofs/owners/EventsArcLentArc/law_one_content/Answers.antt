use Rattle.std.specs.Arc.{arc_value}
use Rattle.spec_olc.specs.Meaning.{meant}
use Rattle.share_machine.proofs.Contents.{one_content}
use Rattle.share_machine.proofs.owners.EventsArcLentArc.law_one_content.Goals as goal

pub returns : goal.returns
returns g c = one_content (meant (λ x. arc_value x) c.args.self.now.machine)
