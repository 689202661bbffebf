use Rattle.spec_olc.specs.Meaning.{meant}
use Rattle.share_machine.proofs.Contents.{one_content}
use Rattle.share_machine.proofs.numbers.EventsU64LentU64U64.law_one_content.Goals as goal

pub returns : goal.returns
returns g c = one_content (meant (λ x. x) c.args.self.now.machine)
