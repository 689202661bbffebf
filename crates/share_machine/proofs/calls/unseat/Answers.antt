use Rattle.std.proofs.Common.{false}
use Rattle.share_machine.proofs.Seating.{reseated_content}
use Rattle.share_machine.proofs.calls.unseat.Goals as goal

pub returns-clause-content : goal.returns-clause-content
returns-clause-content g c = reseated_content g.P.HasMeaning.meaning c.args.machine.now c.unseat.new.self c.args.id false c.unseat.ensures
