use Rattle.std.proofs.Common.{sym}
use Rattle.tree_links.proofs.PlaceLaws.{taken_link, found_payload}
use Rattle.tree_links.proofs.place.RowNodePlaceLinkedNode.take_payload.Goals as goal

pub returns-clause-before : goal.returns-clause-before
returns-clause-before g c = sym (found_payload c.args.self.now.children c.args.byte c.take_payload.result (sym c.take_payload.ensures.before))

pub returns-clause-after : goal.returns-clause-after
returns-clause-after g c = taken_link c.args.self.now _ c.args.byte c.take_payload.ensures.after
