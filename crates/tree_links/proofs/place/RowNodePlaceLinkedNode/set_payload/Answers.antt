use Rattle.std.proofs.Common.{◌+◌, refl, subst, sym}
use Rattle.node_base.specs.Form.{Fits}
use Rattle.spec_node.specs.declared.child.Child.TheVariants.{Payload}
use Rattle.node_table.proofs.KindLaws.{length-mapped, lookup-mapped_none, fits_here, if_ok, on_ok, on_err}
use Rattle.tree_links.specs.Places.{as_link}
use Rattle.tree_links.specs.declared.link.Link.TheVariants as links
use Rattle.tree_links.proofs.PlaceLaws.{put_link, found_payload}
use Rattle.tree_links.proofs.place.RowNodePlaceLinkedNode.set_payload.Goals as goal

pub returns-clause-before : goal.returns-clause-before
returns-clause-before g c =
    if_ok c.set_payload.result (λ before. found_payload c.args.self.now.children c.args.byte before) c.set_payload.ensures.before

pub returns-clause-room : goal.returns-clause-room
returns-clause-room g c =
    if_ok c.set_payload.result
    (λ before room none. subst (λ k. Fits c.args.self.now.form (k + 1)) (sym (length-mapped as_link c.args.self.now.children)) (room none))
    c.set_payload.ensures.room

pub returns-clause-after : goal.returns-clause-after
returns-clause-after g c =
    on_ok c.set_payload.result
    (put_link c.args.self.now c.set_payload.new.self c.args.byte (Payload c.args.payload) (links.Payload c.args.payload) refl)
    c.set_payload.ensures.after

pub returns-clause-absent : goal.returns-clause-absent
returns-clause-absent g c =
    on_err c.set_payload.result (lookup-mapped_none as_link c.args.self.now.children c.args.byte) c.set_payload.ensures.absent

pub returns-clause-full : goal.returns-clause-full
returns-clause-full g c =
    on_err c.set_payload.result
    (λ full fits. full (fits_here as_link c.args.self.now.form c.args.self.now.children 1 fits))
    c.set_payload.ensures.full
