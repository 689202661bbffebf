use Rattle.std.proofs.Common.{map, refl, subst, sym, true}
use Rattle.node_table.proofs.KeyLaws.{AreBytes-from_items}
use Rattle.tree_path.specs.inner.Descent.{SeeksTo}
use Rattle.tree_edit.specs.inner.Rise.{IsRemoval, IsWholeBefore}
use Rattle.tree_edit.proofs.CallLaws.{removes_nothing}
use Rattle.tree_links.specs.SeenTable.{name_of}
use Rattle.tree_links.specs.Seeks.{seen_end}
use Rattle.tree_edit.proofs.RemovedLaws.{root_first, whole_before, taken_out}
use Rattle.tree_edit.proofs.tree.Tree.remove.Goals as goal

pub take_out-requires-clause-spot : goal.take_out-requires-clause-spot
take_out-requires-clause-spot g c =
    let x = c.seek_along-spot.ensures in
    subst (λ r. SeeksTo c.self.inside.nodes.table r c.args.key.now (seen_end c.args.key.now c.seek_along-spot.result)) (sym (root_first _ _ _ _ _ x.trail)) x.ends

pub take_out-requires-clause-whole : goal.take_out-requires-clause-whole
take_out-requires-clause-whole g c =
    let x = c.seek_along-spot.ensures in
    subst (λ r. IsWholeBefore c.self.inside.nodes.table r c.args.key.now (map name_of c.seek_along-spot.new.trail) c.seek_along-spot.result.above c.self.inside.supply.forms) (sym (root_first _ _ _ _ _ x.trail))
    (whole_before g.A.Allocator.charge _ _ c.self.inside.supply _ c.self.invariant _ c.self.view_is c.args.key.now (AreBytes-from_items _ (λ k l. c.fits-key k)) c.told-key _ _ x.trail)

pub returns-in_default-clause-removes : goal.returns-in_default-clause-removes
returns-in_default-clause-removes g c =
    let e = c.in_default.ensures in
    rw (e.same, e.unchanged, c.self.view_is) (removes_nothing g.A.Allocator.charge _ _ _ _ c.self.invariant _ c.self.view_is _ (AreBytes-from_items _ (λ k l. c.fits-key k)) c.told-key _ c.seek_along-spot.ensures.ends e.none)

pub overflow_sub-self : goal.overflow_sub-self
overflow_sub-self g c =
    let e = c.in-Some.ensures in
    let x = c.seek_along-spot.ensures in
    let removal = subst (λ r. IsRemoval c.self.inside.nodes.table r c.args.key.now true c.take_out.new.nodes.table c.take_out.new.supply.forms) (root_first _ _ _ _ _ x.trail) (e.taken refl) in
    let y = taken_out g.A.Allocator.charge _ _ _ _ c.self.invariant _ c.self.view_is _ (AreBytes-from_items _ (λ k l. c.fits-key k)) c.told-key _ x.ends _ c.take_out.new.nodes.table _ c.take_out.new.supply e.before removal c.take_out.ensures.alike in
    y.some

pub invariant_of-self-2 : goal.invariant_of-self-2
invariant_of-self-2 g c =
    let e = c.in-Some.ensures in
    let x = c.seek_along-spot.ensures in
    let removal = subst (λ r. IsRemoval c.self.inside.nodes.table r c.args.key.now true c.take_out.new.nodes.table c.take_out.new.supply.forms) (root_first _ _ _ _ _ x.trail) (e.taken refl) in
    let y = taken_out g.A.Allocator.charge _ _ _ _ c.self.invariant _ c.self.view_is _ (AreBytes-from_items _ (λ k l. c.fits-key k)) c.told-key _ x.ends _ c.take_out.new.nodes.table _ c.take_out.new.supply e.before removal c.take_out.ensures.alike in
    y.whole

pub returns-clause-removes : goal.returns-clause-removes
returns-clause-removes g c =
    let e = c.in-Some.ensures in
    let x = c.seek_along-spot.ensures in
    let removal = subst (λ r. IsRemoval c.self.inside.nodes.table r c.args.key.now true c.take_out.new.nodes.table c.take_out.new.supply.forms) (root_first _ _ _ _ _ x.trail) (e.taken refl) in
    let y = taken_out g.A.Allocator.charge _ _ _ _ c.self.invariant _ c.self.view_is _ (AreBytes-from_items _ (λ k l. c.fits-key k)) c.told-key _ x.ends _ c.take_out.new.nodes.table _ c.take_out.new.supply e.before removal c.take_out.ensures.alike in
    rw c.release_slots.ensures (y.removes)
