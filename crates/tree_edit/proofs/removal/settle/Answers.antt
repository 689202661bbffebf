use Rattle.std.proofs.Common.{◌≡◌, ◌<◌, length, get_or, map, Some, subst, arith}
use Rattle.std.proofs.lemmas.Bool.{iff_false}
use Rattle.spec_node.specs.TableNode.{TableNode}
use Rattle.node_table.specs.Table.{node_at}
use Rattle.tree_links.specs.SeenTable.{name_of}
use Rattle.tree_edit.specs.inner.Rise.{HasRisen}
use Rattle.tree_edit.proofs.TidyLaws.{counted_here, few_here}
use Rattle.tree_edit.proofs.SettleLaws.{at_name, risen_there, risen_on_trail, leaf_left, settled}
use Rattle.tree_edit.proofs.removal.settle.Goals as goal

pub tidy-requires-clause-begins : goal.tidy-requires-clause-begins
tidy-requires-clause-begins g c =
    let s = c.requires.begins.0 in
    let h = c.requires.begins.1 in
    let root = name_of (get_or c.args.trail.now 0 0) in
    let above = c.args.spot.now.above in
    let forms = c.args.supply.now.forms in (
      s,
      forms,
      h.whole,
      subst (λ i. HasRisen s root c.args.key.now c.args.nodes.now.table i above forms forms) (at_name c.args.trail.now above)
          (risen_on_trail s c.args.nodes.now.table root c.args.key.now (map name_of c.args.trail.now) above (name_of c.args.spot.now.slot) (name_of c.args.spot.now.parent) c.args.byte forms h),
    )

pub returns-then-is_empty-clause-ends : goal.returns-then-is_empty-clause-ends
returns-then-is_empty-clause-ends g c = λ s h.
    let root = name_of (get_or c.args.trail.now 0 0) in
    let above = c.args.spot.now.above in
    let forms = c.args.supply.now.forms in
    c.tidy.ensures.ends s forms h.whole
    (subst (λ i. HasRisen s root c.args.key.now c.args.nodes.now.table i above forms forms) (at_name c.args.trail.now above)
    (risen_on_trail s c.args.nodes.now.table root c.args.key.now (map name_of c.args.trail.now) above (name_of c.args.spot.now.slot) (name_of c.args.spot.now.parent) c.args.byte forms h))

pub shrink_if_due-requires-clause-counted : goal.shrink_if_due-requires-clause-counted
shrink_if_due-requires-clause-counted g c =
    let h = c.requires.begins.1 in
    let r = risen_there c.requires.begins.0 c.args.nodes.now.table (name_of (get_or c.args.trail.now 0 0)) c.args.key.now (map name_of c.args.trail.now) c.args.spot.now.above (name_of c.args.spot.now.slot) (name_of c.args.spot.now.parent) c.args.byte c.args.supply.now.forms h in
    record { node = r.left; here = r.risen.there; counted = counted_here _ _ _ _ _ _ _ _ r _ _ h.whole }

pub shrink_if_due-requires-clause-few : goal.shrink_if_due-requires-clause-few
shrink_if_due-requires-clause-few g c =
    let h = c.requires.begins.1 in
    let r = risen_there c.requires.begins.0 c.args.nodes.now.table (name_of (get_or c.args.trail.now 0 0)) c.args.key.now (map name_of c.args.trail.now) c.args.spot.now.above (name_of c.args.spot.now.slot) (name_of c.args.spot.now.parent) c.args.byte c.args.supply.now.forms h in
    few_here _ _ _ _ _ _ _ _ r _ _ h.whole

pub lower_if_alone-requires : goal.lower_if_alone-requires
lower_if_alone-requires g c =
    let some : (n : TableNode g.row.P.Denot) → node_at c.args.nodes.now.table (name_of c.args.spot.now.slot) ≡ Some n → 0 < length n.children =
    λ n here. let none = iff_false (c.is_empty.ensures n here) c.if-is_empty.false in omega (arith, none) in
    leaf_left c.requires.begins.0 c.args.nodes.now.table (name_of (get_or c.args.trail.now 0 0)) c.args.key.now (map name_of c.args.trail.now) c.args.spot.now.above (name_of c.args.spot.now.slot) (name_of c.args.spot.now.parent) c.args.byte c.args.supply.now.forms c.requires.begins.1
    c.shrink_if_due.new.nodes.table c.shrink_if_due.new.supply.forms c.args.shrinks c.shrink_if_due.ensures.keeps c.shrink_if_due.ensures.thins some

pub returns-clause-ends : goal.returns-clause-ends
returns-clause-ends g c = λ s h.
    let some : (n : TableNode g.row.P.Denot) → node_at c.args.nodes.now.table (name_of c.args.spot.now.slot) ≡ Some n → 0 < length n.children =
    λ n here. let none = iff_false (c.is_empty.ensures n here) c.if-is_empty.false in omega (arith, none) in
    settled s c.args.nodes.now.table (name_of (get_or c.args.trail.now 0 0)) c.args.key.now (map name_of c.args.trail.now) c.args.spot.now.above (name_of c.args.spot.now.slot) (name_of c.args.spot.now.parent) c.args.byte c.args.supply.now.forms h
    c.shrink_if_due.new.nodes.table c.shrink_if_due.new.supply.forms c.args.shrinks c.shrink_if_due.ensures.keeps c.shrink_if_due.ensures.thins some
    c.lower_if_alone.new.nodes.table c.lower_if_alone.ensures
