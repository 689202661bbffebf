use Rattle.std.proofs.Common.{◌≡◌, ◌∙◌, ap, sym, subst}
use Rattle.spec_node.specs.Key.{next_byte}
use Rattle.spec_node.specs.TableNode.{TableNode}
use Rattle.node_table.specs.Table.{node_at}
use Rattle.tree_links.specs.Places.{as_linked}
use Rattle.tree_links.specs.SameTree.{GoesOnAt}
use Rattle.tree_links.specs.SeenTable.{name_of}
use Rattle.tree_links.proofs.NodeLaws.{seen_is}
use Rattle.tree_edit.proofs.RemovalLaws.{goes_under}
use Rattle.tree_edit.proofs.SettleLaws.{has_leaf}
use Rattle.tree_edit.proofs.removal.lower_if_alone.Goals as goal

pub lower-requires : goal.lower-requires
lower-requires g c =
    let h = c.requires in
    let s = c.args.nodes.now.table in
    let is = seen_is (node_at s (name_of c.args.parent)) c.args.parent (as_linked c.node.result.now) h.above c.node.ensures h.above_here in
    let prefix = c.prefix.ensures.bytes ∙ c.base.ensures.prefix ∙ ap (λ (n : TableNode g.row.P.Denot). n.prefix) is in
    let one = c.is_alone.ensures h.node h.here c.if-is_alone.true in
    has_leaf s (name_of c.args.parent) (name_of c.args.slot) _ c.args.key.now h (ap (λ p. next_byte p c.args.key.now) prefix) one.0 one.1

pub returns-then-is_alone : goal.returns-then-is_alone
returns-then-is_alone g c = λ root byte tree on.
    let h = c.requires in
    let s = c.args.nodes.now.table in
    let is = seen_is (node_at s (name_of c.args.parent)) c.args.parent (as_linked c.node.result.now) h.above c.node.ensures h.above_here in
    let prefix = c.prefix.ensures.bytes ∙ c.base.ensures.prefix ∙ ap (λ (n : TableNode g.row.P.Denot). n.prefix) is in
    let next : byte ≡ next_byte c.prefix.result.now c.args.key.now = goes_under s root c.args.key.now (name_of c.args.parent) byte h.above on h.above_here ∙ ap (λ p. next_byte p c.args.key.now) (sym prefix) in
    c.lower.ensures.same root c.args.key.now (subst (λ b. GoesOnAt s root c.args.key.now (name_of c.args.parent) b) next on)
