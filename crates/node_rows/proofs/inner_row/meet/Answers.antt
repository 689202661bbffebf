use Rattle.std.proofs.Common.{◌≡◌, ◌∙◌, Some, None, sym, subst}
use Rattle.spec_map.specs.Map.{lookup}
use Rattle.spec_node.specs.Key.{next_byte}
use Rattle.node_table.specs.inner.Kinds.{places}
use Rattle.spec_node.specs.declared.child.Child.TheVariants.{Node}
use Rattle.node_table.proofs.BeginLaws.{begun, parted}
use Rattle.node_table.proofs.KindLaws.{lookup-mapped_some, lookup-mapped_none}
use Rattle.node_base.specs.inner.Sorted.{pairs}
use Rattle.node_rows.proofs.inner_row.meet.Goals as goal

pub returns-then-not-begins : goal.returns-then-not-begins
returns-then-not-begins g c = parted _ _ _ _ c.begins.ensures c.base_of-base.ensures.prefix c.requires.word c.if-not-begins.true

pub returns-in-Some : goal.returns-in-Some
returns-in-Some g c =
    let es = pairs c.args.head.now.keys c.args.row.now.items in
    let same : c.prefix.result.now ≡ c.args.head.now.base.prefix = c.prefix.ensures.bytes ∙ c.base_of-base.ensures.prefix in (
      begun _ _ _ _ c.begins.ensures c.base_of-base.ensures.prefix c.requires.word c.if-not-begins.false,
      c.requires.kind.1,
      subst (λ q. lookup (places {P = g.row.P.Denot} {C = g.row.C.Denot} es) (next_byte q c.args.key.now) ≡ Some (Node c.in-Some.child.now)) same (lookup-mapped_some (λ child. Node child) es _ _ (sym c.in-Some.ensures.found)),
    )

pub returns-in-None : goal.returns-in-None
returns-in-None g c =
    let es = pairs c.args.head.now.keys c.args.row.now.items in
    let same : c.prefix.result.now ≡ c.args.head.now.base.prefix = c.prefix.ensures.bytes ∙ c.base_of-base.ensures.prefix in (
      begun _ _ _ _ c.begins.ensures c.base_of-base.ensures.prefix c.requires.word c.if-not-begins.false,
      c.requires.kind.1,
      subst (λ q. lookup (places {P = g.row.P.Denot} {C = g.row.C.Denot} es) (next_byte q c.args.key.now) ≡ None) same (lookup-mapped_none (λ child. Node child) es _ (sym c.in-None.ensures.found)),
    )
