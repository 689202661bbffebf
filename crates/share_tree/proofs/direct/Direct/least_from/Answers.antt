use Rattle.std.proofs.Common.{refl, sym, ap, ◌∙◌}
use Rattle.node_table.specs.inner.Kinds.{mapped}
use Rattle.tree_walk.specs.Scan.{first_number, from_key}
use Rattle.share_tree.proofs.First.{none_from, not_absent, pair_from}
use Rattle.share_tree.proofs.direct.Direct.least_from.Goals as goal

pub unreachable-requires : goal.unreachable-requires
unreachable-requires g c =
    let m = g.P.HasMeaning.meaning in
    let key = sym c.in-Some.is ∙ (c.key_from.ensures ∙ ap (λ x. first_number (from_key c.args.start x)) c.tree.ensures.pairs) in
    not_absent m c.args.start c.self.inside.tree.pairs c.in-Some.key c.tree.ensures.ordered key (sym c.in-None-look.ensures)

pub returns-in-None : goal.returns-in-None
returns-in-None g c =
    let m = g.P.HasMeaning.meaning in
    let es = c.self.inside.tree.pairs in
    let key = sym c.in-None.is ∙ (c.key_from.ensures ∙ ap (λ x. first_number (from_key c.args.start x)) c.tree.ensures.pairs) in
    rw (← c.self.view_is) (mapped m es, refl, none_from m c.args.start es key)

pub returns-in-Some-look : goal.returns-in-Some-look
returns-in-Some-look g c =
    let m = g.P.HasMeaning.meaning in
    let es = c.self.inside.tree.pairs in
    let key = sym c.in-Some.is ∙ (c.key_from.ensures ∙ ap (λ x. first_number (from_key c.args.start x)) c.tree.ensures.pairs) in
    rw (← c.self.view_is) (mapped m es, refl, pair_from m c.args.start es c.in-Some.key c.tree.ensures.ordered key (m c.in-Some-look.stored.now) (sym c.in-Some-look.ensures))
