use Rattle.std.proofs.Common.{ap, get_or, refl, subst, take, ◌∙◌}
use Rattle.spec_node.specs.Key.{IsFirstDifference}
use Rattle.olc_write.specs.inner.Makings.{IsBetween}
use Rattle.olc_write.proofs.Copies.{between_is, empty_node}
use Rattle.olc_write.proofs.making.middle_for.Goals as goal

pub returns : goal.returns
returns g c =
    let m = g.P.HasMeaning.meaning in
    let same = c.prefix-prefix.ensures.bytes ∙ c.base.ensures.prefix in
    subst (λ k. IsBetween m c.args.node.now c.insert-2.new.self k c.args.slot c.args.leaf) c.to_be_bytes-bytes.ensures
    (between_is m c.args.node.now c.to_be_bytes-bytes.result c.fork_at-at.result _ _ c.args.slot c.args.leaf c.in-Ok.middle c.insert.new.self c.insert-2.new.self
    (subst (λ z. IsFirstDifference z c.to_be_bytes-bytes.result c.fork_at-at.result) same c.fork_at-at.ensures)
    (c.in-Ok.ensures ∙ ap (λ z. empty_node (take c.fork_at-at.result z)) same) c.insert.ensures c.insert-2.ensures
    (ap (λ z. get_or z c.fork_at-at.result 0) same) refl)
