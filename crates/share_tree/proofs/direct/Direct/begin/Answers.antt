use Rattle.std.proofs.Common.{sym, ap, ◌∙◌}
use Rattle.std.specs.Option.{option_copied_mut}
use Rattle.share_tree.proofs.Counts.{opened_counts}
use Rattle.share_tree.proofs.Current.{all_on, all_with}
use Rattle.share_tree.proofs.direct.Direct.begin.Goals as goal
use Rattle.share_tree.specs.inner.Opened.{outcome_opened}

pub invariant_of-self : goal.invariant_of-self
invariant_of-self g c =
    all_on g.P.HasMeaning.meaning c.self.inside.tree c.open-opened.new.tree c.open-opened.ensures.onward c.self.inside.seats c.self.invariant

pub invariant_of-self-in-Ok-Asks : goal.invariant_of-self-in-Ok-Asks
invariant_of-self-in-Ok-Asks g c =
    let here = sym c.get_mut.ensures.value ∙ ap (λ s. option_copied_mut s) c.in-Some-get_mut.is in
    all_with g.P.HasMeaning.meaning c.self.inside.tree c.open-opened.new.tree c.open-opened.ensures.onward c.self.inside.seats c.args.id
    c.in-Some-get_mut.place.now c.in-Ok-Asks.seat here (rw c.in-Ok-Asks.field-0-is at c.in-Ok-Asks.ensures.current) c.self.invariant

pub invariant_of-self-in-Err : goal.invariant_of-self-in-Err
invariant_of-self-in-Err g c =
    all_on g.P.HasMeaning.meaning c.self.inside.tree c.open-opened.new.tree c.open-opened.ensures.onward c.self.inside.seats c.self.invariant

pub returns-in-Ok-Over-clause-counts : goal.returns-in-Ok-Over-clause-counts
returns-in-Ok-Over-clause-counts g c =
    let counts = opened_counts g.P.HasMeaning.meaning g.P.HasMeaning.same_meaning c.self.inside.tree.pairs c.open-opened.new.tree.pairs c.is_ordered.ensures c.is_ordered-2.ensures c.args.op.now
    (outcome_opened c.in-Ok-Over.field-0) c.in-Ok-Over.ensures.content
    in
    rw (← c.self.view_is, c.event.ensures.outcome) (rw c.in-Ok-Over.field-0-is at counts)

pub returns-in-Some-get_mut-clause-counts : goal.returns-in-Some-get_mut-clause-counts
returns-in-Some-get_mut-clause-counts g c =
    let counts = opened_counts g.P.HasMeaning.meaning g.P.HasMeaning.same_meaning c.self.inside.tree.pairs c.open-opened.new.tree.pairs c.is_ordered.ensures c.is_ordered-2.ensures c.args.op.now
    (outcome_opened c.in-Ok-Asks.field-0) c.in-Ok-Asks.ensures.content
    in
    rw (← c.self.view_is, c.event-in-Ok-Asks.ensures.outcome) (rw c.in-Ok-Asks.field-0-is at counts)
