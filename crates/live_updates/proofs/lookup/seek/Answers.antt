use Rattle.std.proofs.Common.{rules, arith, sym, subst, Some, None, ◌≡◌, ◌∙◌}
use Rattle.live_reads.specs.Paths.{Keeps}
use Rattle.live_reads.specs.Positions.{KnowsPosition, KnowsLast}
use Rattle.live_reads.proofs.Finds.{keeps_then}
use Rattle.live_reads.proofs.Stood.{position_kept, last_kept}
use Rattle.live_updates.specs.inner.Lookups.{IsLeafWith, IsOpenWith}
use Rattle.live_growth.proofs.Ready.{some_by}
use Rattle.live_updates.proofs.Seeks.{found_none, found_some, ends_later, sought_later, sought_none}
use Rattle.live_updates.proofs.lookup.seek.Given.{Over}
use Rattle.live_updates.proofs.lookup.seek.Goals as goal
use Rattle.live_updates.proofs.lookup.seek.Goals.{In_ok-end, After-ends_in}

-- A LEAF was read
ended : (g : Over) (c : After-ends_in g) → (c.ends_in.new.seat.book ≡ c.args.seat.now.book) × (c.ends_in.new.seat.id ≡ c.args.seat.now.id) × Keeps c.args.seat.now.view c.ends_in.new.seat.view
ended g c = let d = c.descend_from.ensures in let t = c.ends_in.ensures in (t.book ∙ d.book, t.id ∙ d.id, keeps_then c.args.seat.now.view c.descend_from.new.seat.view c.ends_in.new.seat.view d.keeps t.keeps)

knows : (g : Over) (c : In_ok-end g) → KnowsPosition c.descend_from.new.seat.view c.args.key c.in_ok-end.end.position
knows g c = c.in_ok-end.ensures.end.0

-- the leaf is the last one then
at_leaf : (g : Over) (c : After-ends_in g) → KnowsLast c.ends_in.new.seat.view (record { key = c.args.key; position = c.in_ok-end.end.position })
at_leaf g c = λ _.
    let low = (knows g (goal.at.After-ends_in g c).In_ok-end).low in
    (position_kept c.descend_from.new.seat.view c.ends_in.new.seat.view c.args.key c.in_ok-end.end.position c.ends_in.ensures.keeps (knows g (goal.at.After-ends_in g c).In_ok-end), omega (arith, low, c.if-height-gt1.false))

pub returns-in_err-end : goal.returns-in_err-end
returns-in_err-end g c =
    let t = c.descend_from.ensures in
    record { book = t.book; id = t.id; keeps = t.keeps; sought = sought_none g.Q.Lookups.lookup c.descend_from.new.seat.book c.from_residual.result c.args.seat.now.view c.descend_from.new.seat.view c.from_residual.ensures t.seen; last = last_kept c.args.seat.now.view c.descend_from.new.seat.view c.args.last.now t.keeps c.requires.last }

pub returns-in-Some : goal.returns-in-Some
returns-in-Some g c =
    let u = c.args.seat.now.view in
    let v = c.descend_from.new.seat.view in
    let w = c.absent_at.new.seat.view in
    let d = c.descend_from.ensures in
    let e = c.absent_at.ensures in
    record { book = e.book ∙ d.book; id = e.id ∙ d.id; keeps = keeps_then u v w d.keeps e.keeps; sought = sought_later g.Q.Lookups.lookup c.absent_at.new.seat.book c.absent_at.result u v w d.seen e.sought; last = last_kept u w c.args.last.now (keeps_then u v w d.keeps e.keeps) c.requires.last }

pub returns-then-height-gt1 : goal.returns-then-height-gt1
returns-then-height-gt1 g c =
    let u = c.args.seat.now.view in
    let v = c.descend_from.new.seat.view in
    let w = c.absent_at-then-height-gt1.new.seat.view in
    let d = c.descend_from.ensures in
    let e = c.absent_at-then-height-gt1.ensures in
    record { book = e.book ∙ d.book; id = e.id ∙ d.id; keeps = keeps_then u v w d.keeps e.keeps; sought = sought_later g.Q.Lookups.lookup c.absent_at-then-height-gt1.new.seat.book c.absent_at-then-height-gt1.result u v w d.seen e.sought; last = last_kept u w c.args.last.now (keeps_then u v w d.keeps e.keeps) c.requires.last }

pub ends_in-requires-clause-open : goal.ends_in-requires-clause-open
ends_in-requires-clause-open g c =
    let low = c.in_ok-end.ensures.end.0.low in
    c.in_ok-end.ensures.leaf (omega (arith, low, c.if-height-gt1.false))

pub returns-in_err-value : goal.returns-in_err-value
returns-in_err-value g c =
    let s = ended g (goal.at.returns-in_err-value g c).After-ends_in in
    let w = c.ends_in.new.seat.view in
    let l = g.Q.Lookups.lookup in
    let none : c.ends_in.result ≡ None = search rules in
    let out : c.from_residual-in_err-value.result ≡ None = search rules in
    let same = found_none l c.ends_in.result c.descend_from.new.seat.view w c.ends_in.ensures.found none in
    record { book = s.0; id = s.1; keeps = s.2; sought = sought_none l c.ends_in.new.seat.book c.from_residual-in_err-value.result c.args.seat.now.view w out (same ∙ c.descend_from.ensures.seen); last = at_leaf g (goal.at.returns-in_err-value g c).After-ends_in }

pub returns-in-Some-2 : goal.returns-in-Some-2
returns-in-Some-2 g c =
    let a = goal.at.returns-in-Some-2 g c in
    let s = ended g a.After-ends_in in
    let v = c.descend_from.new.seat.view in
    let w = c.ends_in.new.seat.view in
    let t = c.ends_in.ensures in
    let l = g.Q.Lookups.lookup in
    let end = c.in_ok-end.end in
    let found = found_some l c.ends_in.result (Some c.in-Some-2.value) v w t.found (search rules) in
    let position = position_kept v w c.args.key end.position t.keeps (knows g a.In_ok-end) in
    let still = IsOpenWith w c.ends_in.new.seat.book end.here.words.now end.here.taken end.position.name c.args.key in
    let with = some_by c.ends_in.result (Some c.in-Some-2.value) (search rules) still c.ends_in.ensures.still in
    let leaf = subst (λ k. IsLeafWith w c.ends_in.new.seat.book k end (Some c.in-Some-2.value)) (sym c.requires.asks.0) (position, with) in
    record { book = s.0; id = s.1; keeps = s.2; sought = (ends_later l.caller (l.entry (Some c.in-Some-2.value)) c.args.seat.now.view v w c.descend_from.ensures.seen found, leaf); last = at_leaf g a.After-ends_in }

pub returns-in-None : goal.returns-in-None
returns-in-None g c =
    let s = ended g (goal.at.returns-in-None g c).After-ends_in in
    let v = c.descend_from.new.seat.view in
    let w = c.ends_in.new.seat.view in
    let l = g.Q.Lookups.lookup in
    let found = found_some l c.ends_in.result None v w c.ends_in.ensures.found (search rules) in
    record { book = s.0; id = s.1; keeps = s.2; sought = ends_later l.caller (l.entry None) c.args.seat.now.view v w c.descend_from.ensures.seen found; last = at_leaf g (goal.at.returns-in-None g c).After-ends_in }
