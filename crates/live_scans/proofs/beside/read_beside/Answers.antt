use Rattle.std.proofs.Common.{rules, arith, refl, ℕ, Bool, subst, sym, ◌≡◌, ◌∙◌, ◌+◌, inl, inr, cond}
use mathlib.Core.Logic.{dite}
use native.Mathlib.Decide.{ℕ_discrete}
use Rattle.std.proofs.lemmas.List.{length-map}
use Rattle.live_layout.specs.Page.{pairs_of}
use Rattle.live_reads.specs.Paths.{Keeps}
use Rattle.live_reads.proofs.Finds.{keeps_then}
use Rattle.live_scans.specs.inner.Directions.{EndsLeaf}
use Rattle.live_scans.specs.inner.Steps.{IsStep}
use Rattle.live_scans.proofs.Composed.{more_same}
use Rattle.live_scans.proofs.Passes.{leaf_step, leaf_ends, none_more, from_same, nearest_from}
use Rattle.live_scans.proofs.Nexts.{leaf_of, part_up, lower_read, rest_step, none_behind}
use Rattle.live_scans.proofs.beside.read_beside.Given.{Over}
use Rattle.live_scans.proofs.beside.read_beside.Goals as goal
use Rattle.live_scans.proofs.beside.read_beside.Goals.{In_ok-filled, After-has_no_other}

-- THE LEAF was read
module _ (g : Over) (c : In_ok-filled g) where
  abbrev rising : Bool
  rising = c.args.request.bound.up

  step : IsStep rising c.args.seat.now.id c.args.seat.now.view c.read_leaf.new.seat.view c.args.lower.node.key c.args.request.bound.limit c.args.request.start (pairs_of g.P.RangeEntry.pair c.read_leaf.new.buffer) c.in_ok-filled.filled.count (c.part_of-part.result.base + c.in_ok-filled.filled.reached)
  step =
      let id = c.args.seat.now.id in
      let v = c.args.seat.now.view in
      let e = c.in_ok-filled.ensures in
      let o = c.in_ok-filled.filled in
      let f = e.filled in
      let p = c.part_of-part.result in
      let q = c.part_of-part.ensures in
      let n = length-map c.read_leaf.new.buffer g.P.RangeEntry.pair in
      let buffer = pairs_of g.P.RangeEntry.pair c.read_leaf.new.buffer in
      leaf_step rising id id v v c.read_leaf.new.seat.view c.args.lower.node.key c.args.request.bound.limit c.args.request.start p.base p.first p.last o.count o.reached buffer refl (more_same id v.client.seen) q.base.0 q.begins q.within q.whole f.0 (omega (arith, n, f)) f.2 f.3 (omega arith) (λ ne. omega (arith, n, f.4 ne)) e.reads

-- and the keys behind it, or none
module _ (g : Over) (c : After-has_no_other g) where
  abbrev before : In_ok-filled g
  before = (goal.at.After-has_no_other g c).In_ok-filled

  abbrev last : ℕ
  last = c.part_of-part.result.base + c.in_ok-filled.filled.reached

  whole : EndsLeaf c.args.request.bound.up last
  whole = leaf_ends c.args.request.bound.up c.part_of-part.result.base c.in_ok-filled.filled.reached c.part_of-part.ensures.base.0 (c.if-filled-end_byte.false ∙ c.end_byte.ensures)

  keeps : Keeps c.args.seat.now.view c.has_no_other.new.seat.view
  keeps = keeps_then c.args.seat.now.view c.read_leaf.new.seat.view c.has_no_other.new.seat.view c.read_leaf.ensures.keeps c.has_no_other.ensures.keeps

pub read_leaf-requires-clause-open : goal.read_leaf-requires-clause-open
read_leaf-requires-clause-open g c =
    let l = c.args.lower in
    let p = c.part_of-part.result in
    let q = c.part_of-part.ensures in
    leaf_of c.args.seat.now.view c.args.seat.now.book l.node l.here.words.now l.here.taken (p.base + p.first) c.requires.leaf (part_up c.args.request.bound.up p.base p.first p.last l.node.key q.begins q.base.0 q.order (omega arith)) c.requires.lower.child

pub returns-then-filled-buffer-clause-step : goal.returns-then-filled-buffer-clause-step
returns-then-filled-buffer-clause-step g c = step g (goal.at.returns-then-filled-buffer-clause-step g c).In_ok-filled

pub returns-then-not-ends_leaf-clause-step : goal.returns-then-not-ends_leaf-clause-step
returns-then-not-ends_leaf-clause-step g c = step g (goal.at.returns-then-not-ends_leaf-clause-step g c).In_ok-filled

pub has_no_other-requires-clause-lower : goal.has_no_other-requires-clause-lower
has_no_other-requires-clause-lower g c =
    let l = c.args.lower in
    lower_read c.args.request.bound.up c.args.seat.now.view c.read_leaf.new.seat.view c.args.seat.now.book c.read_leaf.new.seat.book c.args.here.words.now c.args.here.taken c.args.at c.args.child l.node l.here.words.now l.here.taken c.read_leaf.ensures.book c.read_leaf.ensures.keeps c.in_ok-filled.ensures.on c.requires.lower

pub returns-then-not-has_no_other-clause-keeps : goal.returns-then-not-has_no_other-clause-keeps
returns-then-not-has_no_other-clause-keeps g c = keeps g (goal.at.returns-then-not-has_no_other-clause-keeps g c).After-has_no_other

pub returns-then-not-has_no_other-clause-step : goal.returns-then-not-has_no_other-clause-step
returns-then-not-has_no_other-clause-step g c =
    let d = (goal.at.returns-then-not-has_no_other-clause-step g c).After-has_no_other in
    let id = c.args.seat.now.id in
    let u = c.args.seat.now.view in
    let v = c.read_leaf.new.seat.view in
    let w = c.has_no_other.new.seat.view in
    let s = step g (before g d) in
    let up = c.args.request.bound.up in
    rest_step up c.read_leaf.new.seat.id id u v w c.args.lower.node.key c.args.request.bound.limit c.args.request.start c.in_ok-filled.filled.count (last g d) (last g d) (pairs_of g.P.RangeEntry.pair c.read_leaf.new.buffer) s (whole g d) c.read_leaf.ensures.id c.read_leaf.ensures.seen
    (none_more up c.read_leaf.new.seat.id v w (last g d) s.reads.legal c.has_no_other.ensures.seen) (from_same up (last g d)) s.within (inl (whole g d))

pub returns-clause-keeps : goal.returns-clause-keeps
returns-clause-keeps g c = keeps g (goal.at.returns-clause-keeps g c).After-has_no_other

pub returns-clause-step : goal.returns-clause-step
returns-clause-step g c =
    let d = (goal.at.returns-clause-step g c).After-has_no_other in
    let id = c.args.seat.now.id in
    let u = c.args.seat.now.view in
    let v = c.read_leaf.new.seat.view in
    let w = c.has_no_other.new.seat.view in
    let s = step g (before g d) in
    let l = c.args.lower in
    let up = c.args.request.bound.up in
    let to = c.end_of-to.result in
    let upto = c.nearer.result in
    let near = c.nearer.ensures in
    let caller = c.read_leaf.new.seat.id in
    let none = c.has_no_other.ensures.none (search rules) in
    let behind = c.ends_leaf.ensures (search rules) in
    let rest = none_behind up caller v w c.args.at l.node c.args.child.0 (last g d) to upto none c.requires.height.0 c.requires.lower.low_byte c.end_of-to.ensures c.requires.leaf c.requires.order s.order (whole g d) near.passed in
    rest_step up caller id u v w l.node.key c.args.request.bound.limit c.args.request.start c.in_ok-filled.filled.count (last g d) upto (pairs_of g.P.RangeEntry.pair c.read_leaf.new.buffer) s (whole g d) c.read_leaf.ensures.id c.read_leaf.ensures.seen
    rest (nearest_from up (last g d) to c.args.request.bound.limit upto behind.0 s.within near.is) near.within
    (elim near.is [ inl e ↦ inl (subst (EndsLeaf up) (sym e) behind.1) | inr same ↦ inr same ])
