use Rattle.std.proofs.Common.{rules, arith, subst, ◌≡◌, ◌∙◌, ℕ, Some}
use Rattle.live_layout.specs.Page.{pairs_of}
use Rattle.live_reads.proofs.Finds.{keeps_then}
use Rattle.live_scans.specs.inner.Moments.{HasNone}
use Rattle.live_scans.specs.inner.Nexts.{IsOutside, Chooses}
use Rattle.live_scans.specs.declared.next.Turn.TheVariants as turns
use Rattle.live_scans.proofs.Passes.{seen_equal, Stays, stays_then}
use Rattle.live_scans.proofs.Composed.{none_since}
use Rattle.live_scans.proofs.Nexts.{visits_of, none_up_to, passed_before, before_some, lower_as}
use Rattle.live_scans.proofs.next.beside.Given.{Over}
use Rattle.live_scans.proofs.next.beside.Goals as goal
use Rattle.live_scans.proofs.next.beside.Goals.{After-watch_next, After-is_still, In_ok-last, In-Goes}

-- WHAT STAYS, step by step
module _ (g : Over) (c : After-watch_next g) where
  watched : Stays c.args.seat.now.book c.watch_next.new.seat.book c.args.seat.now.id c.watch_next.new.seat.id c.args.seat.now.view c.watch_next.new.seat.view
  watched =
      let t = c.meet_under.ensures in
      let u = c.watch_next.ensures in
      (u.book ∙ t.book, u.id ∙ t.id, keeps_then c.args.seat.now.view c.meet_under.new.seat.view c.watch_next.new.seat.view t.keeps u.keeps, seen_equal c.args.seat.now.id c.args.seat.now.view c.watch_next.new.seat.view (u.seen ∙ t.seen))

module _ (g : Over) (c : After-is_still g) where
  still : Stays c.args.seat.now.book c.is_still.new.seat.book c.args.seat.now.id c.is_still.new.seat.id c.args.seat.now.view c.is_still.new.seat.view
  still =
      let t = c.is_still.ensures in
      stays_then c.args.seat.now.book c.watch_next.new.seat.book c.is_still.new.seat.book c.args.seat.now.id c.watch_next.new.seat.id c.is_still.new.seat.id c.args.seat.now.view c.watch_next.new.seat.view c.is_still.new.seat.view (watched g (goal.at.After-is_still g c).After-watch_next) (t.book, t.id, t.keeps, t.seen)

-- none is before the child
module _ (g : Over) (c : In_ok-last g) where
  none : HasNone c.args.seat.now.id c.args.seat.now.view c.is_still.new.seat.view (IsOutside c.args.request.bound.up c.args.at c.args.child.0 c.in_ok-lower.lower.node)
  none =
      let before = watched g (goal.at.In_ok-last g c).After-watch_next in
      let v₂ = c.watch_next.new.seat.view in
      let v₃ = c.is_still.new.seat.view in
      let Outside = IsOutside c.args.request.bound.up c.args.at c.args.child.0 c.in_ok-lower.lower.node in
      none_since c.args.seat.now.id c.args.seat.now.view v₂ v₃ Outside before.3 (subst (λ (z : ℕ). HasNone z v₂ v₃ Outside) before.1 (c.if-not-is_still.ensures.none (search rules)))

-- which is next
module _ (g : Over) (c : In-Goes g) where
  turned : Chooses c.args.request.bound.up c.args.at c.args.child.0 c.in_ok-lower.lower.node (Some (turns.Goes c.in-Goes.node))
  turned = let chosen : c.choose.result ≡ Some (turns.Goes c.in-Goes.node) = search rules in subst (Chooses c.args.request.bound.up c.args.at c.args.child.0 c.in_ok-lower.lower.node) chosen c.choose.ensures

pub watch_next-requires-clause-near : goal.watch_next-requires-clause-near
watch_next-requires-clause-near g c = c.meet_under.ensures.near (search rules)

pub returns-in_err-lower-clause-keeps : goal.returns-in_err-lower-clause-keeps
returns-in_err-lower-clause-keeps g c = (watched g (goal.at.returns-in_err-lower-clause-keeps g c).After-watch_next).2

pub returns-then-not-is_still-clause-keeps : goal.returns-then-not-is_still-clause-keeps
returns-then-not-is_still-clause-keeps g c = (still g (goal.at.returns-then-not-is_still-clause-keeps g c).After-is_still).2

pub returns-in_err-last-clause-keeps : goal.returns-in_err-last-clause-keeps
returns-in_err-last-clause-keeps g c = (still g (goal.at.returns-in_err-last-clause-keeps g c).After-is_still).2

pub returns-then-is_beyond-clause-keeps : goal.returns-then-is_beyond-clause-keeps
returns-then-is_beyond-clause-keeps g c = (still g (goal.at.returns-then-is_beyond-clause-keeps g c).After-is_still).2

pub returns-in-Past-clause-keeps : goal.returns-in-Past-clause-keeps
returns-in-Past-clause-keeps g c = (still g (goal.at.returns-in-Past-clause-keeps g c).After-is_still).2

pub returns-in-Past-clause-visits : goal.returns-in-Past-clause-visits
returns-in-Past-clause-visits g c =
    let at = c.args.at in
    let byte = c.args.child.0 in
    let d = c.in_ok-lower.lower.node in
    let chosen : c.choose.result ≡ Some (turns.Past c.in-Past.last) = search rules in
    let up = c.args.request.bound.up in
    let h = subst (Chooses up at byte d) chosen c.choose.ensures in record {
      order = h.0;
      seam = h.1;
      reads = none_up_to up c.args.seat.now.id c.args.seat.now.view c.is_still.new.seat.view (IsOutside up at byte d) at.key c.in-Past.last (none g (goal.at.returns-in-Past-clause-visits g c).In_ok-last) h.2;
    }

pub key_before-requires : goal.key_before-requires
key_before-requires g c = record { some = before_some c.args.request.bound.up c.args.request.bound.limit c.in-Goes.node.key (omega arith) (c.is_beyond.ensures.yes (search rules)) }

pub returns-then-is_beyond-clause-visits : goal.returns-then-is_beyond-clause-visits
returns-then-is_beyond-clause-visits g c =
    let at = c.args.at in
    let byte = c.args.child.0 in
    let d = c.in_ok-lower.lower.node in
    let n = c.in-Goes.node in
    let up = c.args.request.bound.up in
    let h = turned g (goal.at.returns-then-is_beyond-clause-visits g c).In-Goes in
    passed_before up c.args.seat.now.id c.args.seat.now.view c.is_still.new.seat.view at byte d n c.args.request.bound.limit c.key_before.result (none g (goal.at.returns-then-is_beyond-clause-visits g c).In_ok-last) h c.requires.order (c.is_beyond.ensures.yes (search rules)) c.key_before.ensures

pub enter_lower-requires-clause-lower : goal.enter_lower-requires-clause-lower
enter_lower-requires-clause-lower g c =
    let d = c.in_ok-lower.lower.node in
    let h = turned g (goal.at.enter_lower-requires-clause-lower g c).In-Goes in
    let l = c.in_ok-lower.lower.here in
    lower_as c.args.request.bound.up c.is_still.new.seat.view c.is_still.new.seat.book c.args.here.words.now c.args.here.taken c.args.at c.args.child d c.in-Goes.node l.words.now l.taken h.0 h.1 h.6 (c.if-not-is_still.ensures.lower (search rules))

pub enter_lower-requires-clause-low : goal.enter_lower-requires-clause-low
enter_lower-requires-clause-low g c =
    let h = turned g (goal.at.enter_lower-requires-clause-low g c).In-Goes in
    let e = h.1 in
    let low = h.2 in
    let high = h.3 in
    (omega (arith, e, low), omega (arith, e, high))

pub enter_lower-requires-clause-order : goal.enter_lower-requires-clause-order
enter_lower-requires-clause-order g c = (turned g (goal.at.enter_lower-requires-clause-order g c).In-Goes).4

pub enter_lower-requires-clause-within : goal.enter_lower-requires-clause-within
enter_lower-requires-clause-within g c = c.is_beyond.ensures.no (search rules)

pub returns-else-is_beyond : goal.returns-else-is_beyond
returns-else-is_beyond g c =
    let at = goal.at.returns-else-is_beyond g c in
    let t = still g at.After-is_still in
    let e = c.enter_lower.ensures in
    let all = stays_then c.args.seat.now.book c.is_still.new.seat.book c.enter_lower.new.seat.book c.args.seat.now.id c.is_still.new.seat.id c.enter_lower.new.seat.id c.args.seat.now.view c.is_still.new.seat.view c.enter_lower.new.seat.view t (e.book, e.id, e.keeps, e.seen) in
    let d = c.in_ok-lower.lower.node in
    let n = c.in-Goes.node in
    let up = c.args.request.bound.up in
    let h = turned g at.In-Goes in record {
      before = e.before;
      book = all.0;
      id = all.1;
      keeps = all.2;
      seen = all.3;
      visits = visits_of up c.is_still.new.seat.id c.args.seat.now.id c.args.seat.now.view c.is_still.new.seat.view c.enter_lower.new.seat.view c.enter_lower.new.seat.book c.args.at c.args.child.0 d n c.args.request.bound.limit c.args.request.start (pairs_of g.P.RangeEntry.pair c.enter_lower.new.buffer) c.enter_lower.result t.1 (none g at.In_ok-last) h (c.is_beyond.ensures.no (search rules)) e.enters;
    }
