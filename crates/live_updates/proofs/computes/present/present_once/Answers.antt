use Rattle.std.proofs.Common.{rules, sym, subst, ℕ, Some, None, ◌≡◌, ◌∙◌}
use Rattle.std.specs.Option.{option_map}
use Rattle.live_growth.specs.Calls.{IsReady}
use Rattle.live_growth.proofs.Ready.{ready_kept, ready_last}
use Rattle.live_updates.specs.declared.lookup.Site.TheVariants as sites
use Rattle.live_updates.specs.inner.Lookups.{Lookup, lookup_of, EndsBy}
use Rattle.live_updates.specs.inner.Updates.{Update, update_of}
use Rattle.live_updates.proofs.Made.{no_more, at_none, at_some, missed_same, updated_by, answers_from}
use Rattle.live_updates.specs.ClosureEntries.{computed_with}
use Rattle.live_updates.specs.Closures.{Reaches}
use Rattle.live_updates.specs.inner.Ends.{without_call, called_with}
use Rattle.live_updates.proofs.Called.{present_lookup, present_update}
use Rattle.live_updates.proofs.Reached.{no_call, call_on}
use Rattle.live_updates.proofs.computes.present.present_once.Given.{Over}
use Rattle.live_updates.proofs.computes.present.present_once.Goals as goal
use Rattle.live_updates.proofs.computes.present.present_once.Goals.{After-seek, After-exchange_here}

-- THE KEY was looked for
module _ (g : Over) (c : After-seek g) where
  abbrev looked : Lookup
  looked = lookup_of c.args.seat.now.id c.args.key (without_call c.args.seat.now.id c.args.key)

  ready : IsReady c.seek.new.seat.view (record c.args.room.now { last = c.seek.new.last })
  ready = ready_last c.seek.new.seat.view c.args.room.now c.seek.new.last (ready_kept c.args.seat.now.view c.seek.new.seat.view c.args.room.now c.requires.ready c.seek.ensures.keeps) c.seek.ensures.last

-- and found, and the closure called
module _ (g : Over) (c : After-exchange_here g) where
  abbrev update : Update
  update = update_of c.seek.new.seat.id c.args.key (Some c.in-At.value) c.f-new.result (called_with c.seek.new.seat.id c.args.key (Some c.in-At.value) c.f-new.result)

  same : c.seek.new.seat.view.client.seen ≡ c.args.seat.now.view.client.seen
  same =
      let found : c.seek.result ≡ Some (sites.At c.in-At.leaf c.in-At.value) = search rules in
      at_some (looked g (goal.at.After-exchange_here g c).After-seek) c.seek.new.seat.book c.seek.result c.in-At.leaf c.in-At.value c.args.seat.now.view c.seek.new.seat.view found c.seek.ensures.sought

  reached : Reaches (goal.F-step g) c.args.f.now c.f-new.new.self
  reached = call_on (goal.F-step g) c.args.f.now c.args.f.now c.f-new.new.self c.in-At.value c.f-new.result (no_call (goal.F-step g) c.args.f.now) c.f-new.ensures

pub seek-requires-clause-legal : goal.seek-requires-clause-legal
seek-requires-clause-legal g c = present_lookup c.args.seat.now.id c.args.key

pub returns-in_err-seek-clause-reached : goal.returns-in_err-seek-clause-reached
returns-in_err-seek-clause-reached g c = no_call (goal.F-step g) c.args.f.now

pub returns-in_err-seek-clause-ready : goal.returns-in_err-seek-clause-ready
returns-in_err-seek-clause-ready g c =
    let a = (goal.at.returns-in_err-seek-clause-ready g c).After-seek in
    ready g a

pub returns-in_err-seek-clause-ends : goal.returns-in_err-seek-clause-ends
returns-in_err-seek-clause-ends g c =
    let a = (goal.at.returns-in_err-seek-clause-ends g c).After-seek in
    let t = c.seek.ensures in
    let out : c.from_residual.result ≡ None = search rules in
    let no_value = no_more (looked g a) c.seek.new.seat.book c.seek.result c.args.seat.now.view c.seek.new.seat.view (search rules) t.sought in
    subst (λ z. EndsBy c.args.seat.now.id (option_map (computed_with c.args.seat.now.id c.args.key) z) c.args.seat.now.view c.seek.new.seat.view) (sym out) no_value

pub returns-in-Absent-clause-reached : goal.returns-in-Absent-clause-reached
returns-in-Absent-clause-reached g c = no_call (goal.F-step g) c.args.f.now

pub returns-in-Absent-clause-ready : goal.returns-in-Absent-clause-ready
returns-in-Absent-clause-ready g c =
    let a = (goal.at.returns-in-Absent-clause-ready g c).After-seek in
    ready g a

pub returns-in-Absent-clause-ends : goal.returns-in-Absent-clause-ends
returns-in-Absent-clause-ends g c =
    let a = (goal.at.returns-in-Absent-clause-ends g c).After-seek in
    let t = c.seek.ensures in
    at_none (looked g a) c.seek.new.seat.book c.seek.result c.args.seat.now.view c.seek.new.seat.view (search rules) t.sought

pub exchange_here-requires-clause-ready : goal.exchange_here-requires-clause-ready
exchange_here-requires-clause-ready g c = ready g (goal.at.exchange_here-requires-clause-ready g c).After-seek

pub exchange_here-requires-clause-legal : goal.exchange_here-requires-clause-legal
exchange_here-requires-clause-legal g c = present_update c.seek.new.seat.id c.args.key c.in-At.value c.f-new.result

pub returns-then-is_some-clause-reached : goal.returns-then-is_some-clause-reached
returns-then-is_some-clause-reached g c = reached g (goal.at.returns-then-is_some-clause-reached g c).After-exchange_here

pub returns-then-is_some-clause-ready : goal.returns-then-is_some-clause-ready
returns-then-is_some-clause-ready g c =
    let e = c.exchange_here.ensures in
    e.ready

pub returns-then-is_some-clause-ends : goal.returns-then-is_some-clause-ends
returns-then-is_some-clause-ends g c =
    let a = (goal.at.returns-then-is_some-clause-ends g c).After-exchange_here in
    let e = c.exchange_here.ensures in
    let missed = missed_same (update g a) c.exchange_here.result c.seek.new.seat.view c.exchange_here.new.seat.view (search rules) e.updated in
    missed ∙ same g a

pub returns-else-is_some-clause-reached : goal.returns-else-is_some-clause-reached
returns-else-is_some-clause-reached g c = reached g (goal.at.returns-else-is_some-clause-reached g c).After-exchange_here

pub returns-else-is_some-clause-ready : goal.returns-else-is_some-clause-ready
returns-else-is_some-clause-ready g c =
    let e = c.exchange_here.ensures in
    e.ready

pub returns-else-is_some-clause-ends : goal.returns-else-is_some-clause-ends
returns-else-is_some-clause-ends g c =
    let a = (goal.at.returns-else-is_some-clause-ends g c).After-exchange_here in
    let t = c.seek.ensures in
    let w = c.seek.new.seat.view in
    let u = c.exchange_here.new.seat.view in
    let e = c.exchange_here.ensures in
    let answers = updated_by (update g a) c.exchange_here.result w u (search rules) e.updated in
    answers_from c.seek.new.seat.id c.args.seat.now.id (λ (z : ℕ). computed_with z c.args.key (Some (c.in-At.value, c.f-new.result))) w.client.seen c.args.seat.now.view.client.seen u.client.seen t.id (same g a) answers
