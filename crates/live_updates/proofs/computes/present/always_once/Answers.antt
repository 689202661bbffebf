use Rattle.std.proofs.Common.{rules, ℕ, Some, None, ◌≡◌, ◌∙◌}
use Rattle.live_growth.specs.Calls.{IsReady}
use Rattle.live_growth.proofs.Ready.{ready_kept, ready_last, ready_rest}
use Rattle.live_updates.specs.declared.lookup.Site.TheVariants as sites
use Rattle.live_updates.specs.inner.Lookups.{Lookup, lookup_of}
use Rattle.live_updates.specs.inner.Updates.{Update, update_of}
use Rattle.live_updates.proofs.Made.{no_more, at_some, missed_same, updated_by, answers_from}
use Rattle.live_updates.specs.ClosureEntries.{inserted_with}
use Rattle.live_updates.specs.Closures.{Reaches}
use Rattle.live_updates.specs.inner.Ends.{nowhere}
use Rattle.live_updates.proofs.Called.{always_lookup, always_update}
use Rattle.live_updates.proofs.Reached.{no_call, call_on, last_call}
use Rattle.live_updates.proofs.computes.present.always_once.Given.{Over}
use Rattle.live_updates.proofs.computes.present.always_once.Goals as goal
use Rattle.live_updates.proofs.computes.present.always_once.Goals.{After-seek, After-update_here, After-f-new-in-Some-Absent}

-- THE KEY was looked for
module _ (g : Over) (c : After-seek g) where
  abbrev looked : Lookup
  looked = lookup_of c.args.seat.now.id c.args.key nowhere

  ready : IsReady c.seek.new.seat.view (record c.args.room.now { last = c.seek.new.last })
  ready = ready_last c.seek.new.seat.view c.args.room.now c.seek.new.last (ready_kept c.args.seat.now.view c.seek.new.seat.view c.args.room.now c.requires.ready c.seek.ensures.keeps) c.seek.ensures.last

-- and found,
module _ (g : Over) (c : After-update_here g) where
  abbrev update : Update
  update = update_of c.seek.new.seat.id c.args.key (Some c.in-Some-At.value) (Some c.f-new.result) (inserted_with c.seek.new.seat.id c.args.key (Some c.in-Some-At.value) c.f-new.result)

  same : c.seek.new.seat.view.client.seen ≡ c.args.seat.now.view.client.seen
  same =
      let found : c.seek.result ≡ Some (sites.At c.in-Some-At.leaf c.in-Some-At.value) = search rules in
      at_some (looked g (goal.at.After-update_here g c).After-seek) c.seek.new.seat.book c.seek.result c.in-Some-At.leaf c.in-Some-At.value c.args.seat.now.view c.seek.new.seat.view found c.seek.ensures.sought

  ready_then : IsReady c.update_here.new.seat.view (record c.args.room.now { last = c.seek.new.last })
  ready_then = ready_rest c.seek.new.seat.view c.update_here.new.seat.view (record c.args.room.now { last = c.seek.new.last }) (ready g (goal.at.After-update_here g c).After-seek) c.update_here.ensures.rest

  reached : Reaches (goal.F-step g) c.args.f.now c.f-new.new.self
  reached = call_on (goal.F-step g) c.args.f.now c.args.f.now c.f-new.new.self (Some c.in-Some-At.value) c.f-new.result (no_call (goal.F-step g) c.args.f.now) c.f-new.ensures

-- or absent
reached_absent : (g : Over) (c : After-f-new-in-Some-Absent g) → Reaches (goal.F-step g) c.args.f.now c.f-new-in-Some-Absent.new.self
reached_absent g c = call_on (goal.F-step g) c.args.f.now c.args.f.now c.f-new-in-Some-Absent.new.self None c.f-new-in-Some-Absent.result (no_call (goal.F-step g) c.args.f.now) c.f-new-in-Some-Absent.ensures

pub seek-requires-clause-legal : goal.seek-requires-clause-legal
seek-requires-clause-legal g c = always_lookup c.args.seat.now.id c.args.key

pub update_here-requires-clause-legal : goal.update_here-requires-clause-legal
update_here-requires-clause-legal g c = always_update c.seek.new.seat.id c.args.key (Some c.in-Some-At.value) c.f-new.result

pub returns-then-is_some-clause-reached : goal.returns-then-is_some-clause-reached
returns-then-is_some-clause-reached g c = reached g (goal.at.returns-then-is_some-clause-reached g c).After-update_here

pub returns-then-is_some-clause-ready : goal.returns-then-is_some-clause-ready
returns-then-is_some-clause-ready g c =
    let a = (goal.at.returns-then-is_some-clause-ready g c).After-update_here in
    ready_then g a

pub returns-then-is_some-clause-stores : goal.returns-then-is_some-clause-stores
returns-then-is_some-clause-stores g c =
    let a = (goal.at.returns-then-is_some-clause-stores g c).After-update_here in
    let e = c.update_here.ensures in
    let missed = missed_same (update g a) c.update_here.result c.seek.new.seat.view c.update_here.new.seat.view (search rules) e.updated in
    missed ∙ same g a

pub returns-else-is_some-clause-reached : goal.returns-else-is_some-clause-reached
returns-else-is_some-clause-reached g c = reached g (goal.at.returns-else-is_some-clause-reached g c).After-update_here

pub returns-else-is_some-clause-ready : goal.returns-else-is_some-clause-ready
returns-else-is_some-clause-ready g c =
    let a = (goal.at.returns-else-is_some-clause-ready g c).After-update_here in
    ready_then g a

pub returns-else-is_some-clause-stores : goal.returns-else-is_some-clause-stores
returns-else-is_some-clause-stores g c =
    let a = (goal.at.returns-else-is_some-clause-stores g c).After-update_here in
    let t = c.seek.ensures in
    let w = c.seek.new.seat.view in
    let value = Some c.in-Some-At.value in
    let new = c.f-new.result in
    let u = c.update_here.new.seat.view in
    let e = c.update_here.ensures in
    let answers = updated_by (update g a) c.update_here.result w u (search rules) e.updated in
    let by = answers_from c.seek.new.seat.id c.args.seat.now.id (λ (z : ℕ). inserted_with z c.args.key value new) w.client.seen c.args.seat.now.view.client.seen u.client.seen t.id (same g a) answers in
    (new, by, last_call (goal.F-step g) c.args.f.now c.f-new.new.self value new c.f-new.ensures)

pub enter-requires-clause-legal : goal.enter-requires-clause-legal
enter-requires-clause-legal g c = always_update c.seek.new.seat.id c.args.key None c.f-new-in-Some-Absent.result

pub enter-requires-clause-ready : goal.enter-requires-clause-ready
enter-requires-clause-ready g c = ready g (goal.at.enter-requires-clause-ready g c).After-seek

pub returns-in_err-enter-in-Some-Absent-clause-reached : goal.returns-in_err-enter-in-Some-Absent-clause-reached
returns-in_err-enter-in-Some-Absent-clause-reached g c = reached_absent g (goal.at.returns-in_err-enter-in-Some-Absent-clause-reached g c).After-f-new-in-Some-Absent

pub returns-then-not-branch-clause-reached : goal.returns-then-not-branch-clause-reached
returns-then-not-branch-clause-reached g c = reached_absent g (goal.at.returns-then-not-branch-clause-reached g c).After-f-new-in-Some-Absent

pub returns-else-not-branch-clause-reached : goal.returns-else-not-branch-clause-reached
returns-else-not-branch-clause-reached g c = reached_absent g (goal.at.returns-else-not-branch-clause-reached g c).After-f-new-in-Some-Absent

pub returns-in-None-clause-ready : goal.returns-in-None-clause-ready
returns-in-None-clause-ready g c =
    let a = (goal.at.returns-in-None-clause-ready g c).After-seek in
    ready g a

pub returns-in-None-clause-stores : goal.returns-in-None-clause-stores
returns-in-None-clause-stores g c =
    let a = (goal.at.returns-in-None-clause-stores g c).After-seek in
    let t = c.seek.ensures in
    no_more (looked g a) c.seek.new.seat.book c.seek.result c.args.seat.now.view c.seek.new.seat.view (search rules) t.sought
