use Rattle.std.proofs.Common.{rules, refl, ℕ, Some, None, ◌≡◌, ◌∙◌}
use Rattle.live_growth.specs.Calls.{IsReady}
use Rattle.live_growth.proofs.Ready.{ready_kept, ready_last, ready_rest}
use Rattle.live_updates.specs.declared.lookup.Site.TheVariants as sites
use Rattle.live_updates.specs.inner.Lookups.{Lookup, lookup_of}
use Rattle.live_updates.specs.inner.Updates.{Update, update_of}
use Rattle.live_updates.proofs.Made.{no_more, at_some, missed_same, updated_by, answers_from}
use Rattle.live_updates.specs.ClosureEntries.{inserted_with, sum_with}
use Rattle.live_updates.specs.inner.Ends.{nowhere}
use Rattle.live_updates.proofs.Called.{always_lookup, always_update}
use Rattle.live_updates.proofs.computes.present.add_once.Given.{Over}
use Rattle.live_updates.proofs.computes.present.add_once.Goals as goal
use Rattle.live_updates.proofs.computes.present.add_once.Goals.{After-seek, After-update_here}

-- THE KEY was looked for
module _ (g : Over) (c : After-seek g) where
  abbrev looked : Lookup
  looked = lookup_of c.args.seat.now.id c.args.key nowhere

  ready : IsReady c.seek.new.seat.view (record c.args.room.now { last = c.seek.new.last })
  ready = ready_last c.seek.new.seat.view c.args.room.now c.seek.new.last (ready_kept c.args.seat.now.view c.seek.new.seat.view c.args.room.now c.requires.ready c.seek.ensures.keeps) c.seek.ensures.last

-- and found
module _ (g : Over) (c : After-update_here g) where
  abbrev new : ℕ
  new = sum_with (Some c.in-Some-At.value) c.args.number

  abbrev update : Update
  update = update_of c.seek.new.seat.id c.args.key (Some c.in-Some-At.value) (Some new) (inserted_with c.seek.new.seat.id c.args.key (Some c.in-Some-At.value) new)

  same : c.seek.new.seat.view.client.seen ≡ c.args.seat.now.view.client.seen
  same =
      let found : c.seek.result ≡ Some (sites.At c.in-Some-At.leaf c.in-Some-At.value) = search rules in
      at_some (looked g (goal.at.After-update_here g c).After-seek) c.seek.new.seat.book c.seek.result c.in-Some-At.leaf c.in-Some-At.value c.args.seat.now.view c.seek.new.seat.view found c.seek.ensures.sought

  ready_then : IsReady c.update_here.new.seat.view (record c.args.room.now { last = c.seek.new.last })
  ready_then = ready_rest c.seek.new.seat.view c.update_here.new.seat.view (record c.args.room.now { last = c.seek.new.last }) (ready g (goal.at.After-update_here g c).After-seek) c.update_here.ensures.rest

pub seek-requires-clause-legal : goal.seek-requires-clause-legal
seek-requires-clause-legal g c = always_lookup c.args.seat.now.id c.args.key

pub update_here-requires-clause-legal : goal.update_here-requires-clause-legal
update_here-requires-clause-legal g c = always_update c.seek.new.seat.id c.args.key (Some c.in-Some-At.value) (sum_with (Some c.in-Some-At.value) c.args.number)

pub returns-then-is_some : goal.returns-then-is_some
returns-then-is_some g c =
    let a = (goal.at.returns-then-is_some g c).After-update_here in
    let t = c.seek.ensures in
    let e = c.update_here.ensures in
    let missed = missed_same (update g a) c.update_here.result c.seek.new.seat.view c.update_here.new.seat.view (search rules) e.updated in
    record { book = e.book ∙ t.book; id = e.id ∙ t.id; ready = ready_then g a; stores = missed ∙ same g a }

pub returns-else-is_some : goal.returns-else-is_some
returns-else-is_some g c =
    let a = (goal.at.returns-else-is_some g c).After-update_here in
    let t = c.seek.ensures in
    let w = c.seek.new.seat.view in
    let u = c.update_here.new.seat.view in
    let e = c.update_here.ensures in
    let answers = updated_by (update g a) c.update_here.result w u (search rules) e.updated in
    let by = answers_from c.seek.new.seat.id c.args.seat.now.id (λ (z : ℕ). inserted_with z c.args.key (Some c.in-Some-At.value) (new g a)) w.client.seen c.args.seat.now.view.client.seen u.client.seen t.id (same g a) answers in
    record { book = e.book ∙ t.book; id = e.id ∙ t.id; ready = ready_then g a; stores = (new g a, by, refl) }

pub enter-requires-clause-legal : goal.enter-requires-clause-legal
enter-requires-clause-legal g c = always_update c.seek.new.seat.id c.args.key None c.args.number

pub enter-requires-clause-ready : goal.enter-requires-clause-ready
enter-requires-clause-ready g c = ready g (goal.at.enter-requires-clause-ready g c).After-seek

pub returns-in-None : goal.returns-in-None
returns-in-None g c =
    let a = (goal.at.returns-in-None g c).After-seek in
    let t = c.seek.ensures in
    record { book = t.book; id = t.id; ready = ready g a; stores = no_more (looked g a) c.seek.new.seat.book c.seek.result c.args.seat.now.view c.seek.new.seat.view (search rules) t.sought }
