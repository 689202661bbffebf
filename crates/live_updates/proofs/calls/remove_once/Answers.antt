use Rattle.std.proofs.Common.{rules, sym, subst, ℕ, Some, None, ◌≡◌, ◌∙◌}
use Rattle.std.specs.Option.{option_map}
use Rattle.live_growth.specs.Calls.{IsReady}
use Rattle.live_growth.proofs.Ready.{ready_kept, ready_last}
use Rattle.live_updates.specs.Entries.{removed}
use Rattle.live_updates.specs.declared.lookup.Site.TheVariants as sites
use Rattle.live_updates.specs.inner.Lookups.{Lookup, lookup_of, removal, EndsBy}
use Rattle.live_updates.specs.inner.Updates.{Update, update_of}
use Rattle.live_updates.proofs.Ended.{removal_lookup, removal_update}
use Rattle.live_updates.proofs.Made.{no_more, at_none, at_some, missed_same, updated_by, answers_from}
use Rattle.live_updates.proofs.calls.remove_once.Goals as goal
use Rattle.live_updates.proofs.calls.remove_once.Goals.{After-seek, After-exchange_here}

-- THE KEY was looked for
module _ (c : After-seek) where
  abbrev looked : Lookup
  looked = lookup_of c.args.seat.now.id c.args.key (removal c.args.seat.now.id c.args.key)

  ready : IsReady c.seek.new.seat.view (record c.args.room.now { last = c.seek.new.last })
  ready = ready_last c.seek.new.seat.view c.args.room.now c.seek.new.last (ready_kept c.args.seat.now.view c.seek.new.seat.view c.args.room.now c.requires.ready c.seek.ensures.keeps) c.seek.ensures.last

-- and found
module _ (c : After-exchange_here) where
  abbrev update : Update
  update = update_of c.seek.new.seat.id c.args.key (Some c.in-At.value) None (removed c.seek.new.seat.id c.args.key (Some c.in-At.value))

  same : c.seek.new.seat.view.client.seen ≡ c.args.seat.now.view.client.seen
  same =
      let found : c.seek.result ≡ Some (sites.At c.in-At.leaf c.in-At.value) = search rules in
      at_some (looked (goal.at.After-exchange_here c).After-seek) c.seek.new.seat.book c.seek.result c.in-At.leaf c.in-At.value c.args.seat.now.view c.seek.new.seat.view found c.seek.ensures.sought

pub seek-requires-clause-legal : goal.seek-requires-clause-legal
seek-requires-clause-legal c = removal_lookup c.args.seat.now.id c.args.key

pub returns-in_err-seek : goal.returns-in_err-seek
returns-in_err-seek c =
    let a = (goal.at.returns-in_err-seek c).After-seek in
    let t = c.seek.ensures in
    let out : c.from_residual.result ≡ None = search rules in
    let no_value = no_more (looked a) c.seek.new.seat.book c.seek.result c.args.seat.now.view c.seek.new.seat.view (search rules) t.sought in
    record { book = t.book; id = t.id; ready = ready a; ends = subst (λ z. EndsBy c.args.seat.now.id (option_map (removed c.args.seat.now.id c.args.key) z) c.args.seat.now.view c.seek.new.seat.view) (sym out) no_value }

pub returns-in-Absent : goal.returns-in-Absent
returns-in-Absent c =
    let a = (goal.at.returns-in-Absent c).After-seek in
    let t = c.seek.ensures in
    record { book = t.book; id = t.id; ready = ready a; ends = at_none (looked a) c.seek.new.seat.book c.seek.result c.args.seat.now.view c.seek.new.seat.view (search rules) t.sought }

pub exchange_here-requires-clause-ready : goal.exchange_here-requires-clause-ready
exchange_here-requires-clause-ready c = ready (goal.at.exchange_here-requires-clause-ready c).After-seek

pub exchange_here-requires-clause-legal : goal.exchange_here-requires-clause-legal
exchange_here-requires-clause-legal c = removal_update c.seek.new.seat.id c.args.key c.in-At.value

pub returns-then-is_some : goal.returns-then-is_some
returns-then-is_some c =
    let a = (goal.at.returns-then-is_some c).After-exchange_here in
    let t = c.seek.ensures in
    let e = c.exchange_here.ensures in
    let missed = missed_same (update a) c.exchange_here.result c.seek.new.seat.view c.exchange_here.new.seat.view (search rules) e.updated in
    record { book = e.book ∙ t.book; id = e.id ∙ t.id; ready = e.ready; ends = missed ∙ same a }

pub returns-else-is_some : goal.returns-else-is_some
returns-else-is_some c =
    let a = (goal.at.returns-else-is_some c).After-exchange_here in
    let t = c.seek.ensures in
    let w = c.seek.new.seat.view in
    let u = c.exchange_here.new.seat.view in
    let e = c.exchange_here.ensures in
    let answers = updated_by (update a) c.exchange_here.result w u (search rules) e.updated in
    record { book = e.book ∙ t.book; id = e.id ∙ t.id; ready = e.ready; ends = answers_from c.seek.new.seat.id c.args.seat.now.id (λ (z : ℕ). removed z c.args.key (Some c.in-At.value)) w.client.seen c.args.seat.now.view.client.seen u.client.seen t.id (same a) answers }
