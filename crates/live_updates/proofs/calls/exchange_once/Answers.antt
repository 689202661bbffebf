use Rattle.std.proofs.Common.{rules, sym, subst, Ok, Some, None, ◌≡◌, ◌≢◌, ◌∙◌}
use Rattle.std.specs.Option.{option_map}
use Rattle.live_nodes.specs.Tree.{Answers}
use Rattle.live_growth.specs.Calls.{IsReady}
use Rattle.live_growth.proofs.Ready.{ready_kept, ready_last}
use Rattle.live_updates.specs.Entries.{swapped}
use Rattle.live_updates.specs.declared.lookup.Site.TheVariants as sites
use Rattle.live_updates.specs.inner.Lookups.{Lookup, lookup_of, Swap, exchange_fails, EndsBy}
use Rattle.live_updates.specs.inner.Updates.{Update, update_of}
use Rattle.live_updates.proofs.Ended.{exchange_lookup, exchange_update}
use Rattle.live_updates.proofs.Made.{no_more, at_none, at_some, missed_same, updated_by, fails_absent, fails_other, goes_on, swaps}
use Rattle.live_updates.proofs.calls.exchange_once.Given.{Over}
use Rattle.live_updates.proofs.calls.exchange_once.Goals as goal
use Rattle.live_updates.proofs.calls.exchange_once.Goals.{After-seek, In-At, After-exchange_here}

abbrev x : Over → Swap
x g = g.X.Swaps.swap

abbrev looked : Over → Lookup
looked g = lookup_of (x g).caller (x g).key (exchange_fails (x g))

abbrev update : Over → Update
update g = update_of (x g).caller (x g).key (Some (x g).old) (x g).new (swapped (x g).caller (x g).key (x g).old (x g).new (Ok (x g).new))

-- THE KEY was looked for
ready : (g : Over) (c : After-seek g) → IsReady c.seek.new.seat.view (record c.args.room.now { last = c.seek.new.last })
ready g c = ready_last c.seek.new.seat.view c.args.room.now c.seek.new.last (ready_kept c.args.seat.now.view c.seek.new.seat.view c.args.room.now c.requires.ready c.seek.ensures.keeps) c.seek.ensures.last

-- found,
by_value : (g : Over) (c : In-At g) → EndsBy (x g).caller (exchange_fails (x g) (Some c.in-At.value)) c.args.seat.now.view c.seek.new.seat.view
by_value g c =
    let found : c.seek.result ≡ Some (sites.At c.in-At.leaf c.in-At.value) = search rules in
    at_some (looked g) c.seek.new.seat.book c.seek.result c.in-At.leaf c.in-At.value c.args.seat.now.view c.seek.new.seat.view found c.seek.ensures.sought

-- and has the expected value
same : (g : Over) (c : After-exchange_here g) → c.seek.new.seat.view.client.seen ≡ c.args.seat.now.view.client.seen
same g c =
    let expected : c.in-At.value ≡ c.args.old = search rules in
    goes_on (x g) c.args.seat.now.id c.args.key c.args.old c.args.new c.requires.swap c.args.seat.now.view c.seek.new.seat.view c.in-At.value expected (by_value g (goal.at.After-exchange_here g c).In-At)

pub seek-requires-clause-legal : goal.seek-requires-clause-legal
seek-requires-clause-legal g c = exchange_lookup (x g)

pub returns-in_err-seek-clause-ready : goal.returns-in_err-seek-clause-ready
returns-in_err-seek-clause-ready g c = ready g (goal.at.returns-in_err-seek-clause-ready g c).After-seek

pub returns-in_err-seek-clause-ends : goal.returns-in_err-seek-clause-ends
returns-in_err-seek-clause-ends g c =
    let t = c.seek.ensures in
    let out : c.from_residual.result ≡ None = search rules in
    let no_value = no_more (looked g) c.seek.new.seat.book c.seek.result c.args.seat.now.view c.seek.new.seat.view (search rules) t.sought in
    subst (λ z. EndsBy c.args.seat.now.id (option_map (swapped c.args.seat.now.id c.args.key c.args.old c.args.new) z) c.args.seat.now.view c.seek.new.seat.view) (sym out) no_value

pub returns-in-Absent-clause-ready : goal.returns-in-Absent-clause-ready
returns-in-Absent-clause-ready g c = ready g (goal.at.returns-in-Absent-clause-ready g c).After-seek

pub returns-in-Absent-clause-ends : goal.returns-in-Absent-clause-ends
returns-in-Absent-clause-ends g c =
    let t = c.seek.ensures in
    let v = c.args.seat.now.view in
    let w = c.seek.new.seat.view in
    let failed = at_none (looked g) c.seek.new.seat.book c.seek.result v w (search rules) t.sought in
    fails_absent (x g) c.args.seat.now.id c.args.key c.args.old c.args.new c.requires.swap v w failed

pub returns-then-value-old-clause-ready : goal.returns-then-value-old-clause-ready
returns-then-value-old-clause-ready g c =
    let a = goal.at.returns-then-value-old-clause-ready g c in
    ready g a.After-seek

pub returns-then-value-old-clause-ends : goal.returns-then-value-old-clause-ends
returns-then-value-old-clause-ends g c =
    let a = goal.at.returns-then-value-old-clause-ends g c in
    let other : c.in-At.value ≢ c.args.old = search rules in
    fails_other (x g) c.args.seat.now.id c.args.key c.args.old c.args.new c.requires.swap c.args.seat.now.view c.seek.new.seat.view c.in-At.value other (by_value g a.In-At)

pub exchange_here-requires-clause-ready : goal.exchange_here-requires-clause-ready
exchange_here-requires-clause-ready g c = ready g (goal.at.exchange_here-requires-clause-ready g c).After-seek

pub exchange_here-requires-clause-legal : goal.exchange_here-requires-clause-legal
exchange_here-requires-clause-legal g c = exchange_update (x g).caller (x g).key (x g).old (x g).new

pub returns-then-is_some-clause-ready : goal.returns-then-is_some-clause-ready
returns-then-is_some-clause-ready g c =
    let e = c.exchange_here.ensures in
    e.ready

pub returns-then-is_some-clause-ends : goal.returns-then-is_some-clause-ends
returns-then-is_some-clause-ends g c =
    let e = c.exchange_here.ensures in
    let missed = missed_same (update g) c.exchange_here.result c.seek.new.seat.view c.exchange_here.new.seat.view (search rules) e.updated in
    missed ∙ same g (goal.at.returns-then-is_some-clause-ends g c).After-exchange_here

pub returns-else-is_some-clause-ready : goal.returns-else-is_some-clause-ready
returns-else-is_some-clause-ready g c =
    let e = c.exchange_here.ensures in
    e.ready

pub returns-else-is_some-clause-ends : goal.returns-else-is_some-clause-ends
returns-else-is_some-clause-ends g c =
    let w = c.seek.new.seat.view in
    let u = c.exchange_here.new.seat.view in
    let e = c.exchange_here.ensures in
    let answers = updated_by (update g) c.exchange_here.result w u (search rules) e.updated in
    let before = subst (λ z. Answers (x g).caller (update g).entry z u.client.seen) (same g (goal.at.returns-else-is_some-clause-ends g c).After-exchange_here) answers in
    swaps (x g) c.args.seat.now.id c.args.key c.args.old c.args.new c.requires.swap w u c.args.seat.now.view.client.seen before
