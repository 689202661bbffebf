use Rattle.std.proofs.Common.{rules, subst, inr, ◌≡◌}
use Rattle.live_nodes.specs.Seats.{place}
use Rattle.live_nodes.specs.Known.{Known}
use Rattle.live_growth.specs.Calls.{known_of}
use Rattle.live_reads.proofs.Finds.{keeps_then}
use Rattle.live_growth.proofs.Ready.{ready_kept}
use Rattle.live_scans.specs.Scans.{HasBegun}
use Rattle.live_scans.proofs.Pages.{begun_by}
use Rattle.live_scans.specs.Counts.{HasCounted}
use Rattle.live_scans.proofs.Knowing.{counted_seat}
use Rattle.live_scans.proofs.counts.count.Goals as goal

pub invariant_of-guard : goal.invariant_of-guard
invariant_of-guard c = ready_kept c.guard.inside.seat.view c.start.new.seat.view c.guard.inside.room c.guard.invariant c.start.ensures.keeps

pub count_all-requires-clause-root_word : goal.count_all-requires-clause-root_word
count_all-requires-clause-root_word c = c.in-Some.ensures.keeps.places (place 0 1 1) c.guard.invariant.root_word

pub invariant_of-guard-in_default-count_all : goal.invariant_of-guard-in_default-count_all
invariant_of-guard-in_default-count_all c =
    let u = c.guard.inside.seat.view in
    let v = c.start.new.seat.view in
    let w = c.count_all.new.seat.view in
    ready_kept u w c.guard.inside.room c.guard.invariant (keeps_then u v w c.in-Some.ensures.keeps c.in_default-count_all.ensures.keeps)

pub returns-in_default-count_all-clause-busy : goal.returns-in_default-count_all-clause-busy
returns-in_default-count_all-clause-busy c =
    let u = c.guard.inside.seat in
    let v = c.start.new.seat in
    let w = c.count_all.new.seat in
    let s = c.in-Some.ensures in
    let t = c.in_default-count_all.ensures in
    let first : known_of u.book u.id u.view ≡ c.args.guard.now = search rules in
    inr (subst (λ (z : Known). HasBegun z (known_of w.book w.id w.view)) first (begun_by u.book v.book w.book u.id v.id w.id u.view v.view w.view s.book s.id t.book t.id s.starts.0 t.seen))

pub invariant_of-guard-2 : goal.invariant_of-guard-2
invariant_of-guard-2 c =
    let u = c.guard.inside.seat.view in
    let v = c.start.new.seat.view in
    let w = c.count_all.new.seat.view in
    ready_kept u w c.guard.inside.room c.guard.invariant (keeps_then u v w c.in-Some.ensures.keeps c.in-Some-count_all.ensures.keeps)

pub returns-clause-counted : goal.returns-clause-counted
returns-clause-counted c =
    let u = c.guard.inside.seat in
    let v = c.start.new.seat in
    let w = c.count_all.new.seat in
    let s = c.in-Some.ensures in
    let t = c.in-Some-count_all.ensures in
    let count = c.in-Some-count_all.count in
    let first : known_of u.book u.id u.view ≡ c.args.guard.now = search rules in
    subst (λ (z : Known). HasCounted z count (known_of w.book w.id w.view)) first (counted_seat u.book v.book w.book u.id v.id w.id u.view v.view w.view count s.book s.id t.book t.id s.starts.0 t.seen t.counts)
