use Rattle.std.proofs.Common.{rules, arith, ℕ, length, take, subst, inr, ◌≡◌, ◌+◌, ◌∙◌}
use Rattle.std.proofs.lemmas.List.{length-map}
use Rattle.live_nodes.specs.Seats.{place}
use Rattle.live_layout.specs.Page.{pairs_of}
use Rattle.live_nodes.specs.Known.{Known}
use Rattle.live_growth.specs.Calls.{known_of}
use Rattle.live_reads.proofs.Finds.{keeps_then}
use Rattle.live_reads.proofs.Stood.{last_kept}
use Rattle.live_growth.proofs.Ready.{ready_kept, ready_last}
use Rattle.live_scans.specs.Scans.{HasBegun, HasPage}
use Rattle.live_scans.proofs.Pages.{begun_by, page_crossed, page_roomless, page_seat}
use Rattle.live_scans.proofs.scans.range_inclusive.Goals as goal

pub returns-then-first-last-clause-page : goal.returns-then-first-last-clause-page
returns-then-first-last-clause-page g c = page_crossed c.args.guard.now c.begin_only.new.guard c.args.first (c.args.last + 1) (length c.args.buffer.now) (omega arith) c.in_ok-begin_only.ensures.begun

pub returns-then-is_empty-clause-page : goal.returns-then-is_empty-clause-page
returns-then-is_empty-clause-page g c =
    let none : length c.args.buffer.now ≡ 0 = search rules in
    page_roomless c.args.guard.now c.begin_only-then-is_empty.new.guard c.args.first (c.args.last + 1) (length c.args.buffer.now) (omega arith) none c.in_ok-begin_only-2.ensures.begun

pub invariant_of-guard : goal.invariant_of-guard
invariant_of-guard g c = ready_kept c.guard.inside.seat.view c.start.new.seat.view c.guard.inside.room c.guard.invariant c.start.ensures.keeps

pub page-requires-clause-root_word : goal.page-requires-clause-root_word
page-requires-clause-root_word g c = c.in-Some.ensures.keeps.places (place 0 1 1) c.guard.invariant.root_word

pub page-requires-clause-last : goal.page-requires-clause-last
page-requires-clause-last g c = last_kept c.guard.inside.seat.view c.start.new.seat.view c.guard.inside.room.last c.in-Some.ensures.keeps c.guard.invariant.last

pub invariant_of-guard-in_default-page : goal.invariant_of-guard-in_default-page
invariant_of-guard-in_default-page g c =
    let u = c.guard.inside.seat.view in
    let v = c.start.new.seat.view in
    let w = c.page.new.seat.view in
    ready_last w c.guard.inside.room c.page.new.last (ready_kept u w c.guard.inside.room c.guard.invariant (keeps_then u v w c.in-Some.ensures.keeps c.in_default-page.ensures.keeps)) c.in_default-page.ensures.last

pub returns-in_default-page-clause-busy : goal.returns-in_default-page-clause-busy
returns-in_default-page-clause-busy g c =
    let u = c.guard.inside.seat in
    let v = c.start.new.seat in
    let w = c.page.new.seat in
    let s = c.in-Some.ensures in
    let t = c.in_default-page.ensures in
    let first : known_of u.book u.id u.view ≡ c.args.guard.now = search rules in
    inr (subst (λ (z : Known). HasBegun z (known_of w.book w.id w.view)) first (begun_by u.book v.book w.book u.id v.id w.id u.view v.view w.view s.book s.id t.book t.id s.starts.0 t.seen))

pub invariant_of-guard-2 : goal.invariant_of-guard-2
invariant_of-guard-2 g c =
    let u = c.guard.inside.seat.view in
    let v = c.start.new.seat.view in
    let w = c.page.new.seat.view in
    ready_last w c.guard.inside.room c.page.new.last (ready_kept u w c.guard.inside.room c.guard.invariant (keeps_then u v w c.in-Some.ensures.keeps c.in-Some-page.ensures.keeps)) c.in-Some-page.ensures.last

pub returns-clause-page : goal.returns-clause-page
returns-clause-page g c =
    let u = c.guard.inside.seat in
    let v = c.start.new.seat in
    let w = c.page.new.seat in
    let s = c.in-Some.ensures in
    let t = c.in-Some-page.ensures in
    let e = c.in-Some-page.step in
    let l = c.page.new.buffer in
    let pair = g.P.RangeEntry.pair in
    let same : length (pairs_of pair l) ≡ length c.args.buffer.now = length-map l pair ∙ search rules in
    let first : known_of u.book u.id u.view ≡ c.args.guard.now = search rules in
    subst (λ (z : Known × ℕ). HasPage z.0 c.args.first (c.args.last + 1) z.1 (take e.count (pairs_of pair l)) (known_of w.book w.id w.view)) (λ i. (first i, same i))
    (page_seat u.book v.book w.book u.id v.id w.id u.view v.view w.view c.args.first c.args.last e.count e.last (pairs_of pair l) s.book s.id t.book t.id s.starts.0 t.seen t.page)
