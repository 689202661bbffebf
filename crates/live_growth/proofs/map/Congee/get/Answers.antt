use Rattle.std.proofs.Common.{rules, sym, refl, None, ◌≡◌, ◌∙◌}
use Rattle.live_nodes.specs.Views.{ask, got}
use Rattle.live_reads.proofs.Finds.{found_none, answers_by}
use Rattle.live_growth.proofs.Ready.{ready_kept, ready_last, made_call}
use Rattle.live_growth.proofs.map.Congee.get.Goals as goal

pub invariant_of-guard-in-Some : goal.invariant_of-guard-in-Some
invariant_of-guard-in-Some c =
    let i = c.loop.invariant in
    let v = c.loop.guard-inside.seat.view in
    let room = c.loop.guard-inside.room in
    let w = c.get_once.new.seat.view in
    let t = c.get_once.ensures in
    ready_last w room c.get_once.new.last (ready_kept v w room i.ready t.keeps) c.get_once.ensures.last

pub returns-in-Some-clause-made : goal.returns-in-Some-clause-made
returns-in-Some-clause-made c =
    let i = c.loop.invariant in
    let v = c.loop.guard-inside.seat.view in
    let room = c.loop.guard-inside.room in
    let w = c.get_once.new.seat.view in
    let t = c.get_once.ensures in
    made_call c.args.guard.now c.get_once.new.seat.book c.get_once.new.seat.id v.client.seen w (λ x. got (ask x c.args.key 0 0) c.in-Some.found) (λ x. refl) (t.book ∙ i.book) (t.id ∙ i.id) i.seen (answers_by c.loop.guard-inside.seat.id c.get_once.new.seat.id c.args.key c.in-Some.found v w (sym t.id) c.in-Some.ensures.found)

pub loop-preserved : goal.loop-preserved
loop-preserved c =
    let i = c.loop.invariant in
    let v = c.loop.guard-inside.seat.view in
    let room = c.loop.guard-inside.room in
    let w = c.get_once.new.seat.view in
    let t = c.get_once.ensures in
    let none : c.get_once.result ≡ None = search rules in
    record {
      book = t.book ∙ i.book;
      id = t.id ∙ i.id;
      seen = found_none (ask c.loop.guard-inside.seat.id c.args.key 0 0) c.get_once.result v w t.found none ∙ i.seen;
      ready = ready_last w room c.get_once.new.last (ready_kept v w room i.ready t.keeps) c.get_once.ensures.last;
    }
