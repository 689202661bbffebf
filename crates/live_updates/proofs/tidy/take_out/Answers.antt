use Rattle.std.proofs.Common.{sym, subst}
use Rattle.live_reads.specs.Paths.{Sights}
use Rattle.live_reads.proofs.Sights.{sights_names, sights_kept}
use Rattle.live_growth.proofs.Ready.{ready_kept}
use Rattle.live_updates.proofs.tidy.take_out.Goals as goal

pub keep_taken-requires-clause-ready : goal.keep_taken-requires-clause-ready
keep_taken-requires-clause-ready c = ready_kept c.args.seat.now.view c.detach.new.seat.view c.args.room.now c.requires.ready c.detach.ensures.keeps

pub keep_taken-requires-clause-sighted : goal.keep_taken-requires-clause-sighted
keep_taken-requires-clause-sighted c =
    let v = c.args.seat.now.view in
    let w = c.detach.new.seat.view in
    let position = c.args.position in
    let sight = sights_kept v w c.detach.ensures.keeps position.name (sights_names v position.name c.args.key position.height c.requires.position.named) in
    subst (Sights w) (sym c.in-Ok.ensures.named) sight

pub returns-in-Err : goal.returns-in-Err
returns-in-Err c =
    let t = c.detach.ensures in
    record { book = t.book; id = t.id; ready = ready_kept c.args.seat.now.view c.detach.new.seat.view c.args.room.now c.requires.ready t.keeps; seen = t.seen }
