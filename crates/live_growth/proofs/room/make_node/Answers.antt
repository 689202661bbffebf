use Rattle.std.proofs.Common.{arith, refl, ◌+◌, ◌-◌, ◌≤◌}
use Rattle.live_layout.specs.Encodes.{words_of}
use Rattle.live_growth.proofs.Linked.{room_after}
use Rattle.live_growth.proofs.Ready.{ready_with, free_nodes_grown}
use Rattle.live_growth.proofs.Rooms.{made_grown, made_sighted}
use Rattle.live_growth.proofs.room.make_node.Goals as goal

pub returns-clause-ready : goal.returns-clause-ready
returns-clause-ready c =
    let v = c.args.seat.now.view in
    let w = c.make-name.new.seat.view in
    let form = c.args.form in
    let room = c.args.room.now in
    let ready = c.requires.ready in
    let made = c.make-name.ensures.made in
    let grown = made_grown v w form c.make-name.result made ready.own ready.holds in
    let n = c.words_in-count.ensures in
    let some = c.if-room-count.false in
    let enough : words_of form + 1 ≤ room.left = omega (arith, n, some) in
    let words = c.make-name.ensures.room room.left ready.words enough in
    let left = room_after w w (room.start + words_of form + 1) (room.left - (words_of form + 1)) (room.start + (c.words_in-count.result + 1)) (room.left - (c.words_in-count.result + 1)) refl (omega (arith, n)) (omega (arith, n)) words in
    let spare = c.keep.ensures.kept w (free_nodes_grown v w room.spare grown ready.spare) (made_sighted v w form c.make-name.result made) in
    ready_with v w room (record room { start = room.start + (c.words_in-count.result + 1); left = room.left - (c.words_in-count.result + 1); spare = c.keep.new.self }) ready grown left spare refl
