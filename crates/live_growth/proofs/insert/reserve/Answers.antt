use Rattle.std.proofs.Common.{rules, ap, Some, ◌≡◌, ◌<◌, ◌≤◌, ◌^◌}
use Rattle.word_segments.specs.Segments.{keys}
use Rattle.live_nodes.specs.Seats.{SeatView}
use Rattle.live_nodes.specs.Plays.{given}
use Rattle.live_nodes.specs.Views.{View}
use Rattle.live_growth.proofs.Ready.{ready_given, some_by}
use Rattle.live_growth.proofs.insert.reserve.Goals as goal

pub returns : goal.returns
returns c =
    let v = c.args.seat.now.view in
    let w = c.grow.new.seat.view in
    let g = c.in-Some.grown in
    let some : c.in_ok-grown.field-0 ≡ Some g = search rules in
    let got = some_by c.in_ok-grown.field-0 g some (λ x. (512 ≤ x.count) × (x.count ≤ keys) × (x.start < 2 ^ 62) × (w ≡ given v x.start keys)) c.in_ok-grown.ensures.room in
    record { book = c.grow.ensures.seat.0; id = c.grow.ensures.seat.1; ready = ready_given v w c.args.room.now g.start g.count keys got.1 c.requires.ready got.3; seen = ap (λ (z : SeatView View). z.client.seen) got.3 }
