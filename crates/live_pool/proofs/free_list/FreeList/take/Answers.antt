use Rattle.std.proofs.Common.{ℕ, subst, ap, Option, Some, None, IfSome}
use Rattle.std.specs.Option.{option_to_list}
use Rattle.live_nodes.specs.Seats.{SeatView, Each}
use Rattle.live_nodes.specs.Views.{View}
use Rattle.live_reads.specs.Paths.{Sights}
use Rattle.live_pool.proofs.Lists.{each_parts}
use Rattle.live_pool.proofs.Tellings.{keeps_more, sights_others, each_own}
use Rattle.live_pool.proofs.free_list.FreeList.take.Goals as goal

one_of : (v : SeatView View) (o : Option ℕ) → Each (Sights v) (option_to_list o) → IfSome o (Sights v)
one_of v None all = tt
one_of v (Some n) all = all.0

mapped : (v u : SeatView View) (o : Option ℕ) → ((n : ℕ) → Sights v n → Sights u n) → IfSome o (Sights v) → IfSome o (Sights u)
mapped v u None f h = tt
mapped v u (Some n) f h = f n h

pub returns-clause-seat : goal.returns-clause-seat
returns-clause-seat c =
    let t = c.inform.ensures.informs in
    (c.inform.ensures.first.0, c.inform.ensures.first.1, keeps_more c.args.seat.now.view c.args.self.now.keeper.view c.inform.new.a.view t.0, ap (λ (v : SeatView View). v.client.seen) t.0)

pub returns-clause-name : goal.returns-clause-name
returns-clause-name c =
    let t = c.inform.ensures.informs in
    let v = c.args.seat.now.view in
    let w = c.args.self.now.keeper.view in
    let both = each_parts (Sights w) c.pop.new.self.items (option_to_list c.pop.result) (subst (Each (Sights w)) c.pop.ensures.items c.requires.free_list) in
    mapped w c.inform.new.a.view c.pop.result (sights_others v w c.inform.new.a.view t.0) (one_of w c.pop.result both.1)

pub returns-clause-free_list : goal.returns-clause-free_list
returns-clause-free_list c =
    let t = c.inform.ensures.informs in
    let v = c.args.seat.now.view in
    let w = c.args.self.now.keeper.view in
    let both = each_parts (Sights w) c.pop.new.self.items (option_to_list c.pop.result) (subst (Each (Sights w)) c.pop.ensures.items c.requires.free_list) in
    (c.inform.ensures.second.0, each_own w v c.inform.new.b.view t.1 c.pop.new.self.items both.0)
