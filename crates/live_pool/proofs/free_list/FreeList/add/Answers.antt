use Rattle.std.proofs.Common.{ℕ, Bool, List, [], ◌∷◌, ◌++◌, sym, subst, ap, if◌then◌else◌, is_ok}
use Rattle.live_nodes.specs.Seats.{SeatView, Each}
use Rattle.live_nodes.proofs.Frames.{each_both}
use Rattle.live_nodes.specs.Views.{View}
use Rattle.live_reads.specs.Paths.{Sights}
use Rattle.live_pool.proofs.Tellings.{keeps_more, sights_others, each_own}
use Rattle.live_pool.proofs.free_list.FreeList.add.Goals as goal

added : (v : SeatView View) (ns : List ℕ) (n : ℕ) (b : Bool) → Each (Sights v) ns → Sights v n → Each (Sights v) (if b then ns ++ n ∷ [] else ns)
added v ns n Bool.true all one = each_both (Sights v) ns (n ∷ []) all (one, tt)
added v ns n Bool.false all one = all

pub returns-clause-seat : goal.returns-clause-seat
returns-clause-seat c =
    let t = c.inform.ensures.informs in
    (c.inform.ensures.first.0, c.inform.ensures.first.1, keeps_more c.args.seat.now.view c.args.self.now.keeper.view c.inform.new.a.view t.0, ap (λ (v : SeatView View). v.client.seen) t.0)

pub returns-clause-free_list : goal.returns-clause-free_list
returns-clause-free_list c =
    let t = c.inform.ensures.informs in
    let v = c.args.seat.now.view in
    let w = c.args.self.now.keeper.view in
    let u = c.inform.new.b.view in (
      c.inform.ensures.second.0,
      subst (Each (Sights u)) (sym c.push.ensures.items)
          (added u c.args.self.now.names.items c.args.name (is_ok c.push.result) (each_own w v u t.1 c.args.self.now.names.items c.requires.free_list) (sights_others w v u t.1 c.args.name c.requires.met)),
    )
