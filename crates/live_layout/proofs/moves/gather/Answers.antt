use Rattle.std.proofs.Common.{arith, ap, ◌∙◌, subst, sym, ◌≡◌}
use Rattle.spec_map.specs.Map.{between}
use Rattle.live_layout.specs.ListCells.{HasList}
use Rattle.live_layout.specs.PlaceCells.{HasPlaces}
use Rattle.live_layout.proofs.MoveLaws.{between-none, between-all}
use Rattle.live_layout.proofs.Seats.{stays-then}
use Rattle.live_layout.proofs.moves.gather.Goals as goal

pub loop-b-init : goal.loop-b-init
loop-b-init g c =
    let apart = c.requires.apart c.args.seat.now c.clear.new.seat c.clear.ensures.seat.others c.requires.may.0 in record {
      seat = c.clear.ensures.seat;
      from = apart.0;
      same = apart.1;
      head = c.clear.ensures.head;
      long = c.clear.ensures.long ∙ c.requires.long.1;
      is = λ es h. subst (HasList c.args.room (g.E.WriteWords.words c.args.to.now c.clear.new.seat)) (sym (between-none es h.ordered)) c.clear.ensures.is;
    }

pub loop-b-preserved : goal.loop-b-preserved
loop-b-preserved g c =
    let l = c.loop-b.invariant in
    let apart = c.requires.apart c.loop-b.seat c.gather_one.new.seat c.gather_one.ensures.seat.others l.from in record {
      seat = stays-then l.seat c.gather_one.ensures.seat;
      from = apart.0;
      same = apart.1 ∙ l.same;
      head = c.gather_one.ensures.head ∙ l.head;
      long = c.gather_one.ensures.long;
      is = λ es h. c.gather_one.ensures.is es (subst (λ x. HasPlaces x es) (sym l.same) h) (l.is es h);
    }

pub returns-clause-is : goal.returns-clause-is
returns-clause-is g c = λ es h.
    let new = g.E.WriteWords.words c.args.to.now c.loop-b.seat in
    let end : c.loop-b.b ≡ 256 = omega arith in
    subst (HasList c.args.room new) (ap (between es 0) end ∙ between-all es h.ordered) (c.loop-b.invariant.is es h)
