use Rattle.std.proofs.Common.{rules, ◌≡◌, None, sym, ap, subst}
use Rattle.spec_map.specs.Map.{lookup}
use Rattle.live_layout.specs.Encodes.{HasRoom}
use Rattle.live_growth.proofs.Values.{none_below}
use Rattle.live_growth.proofs.link.obstacle.Goals as goal

pub returns-clause-none : goal.returns-clause-none
returns-clause-none g c =
    let words = g.D.WriteWords.words c.args.draft.now in
    let same = ap words c.find.ensures.seat.others in
    let none : c.find.result ≡ None = search rules in (
      subst (HasRoom c.args.form) same (c.is_full.ensures.left (search rules)),
      (λ n encodes form. none_below (lookup n.children c.args.byte) c.find.result (c.find.ensures.is (words c.args.seat.now) n (sym same) encodes form) none),
    )
