use Rattle.share_faces.proofs.Numbers.{returns_inserted}
use Rattle.share_faces.proofs.typed_congee.Congee.compute_or_insert.Goals as goal

pub returns-clause-made : goal.returns-clause-made
returns-clause-made g c =
    let h = c.in_ok-before.ensures.made in
    rw (← c.into_u64.ensures) (returns_inserted c.args.guard.now c.compute_or_insert.new.guard g.M.Lent.same g.M.Lent.meaning c.self.invariant.1 c.self.invariant.2
    g.V.Word.of_number _ _ _ c.in_ok-before.before h.0 c.read_back.result c.read_back.ensures h.1 h.2)
