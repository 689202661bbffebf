use Rattle.std.proofs.Common.{◌∙◌, sym, arith, ◌∷◌, []}
use Rattle.std.specs.Prelude.{None}
use Rattle.share_rule.proofs.Moves.{may_release}
use Rattle.share_rule.proofs.lock.Lock.release.Goals as goal

pub swap-requires : goal.swap-requires
swap-requires g c =
    let m = c.args.seat.now.me in let held = c.requires.may in (
      c.requires.table ∙ sym c.self.view_is,
      omega (arith, c.self.invariant.0),
      may_release g.S.Protected.same g.S.Protected.content g.S.Protected.place g.D.Done.operations g.D.Done.number _ c.args.seat.now.id (m.0, (0, None) ∷ []) m held.0 (omega (arith, c.self.invariant.1)) held.2
          (λ i. (m.0, held.1 i)),
    )
