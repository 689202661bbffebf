use Rattle.std.proofs.Common.{arith, sym, ◌≡◌, ◌∙◌, ◌++◌, ap, drop, take, length}
use Rattle.std.proofs.lemmas.List.{take-append-drop}
use Rattle.std.proofs.Math.Seq.{take-length}
use Rattle.node_table.proofs.BeginLaws.{begins_by}
use Rattle.olc_write.proofs.making.fork_at.Goals as goal

pub unreachable-requires : goal.unreachable-requires
unreachable-requires c =
    let p = c.args.prefix.now in
    let at_end : c.loop-i.i ≡ length p = omega arith in
    let same : take (length p) p ≡ take (length p) c.args.key.now = rw (← at_end) c.loop-i.invariant in
    c.requires.apart (begins_by p (drop (length p) c.args.key.now) c.args.key.now (sym (take-append-drop (length p) c.args.key.now) ∙ ap (λ t. t ++ drop (length p) c.args.key.now) (sym same ∙ take-length p)))
