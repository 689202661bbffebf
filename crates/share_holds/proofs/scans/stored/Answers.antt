use Rattle.std.proofs.Common.{◌+◌, sym, subst, set, arith}
use Rattle.share_holds.proofs.Founds.{one_more}
use Rattle.share_holds.specs.inner.Founds.{AreFound}
use Rattle.share_holds.proofs.scans.stored.Goals as goal

pub returns-clause-found : goal.returns-clause-found
returns-clause-found g c = λ same seen start was h.
    let next = c.args.found.next in let count = c.args.found.count in let buffer = c.args.buffer.now in
    subst (λ (e : g.row.E.Denot). AreFound same seen g.E.RangeEntry.entry start c.args.end (c.args.key + 1) (count + 1) (set buffer count e)) (sym c.from_pair.ensures)
    (one_more same seen g.E.RangeEntry.entry start c.args.end next count c.args.key c.args.value buffer
    (omega (arith, c.if-key-found.false)) (omega (arith, c.if-end-key.false)) (omega (arith, c.if-buffer-found.false)) was h)
