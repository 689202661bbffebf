-- The call runs, no more is seen, and what was found is in the buffer.
use Rattle.std.proofs.Common.{◌≡◌, ℕ, length}
use Rattle.std.specs.Prelude.{Some}
use Rattle.share_backend.specs.declared.lent.CallStage.TheVariants.{Running}
use Rattle.share_holds.specs.inner.Founds.{AreFound}
use Rattle.share_rule.specs.inner.Steps.{SeesNoMore, at_of, seen_of}
use Rattle.spec_olc.specs.Calls.{outline_of}
use Rattle.spec_olc.specs.Meaning.{op_of}
use Rattle.spec_olc.specs.declared.types.Asking.{Asking}
use Rattle.share_holds.proofs.scans.scan.Given as goal

abbrev pub invariant-loop : goal.invariant-loop
invariant-loop g l =
    (goal.iterator-loop g).can_next l.iterator' × (goal.iterator-loop g).is_finite l.iterator' ×
    (l.seat.table_id ≡ l.fn.seat.table_id) × SeesNoMore l.fn.seat.me l.seat.me ×
    ((s : Asking ℕ) × (at_of l.seat.me.0 ≡ Some (l.id, Running (outline_of l.op) (op_of g.M.Lent.meaning l.op) s))) ×
    AreFound g.M.Lent.same (seen_of l.fn.seat.me.0) g.E.RangeEntry.entry l.start l.end l.found.next l.found.count l.buffer ×
    (length l.buffer ≡ length l.fn.buffer)
