use Rattle.std.proofs.Common.{◌+◌, length, sym}
use Rattle.share_works.specs.Made.{listing}
use Rattle.spec_map.specs.Map.{between}
use Rattle.share_calls.proofs.Knowing.{knows_by}
use Rattle.share_calls.proofs.Listing.{last_here}
use Rattle.share_calls.proofs.guard.Guard.range_descending.Goals as goal

pub returns-clause-made : goal.returns-clause-made
returns-clause-made g c =
    let h = c.in-Some.ensures.made in let old = c.self.inside.seat in let new = c.hold_range_descending.new.seat in
    last_here g.E.RangeEntry.entry c.args.buffer.now c.hold_range_descending.new.buffer _ c.args.self.now _ (sym c.self.view_is) c.args.start (c.args.last + 1) (length h.0) c.in-Some.written
    (between h.0 c.args.start (c.args.last + 1)) (knows_by old.table_id new.table_id old.me new.me c.hold_range_descending.ensures.table (listing c.args.start (c.args.last + 1) (length h.0) (between h.0 c.args.start (c.args.last + 1))) h.1) h.2
