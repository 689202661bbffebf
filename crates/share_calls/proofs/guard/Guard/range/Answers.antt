use Rattle.std.proofs.Common.{[], ◌∷◌, length, sym, take}
use Rattle.share_works.specs.Made.{returned}
use Rattle.spec_map.specs.Call.{range, ranged}
use Rattle.spec_map.specs.Map.{between}
use Rattle.share_calls.proofs.Knowing.{knows_by}
use Rattle.share_calls.proofs.Listing.{first_here}
use Rattle.share_calls.proofs.guard.Guard.range.Goals as goal

pub returns-clause-made : goal.returns-clause-made
returns-clause-made g c =
    let h = c.in-Some.ensures.made in let old = c.self.inside.seat in let new = c.hold_range.new.seat in let room = length c.args.buffer.now in
    first_here g.E.RangeEntry.entry c.args.buffer.now c.hold_range.new.buffer _ c.args.self.now _ (sym c.self.view_is) (between h.0 c.args.start c.args.end) c.args.start c.args.end c.in-Some.written
    (knows_by old.table_id new.table_id old.me new.me c.hold_range.ensures.table (returned (range c.args.start c.args.end room) (ranged (take room (between h.0 c.args.start c.args.end))) ∷ []) h.1) h.2
