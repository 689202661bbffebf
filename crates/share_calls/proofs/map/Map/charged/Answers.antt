use Rattle.std.proofs.Common.{[], ◌∷◌, ◌∙◌, ap, length, sym}
use Rattle.share_visits.specs.Charged.{sum_of}
use Rattle.share_works.specs.Made.{returned}
use Rattle.spec_map.specs.Call.{count, counted}
use Rattle.share_moments.specs.declared.state.State.{State}
use Rattle.share_calls.proofs.Knowing.{knows_by}
use Rattle.share_calls.proofs.Charging.{trees_of}
use Rattle.share_calls.proofs.map.Map.charged.Goals as goal

pub returns-clause-made : goal.returns-clause-made
returns-clause-made c =
    let h = c.in-Some.ensures.made in let old = c.guard.inside.seat in let new = c.hold_charged.new.seat in
    trees_of _ c.args.guard.now _ c.in-Some.bytes h.0 (sym c.guard.view_is) (h.1 ∙ ap (λ k. k.table.slots) c.guard.view_is)
    (knows_by old.table_id new.table_id old.me new.me c.hold_charged.ensures.table (returned count (counted (sum_of (λ (s : State). length s.map.pairs) h.0)) ∷ []) h.2) h.3
