use Rattle.std.proofs.Common.{ℕ, ◌+◌, length, take, IfOk, subst}
use Rattle.std.proofs.lemmas.List.{map-id}
use Rattle.spec_map.specs.Map.{Pairs}
use Rattle.live_scans.specs.Descents.{HasPageDown}
use Rattle.live_faces.proofs.typed_congee.Congee.try_range_descending.Goals as goal

-- numbers are written as they are
pub returns-clause-page : goal.returns-clause-page
returns-clause-page g c =
    let l = c.range_descending.new.buffer in
    subst (λ (z : ℕ × ℕ × Pairs ℕ). IfOk c.range_descending.result (λ count. HasPageDown c.args.guard.now z.0 (z.1 + 1) (length c.args.buffer.now) (take count z.2) c.range_descending.new.guard))
    (λ i. (c.into_u64.ensures i, c.into_u64-2.ensures i, map-id l i)) c.range_descending.ensures.page
