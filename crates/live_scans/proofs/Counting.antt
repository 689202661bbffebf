-- A count, step by step.
use Rattle.std.proofs.Common.{◌≡◌, ℕ, ◌+◌, ◌%◌, ◌≤◌, true, List, ◌++◌, length, take, subst, inl, arith}
use Rattle.std.proofs.lemmas.List.{length-append, length-take-le, map-id}
use Rattle.spec_map.specs.Map.{Pairs}
use Rattle.spec_map.proofs.ByteMapLaws.{length-from_Rises}
use Rattle.live_nodes.specs.Seats.{SeatView}
use Rattle.live_layout.specs.Page.{pairs_of}
use Rattle.live_nodes.specs.Views.{View}
use Rattle.live_scans.specs.Scans.{HasRead}
use Rattle.live_scans.specs.inner.Moments.{SeesMore, Reads}
use Rattle.live_scans.specs.inner.Steps.{IsStep}
use Rattle.live_scans.proofs.Composed.{reads_then}

abbrev Seen : Type 0
Seen = SeatView View

-- what was read, and then a step
pub then_step : (c id : ℕ) (u v w : Seen) (from limit count last : ℕ) (ps : Pairs ℕ) (buffer : List (ℕ × ℕ)) → c ≡ id → SeesMore v.client.seen id u.client.seen → from % 256 ≡ 0 → HasRead true u.client.seen v.client.seen 0 from ps → IsStep true c v w from limit 0 (pairs_of (λ (p : ℕ × ℕ). p) buffer) count last → Reads true id u w 0 (last + 1) (ps ++ take count buffer)
then_step c id u v w from limit count last ps buffer is seen seam read s =
    let low = s.order in
    reads_then c id u v w 0 from (last + 1) ps (take count buffer) is seen read (subst (λ (l : Pairs ℕ). Reads true c v w from (last + 1) (take count l)) (map-id buffer) s.reads) (omega arith) (omega (arith, low)) (inl seam)

-- how many pairs that are
pub then_count : (count : ℕ) (ps : Pairs ℕ) (n : ℕ) (buffer : List (ℕ × ℕ)) → count ≡ length ps → n ≤ length buffer → count + n ≡ length (ps ++ take n buffer)
then_count count ps n buffer long fits =
    let both = length-append ps (take n buffer) in
    let these = length-take-le n buffer fits in
    omega (arith, long, both, these)

-- at most as many as keys
pub few_counted : (u w : Seen) (from count : ℕ) (ps : Pairs ℕ) → HasRead true u.client.seen w.client.seen 0 from ps → count ≡ length ps → count ≤ from
few_counted u w from count ps read is = let most = length-from_Rises 0 from ps (omega arith) read.ascend in omega (arith, most, is)
