use Rattle.std.proofs.Common.{rules, refl, ℕ, ◌^◌, take, length, get_or, subst, ◌≡◌}
use Rattle.std.proofs.lemmas.List.{map-id}
use Rattle.spec_map.specs.Map.{Pairs}
use Rattle.live_scans.specs.Scans.{HasPage}
use Rattle.live_scans.proofs.Pages.{next_none, next_some}
use Rattle.live_scans.proofs.scans.ceiling.Goals as goal

pub returns-then-count-eq0-clause-next : goal.returns-then-count-eq0-clause-next
returns-then-count-eq0-clause-next c =
    let l = c.range_inclusive.new.buffer in
    let n = c.range_inclusive.new.guard in
    let count = c.in_ok-count.count in
    let page = subst (λ (ps : Pairs ℕ). HasPage c.args.guard.now c.args.key (2 ^ 64) 1 (take count ps) n) (map-id l) c.in_ok-count.ensures.page in
    next_none c.args.guard.now n c.args.key l count c.if-count-eq0.true page

pub returns-clause-next : goal.returns-clause-next
returns-clause-next c =
    let l = c.range_inclusive.new.buffer in
    let n = c.range_inclusive.new.guard in
    let count = c.in_ok-count.count in
    let one : length l ≡ 1 = search rules in
    let page = subst (λ (ps : Pairs ℕ). HasPage c.args.guard.now c.args.key (2 ^ 64) 1 (take count ps) n) (map-id l) c.in_ok-count.ensures.page in
    next_some c.args.guard.now n c.args.key l count (0, 0) (get_or l 0 (0, 0)) one c.if-count-eq0.false refl page
