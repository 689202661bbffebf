use Rattle.std.proofs.Common.{rules, refl, ℕ, ◌+◌, take, length, get_or, subst, ◌≡◌}
use Rattle.std.proofs.lemmas.List.{map-id}
use Rattle.spec_map.specs.Map.{Pairs}
use Rattle.live_scans.specs.Descents.{HasPageDown}
use Rattle.live_scans.proofs.PagesDown.{before_none, before_some}
use Rattle.live_scans.proofs.floors.floor.Goals as goal

pub returns-then-count-eq0-clause-before : goal.returns-then-count-eq0-clause-before
returns-then-count-eq0-clause-before c =
    let l = c.range_descending.new.buffer in
    let n = c.range_descending.new.guard in
    let count = c.in_ok-count.count in
    let page = subst (λ (ps : Pairs ℕ). HasPageDown c.args.guard.now 0 (c.args.key + 1) 1 (take count ps) n) (map-id l) c.in_ok-count.ensures.page in
    before_none c.args.guard.now n (c.args.key + 1) l count c.if-count-eq0.true page

pub returns-clause-before : goal.returns-clause-before
returns-clause-before c =
    let l = c.range_descending.new.buffer in
    let n = c.range_descending.new.guard in
    let count = c.in_ok-count.count in
    let one : length l ≡ 1 = search rules in
    let page = subst (λ (ps : Pairs ℕ). HasPageDown c.args.guard.now 0 (c.args.key + 1) 1 (take count ps) n) (map-id l) c.in_ok-count.ensures.page in
    before_some c.args.guard.now n (c.args.key + 1) l count (0, 0) (get_or l 0 (0, 0)) one c.if-count-eq0.false refl page
