use Rattle.std.proofs.Common.{◌+◌, ◌<◌, ◌≤◌, ℕ, true, Option, Some, length, take, get_or, length-take-le, refl, sym, ap, subst, arith}
use Rattle.spec_map.specs.Map.{Pairs}
use Rattle.live_scans.specs.Scans.{Waits}
use Rattle.live_pool.proofs.Judged.{IsPart}
use Rattle.live_faces.specs.Iterated.{HasPart, HasTurned, unread_keys}
use Rattle.live_faces.proofs.Turned.{rises_fits, up_whole, up_full}
use Rattle.live_faces.proofs.typed_congee.iter.Page.turn_up.Given.{Over}
use Rattle.live_faces.proofs.typed_congee.iter.Page.turn_up.Goals as goal
use Rattle.live_faces.proofs.typed_congee.iter.Page.turn_up.Goals.{After-listed-self-inside, then-end-last, else-end-last}

module _ (g : Over) (c : After-listed-self-inside g) where
  abbrev page : Pairs ℕ
  page = c.listed-self-inside.new.page

  abbrev pairs : Pairs ℕ
  pairs = take c.listed-self-inside.result page

  -- a page that isn't full has all
  whole : c.listed-self-inside.result < 64 → Waits c.args.guard.now (λ m. HasPart true c.args.low (c.args.last + 1) pairs m c.listed-self-inside.new.guard)
  whole less = let long = c.self.invariant.2 in
      up_whole c.args.guard.now c.listed-self-inside.new.guard c.args.low (c.args.last + 1) (length c.self.inside.pairs) c.listed-self-inside.result page (omega arith) (omega (arith, long, less)) c.listed-self-inside.ensures.page

  part : 64 ≤ c.listed-self-inside.result → IsPart c.listed-self-inside.ensures.page.0 c.listed-self-inside.new.guard c.args.low (c.args.last + 1) (get_or page 63 (0, 0)).0 pairs
  part full = let long = c.self.invariant.2 in
      up_full c.args.guard.now c.listed-self-inside.new.guard c.args.low (c.args.last + 1) (length c.self.inside.pairs) c.listed-self-inside.result 63 page (omega (arith, long)) full c.listed-self-inside.ensures.page

pub returns-then-self-lt-PAGE-clause-turned : goal.returns-then-self-lt-PAGE-clause-turned
returns-then-self-lt-PAGE-clause-turned g c =
    whole g (goal.at.returns-then-self-lt-PAGE-clause-turned g c).After-listed-self-inside c.if-self-lt-PAGE.true

pub returns-then-self-lt-PAGE-clause-few : goal.returns-then-self-lt-PAGE-clause-few
returns-then-self-lt-PAGE-clause-few g c =
    let d = (goal.at.returns-then-self-lt-PAGE-clause-few g c).After-listed-self-inside in
    let w = whole g d c.if-self-lt-PAGE.true in
    let fits = rises_fits c.args.low (c.args.last + 1) (pairs g d) w.2.1.ascend in
    omega (arith, fits)

pub returns-clause-turned : goal.returns-clause-turned
returns-clause-turned g c =
    let d = (goal.at.returns-clause-turned g c).After-listed-self-inside in
    let p = part g d c.if-self-lt-PAGE.false in
    let w = c.listed-self-inside.ensures.page in
    let n = c.listed-self-inside.new.guard in
    let Turned : Option (ℕ × ℕ) → Type 0 = λ z. HasTurned true c.args.low c.args.last c.args.guard.now (pairs g d) z n in
    let inside = p.inside in
    elim c.if-end-last.branch [
      | then-end-last b ↦ subst Turned (sym b.result-is) (refl, (w.0, w.1, p.listed))
      | else-end-last b ↦ subst Turned (sym b.result-is) (w.0, w.1, subst (λ (z : ℕ). HasPart true c.args.low (z + 1) (pairs g d) w.0 n) (omega (arith, inside, b.if-end-last.false)) p.listed)
    ]

pub returns-clause-few : goal.returns-clause-few
returns-clause-few g c =
    let d = (goal.at.returns-clause-few g c).After-listed-self-inside in
    let p = part g d c.if-self-lt-PAGE.false in
    let Few : Option (ℕ × ℕ) → Type 0 = λ z. length (pairs g d) + unread_keys z ≤ unread_keys (Some (c.args.low, c.args.last)) in
    let few = p.few in
    let inside = p.inside in
    let low = p.low_is in
    elim c.if-end-last.branch [
      | then-end-last b ↦ subst Few (sym b.result-is) (omega (arith, few, low, b.if-end-last.true))
      | else-end-last b ↦ subst Few (sym b.result-is) (omega (arith, few, low, inside))
    ]

pub returns-clause-ends : goal.returns-clause-ends
returns-clause-ends g c empty =
    let long = c.self.invariant.2 in
    let none = ap length empty in
    let all = length-take-le c.listed-self-inside.result c.listed-self-inside.new.page (omega (arith, c.listed-self-inside.ensures.count)) in
    absurd (omega (arith, none, all, c.if-self-lt-PAGE.false))
