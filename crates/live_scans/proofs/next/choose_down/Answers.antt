use Rattle.std.proofs.Common.{arith, refl, sym, subst, ◌≢◌, ◌≤◌, ◌∙◌, ◌+◌, ◌-◌, ℕ, inl, false, bit_or}
use Rattle.std.proofs.Math.Nat.{one-le-pow}
use Rattle.live_nodes.specs.Levels.{up}
use Rattle.live_scans.proofs.Nones.{is_within}
use Rattle.live_scans.proofs.Nexts.{apart_up_to, apart_behind}
use Rattle.live_scans.proofs.next.choose_down.Goals as goal

pub returns-then-lower-at : goal.returns-then-lower-at
returns-then-lower-at c =
    let key = c.args.at.key in
    let height = c.args.at.height in
    let to = c.args.to in
    let l = c.args.lower in
    let before = c.if-lower-at.true in
    let high = c.requires.height in (
      c.if-to-at.false,
      c.if-to-ne0.false,
      λ k from end. (is_within false height key to c.args.byte k (omega (arith, high)) c.ranges.byte.fits c.requires.to from end, apart_up_to l.height l.key key k (omega (arith, before)) from c.requires.apart),
    )

pub overflow_sub-last : goal.overflow_sub-last
overflow_sub-last c = subst (λ (z : ℕ). 1 ≤ z) (sym c.span.ensures) (one-le-pow c.args.lower.height 256 (omega arith))

pub returns : goal.returns
returns c =
    let key = c.args.at.key in
    let height = c.args.at.height in
    let l = c.args.lower in
    let last = bit_or l.key (c.span.result - 1) in
    let high = c.requires.height in
    let after = c.if-last-at.false in
    let whole = c.if-last-ne255.false in
    let ne : up l.height (last + 1) ≢ up l.height last = λ e. c.if-upper-2.false (c.upper-else-upper.ensures ∙ (e ∙ sym c.upper-else-upper-2.ensures)) in
    let is = sym c.upper-3.ensures ∙ (c.if-upper-3.false ∙ (c.upper-4.ensures ∙ c.requires.to)) in
    let its = sym c.upper.ensures ∙ (c.if-upper.false ∙ c.upper-2.ensures) in (
      refl,
      refl,
      high.1,
      high.2,
      omega (arith, after),
      inl (omega (arith, whole)),
      its,
      λ k from end. (is_within false height key last c.args.byte k (omega (arith, high)) c.ranges.byte.fits is from (omega (arith, end)), λ same. apart_behind l.height last k end ne (same ∙ sym its)),
    )
