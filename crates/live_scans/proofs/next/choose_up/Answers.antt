use Rattle.std.proofs.Common.{arith, refl, sym, ◌≢◌, ◌∙◌, ◌-◌, inl, true}
use Rattle.live_nodes.specs.Levels.{up}
use Rattle.live_scans.proofs.Nones.{is_within}
use Rattle.live_scans.proofs.Nexts.{apart_after, apart_before}
use Rattle.live_scans.proofs.next.choose_up.Goals as goal

pub returns-then-first-at : goal.returns-then-first-at
returns-then-first-at c =
    let key = c.args.at.key in
    let height = c.args.at.height in
    let to = c.args.to in
    let l = c.args.lower in
    let low_key = c.if-to-at.false in
    let last = c.if-to-ne255.false in
    let after = c.if-first-at.true in
    let high = c.requires.height in (
      low_key,
      omega (arith, last),
      λ k from end. (is_within true height key to c.args.byte k (omega (arith, high)) c.ranges.byte.fits c.requires.to from end, apart_after l.height l.key key k (omega (arith, after)) from c.requires.apart),
    )

pub returns : goal.returns
returns c =
    let key = c.args.at.key in
    let height = c.args.at.height in
    let l = c.args.lower in
    let high = c.requires.height in
    let before = c.if-first-at.false in
    let ne : up l.height (l.key - 1) ≢ up l.height l.key = λ e. c.if-upper.false (c.upper.ensures ∙ (e ∙ sym c.upper-2.ensures)) in
    let is = sym c.upper-3.ensures ∙ (c.if-upper-2.false ∙ (c.upper-4.ensures ∙ c.requires.to)) in (
      refl,
      refl,
      high.1,
      high.2,
      before,
      inl c.if-first-ne0.false,
      refl,
      λ k from end. (is_within true height key l.key c.args.byte k (omega (arith, high)) c.ranges.byte.fits is from (omega (arith, end)), apart_before l.height l.key k end ne),
    )
