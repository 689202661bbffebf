use Rattle.std.proofs.Common.{◌≡◌, ◌+◌, ◌-◌, ◌/◌, ◌*◌, ◌^◌, ◌≤◌, length, min, ap, arith, ◌∙◌, refl}
use Rattle.spec_node.specs.Key.{low}
use Rattle.tree_walk.proofs.WindowLaws.{window_to, window_none, padded_key}
use Rattle.tree_walk.proofs.window.window_of.Goals as goal

pub returns-then-first-last : goal.returns-then-first-last
returns-then-first-last c =
    let p = c.args.base.now.prefix in
    let long = ap length c.prefix.ensures.bytes in
    let short : length p ≤ 7 = omega (arith, long, c.prefix.ensures.short) in
    let e : c.first_key-first.result ≡ low p = c.first_key-first.ensures ∙ padded_key p short in
    let k = 8 * (7 - length p) in
    let back : c.args.last - low p ≡ c.args.last + 1 - 1 - low p = omega arith in
    window_to p c.args.start (c.args.last + 1) short _ e
    (ap (λ d. d / 2 ^ (8 * (7 - length c.prefix.result.now))) c.saturating_sub.ensures ∙ ap (λ l. (c.args.start - c.first_key-first.result) / 2 ^ (8 * (7 - l))) long ∙ ap (λ x. (c.args.start - x) / 2 ^ k) e)
    (omega (arith, e, c.if-first-last.true))
    (let to = c.min.ensures ∙ ap (λ l. min ((c.args.last - c.first_key-first.result) / 2 ^ (8 * (7 - l))) 255) long ∙ ap (λ x. min ((c.args.last - x) / 2 ^ k) 255) e ∙ ap (λ x. min (x / 2 ^ k) 255) back in omega (arith, to))

pub returns-else-first-last : goal.returns-else-first-last
returns-else-first-last c =
    let p = c.args.base.now.prefix in
    let long = ap length c.prefix.ensures.bytes in
    let short : length p ≤ 7 = omega (arith, long, c.prefix.ensures.short) in
    let e : c.first_key-first.result ≡ low p = c.first_key-first.ensures ∙ padded_key p short in
    let k = 8 * (7 - length p) in
    window_none p c.args.start (c.args.last + 1) short _ e
    (ap (λ d. d / 2 ^ (8 * (7 - length c.prefix.result.now))) c.saturating_sub.ensures ∙ ap (λ l. (c.args.start - c.first_key-first.result) / 2 ^ (8 * (7 - l))) long ∙ ap (λ x. (c.args.start - x) / 2 ^ k) e)
    (omega (arith, e, c.if-first-last.false))
    refl
