use Rattle.std.proofs.Common.{◌≡◌, ℕ, ◌+◌, ◌-◌, ◌≤◌, ◌++◌, ◌∷◌, [], max, List, length, replicate, ap, ◌∙◌, arith, w64}
use Rattle.std.specs.Int.{from_be_bytes}
use Rattle.spec_node.specs.Key.{high, low}
use Rattle.olc_scan.proofs.Bounds.{high-last, padded_key}
use Rattle.olc_scan.proofs.scanning.reach_in.Goals as goal

-- the last key with a prefix that is the node's
last_high : (last : ℕ) (p q r : List ℕ) → p ≡ q → q ≡ r → length p ≤ 7 → last + 1 ≡ high (p ++ 255 ∷ []) → last + 1 ≡ high r
last_high last p q r e f short is = is ∙ high-last p short ∙ ap high (e ∙ f)

first_low : (first : ℕ) (p q : List ℕ) → p ≡ q → length p ≤ 7 → first ≡ from_be_bytes w64 (p ++ replicate (8 - length p) 0) → first ≡ low q
first_low first p q e short is = is ∙ padded_key p short ∙ ap low e

pub returns-then-last_key-cursor-clause-past : goal.returns-then-last_key-cursor-clause-past
returns-then-last_key-cursor-clause-past g c =
    let last : c.last_key.result + 1 ≡ high c.args.node.now.prefix = last_high c.last_key.result c.prefix.result.now c.base-base.result.now.prefix c.args.node.now.prefix c.prefix.ensures.bytes c.base-base.ensures.prefix c.prefix.ensures.short c.last_key.ensures in
    omega (arith, last)

pub returns-else-last_key-cursor-clause-within : goal.returns-else-last_key-cursor-clause-within
returns-else-last_key-cursor-clause-within g c =
    let last : c.last_key.result + 1 ≡ high c.args.node.now.prefix = last_high c.last_key.result c.prefix.result.now c.base-base.result.now.prefix c.args.node.now.prefix c.prefix.ensures.bytes c.base-base.ensures.prefix c.prefix.ensures.short c.last_key.ensures in
    let long : length c.prefix.result.now ≡ length c.base-base.result.now.prefix = ap length c.prefix.ensures.bytes in
    let first : c.first_key.result ≡ low c.args.node.now.prefix = first_low c.first_key.result c.base-base.result.now.prefix c.args.node.now.prefix c.base-base.ensures.prefix (omega (arith, long, c.prefix.ensures.short)) c.first_key.ensures in
    (c.max.ensures ∙ ap (λ (x : ℕ). max c.args.cursor x) first, omega (arith, last, c.if-last_key-cursor.false))
