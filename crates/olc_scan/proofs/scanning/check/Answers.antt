use Rattle.std.proofs.Common.{rules, ◌≡◌, inl, refl, ◌+◌, [], ◌∷◌, ◌++◌, ◌∙◌, length, ap, subst}
use Rattle.spec_map.specs.Map.{between}
use Rattle.spec_node.specs.Key.{high, low, next_byte}
use Rattle.spec_node.specs.TableNode.{looked_at}
use Rattle.spec_olc.specs.Calls.{bytes_of}
use Rattle.spec_olc.specs.declared.types.Report.{Report}
use Rattle.olc_descend.proofs.Events.{test_false}
use Rattle.olc_scan.specs.inner.Ranges.{IsPaired, IsPast, after_scan}
use Rattle.olc_scan.proofs.Coded.{none_comes, down_comes, pair_comes, in_leaf, has_spare, no_env, with_prefix}
use Rattle.olc_scan.proofs.Steps.{check_restarts, spot_known}
use Rattle.olc_scan.proofs.scanning.check.Goals as goal

pub returns-then-not-has_word : goal.returns-then-not-has_word
returns-then-not-has_word g c = λ env.
    rw (c.back.ensures.task, c.back.ensures.event, c.report-report.ensures)
    (check_restarts g.P.Payload.always_shared g.P.HasMeaning.same_meaning _ c.args.store.now.root c.args.pin _ c.args.course _ c.requires.placed _ c.args.here c.requires.facts.0 _ c.node_at-node.ensures (spot_known c.args.here) (inl refl)
    (λ (e : c.node_at-node.result.now.word ≡ c.args.here.word). test_false c.has_word.result c.if-not-has_word.true (c.has_word.ensures.1 e)))

pub leaf_key-requires : goal.leaf_key-requires
leaf_key-requires g c =
    let n = c.node_at-node.result.now.node in
    let byte = c.in-Some-default-Payload.byte in
    let e = subst (λ x. between n.children (next_byte n.prefix (bytes_of c.args.course.reach)) 256 ≡ (byte, looked_at x) ∷ between n.children (byte + 1) 256) c.in-Some-default-Payload.field-0-1-is c.in-Some-default-Payload.ensures.some in
    ap length (c.prefix-prefix.ensures.bytes ∙ c.base.ensures.prefix)
    ∙ in_leaf g.P.Payload.always_shared g.P.HasMeaning.same_meaning g.P.HasMeaning.meaning _ c.args.store.now.root c.args.pin c.args.task.now c.args.course (no_env g.P.HasMeaning.Meaning) c.requires.placed c.args.here n _ _ c.node_at-node.ensures (c.has_word.ensures.0 (search rules)) c.requires.facts.0 byte _ _ e c.requires.facts.1

pub paired-requires : goal.paired-requires
paired-requires g c =
    let n = c.node_at-node.result.now.node in
    let byte = c.in-Some-default-Payload.byte in
    let e = subst (λ x. between n.children (next_byte n.prefix (bytes_of c.args.course.reach)) 256 ≡ (byte, looked_at x) ∷ between n.children (byte + 1) 256) c.in-Some-default-Payload.field-0-1-is c.in-Some-default-Payload.ensures.some in
    has_spare g.P.Payload.always_shared g.P.HasMeaning.same_meaning g.P.HasMeaning.meaning _ c.args.store.now.root c.args.pin c.args.task.now c.args.course (no_env g.P.HasMeaning.Meaning) c.requires.placed c.args.here n _ _ c.node_at-node.ensures (c.has_word.ensures.0 (search rules)) c.requires.facts.0 byte _ _ e c.requires.facts.1

pub returns-in-None : goal.returns-in-None
returns-in-None g c = λ env.
    let n = c.node_at-node.result.now.node in
    none_comes g.P.Payload.always_shared g.P.HasMeaning.same_meaning g.P.HasMeaning.meaning _ c.args.store.now.root c.args.pin c.args.task.now c.args.course _ c.requires.placed c.args.here n _ _ c.node_at-node.ensures (c.has_word.ensures.0 (search rules)) c.requires.facts.0
    c.in-None.ensures.none c.last_key.result (with_prefix (λ p. c.last_key.result + 1 ≡ high (p ++ 255 ∷ [])) c.prefix-prefix.result.now c.base.result.now.prefix n.prefix c.prefix-prefix.ensures.bytes c.base.ensures.prefix c.last_key.ensures) (after_scan c.past.new.task c.past.result)
    (subst (λ (r : Report). IsPast c.args.task.now c.args.course c.last_key.result r (after_scan c.past.new.task c.past.result)) c.report-report-2.ensures c.past.ensures) c.requires.facts.1

pub returns-in-Some-default-Payload : goal.returns-in-Some-default-Payload
returns-in-Some-default-Payload g c = λ env.
    let n = c.node_at-node.result.now.node in
    let byte = c.in-Some-default-Payload.byte in
    let e = subst (λ x. between n.children (next_byte n.prefix (bytes_of c.args.course.reach)) 256 ≡ (byte, looked_at x) ∷ between n.children (byte + 1) 256) c.in-Some-default-Payload.field-0-1-is c.in-Some-default-Payload.ensures.some in
    pair_comes g.P.Payload.always_shared g.P.HasMeaning.same_meaning g.P.HasMeaning.meaning _ c.args.store.now.root c.args.pin c.args.task.now c.args.course _ c.requires.placed c.args.here n _ _ c.node_at-node.ensures (c.has_word.ensures.0 (search rules)) c.requires.facts.0
    byte _ _ e c.requires.facts.1 c.leaf_key.result (with_prefix (λ p. c.leaf_key.result ≡ low (p ++ byte ∷ [])) c.prefix-prefix.result.now c.base.result.now.prefix n.prefix c.prefix-prefix.ensures.bytes c.base.ensures.prefix c.leaf_key.ensures) (after_scan c.paired.new.task c.paired.result)
    (subst (λ (r : Report). IsPaired c.args.task.now c.args.course c.args.here c.leaf_key.result byte r (after_scan c.paired.new.task c.paired.result)) c.report-report-2.ensures c.paired.ensures)

pub returns-in-Some-default-Node : goal.returns-in-Some-default-Node
returns-in-Some-default-Node g c = λ env.
    let n = c.node_at-node.result.now.node in
    let byte = c.in-Some-default-Node.field-0-0 in
    let e = subst (λ x. between n.children (next_byte n.prefix (bytes_of c.args.course.reach)) 256 ≡ (byte, looked_at x) ∷ between n.children (byte + 1) 256) c.in-Some-default-Node.field-0-1-is c.in-Some-default-Node.ensures.some in
    rw (c.on.ensures, c.report-report-2.ensures)
    (down_comes g.P.Payload.always_shared g.P.HasMeaning.same_meaning g.P.HasMeaning.meaning _ c.args.store.now.root c.args.pin c.args.task.now c.args.course _ c.requires.placed c.args.here n _ _ c.node_at-node.ensures (c.has_word.ensures.0 (search rules)) c.requires.facts.0
    byte c.in-Some-default-Node.slot _ e c.requires.facts.1)
