use Rattle.std.proofs.Common.{rules, ◌≡◌, ◌+◌, inl, inr, refl, [], ◌∷◌, ◌++◌, subst}
use Rattle.spec_node.specs.Key.{high}
use Rattle.spec_olc.specs.declared.types.Report.{Report}
use Rattle.olc_descend.proofs.Events.{test_false}
use Rattle.olc_scan.specs.inner.Ranges.{IsPast, after_scan}
use Rattle.olc_scan.proofs.Coded.{deeper, never_none, no_env, over_comes, with_prefix}
use Rattle.olc_scan.proofs.Steps.{above_known, check_restarts}
use Rattle.olc_scan.proofs.scanning.check_above.Goals as goal

pub returns-then-not-has_word : goal.returns-then-not-has_word
returns-then-not-has_word g c = λ env.
    let f = c.requires.facts in
    rw (c.back.ensures.task, c.back.ensures.event, c.report-report.ensures)
    (check_restarts g.P.Payload.always_shared g.P.HasMeaning.same_meaning _ c.args.store.now.root c.args.pin _ c.args.course _ c.requires.placed _ c.args.here f.0 _ c.node_at-node.ensures (above_known c.args.here c.args.below f.4) (inr (inl refl))
    (λ (e : c.node_at-node.result.now.word ≡ c.args.here.word). test_false c.has_word.result c.if-not-has_word.true (c.has_word.ensures.1 e)))

pub returns-in-Some : goal.returns-in-Some
returns-in-Some g c = λ env.
    let f = c.requires.facts in
    rw (c.on.ensures, c.report-report-2.ensures)
    (deeper g.P.Payload.always_shared g.P.HasMeaning.same_meaning g.P.HasMeaning.meaning _ c.args.store.now.root c.args.pin c.args.task.now c.args.course _ c.requires.placed c.args.here c.node_at-node.result.now.node _ _ c.node_at-node.ensures (c.has_word.ensures.0 (search rules)) f.0
    c.args.below f.1 f.2 f.4 c.args.from f.3 f.5 c.in-Some.reach c.in-Some.is)

pub unreachable-requires : goal.unreachable-requires
unreachable-requires g c =
    let f = c.requires.facts in
    never_none g.P.Payload.always_shared g.P.HasMeaning.same_meaning g.P.HasMeaning.meaning _ c.args.store.now.root c.args.pin c.args.task.now c.args.course (no_env g.P.HasMeaning.Meaning) c.requires.placed c.args.here c.node_at-node.result.now.node _ _ c.node_at-node.ensures (c.has_word.ensures.0 (search rules)) f.0
    c.args.below f.1 f.2 f.4 c.args.from f.3 f.5 c.in_default-first_at.ensures.none

pub returns : goal.returns
returns g c = λ env.
    let f = c.requires.facts in
    let n = c.node_at-node.result.now.node in
    let byte = c.in-Some-first_at.byte in
    over_comes g.P.Payload.always_shared g.P.HasMeaning.same_meaning g.P.HasMeaning.meaning _ c.args.store.now.root c.args.pin c.args.task.now c.args.course _ c.requires.placed c.args.here n _ _ c.node_at-node.ensures (c.has_word.ensures.0 (search rules)) f.0
    c.args.below f.1 f.2 f.4 c.args.from f.3 f.5 c.in_default.is byte _ _ c.in-Some-first_at.ensures.some c.last_key.result (with_prefix (λ p. c.last_key.result + 1 ≡ high (p ++ byte ∷ [])) c.prefix.result.now c.base.result.now.prefix n.prefix c.prefix.ensures.bytes c.base.ensures.prefix c.last_key.ensures) (after_scan c.past.new.task c.past.result)
    (subst (λ (r : Report). IsPast c.args.task.now c.args.course c.last_key.result r (after_scan c.past.new.task c.past.result)) c.report-report-2.ensures c.past.ensures)
