use Rattle.std.proofs.Common.{rules, ◌≡◌, ap, subst}
use Rattle.spec_olc.specs.Meaning.{seen_of}
use Rattle.spec_olc.specs.declared.types.Report.{Report}
use Rattle.olc_descend.proofs.Events.{test_false}
use Rattle.olc_scan.specs.inner.Ranges.{IsLooked, after_scan}
use Rattle.olc_scan.proofs.Coded.{looked_comes}
use Rattle.olc_scan.proofs.Readings.{torn}
use Rattle.olc_scan.proofs.scanning.read.Goals as goal

pub returns-then-has_word : goal.returns-then-has_word
returns-then-has_word g c = λ env is.
    looked_comes g.P.Payload.always_shared g.P.HasMeaning.same_meaning g.P.HasMeaning.meaning _ c.args.store.now.root c.args.pin c.args.task.now c.args.course _ c.requires.placed c.args.here c.node_at-node.result.now.node _ _ c.node_at-node.ensures (c.has_word.ensures.0 (search rules)) c.requires.facts
    (after_scan c.read_whole.new.task c.read_whole.result) (subst (λ (r : Report). IsLooked g.P.Payload.always_shared g.P.HasMeaning.meaning c.node_at-node.result.now.node c.args.task.now c.args.course c.args.here r (after_scan c.read_whole.new.task c.read_whole.result)) c.report-report.ensures c.read_whole.ensures)

pub returns-else-has_word : goal.returns-else-has_word
returns-else-has_word g c = λ env is.
    rw (c.sees.ensures.task, c.sees.ensures.event, c.report-report.ensures)
    (torn g.P.Payload.always_shared g.P.HasMeaning.same_meaning _ c.args.store.now.root c.args.pin _ c.args.course _ c.requires.placed c.args.here _ c.node_at-node.ensures c.requires.facts (seen_of g.P.HasMeaning.meaning c.args.torn) (ap (seen_of g.P.HasMeaning.meaning) is)
    (λ (e : c.node_at-node.result.now.word ≡ c.args.here.word). test_false c.has_word.result (search rules) (c.has_word.ensures.1 e)))
