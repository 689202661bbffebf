use Rattle.std.proofs.Common.{rules, ◌≡◌, ap}
use Rattle.spec_olc.specs.Meaning.{env_of, seen_of}
use Rattle.olc_descend.proofs.Events.{test_false}
use Rattle.olc_descend.proofs.Looks.{torn_read, whole_or_refused}
use Rattle.olc_descend.proofs.looking.read.Goals as goal

pub returns-then-has_word : goal.returns-then-has_word
returns-then-has_word g c = record {
  reads = λ env torn.
      rw (c.read_whole.ensures.report, c.report-report.ensures)
      (whole_or_refused g.P.Payload.always_shared g.P.HasMeaning.same_meaning _ c.args.store.now.root c.args.pin _ _ c.requires.placed c.args.path _ c.node_at-node.ensures c.requires.facts (c.has_word.ensures.0 (search rules)) _ _ c.read_whole.ensures.reports);
}

pub returns-else-has_word : goal.returns-else-has_word
returns-else-has_word g c = record {
  reads = λ env torn.
      rw (c.saw.ensures.task, c.saw.ensures.event, c.report-report.ensures)
      (torn_read g.P.Payload.always_shared g.P.HasMeaning.same_meaning _ c.args.store.now.root c.args.pin _ (env_of g.P.HasMeaning.meaning env) c.requires.placed c.args.path _ c.node_at-node.ensures c.requires.facts (seen_of g.P.HasMeaning.meaning c.args.torn)
      (ap (seen_of g.P.HasMeaning.meaning) torn)
      (λ (e : c.node_at-node.result.now.word ≡ c.args.path.here.word). test_false c.has_word.result (search rules) (c.has_word.ensures.1 e)));
}
