use Rattle.std.proofs.Common.{ℕ, ◌≡◌, ap, subst}
use Rattle.spec_olc.specs.Calls.{bytes_of}
use Rattle.spec_olc.specs.Meaning.{env_of, seen_of}
use Rattle.olc_state.specs.inner.Meant.{meant_node}
use Rattle.olc_descend.proofs.Events.{test_false}
use Rattle.olc_seek.specs.inner.Sought.{IsSought}
use Rattle.olc_seek.proofs.Readings.{torn_read, whole_read}
use Rattle.olc_seek.proofs.reading.read.Goals as goal

pub returns-then-has_word : goal.returns-then-has_word
returns-then-has_word g c = λ env torn.
    let meaning = g.P.HasMeaning.meaning in
    let seen = seen_of meaning c.look-seen.result in
    rw (c.sees.ensures.task, c.sees.ensures.event, c.report-report.ensures)
    (whole_read g.P.Payload.always_shared g.P.HasMeaning.same_meaning _ c.args.store.now.root c.args.pin _ c.args.cleanup _ c.requires.placed c.args.path _ c.node_at-node.ensures c.requires.facts seen (c.has_word.ensures.0 c.if-has_word.true)
    (subst (λ (k : ℕ). IsSought g.P.Payload.always_shared (meant_node meaning c.node_at-node.result.now.node) (bytes_of k) seen) c.key.ensures c.look-seen.ensures))

pub returns-else-has_word : goal.returns-else-has_word
returns-else-has_word g c = λ env torn.
    rw (c.sees-else-has_word.ensures.task, c.sees-else-has_word.ensures.event, c.report-report.ensures)
    (torn_read g.P.Payload.always_shared g.P.HasMeaning.same_meaning _ c.args.store.now.root c.args.pin _ c.args.cleanup (env_of g.P.HasMeaning.meaning env) c.requires.placed c.args.path _ c.node_at-node.ensures c.requires.facts (seen_of g.P.HasMeaning.meaning c.args.torn)
    (ap (seen_of g.P.HasMeaning.meaning) torn)
    (λ (e : c.node_at-node.result.now.word ≡ c.args.path.here.word). test_false c.has_word.result c.if-has_word.false (c.has_word.ensures.1 e)))
