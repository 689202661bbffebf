use Rattle.std.proofs.Common.{refl}
use Rattle.congee_tree.proofs.BulkLaws.{extracting_begins, extracted, extracted_less, extracted_calls, extracted_all}
use Rattle.share_tree.proofs.bulk.extract_range.Goals as goal

pub loop-init : goal.loop-init
loop-init g c = (c.requires, extracting_begins _ _ _ _ _ c.law_ordered.ensures)

pub loop-smaller : goal.loop-smaller
loop-smaller g c = extracted_less _ _ _ _ _ _ _ c.loop.invariant.1 _ _ c.loop-test.ensures.extracts

pub loop-preserved : goal.loop-preserved
loop-preserved g c = (
  c.extract_next.ensures.callable,
  extracted _ _ _ _ _ _ _ c.loop.invariant.1 _ _ c.loop-test.ensures.extracts,
)

pub returns-clause-calls : goal.returns-clause-calls
returns-clause-calls g c =
    extracted_calls _ _ _ _ _ _ _ c.loop.invariant.1 _ _ _ _ refl refl c.loop-test.ensures.extracts

pub returns-clause-pairs : goal.returns-clause-pairs
returns-clause-pairs g c =
    extracted_all _ _ _ _ _ _ _ c.loop.invariant.1 _ _ _ _ refl refl c.loop-test.ensures.extracts
