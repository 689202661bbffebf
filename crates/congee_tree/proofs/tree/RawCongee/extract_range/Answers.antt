use Rattle.std.proofs.Common.{◌∙◌, refl, subst, sym}
use Rattle.std.specs.List.{FoldsTo}
use Rattle.tree_edit.proofs.TidyLaws.{moves_trans}
use Rattle.congee_tree.proofs.BulkLaws.{first_inside, is_present, all_outside, none_comes_before, none_of_first}
use Rattle.congee_tree.proofs.tree.RawCongee.extract_range.Goals as goal

pub loop-key-init : goal.loop-key-init
loop-key-init g c = (refl, refl, λ last calls. calls, c.requires)

pub extract_run-requires-clause-from : goal.extract_run-requires-clause-from
extract_run-requires-clause-from g c = (first_inside c.loop-key.self.pairs c.args.start c.args.end c.in-Some.key c.in-Some.ensures).0

pub extract_run-requires-clause-below : goal.extract_run-requires-clause-below
extract_run-requires-clause-below g c = (first_inside c.loop-key.self.pairs c.args.start c.args.end c.in-Some.key c.in-Some.ensures).1

pub extract_run-requires-clause-first : goal.extract_run-requires-clause-first
extract_run-requires-clause-first g c = none_comes_before c.loop-key.self.pairs c.args.start c.args.end c.in-Some.key c.law_ordered.ensures c.in-Some.ensures

pub loop-key-preserved : goal.loop-key-preserved
loop-key-preserved g c =
    let i = c.loop-key.invariant in
    let run = c.extract_run.ensures in (
      run.removes.others ∙ i.0,
      moves_trans _ _ _ _ _ _ i.1 run.removes.charged,
      λ last calls. i.2 last (run.calls last calls),
      run.ready,
    )

pub loop-key-smaller : goal.loop-key-smaller
loop-key-smaller g c = c.extract_run.ensures.removes.fewer (is_present _ c.args.start c.args.end c.in-Some.key c.in-Some.ensures)

pub returns-clause-calls : goal.returns-clause-calls
returns-clause-calls g c =
    c.loop-key.invariant.2 c.loop-key.f
    (subst (λ es. FoldsTo g.R.Receiver.step c.loop-key.f es c.loop-key.f) (sym (none_of_first _ c.in_default.ensures)) refl)

pub returns-clause-pairs : goal.returns-clause-pairs
returns-clause-pairs g c =
    sym (all_outside c.loop-key.self.pairs c.args.start c.args.end (none_of_first _ c.in_default.ensures)) ∙ c.loop-key.invariant.0

pub returns-clause-charge : goal.returns-clause-charge
returns-clause-charge g c = c.loop-key.invariant.1
