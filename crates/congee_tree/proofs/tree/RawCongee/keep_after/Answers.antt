use Rattle.std.proofs.Common.{◌≡◌, arith, false, refl, rules, subst, sym, true}
use Rattle.spec_map.specs.Map.{without}
use Rattle.tree_edit.specs.Calls.{Asking, HasNoneAfter}
use Rattle.tree_edit.proofs.AskingLaws.{asked_one}
use Rattle.congee_tree.specs.Bulk.{next_of}
use Rattle.congee_tree.proofs.BulkLaws.{first_from_is}
use Rattle.congee_tree.proofs.tree.RawCongee.keep_after.Goals as goal

pub keep_run-to-requires-clause-from : goal.keep_run-to-requires-clause-from
keep_run-to-requires-clause-from g c =
    let x = first_from_is _ _ _ _ c.law_ordered.ensures c.in-Some.ensures.some in
    let is = c.start_after-start.ensures (omega (arith, x.order, x.fits)) in
    omega (arith, x.order, is)

pub keep_run-to-requires-clause-there : goal.keep_run-to-requires-clause-there
keep_run-to-requires-clause-there g c = (first_from_is _ _ _ _ c.law_ordered.ensures c.in-Some.ensures.some).there

pub keep_run-to-requires-clause-first : goal.keep_run-to-requires-clause-first
keep_run-to-requires-clause-first g c =
    let x = first_from_is _ _ _ _ c.law_ordered.ensures c.in-Some.ensures.some in
    let is = c.start_after-start.ensures (omega (arith, x.order, x.fits)) in
    subst (λ s. HasNoneAfter c.args.self.now.pairs s c.in-Some.key) (sym is) x.none

pub returns-then-is_beside-clause-asks : goal.returns-then-is_beside-clause-asks
returns-then-is_beside-clause-asks g c =
    let x = first_from_is _ _ _ _ c.law_ordered.ensures c.in-Some.ensures.some in
    let is = c.start_after-start.ensures (omega (arith, x.order, x.fits)) in
    λ f first before. c.keep_run-to.ensures.asks f first (subst (λ s. Asking g.R.Asker.step f first c.args.f.now c.args.self.now.pairs s) (sym is) before)

pub returns-then-is_beside-clause-forward : goal.returns-then-is_beside-clause-forward
returns-then-is_beside-clause-forward g c =
    let x = first_from_is _ _ _ _ c.law_ordered.ensures c.in-Some.ensures.some in
    (omega (arith, x.order, c.keep_run-to.ensures.forward), omega arith)

-- the pair goes
pub returns-then-not-stays-clause-asks : goal.returns-then-not-stays-clause-asks
returns-then-not-stays-clause-asks g c = λ f first before.
    let gone : c.remove.new.tree.pairs ≡ without c.args.self.now.pairs c.in-Some.key = search rules in
    asked_one g.R.Asker.step f first c.args.f.now c.args.self.now.pairs (next_of c.args.last) before c.in-Some.key c.in-Some.payload.now false c.ask-stays.new.f c.remove.new.tree.pairs c.in-Some.ensures.some (rw c.if-not-stays.true at c.ask-stays.ensures.step) gone

pub returns-then-not-stays-clause-forward : goal.returns-then-not-stays-clause-forward
returns-then-not-stays-clause-forward g c =
    let x = first_from_is _ _ _ _ c.law_ordered.ensures c.in-Some.ensures.some in
    (x.order, x.fits)

-- it stays
pub returns-else-not-stays-clause-asks : goal.returns-else-not-stays-clause-asks
returns-else-not-stays-clause-asks g c = λ f first before.
    asked_one g.R.Asker.step f first c.args.f.now c.args.self.now.pairs (next_of c.args.last) before c.in-Some.key c.in-Some.payload.now true c.ask-stays.new.f c.args.self.now.pairs c.in-Some.ensures.some (rw c.if-not-stays.false at c.ask-stays.ensures.step) refl

pub returns-else-not-stays-clause-forward : goal.returns-else-not-stays-clause-forward
returns-else-not-stays-clause-forward g c =
    let x = first_from_is _ _ _ _ c.law_ordered.ensures c.in-Some.ensures.some in
    (x.order, x.fits)
