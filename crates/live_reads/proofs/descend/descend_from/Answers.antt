use Rattle.std.proofs.Common.{rules, arith, subst, false, ℕ, Some, None, ◌≡◌, ◌≤◌, ◌∙◌}
use Rattle.live_nodes.specs.Views.{ask}
use Rattle.live_reads.specs.Paths.{IsOpen, Ended, Keeps}
use Rattle.live_reads.specs.Sees.{Follows, IsNextOpen}
use Rattle.live_reads.specs.declared.prefix_match.Next.{Next}
use Rattle.live_reads.specs.declared.prefix_match.Next.TheVariants as nexts
use Rattle.live_reads.proofs.Finds.{keeps_then, when_out}
use Rattle.live_reads.proofs.Stood.{position_kept, position_below}
use Rattle.live_reads.proofs.descend.descend_from.Goals as goal
use Rattle.live_reads.proofs.descend.descend_from.Goals.{After-step, In_ok-step}

-- ONE NODE FURTHER DOWN
module _ (c : After-step) where
  keeps : Keeps c.args.seat.now.view c.step.new.seat.view
  keeps = keeps_then c.args.seat.now.view c.loop-position.seat.view c.step.new.seat.view c.loop-position.invariant.keeps c.step.ensures.keeps

  book : c.step.new.seat.book ≡ c.args.seat.now.book
  book = c.step.ensures.book ∙ c.loop-position.invariant.book

  id : c.step.new.seat.id ≡ c.args.seat.now.id
  id = c.step.ensures.id ∙ c.loop-position.invariant.id

-- what follows
module _ (c : In_ok-step) where
  follows : (next : Next) → c.in_ok-step.step.next ≡ next → Follows (Ended false (ask c.loop-position.seat.id c.args.key 0 0) None) c.loop-position.seat.view c.step.new.seat.view c.args.key c.loop-position.position.height (Some next)
  follows next is = subst (λ z. Follows (Ended false (ask c.loop-position.seat.id c.args.key 0 0) None) c.loop-position.seat.view c.step.new.seat.view c.args.key c.loop-position.position.height (Some z)) is c.in_ok-step.ensures.next.0

pub loop-position-init : goal.loop-position-init
loop-position-init c =
    let b = c.begin.ensures in record {
      book = b.book;
      id = b.id;
      keeps = b.keeps;
      seen = b.seen;
      position = c.in_ok-position.ensures.begins.0;
      node = c.in_ok-position.ensures.begins.1;
    }

pub returns-in_err-step : goal.returns-in_err-step
returns-in_err-step c =
    let k = (goal.at.returns-in_err-step c).After-step in
    let out : c.from_residual-in_err-step.result ≡ None = search rules in
    record { book = book k; id = id k; keeps = keeps k; seen = c.in_err-step.ensures.none ∙ c.loop-position.invariant.seen; end = when_out _ c.from_residual-in_err-step.result out; leaf = when_out _ c.from_residual-in_err-step.result out }

pub returns-in-Ends : goal.returns-in-Ends
returns-in-Ends c =
    let at = goal.at.returns-in-Ends c in
    let k = at.After-step in
    let f = follows at.In_ok-step nexts.Ends (search rules) in
    let kept = position_kept c.loop-position.seat.view c.step.new.seat.view c.args.key c.loop-position.position c.step.ensures.keeps c.loop-position.invariant.position in
    record { book = book k; id = id k; keeps = keeps k; seen = f ∙ c.loop-position.invariant.seen; end = (kept, tt); leaf = λ one. absurd (omega (arith, one, c.loop-position-test.true)) }

pub loop-position-preserved : goal.loop-position-preserved
loop-position-preserved c =
    let at = goal.at.loop-position-preserved c in
    let k = at.After-step in
    let w = c.step.new.seat.view in
    let here = c.in_ok-step.step.here in
    let is : c.in_ok-step.step.next ≡ nexts.Goes c.in-Goes.name c.in-Goes.height = search rules in
    let f = follows at.In_ok-step (nexts.Goes c.in-Goes.name c.in-Goes.height) is in
    record {
      book = book k;
      id = id k;
      keeps = keeps k;
      seen = f.0 ∙ c.loop-position.invariant.seen;
      position = position_below c.loop-position.seat.view w c.args.key c.loop-position.position c.in-Goes.name c.in-Goes.height c.step.ensures.keeps c.loop-position.invariant.position f.1 f.2 f.3;
      node = subst (λ z. IsNextOpen w c.step.new.seat.book here.words.now here.taken c.args.key z) is c.in_ok-step.ensures.next.1;
    }

pub returns-in-Mismatches : goal.returns-in-Mismatches
returns-in-Mismatches c =
    let at = goal.at.returns-in-Mismatches c in
    let k = at.After-step in
    let f = follows at.In_ok-step (nexts.Mismatches c.in-Mismatches.mismatch) (search rules) in
    let tall : 2 ≤ c.loop-position.position.height = omega (arith, c.loop-position-test.true) in
    let kept = position_kept c.loop-position.seat.view c.step.new.seat.view c.args.key c.loop-position.position c.step.ensures.keeps c.loop-position.invariant.position in
    record { book = book k; id = id k; keeps = keeps k; seen = f.0 ∙ c.loop-position.invariant.seen; end = (kept, (tall, f.1)); leaf = λ one. absurd (omega (arith, one, tall)) }

pub returns : goal.returns
returns c =
    let l = c.loop-position in
    let i = l.invariant in record {
      book = i.book;
      id = i.id;
      keeps = i.keeps;
      seen = i.seen;
      end = (i.position, tt);
      leaf = λ one. subst (λ (z : ℕ). IsOpen l.seat.view l.seat.book l.here.words.now l.here.taken l.position.name c.args.key z) one i.node;
    }
