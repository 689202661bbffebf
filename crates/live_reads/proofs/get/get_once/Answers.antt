use Rattle.std.proofs.Common.{rules, arith, refl, sym, ap, subst, ℕ, Some, None, ◌≡◌, ◌∙◌}
use Rattle.live_nodes.specs.Views.{View}
use Rattle.live_reads.specs.Paths.{Names, IsOpen, Keeps, Found, Ended}
use Rattle.live_reads.specs.Sees.{Follows, IsNextOpen}
use Rattle.live_reads.specs.declared.prefix_match.Next.{Next}
use Rattle.live_reads.specs.declared.prefix_match.Next.TheVariants as nexts
use Rattle.live_reads.proofs.Finds.{keeps_then, seen_more, looked_leaf, ended_none, names_kept}
use Rattle.live_reads.specs.Positions.{KnowsLast}
use Rattle.live_reads.proofs.Sights.{sights_names, sure_root}
use Rattle.live_reads.proofs.Stood.{last_kept, position_below_root}
use Rattle.live_reads.proofs.get.get_once.Given.{Over}
use Rattle.live_reads.proofs.get.get_once.Goals as goal
use Rattle.live_reads.proofs.get.get_once.Goals.{After-step, In_ok-step, After-ends_above}

-- ONE NODE FURTHER DOWN
module _ (g : Over) (c : After-step g) where
  keeps : Keeps c.args.seat.now.view c.step.new.seat.view
  keeps = keeps_then c.args.seat.now.view c.loop-height.seat.view c.step.new.seat.view c.loop-height.invariant.keeps c.step.ensures.keeps

  book : c.step.new.seat.book ≡ c.args.seat.now.book
  book = c.step.ensures.book ∙ c.loop-height.invariant.book

  id : c.step.new.seat.id ≡ c.args.seat.now.id
  id = c.step.ensures.id ∙ c.loop-height.invariant.id

  last_then : KnowsLast c.step.new.seat.view c.args.last.now
  last_then = last_kept c.args.seat.now.view c.step.new.seat.view c.args.last.now keeps c.requires.last

-- what follows
module _ (g : Over) (c : In_ok-step g) where
  follows : (next : Next) → c.in_ok-step.step.next ≡ next → Follows (Ended g.A.Asks.reads g.A.Asks.ask None) c.loop-height.seat.view c.step.new.seat.view c.args.key c.loop-height.height (Some next)
  follows next is = subst (λ z. Follows (Ended g.A.Asks.reads g.A.Asks.ask None) c.loop-height.seat.view c.step.new.seat.view c.args.key c.loop-height.height (Some z)) is c.in_ok-step.ensures.next.0

-- THE NODE ABOVE was compared, where the key leaves the path of the one below
module _ (g : Over) (c : After-ends_above g) where
  abbrev step_of : After-step g
  step_of = (goal.at.After-ends_above g c).After-step

  all_keeps : Keeps c.args.seat.now.view c.ends_above.new.seat.view
  all_keeps = keeps_then c.args.seat.now.view c.step.new.seat.view c.ends_above.new.seat.view (keeps g step_of) c.ends_above.ensures.keeps

  last_above : KnowsLast c.ends_above.new.seat.view c.args.last.now
  last_above = last_kept c.args.seat.now.view c.ends_above.new.seat.view c.args.last.now all_keeps c.requires.last

  seen_before : c.step.new.seat.view.client.seen ≡ c.args.seat.now.view.client.seen
  seen_before = (follows g (goal.at.After-ends_above g c).In_ok-step (nexts.Mismatches c.in-Mismatches.mismatch) (search rules)).0 ∙ c.loop-height.invariant.seen

pub returns-in_err-top-clause-last : goal.returns-in_err-top-clause-last
returns-in_err-top-clause-last g c = last_kept c.args.seat.now.view c.root.new.seat.view c.args.last.now c.root.ensures.keeps c.requires.last

pub returns-in_err-here : goal.returns-in_err-here
returns-in_err-here g c =
    let u = c.args.seat.now.view in
    let r = c.root.ensures in
    let o = c.open.ensures in
    let w = c.open.new.seat.view in
    let out : c.from_residual-in_err-here.result ≡ None = search rules in
    record { book = o.book ∙ r.book; id = o.id ∙ r.id; keeps = keeps_then u c.root.new.seat.view w r.keeps o.keeps; found = subst (λ z. Found g.A.Asks.ask z u w) (sym out) (ap (λ (z : View). z.seen) o.client ∙ r.seen); last = last_kept u w c.args.last.now (keeps_then u c.root.new.seat.view w r.keeps o.keeps) c.requires.last }

pub loop-height-init : goal.loop-height-init
loop-height-init g c =
    let u = c.args.seat.now.view in
    let v = c.root.new.seat.view in
    let w = c.open.new.seat.view in
    let r = c.root.ensures in
    let o = c.open.ensures in
    let there = c.in_ok-here.ensures.opened in
    let n = c.in_ok-top.ensures.named in
    let name = c.in_ok-top.top in
    record {
      book = o.book ∙ r.book;
      id = o.id ∙ r.id;
      keeps = keeps_then u v w r.keeps o.keeps;
      seen = ap (λ (z : View). z.seen) o.client ∙ r.seen;
      low = omega arith;
      high = omega arith;
      root = names_kept v w name c.args.key 8 o.keeps n;
      node = record {
        names = names_kept v w name c.args.key 8 o.keeps n;
        opened = there.1 (sights_names v name c.args.key 8 n);
        free = there.0;
        sure = sure_root n.spot (there.1 (sights_names v name c.args.key 8 n)).saw n.high;
      };
    }

pub returns-in_err-step : goal.returns-in_err-step
returns-in_err-step g c =
    let k = (goal.at.returns-in_err-step g c).After-step in
    let out : c.from_residual-in_err-step.result ≡ None = search rules in
    record { book = book g k; id = id g k; keeps = keeps g k; found = subst (λ o. Found g.A.Asks.ask o c.args.seat.now.view c.step.new.seat.view) (sym out) (c.in_err-step.ensures.none ∙ c.loop-height.invariant.seen); last = last_then g k }

pub returns-in-Ends : goal.returns-in-Ends
returns-in-Ends g c =
    let at = goal.at.returns-in-Ends g c in
    let k = at.After-step in
    let v = c.loop-height.seat.view in
    let w = c.step.new.seat.view in
    let none = ended_none g.A.Asks.reads g.A.Asks.ask v w c.requires.asks.2 (follows g at.In_ok-step nexts.Ends (search rules)) in
    record { book = book g k; id = id g k; keeps = keeps g k; found = seen_more g.A.Asks.ask (Some None) c.args.seat.now.view v w c.loop-height.invariant.seen none; last = last_then g k }

pub loop-height-preserved : goal.loop-height-preserved
loop-height-preserved g c =
    let at = goal.at.loop-height-preserved g c in
    let k = at.After-step in
    let here = c.in_ok-step.step.here in
    let is : c.in_ok-step.step.next ≡ nexts.Goes c.in-Goes.below c.in-Goes.lower = search rules in
    let f = follows g at.In_ok-step (nexts.Goes c.in-Goes.below c.in-Goes.lower) is in
    record {
      book = book g k;
      id = id g k;
      keeps = keeps g k;
      seen = f.0 ∙ c.loop-height.invariant.seen;
      low = f.2;
      high = (let x = c.loop-height.invariant.high in let y = f.3 in omega (arith, x, y));
      root = names_kept c.loop-height.seat.view c.step.new.seat.view c.in_ok-top.top c.args.key 8 c.step.ensures.keeps c.loop-height.invariant.root;
      node = subst (λ z. IsNextOpen c.step.new.seat.view c.step.new.seat.book here.words.now here.taken c.args.key z) is c.in_ok-step.ensures.next.1;
    }

pub ends_above-requires-clause-sighted : goal.ends_above-requires-clause-sighted
ends_above-requires-clause-sighted g c =
    let v = c.loop-height.seat.view in
    let w = c.step.new.seat.view in
    let h = c.loop-height.height in
    let f = follows g (goal.at.ends_above-requires-clause-sighted g c).In_ok-step (nexts.Mismatches c.in-Mismatches.mismatch) (search rules) in
    (sights_names w c.loop-height.name c.args.key h (names_kept v w c.loop-height.name c.args.key h c.step.ensures.keeps c.loop-height.invariant.node.names), f.1.sighted)

pub returns-then-ends_above : goal.returns-then-ends_above
returns-then-ends_above g c =
    let a = (goal.at.returns-then-ends_above g c).After-ends_above in
    let k = step_of g a in
    let e = c.ends_above.ensures in
    let none = seen_more g.A.Asks.ask (Some None) c.args.seat.now.view c.step.new.seat.view c.ends_above.new.seat.view (seen_before g a) (c.ends_above.ensures.ends (search rules)) in
    record { book = e.book ∙ book g k; id = e.id ∙ id g k; keeps = all_keeps g a; found = none; last = last_above g a }

pub returns-in-Mismatches : goal.returns-in-Mismatches
returns-in-Mismatches g c =
    let a = (goal.at.returns-in-Mismatches g c).After-ends_above in
    let k = step_of g a in
    let e = c.ends_above.ensures in
    record { book = e.book ∙ book g k; id = e.id ∙ id g k; keeps = all_keeps g a; found = c.ends_above.ensures.busy (search rules) ∙ seen_before g a; last = last_above g a }

pub look-requires-clause-open : goal.look-requires-clause-open
look-requires-clause-open g c =
    let l = c.loop-height in
    let i = l.invariant in
    let low = i.low in
    let one : l.height ≡ 1 = omega (arith, low, c.loop-height-test.false) in
    subst (λ (z : ℕ). IsOpen l.seat.view l.seat.book l.here.words.now l.here.taken l.name c.args.key z) one i.node

pub returns : goal.returns
returns g c =
    let u = c.args.seat.now.view in
    let i = c.loop-height.invariant in
    let v = c.loop-height.seat.view in
    let w = c.look.new.seat.view in
    let t = c.look.ensures in
    let q = g.A.Asks.ask in
    let found = looked_leaf g.A.Asks.reads q c.look.result v w c.requires.asks.2 t.looked in
    let low = i.low in
    let one : c.loop-height.height ≡ 1 = omega (arith, low, c.loop-height-test.false) in
    let named = names_kept v w c.loop-height.name c.args.key 1 t.keeps (subst (λ (z : ℕ). Names v c.loop-height.name c.args.key z) one i.node.names) in
    record {
      book = t.book ∙ i.book;
      id = t.id ∙ i.id;
      keeps = keeps_then u v w i.keeps t.keeps;
      found = seen_more q c.look.result u v w i.seen found;
      last = λ _. (position_below_root w c.args.key c.in_ok-top.top c.loop-height.name (names_kept v w c.in_ok-top.top c.args.key 8 t.keeps i.root) named, refl);
    }
