use Rattle.std.proofs.Common.{sym, ◌%◌, rules, arith, refl, subst, [], ◌++◌, take, None, ℕ, true, ◌≡◌, ◌∙◌, ◌+◌, ◌^◌}
use Rattle.std.proofs.lemmas.List.{length-map}
use Rattle.live_nodes.specs.Seats.{place}
use Rattle.live_reads.proofs.Finds.{keeps_then, when_out}
use Rattle.live_scans.proofs.Composed.{more_same, nothing_read}
use Rattle.live_scans.specs.Scans.{HasRead}
use Rattle.live_scans.specs.inner.Moments.{Reads}
use Rattle.live_scans.proofs.Passes.{keeps_same, seen_since}
use Rattle.live_scans.specs.inner.Steps.{Counts}
use Rattle.live_scans.proofs.Counting.{then_step, then_count, few_counted}
use Rattle.live_scans.proofs.counts.count_all.Goals as goal

pub loop-stepped-init : goal.loop-stepped-init
loop-stepped-init c =
    let u = c.args.seat.now.view in record {
      book = refl;
      id = refl;
      keeps = keeps_same u;
      seen = more_same c.args.seat.now.id u.client.seen;
      within = omega arith;
      seam = refl;
      few = omega arith;
      pairs = [];
      read = nothing_read true u.client.seen 0 0 (omega arith);
      count_is = refl;
      trail = ((c.requires.position, tt), (c.requires.position, tt));
    }

pub read_on-requires-clause-last : goal.read_on-requires-clause-last
read_on-requires-clause-last c = c.none-last.ensures c.loop-stepped.seat.view

pub read_on-requires-clause-root_word : goal.read_on-requires-clause-root_word
read_on-requires-clause-root_word c = c.loop-stepped.invariant.keeps.places (place 0 1 1) c.requires.root_word

pub read_on-requires-clause-order : goal.read_on-requires-clause-order
read_on-requires-clause-order c = let within = c.loop-stepped.invariant.within in omega (arith, within)

pub returns-in_err-stepped : goal.returns-in_err-stepped
returns-in_err-stepped c =
    let u = c.args.seat.now.view in
    let id = c.args.seat.now.id in
    let i = c.loop-stepped.invariant in
    let v = c.loop-stepped.seat.view in
    let w = c.read_on.new.seat.view in
    let t = c.read_on.ensures in
    let out : c.from_residual.result ≡ None = search rules in
    record {
      book = t.book ∙ i.book;
      id = t.id ∙ i.id;
      keeps = keeps_then u v w i.keeps t.keeps;
      seen = seen_since c.loop-stepped.seat.id id u v w i.id i.seen t.seen;
      counts = when_out (Counts id u w) c.from_residual.result out;
    }

pub returns-then-step-bound : goal.returns-then-step-bound
returns-then-step-bound c =
    let u = c.args.seat.now.view in
    let id = c.args.seat.now.id in
    let i = c.loop-stepped.invariant in
    let v = c.loop-stepped.seat.view in
    let w = c.read_on.new.seat.view in
    let t = c.in_ok-stepped.ensures in
    let s = c.in_ok-stepped.stepped.step in
    let buffer = c.read_on.new.buffer in
    let its = t.step in
    let few = its.few in
    let n = length-map buffer (λ (p : ℕ × ℕ). p) in
    let reads = then_step c.loop-stepped.seat.id id u v w c.loop-stepped.from 18446744073709551615 s.count s.last i.pairs buffer i.id i.seen i.seam i.read its in
    let end : s.last + 1 ≡ 2 ^ 64 = search rules in
    let ps = i.pairs ++ take s.count buffer in
    let counts : Counts id u w (c.loop-stepped.count + s.count) = record {
      pairs = ps;
      reads = subst (λ (z : ℕ). Reads true id u w 0 z ps) end reads;
      count_is = then_count c.loop-stepped.count i.pairs s.count buffer i.count_is (omega (arith, few, n));
    } in
    record {
      book = t.book ∙ i.book;
      id = t.id ∙ i.id;
      keeps = keeps_then u v w i.keeps t.keeps;
      seen = seen_since c.loop-stepped.seat.id id u v w i.id i.seen t.seen;
      counts = counts;
    }

pub loop-stepped-preserved : goal.loop-stepped-preserved
loop-stepped-preserved c =
    let u = c.args.seat.now.view in
    let id = c.args.seat.now.id in
    let i = c.loop-stepped.invariant in
    let v = c.loop-stepped.seat.view in
    let w = c.read_on.new.seat.view in
    let t = c.in_ok-stepped.ensures in
    let s = c.in_ok-stepped.stepped.step in
    let buffer = c.read_on.new.buffer in
    let its = t.step in
    let few = its.few in
    let small = its.small in
    let next = c.key_after-from.ensures.next in
    let within = c.key_after-from.ensures.within in
    let n = length-map buffer (λ (p : ℕ × ℕ). p) in
    let reads = then_step c.loop-stepped.seat.id id u v w c.loop-stepped.from 18446744073709551615 s.count s.last i.pairs buffer i.id i.seen i.seam i.read its in
    let ps = i.pairs ++ take s.count buffer in
    let read = subst (λ (z : ℕ). HasRead true u.client.seen w.client.seen 0 z ps) (sym next) reads.read in
    let long = then_count c.loop-stepped.count i.pairs s.count buffer i.count_is (omega (arith, few, n)) in
    record {
      book = t.book ∙ i.book;
      id = t.id ∙ i.id;
      keeps = keeps_then u v w i.keeps t.keeps;
      seen = seen_since c.loop-stepped.seat.id id u v w i.id i.seen t.seen;
      within = omega (arith, within);
      seam = subst (λ (z : ℕ). z % 256 ≡ 0) (sym next) (its.seam (omega (arith, n, small)) c.if-step-bound.false);
      few = few_counted u w c.key_after-from.result (c.loop-stepped.count + s.count) ps read long;
      pairs = ps;
      read = read;
      count_is = long;
      trail = t.trail;
    }
