use Rattle.std.proofs.Common.{rules, ◌≡◌, nat_eq, Err, ap, ◌∙◌}
use Rattle.share_rule.specs.History.{IsHistory}
use Rattle.live_nodes.specs.Seats.{place}
use Rattle.live_nodes.specs.Views.{View}
use Rattle.live_scans.proofs.Passes.{seen_equal}
use Rattle.live_scans.proofs.Composed.{more_then}
use Rattle.live_copies.specs.inner.Locks.{Knows, HasLocks}
use Rattle.live_copies.proofs.Locking.{knows_then, locks_kept}
use Rattle.live_copies.proofs.Copying.{err_out, keeps_knows, whole_more, all_taken}
use Rattle.live_copies.proofs.copy.take_all.Goals as goal
use Rattle.live_copies.proofs.copy.take_all.Goals.{After-whole}

-- all is locked, and the root word was looked at
module _ (c : After-whole) where
  same : (c.whole.new.seat.book ≡ c.args.seat.now.book) × (c.whole.new.seat.id ≡ c.args.seat.now.id)
  same = let e = c.take.ensures in let f = c.whole.ensures in (f.book ∙ e.book, f.id ∙ e.id)

  knows : Knows c.args.seat.now.view c.whole.new.seat.view
  knows = knows_then c.args.seat.now.view c.take.new.seat.view c.whole.new.seat.view c.take.ensures.grows.knows (keeps_knows c.take.new.seat.view c.whole.new.seat.view c.whole.ensures.keeps)

  locks : HasLocks c.whole.new.seat.view c.whole.new.seat.book c.take.new.work.locks.items
  locks = let f = c.whole.ensures in locks_kept c.take.new.seat.view c.whole.new.seat.view c.take.new.seat.book c.whole.new.seat.book c.take.new.work.locks.items f.keeps.places f.keeps.own f.keeps.holds f.book c.take.ensures.locks

pub returns-in_err-take : goal.returns-in_err-take
returns-in_err-take c =
    let w = c.take.new.seat.view in
    let e = c.take.ensures in
    let out : c.from_residual.result ≡ Err c.in_err-take.field-0.0 = search rules in
    record { book = e.book; id = e.id; knows = e.grows.knows; locks = e.locks; seen = seen_equal c.args.seat.now.id c.args.seat.now.view w e.grows.seen; pairs = err_out (λ _. IsHistory nat_eq w.client.seen c.take.new.work.pairs.items) c.from_residual.result c.in_err-take.field-0.0 out }

pub whole-requires-clause-root_word : goal.whole-requires-clause-root_word
whole-requires-clause-root_word c = c.take.ensures.grows.knows.places (place 0 1 1) c.requires.root_word

pub returns-then-not-whole : goal.returns-then-not-whole
returns-then-not-whole c =
    let a = (goal.at.returns-then-not-whole c).After-whole in
    let client : c.whole.new.seat.view.client ≡ c.take.new.seat.view.client = search rules in
    let seen = ap (λ (z : View). z.seen) client ∙ c.take.ensures.grows.seen in
    record { book = (same a).0; id = (same a).1; knows = knows a; locks = locks a; seen = seen_equal c.args.seat.now.id c.args.seat.now.view c.whole.new.seat.view seen; pairs = tt }

pub returns : goal.returns
returns c =
    let a = (goal.at.returns c).After-whole in
    let id = c.args.seat.now.id in
    let v = c.args.seat.now.view in
    let w = c.take.new.seat.view in
    let x = c.whole.new.seat.view in
    let e = c.in_ok-take.ensures in
    let whole = c.whole.ensures.whole (search rules) in
    record {
      book = (same a).0;
      id = (same a).1;
      knows = knows a;
      locks = locks a;
      seen = more_then id v.client.seen w.client.seen x.client.seen (seen_equal id v w e.grows.seen) (whole_more c.take.new.seat.id id w.client x.client e.id whole);
      pairs = all_taken c.take.new.seat.id w x c.args.root c.args.work.now.pairs.items c.take.new.work.pairs.items whole e.takes c.requires.none;
    }
