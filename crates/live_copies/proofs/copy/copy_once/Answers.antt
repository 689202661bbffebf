use Rattle.std.proofs.Common.{rules, ◌≡◌, nat_eq, Err, sym, subst, ◌∙◌}
use Rattle.share_rule.specs.History.{IsHistory}
use Rattle.live_reads.specs.Paths.{Keeps}
use Rattle.live_scans.specs.inner.Moments.{SeesMore}
use Rattle.live_copies.proofs.Copying.{err_out, unlocked_keeps}
use Rattle.live_copies.proofs.copy.copy_once.Goals as goal
use Rattle.live_copies.proofs.copy.copy_once.Goals.{After-unlock_all}

-- all was locked, and is unlocked
module _ (c : After-unlock_all) where
  same : (c.unlock_all.new.seat.book ≡ c.args.seat.now.book) × (c.unlock_all.new.seat.id ≡ c.args.seat.now.id)
  same = let t = c.take_all-taken.ensures in let u = c.unlock_all.ensures in (u.book ∙ t.book, u.id ∙ t.id)

  keeps : Keeps c.args.seat.now.view c.unlock_all.new.seat.view
  keeps = let u = c.unlock_all.ensures in unlocked_keeps c.args.seat.now.view c.take_all-taken.new.seat.view c.unlock_all.new.seat.view c.take_all-taken.ensures.knows u.alike u.own u.holds c.requires.rests.0 c.requires.rests.1

  more : SeesMore c.unlock_all.new.seat.view.client.seen c.args.seat.now.id c.args.seat.now.view.client.seen
  more = subst (λ z. SeesMore z c.args.seat.now.id c.args.seat.now.view.client.seen) (sym c.unlock_all.ensures.seen) c.take_all-taken.ensures.seen

pub returns-in_err-taken : goal.returns-in_err-taken
returns-in_err-taken c =
    let a = (goal.at.returns-in_err-taken c).After-unlock_all in
    let out : c.from_residual.result ≡ Err c.in_err-taken.field-0.0 = search rules in
    record { book = (same a).0; id = (same a).1; keeps = keeps a; seen = more a; pairs = err_out (λ pairs. IsHistory nat_eq c.unlock_all.new.seat.view.client.seen pairs.items) c.from_residual.result c.in_err-taken.field-0.0 out }

pub returns : goal.returns
returns c =
    let a = (goal.at.returns c).After-unlock_all in
    record { book = (same a).0; id = (same a).1; keeps = keeps a; seen = more a; pairs = subst (λ z. IsHistory nat_eq z c.take_all-taken.new.work.pairs.items) (sym c.unlock_all.ensures.seen) c.in_ok-taken.ensures.pairs }
