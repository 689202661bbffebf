use Rattle.std.proofs.Common.{rules, arith, refl, sym, ap, subst, ℕ, ◌<◌, ◌≤◌, ◌≡◌, ◌∙◌, ◌++◌, List, [], replicate, append-nil, Some, IfOk}
use Rattle.std.proofs.lemmas.List.{get_or-replicate}
use Rattle.std.proofs.lemmas.Result.{IfOk-weaker}
use Rattle.spec_map.specs.Map.{Pairs}
use Rattle.live_nodes.specs.Views.{Own}
use Rattle.live_reads.proofs.Sights.{sights_names}
use Rattle.live_copies.specs.inner.Noted.{HasNoted}
use Rattle.live_copies.specs.inner.Children.{IsChild, IsFound}
use Rattle.live_copies.specs.inner.Locks.{HasLocks, Grows, place_above, HasTold, Takes}
use Rattle.live_copies.proofs.Locking.{grows_same, grows_then, keeps_grows}
use Rattle.live_copies.proofs.Walking.{noted_start, noted_end, noted_then, copied_then, names_grown, locks_keep, digit_low}
use Rattle.live_copies.proofs.walk.+take.Goals as goal
use Rattle.live_copies.proofs.walk.+take.Goals.{After-next_child, In-Some-found, After-take}

-- THE NEXT CHILD was looked for
module _ (m : ℕ) (c : After-next_child m) where
  same : (c.next_child.new.seat.book ≡ c.args.seat.now.book) × (c.next_child.new.seat.id ≡ c.args.seat.now.id)
  same = let n = c.next_child.ensures in (n.book ∙ c.loop-from.invariant.book, n.id ∙ c.loop-from.invariant.id)

  since : Grows c.loop-from.seat.view c.next_child.new.seat.view
  since = keeps_grows c.loop-from.seat.view c.next_child.new.seat.view c.next_child.ensures.keeps c.next_child.ensures.seen

  grows : Grows c.args.seat.now.view c.next_child.new.seat.view
  grows = grows_then c.args.seat.now.view c.loop-from.seat.view c.next_child.new.seat.view c.loop-from.invariant.grows since

  locks : HasLocks c.next_child.new.seat.view c.next_child.new.seat.book c.loop-from.work.locks.items
  locks = locks_keep c.loop-from.seat.view c.next_child.new.seat.view c.loop-from.seat.book c.next_child.new.seat.book c.loop-from.work.locks.items c.next_child.ensures.keeps c.next_child.ensures.book c.loop-from.invariant.locks

-- found,
child : (m : ℕ) (c : In-Some-found m) → IsChild c.next_child.new.seat.view c.args.key c.args.height c.in-Some-found.child × (c.loop-from.from ≤ c.in-Some-found.child.byte)
child m c =
    let found : c.next_child.result ≡ Some (Some c.in-Some-found.child) = search rules in
    subst (IsFound c.next_child.new.seat.view c.args.key c.args.height c.loop-from.from) found c.next_child.ensures.found

-- and taken
module _ (m : ℕ) (c : After-take m) where
  abbrev looked : After-next_child m
  looked = (goal.at.After-take m c).After-next_child

  taken_same : (c.take.new.seat.book ≡ c.args.seat.now.book) × (c.take.new.seat.id ≡ c.args.seat.now.id)
  taken_same = let t = c.take.ensures in (t.book ∙ (same m looked).0, t.id ∙ (same m looked).1)

  taken_grows : Grows c.args.seat.now.view c.take.new.seat.view
  taken_grows = grows_then c.args.seat.now.view c.next_child.new.seat.view c.take.new.seat.view (grows m looked) c.take.ensures.grows

pub loop-from-init : goal.loop-from-init
loop-from-init m c =
    let v = c.args.seat.now.view in
    record {
      book = refl;
      id = refl;
      grows = grows_same v;
      locks = c.requires.locks;
      few = omega arith;
      copied = ([], sym (append-nil c.args.work.now.pairs.items), noted_start v.client.own c.args.key c.args.height (replicate 256 0) c.requires.height.0 refl (λ i l. get_or-replicate 256 i 0 0 l));
    }

pub next_child-requires-clause-sighted : goal.next_child-requires-clause-sighted
next_child-requires-clause-sighted m c =
    let v = c.loop-from.seat.view in
    sights_names v c.args.name c.args.key c.args.height (names_grown c.args.seat.now.view v c.args.name c.args.key c.args.height c.loop-from.invariant.grows c.requires.named)

pub returns-in_default : goal.returns-in_default
returns-in_default m c =
    let a = (goal.at.returns-in_default m c).After-next_child in
    record { book = (same m a).0; id = (same m a).1; grows = grows m a; locks = locks m a; takes = tt }

pub take-requires : goal.take-requires
take-requires m c =
    let a = goal.at.take-requires m c in
    let is = child m a.In-Some-found in
    let lower = is.0.lower in
    let high = c.requires.height.1 in
    let measure = c.decreases in
    (omega (arith, lower, measure), ((same m a.After-next_child).0 ∙ c.requires.book, (is.0.names, ((is.0.low, omega (arith, lower, high)), locks m a.After-next_child))))

pub returns-in_err-take-in-Some-found : goal.returns-in_err-take-in-Some-found
returns-in_err-take-in-Some-found m c =
    let a = (goal.at.returns-in_err-take-in-Some-found m c).After-take in
    let out : IfOk c.from_residual.result (λ _. Takes c.take.new.seat.view c.args.name c.args.key c.args.height c.args.work.now.pairs.items c.take.new.work.pairs.items) = search rules in
    record { book = (taken_same m a).0; id = (taken_same m a).1; grows = taken_grows m a; locks = c.take.ensures.locks; takes = out }

pub close-requires-clause-named : goal.close-requires-clause-named
close-requires-clause-named m c = names_grown c.args.seat.now.view c.loop-from.seat.view c.args.name c.args.key c.args.height c.loop-from.invariant.grows c.requires.named

pub returns : goal.returns
returns m c =
    let u = c.args.seat.now.view in
    let i = c.loop-from.invariant in
    let v = c.loop-from.seat.view in
    let x = c.close.new.seat.view in
    let name = c.args.name in
    let key = c.args.key in
    let height = c.args.height in
    let k = c.close.ensures in
    let old = c.args.work.now.pairs.items in
    let all : c.loop-from.from ≡ 256 = search rules in
    let noted = subst (λ (z : ℕ). HasNoted v.client.own (place_above key height) z c.loop-from.names i.copied.0) all i.copied.2 in
    let pairs : c.close.new.work.pairs.items ≡ c.loop-from.work.pairs.items = ap (λ z. z.items) k.pairs in
    record {
      book = k.book ∙ i.book;
      id = k.id ∙ i.id;
      grows = grows_then u v x i.grows k.grows;
      locks = k.locks;
      takes = IfOk-weaker c.close.result (λ _. (ps : Pairs ℕ) → HasNoted v.client.own (place_above key height) 256 c.loop-from.names ps → HasTold x name key height ps) (λ _. Takes x name key height old c.close.new.work.pairs.items) (λ _ told. (i.copied.0, pairs ∙ i.copied.1, told i.copied.0 noted)) c.close.ensures.has;
    }

pub loop-from-preserved-in-None : goal.loop-from-preserved-in-None
loop-from-preserved-in-None m c =
    let a = (goal.at.loop-from-preserved-in-None m c).After-next_child in
    let i = c.loop-from.invariant in
    let own = subst (λ (os : List Own). HasNoted os (place_above c.args.key c.args.height) c.loop-from.from c.loop-from.names i.copied.0) (sym c.next_child.ensures.keeps.own) i.copied.2 in
    record {
      book = (same m a).0;
      id = (same m a).1;
      grows = grows m a;
      locks = locks m a;
      few = omega arith;
      copied = (i.copied.0, i.copied.1, noted_end c.next_child.new.seat.view.client.own c.args.key c.args.height c.loop-from.from c.loop-from.names i.copied.0 i.few own);
    }

pub loop-from-preserved : goal.loop-from-preserved
loop-from-preserved m c =
    let at = goal.at.loop-from-preserved m c in
    let a = at.After-take in
    let is = child m at.In-Some-found in
    let i = c.loop-from.invariant in
    let w = c.next_child.new.seat.view in
    let t = c.in_ok-take-in-Some-found.ensures in
    let found = c.in-Some-found.child in
    let few : found.byte < 256 = subst (λ (z : ℕ). z < 256) is.0.byte (digit_low c.args.height found.key) in
    let s = t.takes in
    record {
      book = (taken_same m a).0;
      id = (taken_same m a).1;
      grows = taken_grows m a;
      locks = t.locks;
      few = omega (arith, few);
      copied = (
        i.copied.0 ++ s.0,
        copied_then c.args.work.now.pairs.items c.loop-from.work.pairs.items c.take.new.work.pairs.items i.copied.0 s.0 i.copied.1 s.1,
        noted_then c.loop-from.seat.view.client.own w c.take.new.seat.view (λ o h. t.grows.own o ((since m at.After-next_child).own o h)) c.args.key c.args.height c.loop-from.from c.loop-from.names i.copied.0 s.0 found is.0 is.1 few i.copied.2 s.2,
      );
    }
