use Rattle.std.proofs.Common.{◌≡◌, ℕ, subst, take, arith}
use Rattle.std.proofs.lemmas.List.{take_all}
use Rattle.spec_map.specs.Map.{Pairs}
use Rattle.live_payloads.specs.inner.Moves.{HaveSameKeys}
use Rattle.live_payloads.proofs.Moving.{keys_next}
use Rattle.live_payloads.proofs.payload_congee.PayloadCongee.with_places.Goals as goal

pub loop-number-preserved : goal.loop-number-preserved
loop-number-preserved g c =
    keys_next c.args.tickets.now c.loop-number.owned.pairs c.insert_by_number.new.self.pairs c.loop-number.number-index c.in_ok-further.further (omega (arith, c.loop-number-test.true)) c.in_ok-insert_by_number.ensures.ok c.loop-number.invariant

pub returns : goal.returns
returns g c =
    let ts = c.args.tickets.now in
    let i = c.loop-number.number-index in
    let all : take i ts ≡ ts = take_all i ts (omega (arith, c.loop-number-test.false)) in
    record { keys = subst (λ (us : Pairs ℕ). HaveSameKeys us c.loop-number.owned.pairs) all c.loop-number.invariant }
