use Rattle.std.proofs.Common.{◌≡◌, ℕ, ◌<◌, ◌∙◌, sym, subst, length, take, get_or, arith}
use Rattle.std.proofs.lemmas.List.{take_all}
use Rattle.spec_map.specs.Map.{Pairs, put}
use Rattle.spec_map.specs.Refusal.{NeedsNode}
use Rattle.word_slots.proofs.Logs.{prefix_self, prefix_trans}
use Rattle.live_payloads.specs.inner.Moves.{map_of, ArePlaced}
use Rattle.live_payloads.proofs.Moving.{if_ok, if_err, has_key, is_there, keys_stay, placed_next}
use Rattle.live_payloads.proofs.payload_congee.PayloadCongee.placed.Goals as goal

pub unreachable-requires : goal.unreachable-requires
unreachable-requires g c =
    let ts = c.args.tickets.now in
    let ps = c.loop-number.owned.pairs in
    let i = c.loop-number.number-index in
    let refused = if_err c.insert_by_number.result (NeedsNode ps (get_or ts i (0, 0)).0) (sym c.if-is_err.true ∙ c.is_err.ensures.value) c.insert_by_number.ensures.refused in
    is_there ts ps i (omega (arith, c.loop-number-test.true)) c.loop-number.invariant.2 refused.absent

pub loop-number-preserved : goal.loop-number-preserved
loop-number-preserved g c =
    let ts = c.args.tickets.now in
    let ps = c.loop-number.owned.pairs in
    let qs = c.insert_by_number.new.self.pairs in
    let i = c.loop-number.number-index in
    let x = c.take-payload.result in
    let log = c.loop-number.seen.log in
    let more = c.take-payload.new.seen.log in
    let inside : i < length ts = omega (arith, c.loop-number-test.true) in
    let key = (get_or ts i (0, 0)).0 in
    let is = if_ok c.insert_by_number.result (qs ≡ put ps key x) (sym c.if-is_err.false ∙ c.is_err.ensures.value) c.insert_by_number.ensures.ok in
    let e = c.take-payload.ensures in
    let inv = c.loop-number.invariant in (
      e.table ∙ inv.0,
      prefix_trans c.args.seen.now.log log more inv.1 e.grown,
      rw is (keys_stay ts ps key x (has_key ts i (0, 0) inside) inv.2),
      placed_next log more ts ps qs i x inside e.grown is e.taken inv.3,
    )

pub loop-number-init : goal.loop-number-init
loop-number-init g c = (c.requires.table, prefix_self c.args.seen.now.log, c.requires.keys, λ key ticket none. absurd (cc))

pub returns-clause-placed : goal.returns-clause-placed
returns-clause-placed g c =
    let ts = c.args.tickets.now in
    let i = c.loop-number.number-index in
    let all : take i ts ≡ ts = take_all i ts (omega (arith, c.loop-number-test.false)) in
    subst (λ (us : Pairs ℕ). ArePlaced c.loop-number.seen.log (map_of us) c.loop-number.owned.pairs) all c.loop-number.invariant.3
