use Rattle.std.proofs.Common.{◌≡◌, ℕ, Option, Ok, Err, OnOk, IfErr, subst}
use Rattle.live_payloads.specs.Payloads.{ExchangesPayload}
use Rattle.live_payloads.proofs.Looked.{exchanges_on}
use Rattle.live_payloads.proofs.Tried.{done_on, err_on}
use Rattle.live_payloads.proofs.payload_congee.PayloadCongee.compare_exchange.Goals as goal

pub returns-in-Ok-clause-made : goal.returns-in-Ok-clause-made
returns-in-Ok-clause-made g c =
    let key = g.K.Word.number c.args.key.now in
    let old = c.args.old.now.ticket in
    let i = c.loop.invariant in
    let m = c.loop.guard in
    let n = c.try_compare_exchange.new.guard in
    let here = subst (λ z. OnOk c.in-Ok.answer (ExchangesPayload key old z (λ ticket. Ok ticket) m n)) i.0 c.in-Ok.ensures.made in
    done_on c.in-Ok.answer (exchanges_on key old c.args.new (λ ticket. Ok ticket) c.args.guard.now m n i.1 i.2.2) here

pub returns-in-Ok-clause-changed : goal.returns-in-Ok-clause-changed
returns-in-Ok-clause-changed g c =
    let key = g.K.Word.number c.args.key.now in
    let old = c.args.old.now.ticket in
    let i = c.loop.invariant in
    let m = c.loop.guard in
    let n = c.try_compare_exchange.new.guard in
    let here = subst (λ z. IfErr c.in-Ok.answer (λ back. (back ≡ z) × ((found : Option ℕ) × ExchangesPayload key old z (λ ticket. Err found) m n))) i.0 c.in-Ok.ensures.changed in
    err_on _ _ c.in-Ok.answer (λ back e. (e.0, (e.1.0, exchanges_on key old c.args.new (λ ticket. Err e.1.0) c.args.guard.now m n i.1 i.2.2 e.1.1))) here
