use Rattle.std.proofs.Common.{Some, rules}
use Rattle.live_nodes.specs.Known.{MadeCall}
use Rattle.live_nodes.specs.Views.{ask, got}
use Rattle.live_payloads.proofs.Looked.{vain_once}
use Rattle.live_payloads.proofs.payload_congee.PayloadCongee.look_up.Goals as goal

pub returns-in-None-lend-clause-vain : goal.returns-in-None-lend-clause-vain
returns-in-None-lend-clause-vain g c =
    let k = c.args.guard.now.tickets in
    let made : MadeCall k (got (ask k.caller c.args.number 0 0) (Some c.in-Some.ticket)) c.lend.new.guard.tickets = search rules in
    vain_once c.args.number c.in-Some.ticket k c.lend.new.guard.tickets made
