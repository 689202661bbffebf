use Rattle.std.proofs.Common.{None, refl}
use Rattle.text_run.proofs.Replies.{answers_line}
use Rattle.text_run.proofs.reply.reply_to_text.Goals as goal

pub returns-in-None : goal.returns-in-None
returns-in-None g c = record { done = None; answered = (c.in-None.ensures.bad, refl); legal = refl }

pub returns-in-Some : goal.returns-in-Some
returns-in-Some g c =
    answers_line c.args.map.now.pairs c.execute.new.map.pairs c.args.text.now c.in-Some.command c.in-Some.ensures.parsed c.execute.result
    c.execute.ensures.text c.execute.ensures.closure c.execute.ensures.legal
