use Rattle.std.proofs.Common.{Option, sym, ap, ◌∙◌}
use Rattle.spec_olc.specs.Meaning.{asking_of, in_some, op_of}
use Rattle.olc_decide.specs.inner.Judged.{value_of}
use Rattle.olc_decide.proofs.Judging.{answered_by, otherwise_meant}
use Rattle.olc_decide.proofs.answering.judge.Goals as goal

pub returns-in-Some : goal.returns-in-Some
returns-in-Some g c =
    let op = in_some (op_of g.P.HasMeaning.meaning) c.args.task.now.op in
    let v = g.P.HasMeaning.meaning c.in-Some.value in
    answered_by g.P.HasMeaning.same_meaning op (asking_of g.P.HasMeaning.meaning c.args.task.now.asking) (in_some g.P.HasMeaning.meaning c.args.answer.now) v
    (ap (λ (x : Option g.row.P.Denot). value_of op (in_some g.P.HasMeaning.meaning x)) c.in-Some.is)
    c.against.result c.against.ensures

pub returns-in-Some-otherwise : goal.returns-in-Some-otherwise
returns-in-Some-otherwise g c =
    let op = in_some (op_of g.P.HasMeaning.meaning) c.args.task.now.op in
    let v = g.P.HasMeaning.meaning c.in-Some-otherwise.value.now in
    answered_by g.P.HasMeaning.same_meaning op (asking_of g.P.HasMeaning.meaning c.args.task.now.asking) (in_some g.P.HasMeaning.meaning c.args.answer.now) v
    (ap (λ (x : Option g.row.P.Denot). value_of op (in_some g.P.HasMeaning.meaning x)) c.in-None.is
    ∙ (otherwise_meant g.P.HasMeaning.meaning c.args.task.now.op ∙ ap (in_some g.P.HasMeaning.meaning) (sym (c.in-Some-otherwise.ensures))))
    c.against-in-Some-otherwise.result c.against-in-Some-otherwise.ensures
