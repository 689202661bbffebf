use Rattle.std.proofs.Common.{ap, subst, sym, ◌∙◌}
use Rattle.share_rule.proofs.InPlace.{slot_in, taken_in}
use Rattle.share_guards.proofs.raw.Raw.into_owned.Goals as goal

pub exchange-requires : goal.exchange-requires
exchange-requires g c = (
  c.take.ensures.table ∙ (ap (λ k. k.table) c.note.view_is ∙ (c.requires.map ∙ (sym c.self.view_is ∙ sym c.table.ensures))),
  slot_in _ _ _ c.note.inside.seat.me c.take.new.seat.me c.note.invariant.0 c.take.ensures.won,
)

pub returns : goal.returns
returns g c =
    let m = c.note.inside.seat.me in let m1 = c.take.new.seat.me in
    let t = taken_in _ _ _ m m1 c.exchange.result c.in-Some.state c.note.invariant.0 c.take.ensures.won c.exchange.ensures.2 c.in-Some.is in
    record {
      content = rw (← c.note.view_is) (t.history, t.leads.end, t.fit.begins, t.leads.run, subst (λ s. g.M.Lent.content s t.leads.end) (sym c.into_under.ensures) t.leads.contains);
    }
