use Rattle.std.proofs.Common.{rules, ℕ, sym, subst, ◌∙◌}
use Rattle.std.proofs.lemmas.Bool.{false≢true}
use Rattle.olc_words.specs.Epoch.{AllStartedAfter, IsReclaimable, PinsView}
use Rattle.olc_words.proofs.Queues.{first_may, first_may_not}
use Rattle.olc_words.proofs.epoch.Pins.reclaimable.Goals as goal

pub returns-then-all_started_after-clause-some : goal.returns-then-all_started_after-clause-some
returns-then-all_started_after-clause-some c =
    let i = c.self.inside in
    let stamp = c.in_ok-stamp.stamp in
    let after : AllStartedAfter stamp c.args.self.now = c.all_started_after.ensures.0 c.if-all_started_after.true in
    subst (λ (p : PinsView). IsReclaimable p c.in_ok-stamp.slot) c.self.view_is
    (first_may i.slots i.count i.whole i.seats.entries i.waiting.items c.self.invariant (stamp, c.in_ok-stamp.slot) c.in_ok-stamp.ensures
    (subst (λ (p : PinsView). AllStartedAfter stamp p) (sym c.self.view_is) after))

pub returns-else-all_started_after-clause-none : goal.returns-else-all_started_after-clause-none
returns-else-all_started_after-clause-none c =
    let i = c.self.inside in
    let stamp = c.in_ok-stamp.stamp in
    let never : AllStartedAfter stamp c.args.self.now → ⊥ = λ after. false≢true (sym c.if-all_started_after.false ∙ c.all_started_after.ensures.1 after) in
    subst (λ (p : PinsView). (slot : ℕ) → IsReclaimable p slot → ⊥) c.self.view_is
    (first_may_not i.slots i.count i.whole i.seats.entries i.waiting.items c.self.invariant (search rules) (stamp, c.in_ok-stamp.slot) c.in_ok-stamp.ensures
    (subst (λ (p : PinsView). AllStartedAfter stamp p → ⊥) (sym c.self.view_is) never))
