use Rattle.std.proofs.Common.{rules, ◌≡◌, ◌≢◌, ℕ, None, ◌∙◌, sym}
use Rattle.std.proofs.lemmas.Bool.{false≢true}
use Rattle.olc_words.specs.Epoch.{entry_at}
use Rattle.olc_words.proofs.Queues.{once, forgets_taken, forgets_other}
use Rattle.olc_words.proofs.epoch.Pins.forget.Goals as goal

pub take_out-requires-clause-once : goal.take_out-requires-clause-once
take_out-requires-clause-once c = let old = c.self.inside in once old.slots old.count old.waiting.items old.whole c.self.invariant c.args.slot

pub invariant_of-self : goal.invariant_of-self
invariant_of-self c =
    let old = c.self.inside in
    let new = c.remove-life.new.self in
    let others : (other : ℕ) → other ≢ c.args.slot → entry_at new other ≡ entry_at old.slots other = search rules in
    let here : entry_at new c.args.slot ≡ None = search rules in
    forgets_taken old.slots new old.count c.args.slot old.waiting.items old.whole c.self.invariant others here _ c.take_out.ensures

pub invariant_of-self-else-is_counted : goal.invariant_of-self-else-is_counted
invariant_of-self-else-is_counted c =
    let old = c.self.inside in
    let new = c.remove-life.new.self in
    let others : (other : ℕ) → other ≢ c.args.slot → entry_at new other ≡ entry_at old.slots other = search rules in
    let here : entry_at new c.args.slot ≡ None = search rules in
    forgets_other old.slots new old.count c.args.slot old.waiting.items old.whole c.self.invariant others here (λ stamp e. false≢true (sym c.if-is_counted.false ∙ c.is_counted.ensures.1 (stamp, search rules)))
