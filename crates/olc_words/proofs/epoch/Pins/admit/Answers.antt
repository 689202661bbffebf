use Rattle.std.proofs.Common.{rules, ◌≡◌, ◌≢◌, ℕ, Some, List, sym, subst}
use Rattle.olc_words.specs.Epoch.{admitted, entry_at}
use Rattle.olc_words.specs.Waiting.{IsQueue}
use Rattle.olc_words.proofs.Queues.{admits}
use Rattle.olc_words.proofs.epoch.Pins.admit.Goals as goal

pub invariant_of-self-2 : goal.invariant_of-self-2
invariant_of-self-2 c =
    let old = c.self.inside in
    let new = c.admit.new.self in
    let others : (other : ℕ) → other ≢ c.args.slot → entry_at new other ≡ entry_at old.slots other = search rules in
    let here : entry_at new c.args.slot ≡ Some (admitted (entry_at old.slots c.args.slot)) = search rules in
    subst (λ (w : List (ℕ × ℕ)). IsQueue new old.count w old.whole) (sym c.make_room.ensures.items)
    (admits old.slots new old.count c.args.slot old.waiting.items old.whole c.self.invariant others here)

pub returns-clause-ok : goal.returns-clause-ok
returns-clause-ok c = search rules
