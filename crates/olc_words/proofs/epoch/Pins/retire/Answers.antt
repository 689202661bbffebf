use Rattle.std.proofs.Common.{rules, ◌≡◌, ◌≢◌, ℕ, Some, None}
use Rattle.olc_words.specs.Epoch.{entry_at}
use Rattle.olc_words.specs.declared.epoch.Life.TheVariants.{InUse, Retired}
use Rattle.olc_words.proofs.Queues.{retires_listed, retires_uncounted}
use Rattle.olc_words.proofs.epoch.Pins.retire.Goals as goal

pub invariant_of-self : goal.invariant_of-self
invariant_of-self c =
    let old = c.self.inside in
    let new = c.put.new.self in
    let others : (other : ℕ) → other ≢ c.args.slot → entry_at new other ≡ entry_at old.slots other = search rules in
    let used : entry_at old.slots c.args.slot ≡ Some InUse = search rules in
    let here : entry_at new c.args.slot ≡ Some (Retired (Some old.count)) = search rules in
    retires_listed old.slots new old.count c.args.slot old.waiting.items old.whole c.self.invariant others used here _ _ c.listed-whole.ensures

pub invariant_of-self-else-count-lt18446744073709551615 : goal.invariant_of-self-else-count-lt18446744073709551615
invariant_of-self-else-count-lt18446744073709551615 c =
    let old = c.self.inside in
    let new = c.put.new.self in
    let others : (other : ℕ) → other ≢ c.args.slot → entry_at new other ≡ entry_at old.slots other = search rules in
    let used : entry_at old.slots c.args.slot ≡ Some InUse = search rules in
    let here : entry_at new c.args.slot ≡ Some (Retired None) = search rules in
    retires_uncounted old.slots new old.count c.args.slot old.waiting.items old.whole c.self.invariant others used here
