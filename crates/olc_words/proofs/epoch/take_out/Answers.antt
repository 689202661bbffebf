use Rattle.std.proofs.Common.{rules, ℕ, List, sym, subst}
use Rattle.std.proofs.lemmas.Fn.{filter_same}
use Rattle.olc_words.specs.Waiting.{IsWithout}
use Rattle.olc_words.proofs.Queues.{all_out, first_taken}
use Rattle.olc_words.proofs.epoch.take_out.Goals as goal

pub returns-then-first-slot : goal.returns-then-first-slot
returns-then-first-slot c =
    first_taken c.args.slot c.args.waiting.now.items c.pop_front.new.self.items (_, c.in-Some.first) c.requires.ordered.0 c.in-Some.ensures c.pop_front.ensures.rest c.requires.ordered.1 c.if-first-slot.true
    c.requires.once

pub returns-else-first-slot : goal.returns-else-first-slot
returns-else-first-slot c =
    subst (λ (w : List (ℕ × ℕ)). IsWithout c.args.slot c.args.waiting.now.items w) (sym (filter_same _ _ _ (λ x b f' k. search rules) _ _ c.retain.ensures.filtered))
    (all_out c.args.slot c.args.waiting.now.items)
