use Rattle.std.proofs.Common.{rules, ℕ, Option, None, Some, IsSome, IfNone, MatchOption, refl, subst, sym, arith}
use Rattle.std.proofs.lemmas.Iterator.{first_from_Range}
use Rattle.olc_words.specs.Epoch.{IsReclaimable, PinsView, life_of}
use Rattle.olc_words.proofs.epoch.Pins.searched.Goals as goal

of_none : (r : Option ℕ) (None' Found : ℕ → Type 0) (R : Type 0) → (((k : ℕ) → None' k) → R) → MatchOption r ((k : ℕ) → None' k) Found → IfNone r R
of_none None None' Found R f h = f h
of_none (Some slot) None' Found R f h = tt

pub returns-clause-none : goal.returns-clause-none
returns-clause-none c =
    let now = c.args.self.now in
    of_none c.find.result _ _ ((slot : ℕ) → IsReclaimable now slot → ⊥)
    (λ none slot may. none slot (omega arith) (c.end.ensures slot (subst (λ (p : PinsView). IsSome (life_of p slot)) (sym c.self.view_is) (subst IsSome (sym may.retired) refl))) may)
    (first_from_Range _ _ _ _ (IsReclaimable now) (λ i. IsReclaimable now i → ⊥) c.find.ensures.ran (λ x q k. search rules) (λ x q k. (search rules, search rules)))
