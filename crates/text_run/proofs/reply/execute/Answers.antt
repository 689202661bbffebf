use Rattle.std.proofs.Common.{◌≡◌, ℕ, [], ◌∷◌, Option, Some, None, nat_eq, refl}
use Rattle.spec_map.specs.Map.{Pairs, lookup, with_answer}
use Rattle.spec_map.specs.Legal.{IsLegal, AnswersBy}
use Rattle.spec_map.specs.Refusal.{at_new_node}
use Rattle.spec_text.specs.declared.command.Command.TheVariants.{Add}
use Rattle.text_run.specs.declared.reply.LineReply.TheVariants.{Computed}
use Rattle.spec_text.specs.Command.{checked_sum, command_closure}
use Rattle.text_run.specs.inner.Replied.{reply_asked, reply_operation}
use Rattle.text_run.proofs.reply.execute.Goals as goal

-- the closure call of `add`, and the map after it, by the key's current value
added : (m n : Pairs ℕ) (key more : ℕ) (r : Option (ℕ × Option ℕ)) (found : Option ℕ) → lookup m key ≡ found
    → (lookup m key ≡ None → (r ≡ None) × (n ≡ m))
    → ((current : ℕ) → lookup m key ≡ Some current → (r ≡ Some (current, checked_sum current more)) × (n ≡ with_answer m key (checked_sum current more)))
    → AnswersBy (command_closure (Add key more)) (reply_asked (Add key more) (Computed r)) × IsLegal nat_eq at_new_node m (reply_operation (Add key more) (Computed r) ∷ []) n
added m n key more r None is absent present = let a = absent is in rw (a.0, is) (tt, ((refl, refl), a.1))
added m n key more r (Some current) is absent present =
    let p = present current is in rw (p.0, is) (refl, (((checked_sum current more, refl), refl), p.1))

pub returns-in-Add-clause-closure : goal.returns-in-Add-clause-closure
returns-in-Add-clause-closure g c =
    rw c.in-Add.is (added c.args.map.now.pairs c.add.new.map.pairs c.in-Add.key c.in-Add.more c.add.result _ refl c.add.ensures.absent c.add.ensures.present).0

pub returns-in-Add-clause-legal : goal.returns-in-Add-clause-legal
returns-in-Add-clause-legal g c =
    rw c.in-Add.is (added c.args.map.now.pairs c.add.new.map.pairs c.in-Add.key c.in-Add.more c.add.result _ refl c.add.ensures.absent c.add.ensures.present).1
