use Rattle.std.proofs.Common.{◌≤◌, ℕ, ap, sym, subst, IfOk}
use Rattle.word_hazards.specs.Views.{View, HasIssued}
use Rattle.word_owners.specs.Known.{Known}
use Rattle.word_owners.proofs.Handles.{still}
use Rattle.word_owners.proofs.owners.Owners.insert.Goals as goal

pub invariant_of-handle : goal.invariant_of-handle
invariant_of-handle c =
    let inv = c.handle.invariant in (
      still c.handle.inside.seat.view c.insert_by.new.seat.view c.handle.inside.hazard c.handle.inside.retired.items c.handle.inside.current c.handle.inside.found.items c.insert_by.ensures.row inv.0,
      inv.1,
      inv.2,
      subst (λ (n : ℕ). 128 ≤ n) (sym c.insert_by.ensures.spare) inv.3,
    )

pub returns-clause-first : goal.returns-clause-first
returns-clause-first c =
    subst (λ (v : View). IfOk c.insert_by.result (λ t. (o : ℕ) → HasIssued v t o → ⊥)) (ap (λ (k : Known). k.view) c.handle.view_is) c.insert_by.ensures.first
