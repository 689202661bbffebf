use Rattle.std.proofs.Common.{◌≡◌, ℕ, ap, subst, IfNone}
use Rattle.word_hazards.specs.Views.{View}
use Rattle.word_hazards.specs.Steps.{announcing}
use Rattle.word_owners.specs.Known.{Known}
use Rattle.word_owners.proofs.Handles.{still}
use Rattle.word_owners.proofs.owners.Owners.lend.Goals as goal

pub invariant_of-handle : goal.invariant_of-handle
invariant_of-handle c =
    let inv = c.handle.invariant in
    (still c.handle.inside.seat.view c.lend_by.new.seat.view c.handle.inside.hazard c.handle.inside.retired.items c.handle.inside.current c.handle.inside.found.items c.lend_by.ensures.row inv.0, inv.1, inv.2, inv.3)

pub returns-clause-retired : goal.returns-clause-retired
returns-clause-retired c =
    subst (λ (v : View). IfNone c.lend_by.result ((x : ℕ) × (c.lend_by.new.seat.view ≡ announcing v x))) (ap (λ (k : Known). k.view) c.handle.view_is) c.lend_by.ensures.retired
