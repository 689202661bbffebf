use Rattle.std.proofs.Common.{◌≤◌, ◌∙◌, ℕ, ap, sym, subst, true, false, ◌≡◌}
use Rattle.word_hazards.specs.Views.{View}
use Rattle.word_owners.proofs.Handles.{left, still, retired_then}
use Rattle.word_owners.proofs.owners.Owners.retire.Goals as goal

pub invariant_of-handle : goal.invariant_of-handle
invariant_of-handle c =
    let inv = c.handle.invariant in
    let row = left c.handle.inside.seat.view c.retire_by.new.seat.view (c.retire_by.ensures.not_issued c.if-not-retire_by.true) in
    (still c.handle.inside.seat.view c.retire_by.new.seat.view c.handle.inside.hazard c.handle.inside.retired.items c.handle.inside.current c.handle.inside.found.items row inv.0, inv.1, inv.2, inv.3)

not-true : false ≡ true → ⊥
not-true e = absurd cc

pub invariant_of-handle-2 : goal.invariant_of-handle-2
invariant_of-handle-2 c =
    let inv = c.handle.invariant in
    let v = c.handle.inside.seat.view in
    let w = c.keep.new.seat.view in
    let e = c.keep.ensures.seat.1 ∙ c.retire_by.ensures.retired c.if-not-retire_by.false in (
      (
        ap (λ (x : View). x.hazard) e ∙ inv.0.0,
        inv.0.1,
        retired_then v w c.args.ticket c.handle.inside.retired.items c.keep.new.row.items e inv.0.2 c.keep.ensures.row,
        λ now. absurd (not-true now),
      ),
      subst (λ (n : ℕ). 128 ≤ n) (sym c.keep.ensures.room) inv.1,
      inv.2,
      inv.3,
    )
