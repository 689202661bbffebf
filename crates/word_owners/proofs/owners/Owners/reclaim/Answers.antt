use Rattle.std.proofs.Common.{◌≤◌, ◌∙◌, ℕ, List, sym, subst}
use Rattle.word_owners.specs.inner.Handles.{HasScanned}
use Rattle.word_owners.proofs.Handles.{left, looked_hazard, still_scanned}
use Rattle.word_owners.proofs.owners.Owners.reclaim.Goals as goal

pub invariant_of-handle : goal.invariant_of-handle
invariant_of-handle c =
    let inv = c.handle.invariant in
    let v = c.handle.inside.seat.view in
    let w = c.refresh.new.seat.view in
    let same = c.refresh.ensures.none c.if-not-refresh.true in (
      (
        looked_hazard v w c.refresh.ensures.looks ∙ inv.0.0,
        inv.0.1,
        c.refresh.ensures.row,
        λ now. subst (λ (xs : List ℕ). HasScanned w xs) (sym same.1) (still_scanned v w c.handle.inside.found.items (left v w same.0) (inv.0.3 now)),
      ),
      subst (λ (n : ℕ). 128 ≤ n) (sym c.refresh.ensures.room.0) inv.1,
      subst (λ (n : ℕ). 64 ≤ n) (sym c.refresh.ensures.room.1) inv.2,
      inv.3,
    )

pub reclaim_slot-requires-clause-scanned : goal.reclaim_slot-requires-clause-scanned
reclaim_slot-requires-clause-scanned c = subst (λ (xs : List ℕ). HasScanned c.refresh.new.seat.view xs) (sym c.deref.ensures.value) (c.refresh.ensures.scanned c.if-not-refresh.false)

pub invariant_of-handle-2 : goal.invariant_of-handle-2
invariant_of-handle-2 c =
    let inv = c.handle.invariant in
    let v = c.handle.inside.seat.view in
    let w = c.refresh.new.seat.view in
    let u = c.reclaim_slot.new.seat.view in (
      (
        c.reclaim_slot.ensures.hazard ∙ (looked_hazard v w c.refresh.ensures.looks ∙ inv.0.0),
        inv.0.1,
        c.reclaim_slot.ensures.row,
        λ now. subst (λ (xs : List ℕ). HasScanned u xs) c.deref.ensures.value c.reclaim_slot.ensures.scanned,
      ),
      subst (λ (n : ℕ). 128 ≤ n) (sym (c.reclaim_slot.ensures.room.0 ∙ c.refresh.ensures.room.0)) inv.1,
      subst (λ (n : ℕ). 64 ≤ n) (sym c.refresh.ensures.room.1) inv.2,
      subst (λ (n : ℕ). 128 ≤ n) (sym c.reclaim_slot.ensures.room.1) inv.3,
    )
