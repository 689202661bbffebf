use Rattle.std.proofs.Common.{◌≡◌, ◌≢◌, ℕ, ◌<◌, ◌∙◌, sym, ap, refl, List, length, Option, Some, None, Result, Ok, Err, IfOk, OnOk, OnErr}
use Rattle.spec_map.specs.Map.{lookup, put}
use Rattle.node_base.specs.inner.Places.{in_cell, in_cells}
use Rattle.node_forms.proofs.CellLaws.{cell-lookup, cell-full, cells-put, cells-as_many}
use Rattle.node_forms.proofs.node_256.Node256Node.exchange.Goals as goal

-- by what the cells returned
module _ {C : Type 0} (slots new : List (Option C)) (b : ℕ) (byte : b < 256) (child : C) (others : (d : ℕ) → d ≢ b → in_cell new d ≡ in_cell slots d) where
  as_many : (r : Result C C) → IfOk r (λ c. in_cell slots b ≡ Some c) → OnOk r (in_cell new b ≡ Some child) → OnErr r (new ≡ slots) → length (in_cells new) ≡ length (in_cells slots)
  as_many (Ok c) before here same = cells-as_many slots new b byte others child here (rw before refl)
  as_many (Err e) before here same = ap (λ x. length (in_cells x)) same

  found : (r : Result C C) → IfOk r (λ c. in_cell slots b ≡ Some c) → IfOk r (λ c. lookup (in_cells slots) b ≡ Some c)
  found (Ok c) before = cell-lookup slots b byte ∙ before
  found (Err e) before = tt

  changed : (r : Result C C) → OnOk r (in_cell new b ≡ Some child) → OnOk r (in_cells new ≡ put (in_cells slots) b child)
  changed (Ok c) here = cells-put slots new b byte others child here
  changed (Err e) here = tt

  absent : (r : Result C C) → OnErr r (in_cell slots b ≡ None) → OnErr r (lookup (in_cells slots) b ≡ None)
  absent (Ok c) none = tt
  absent (Err e) none = cell-lookup slots b byte ∙ none

pub exchange_filled-requires : goal.exchange_filled-requires
exchange_filled-requires g c = cell-full c.self.inside.places c.args.byte c.ranges.byte.fits (c.self.invariant.0 ∙ sym c.value_count.ensures ∙ c.if-value_count-eq256.true)

pub invariant_of-self : goal.invariant_of-self
invariant_of-self g c =
    let s = c.self.inside.places in
    let some = cell-full s c.args.byte c.ranges.byte.fits (c.self.invariant.0 ∙ sym c.value_count.ensures ∙ c.if-value_count-eq256.true) in
    (cells-as_many s c.exchange_filled.new.self c.args.byte c.ranges.byte.fits c.exchange_filled.ensures.others c.args.child c.exchange_filled.ensures.here some ∙ c.self.invariant.0, c.self.invariant.1)

pub invariant_of-self-else-value_count-eq256 : goal.invariant_of-self-else-value_count-eq256
invariant_of-self-else-value_count-eq256 g c = (
  as_many c.self.inside.places c.exchange.new.self c.args.byte c.ranges.byte.fits c.args.child c.exchange.ensures.others c.exchange.result c.exchange.ensures.before c.exchange.ensures.here c.exchange.ensures.same
      ∙ c.self.invariant.0,
  c.self.invariant.1,
)

pub returns-then-value_count-eq256-clause-before : goal.returns-then-value_count-eq256-clause-before
returns-then-value_count-eq256-clause-before g c = rw (← c.self.view_is) (cell-lookup c.self.inside.places c.args.byte c.ranges.byte.fits ∙ c.exchange_filled.ensures.before)

pub returns-then-value_count-eq256-clause-children : goal.returns-then-value_count-eq256-clause-children
returns-then-value_count-eq256-clause-children g c =
    rw (← c.self.view_is) (cells-put c.self.inside.places c.exchange_filled.new.self c.args.byte c.ranges.byte.fits c.exchange_filled.ensures.others c.args.child c.exchange_filled.ensures.here)

pub returns-else-value_count-eq256-clause-before : goal.returns-else-value_count-eq256-clause-before
returns-else-value_count-eq256-clause-before g c =
    rw (← c.self.view_is) (found c.self.inside.places c.exchange.new.self c.args.byte c.ranges.byte.fits c.args.child c.exchange.ensures.others c.exchange.result c.exchange.ensures.before)

pub returns-else-value_count-eq256-clause-children : goal.returns-else-value_count-eq256-clause-children
returns-else-value_count-eq256-clause-children g c =
    rw (← c.self.view_is) (changed c.self.inside.places c.exchange.new.self c.args.byte c.ranges.byte.fits c.args.child c.exchange.ensures.others c.exchange.result c.exchange.ensures.here)

pub returns-else-value_count-eq256-clause-absent : goal.returns-else-value_count-eq256-clause-absent
returns-else-value_count-eq256-clause-absent g c =
    rw (← c.self.view_is) (absent c.self.inside.places c.exchange.new.self c.args.byte c.ranges.byte.fits c.args.child c.exchange.ensures.others c.exchange.result c.exchange.ensures.absent)
