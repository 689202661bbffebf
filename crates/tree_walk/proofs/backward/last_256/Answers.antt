use Rattle.std.proofs.Common.{◌≡◌, ◌+◌, ◌-◌, ◌∷◌, [], ◌++◌, ap, arith, sym, ◌∙◌}
use Rattle.node_base.specs.inner.Places.{in_cell}
use Rattle.node_base.specs.inner.Row.{under}
use Rattle.node_base.proofs.RowLaws.{scan-end, scan-nothing}
use Rattle.tree_walk.proofs.BackwardLaws.{scan-last}
use Rattle.tree_walk.proofs.backward.last_256.Goals as goal
use Rattle.tree_walk.proofs.backward.last_256.Goals.{then-byte-eq0, else-byte-eq0}

pub returns-in_default-clause-none : goal.returns-in_default-clause-none
returns-in_default-clause-none g c =
    let s = c.args.left.now in
    scan-nothing (in_cell s.places.now) s.at (s.last + 1) (λ d l m. c.in_default.ensures.none d (omega (arith, m)))

pub returns-then-byte-left-clause-none : goal.returns-then-byte-left-clause-none
returns-then-byte-left-clause-none g c =
    let s = c.args.left.now in
    scan-nothing (in_cell s.places.now) s.at (s.last + 1) (λ d l m. c.in-Some.ensures.free d (omega (arith, l, c.if-byte-left.true)) (omega (arith, m)))

pub returns-clause-some : goal.returns-clause-some
returns-clause-some g c =
    let s = c.args.left.now in
    let has = in_cell s.places.now in
    let b = c.in-Some.byte in
    let child = c.get_filled-child.result.now in
    let found = scan-last has s.at b (s.last + 1) child (omega (arith, c.if-byte-left.false)) (omega (arith, c.in-Some.ensures.order)) c.get_filled-child.ensures (λ d l m. c.in-Some.ensures.free d l (omega (arith, m))) in
    elim c.if-byte-eq0.branch [
      | then-byte-eq0 w ↦
          let first = scan-end has s.at b (omega (arith, w.if-byte-eq0.true)) ∙ sym (scan-end has (s.last + 1) (s.last + 1) (omega arith)) in
          rw w.left-is (found ∙ ap (λ t. t ++ (b, child) ∷ []) first)
      | else-byte-eq0 w ↦
          let same : b - s.at ≡ b - 1 + 1 - s.at = omega (arith, w.if-byte-eq0.false) in
          rw w.left-is (found ∙ ap (λ n. under has s.at n ++ (b, child) ∷ []) same)
    ]
