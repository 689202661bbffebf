use Rattle.std.proofs.Common.{arith, ℕ, List, ◌++◌, ◌≡◌, Some, None, length, sym, ◌∙◌, ap, subst}
use Rattle.std.proofs.lemmas.List.{append-nil}
use Rattle.spec_map.specs.Map.{put, Rises}
use Rattle.spec_map.proofs.RangeLaws.{whole-scan}
use Rattle.node_base.proofs.MoveLaws.{lookup-first, moved}
use Rattle.node_base.proofs.head.move_children.Goals as goal

none_some : {X : Type 0} (x : X) → None ≡ Some x → ⊥
none_some x e = cc

pub unreachable-requires : goal.unreachable-requires
unreachable-requires g c =
    let es = g.A.Head.children c.loop-byte.old c.loop-byte.old_row in
    let e = whole-scan c.loop-byte.at es _ c.loop-byte.invariant.0 c.get_children.ensures.children ∙ c.in-Some.ensures.steps in
    none_some _ (sym c.in_default-take.is ∙ c.take.ensures.before ∙ lookup-first es _ c.in-Some.byte _ e)

pub insert-requires-clause-absent : goal.insert-requires-clause-absent
insert-requires-clause-absent g c =
    let es = g.A.Head.children c.loop-byte.old c.loop-byte.old_row in
    let e = whole-scan c.loop-byte.at es _ c.loop-byte.invariant.0 c.get_children.ensures.children ∙ c.in-Some.ensures.steps in
    (moved (g.B.Head.children c.loop-byte.new c.loop-byte.new_row) es _ c.in-Some.byte _ c.in-Some-take.child e c.loop-byte.invariant.1 (sym c.take.ensures.before ∙ c.in-Some-take.is)).absent

pub loop-byte-smaller : goal.loop-byte-smaller
loop-byte-smaller g c =
    let es = g.A.Head.children c.loop-byte.old c.loop-byte.old_row in
    let e = whole-scan c.loop-byte.at es _ c.loop-byte.invariant.0 c.get_children.ensures.children ∙ c.in-Some.ensures.steps in
    let m = moved (g.B.Head.children c.loop-byte.new c.loop-byte.new_row) es _ c.in-Some.byte _ c.in-Some-take.child e c.loop-byte.invariant.1 (sym c.take.ensures.before ∙ c.in-Some-take.is) in
    let l = ap length c.take.ensures.children in
    omega (arith, m.fewer, l)

pub loop-byte-preserved : goal.loop-byte-preserved
loop-byte-preserved g c =
    let es = g.A.Head.children c.loop-byte.old c.loop-byte.old_row in
    let ds = g.B.Head.children c.loop-byte.new c.loop-byte.new_row in
    let e = whole-scan c.loop-byte.at es _ c.loop-byte.invariant.0 c.get_children.ensures.children ∙ c.in-Some.ensures.steps in
    let m = moved ds es _ c.in-Some.byte _ c.in-Some-take.child e c.loop-byte.invariant.1 (sym c.take.ensures.before ∙ c.in-Some-take.is) in
    let whole = ap (λ (x : List (ℕ × g.row.C.Denot)). x ++ g.A.Head.children c.take.new.self c.take.new.row) c.insert.ensures.children ∙ ap (λ (x : List (ℕ × g.row.C.Denot)). put ds c.in-Some.byte c.in-Some-take.child ++ x) c.take.ensures.children ∙ m.whole in (
      subst (Rises c.in-Some.byte 256) (sym c.take.ensures.children) (m.above c.loop-byte.at c.loop-byte.invariant.0),
      subst (Rises 0 256) (sym whole) c.loop-byte.invariant.1,
      whole ∙ c.loop-byte.invariant.2,
      c.insert.ensures.prefix ∙ c.loop-byte.invariant.3,
      c.insert.ensures.form ∙ c.loop-byte.invariant.4,
      c.take.ensures.prefix ∙ c.loop-byte.invariant.5,
      c.take.ensures.form ∙ c.loop-byte.invariant.6,
      c.take.ensures.node,
      c.insert.ensures.node,
    )

pub returns-clause-children : goal.returns-clause-children
returns-clause-children g c =
    let es = g.A.Head.children c.loop-byte.old c.loop-byte.old_row in
    let e = whole-scan c.loop-byte.at es _ c.loop-byte.invariant.0 c.get_children.ensures.children in
    let ds = g.B.Head.children c.loop-byte.new c.loop-byte.new_row in
    sym (append-nil ds) ∙ ap (λ (x : List (ℕ × g.row.C.Denot)). ds ++ x) (sym (e ∙ c.in_default.ensures.steps.0)) ∙ c.loop-byte.invariant.2
