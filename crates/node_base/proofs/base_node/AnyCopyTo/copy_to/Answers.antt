use Rattle.std.proofs.Common.{rules, arith, ℕ, List, ◌++◌, length, sym, ◌∙◌, ap, subst}
use Rattle.std.proofs.lemmas.List.{append-nil}
use Rattle.spec_map.specs.Map.{put, Rises}
use Rattle.spec_map.proofs.RangeLaws.{whole-scan}
use Rattle.node_base.proofs.MoveLaws.{lookup-first, moved}
use Rattle.node_base.proofs.base_node.AnyCopyTo.copy_to.Goals as goal

pub remove-child-requires : goal.remove-child-requires
remove-child-requires g c =
    let es = g.A.Node.children c.loop-byte.self in
    let e = whole-scan c.loop-byte.at es _ c.loop-byte.invariant.0 c.get_children.ensures.children ∙ c.in-Some.ensures.steps in
    record { present = rw (lookup-first es _ c.in-Some.byte _ e) (search rules) }

pub insert-requires-clause-absent : goal.insert-requires-clause-absent
insert-requires-clause-absent g c =
    let es = g.A.Node.children c.loop-byte.self in
    let e = whole-scan c.loop-byte.at es _ c.loop-byte.invariant.0 c.get_children.ensures.children ∙ c.in-Some.ensures.steps in
    (moved (g.N.Node.children c.loop-byte.dst) es _ c.in-Some.byte _ c.remove-child.result e c.loop-byte.invariant.1 c.remove-child.ensures.before).absent

pub loop-byte-smaller : goal.loop-byte-smaller
loop-byte-smaller g c =
    let es = g.A.Node.children c.loop-byte.self in
    let e = whole-scan c.loop-byte.at es _ c.loop-byte.invariant.0 c.get_children.ensures.children ∙ c.in-Some.ensures.steps in
    let m = moved (g.N.Node.children c.loop-byte.dst) es _ c.in-Some.byte _ c.remove-child.result e c.loop-byte.invariant.1 c.remove-child.ensures.before in
    let l = ap length c.remove-child.ensures.children in
    omega (arith, m.fewer, l)

pub loop-byte-preserved : goal.loop-byte-preserved
loop-byte-preserved g c =
    let es = g.A.Node.children c.loop-byte.self in
    let e = whole-scan c.loop-byte.at es _ c.loop-byte.invariant.0 c.get_children.ensures.children ∙ c.in-Some.ensures.steps in
    let m = moved (g.N.Node.children c.loop-byte.dst) es _ c.in-Some.byte _ c.remove-child.result e c.loop-byte.invariant.1 c.remove-child.ensures.before in
    let whole = ap (λ (x : List (ℕ × g.row.C.Denot)). x ++ g.A.Node.children c.remove-child.new.self) c.insert.ensures.children ∙ ap (λ (x : List (ℕ × g.row.C.Denot)). put (g.N.Node.children c.loop-byte.dst) c.in-Some.byte c.remove-child.result ++ x) c.remove-child.ensures.children ∙ m.whole in (
      subst (Rises c.in-Some.byte 256) (sym c.remove-child.ensures.children) (m.above c.loop-byte.at c.loop-byte.invariant.0),
      subst (Rises 0 256) (sym whole) c.loop-byte.invariant.1,
      whole ∙ c.loop-byte.invariant.2,
      c.insert.ensures.prefix ∙ c.loop-byte.invariant.3,
      c.insert.ensures.form ∙ c.loop-byte.invariant.4,
    )

pub returns-clause-children : goal.returns-clause-children
returns-clause-children g c =
    let es = g.A.Node.children c.loop-byte.self in
    let e = whole-scan c.loop-byte.at es _ c.loop-byte.invariant.0 c.get_children.ensures.children in
    let ds = g.N.Node.children c.loop-byte.dst in
    sym (append-nil ds) ∙ ap (λ (x : List (ℕ × g.row.C.Denot)). ds ++ x) (sym (e ∙ c.in_default.ensures.steps.0)) ∙ c.loop-byte.invariant.2
