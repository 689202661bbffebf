use Rattle.std.proofs.Common.{rules, ◌≡◌, Some, refl, subst}
use Rattle.spec_map.specs.Map.{lookup}
use Rattle.spec_node.specs.declared.child.Child.TheVariants.{Payload}
use Rattle.live_layout.specs.Encodes.{IsBelow}
use Rattle.live_layout.proofs.StandLaws.{leaf-found}
use Rattle.live_growth.proofs.Values.{value_found, at_some}
use Rattle.live_growth.proofs.write.write.Goals as goal

pub returns-in-Some-clause-is : goal.returns-in-Some-clause-is
returns-in-Some-clause-is g c = λ n encodes form deep.
    let old = g.D.WriteWords.words c.args.draft.now c.args.seat.now in
    let some : c.change.result ≡ Some c.in-Some.old = search rules in
    let below = subst (IsBelow (lookup n.children c.args.byte)) some (c.change.ensures.was n encodes form) in
    let wrote = at_some c.change.result c.in-Some.old some c.change.ensures.is in (
      wrote n (Payload c.args.x) encodes form refl deep,
      value_found (lookup n.children c.args.byte) (Some c.in-Some.old) below (leaf-found old n c.args.byte (Some c.in-Some.old) encodes deep below),
    )
