use Rattle.std.proofs.Common.{rules, arith, ◌≡◌, ◌≤◌, length}
use Rattle.std.proofs.lemmas.Grind.{common_steps}
use Rattle.node_forms.proofs.SortedLaws.{length-sorted}
use Rattle.node_forms.proofs.node_16.Node16Node.is_full.Goals as goal

pub returns-clause-full : goal.returns-clause-full
returns-clause-full g c =
    let m : length c.args.self.now.children ≡ length c.self.inside.children.items = rw (← c.self.view_is) (length-sorted c.self.invariant.0) in
    let n : c.len.result ≡ length c.self.inside.children.items = search rules in
    rw (m, n) (grind (arith, common_steps))

pub returns-clause-room : goal.returns-clause-room
returns-clause-room g c =
    let m : length c.args.self.now.children ≡ length c.self.inside.children.items = rw (← c.self.view_is) (length-sorted c.self.invariant.0) in
    let n : c.len.result ≡ length c.self.inside.children.items = search rules in
    let w : length c.self.inside.children.items ≤ 16 = c.self.invariant.0.within in
    rw (m, n) (grind (arith, common_steps))
