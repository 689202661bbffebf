use Rattle.std.proofs.Common.{◌∙◌, arith, ◌≡◌, ◌≤◌, length}
use Rattle.std.proofs.lemmas.Grind.{common_steps}
use Rattle.node_base.specs.inner.Few.{listed}
use Rattle.node_forms.proofs.SortedLaws.{length-sorted}
use Rattle.node_forms.proofs.node_4.Node4Node.is_full.Goals as goal

pub returns-clause-full : goal.returns-clause-full
returns-clause-full g c =
    let m : length c.args.self.now.children ≡ length (listed c.self.inside.children) = rw (← c.self.view_is) (length-sorted c.self.invariant.0) in
    let n : c.value_count.result ≡ length (listed c.self.inside.children) = c.value_count.ensures ∙ c.self.invariant.0.counted in
    rw (m, n) (grind (arith, common_steps))

pub returns-clause-room : goal.returns-clause-room
returns-clause-room g c =
    let m : length c.args.self.now.children ≡ length (listed c.self.inside.children) = rw (← c.self.view_is) (length-sorted c.self.invariant.0) in
    let n : c.value_count.result ≡ length (listed c.self.inside.children) = c.value_count.ensures ∙ c.self.invariant.0.counted in
    let w : length (listed c.self.inside.children) ≤ 4 = c.self.invariant.0.within in
    rw (m, n) (grind (arith, common_steps))
