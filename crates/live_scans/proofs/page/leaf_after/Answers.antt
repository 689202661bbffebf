use Rattle.std.proofs.Common.{subst, sym, ◌∙◌, ℕ, arith, refl, IfSome}
use Rattle.live_nodes.proofs.Plans.{root-top}
use Rattle.live_reads.specs.Paths.{Names}
use Rattle.live_reads.proofs.Stood.{position_below_root}
use Rattle.live_scans.specs.inner.Stops.{IsLeafAt}
use Rattle.live_scans.proofs.Nexts.{names_as}
use Rattle.live_scans.proofs.page.leaf_after.Goals as goal

pub returns : goal.returns
returns c = λ v at its known some.
    let r = c.args.root in
    let leaf = c.in-Some.leaf in
    let top = subst (λ (z : ℕ). Names v r.name r.key z) c.requires.root at.2 in
    let below = names_as v r.name r.key leaf.key 8 (root-top leaf.key (omega arith) ∙ sym (root-top r.key (omega arith))) top in
    (position_below_root v leaf.key r.name leaf.name below (subst (λ o. IfSome o (IsLeafAt v)) c.in-Some.is its), refl)
