use Rattle.std.proofs.Common.{◌≡◌, ◌+◌, ◌<◌, ◌^◌, IfOk, sym, subst}
use Rattle.spec_olc.specs.Meaning.{meant}
use Rattle.spec_olc.specs.State.{State}
use Rattle.node_stats.specs.Stats.{IsTally}
use Rattle.node_stats.specs.StatsText.{all_entries, all_nodes}
use Rattle.node_stats.specs.Stays.{NoCountSaturates}
use Rattle.node_stats.specs.declared.NodeStats.{NodeStats}
use Rattle.node_stats.specs.Visits.{visits_below}
use Rattle.olc_state.proofs.States.{meant_state}
use Rattle.olc_machine.specs.Shape.{reachable}
use Rattle.olc_machine.specs.inner.Inside.{inside}
use Rattle.olc_machine.proofs.machine.Machine.stats.Goals as goal

pub returns-clause-levels : goal.returns-clause-levels
returns-clause-levels g c =
    let w = inside g.A.Allocator.charge c.self.inside.inner in
    let meaning = g.P.HasMeaning.meaning in
    subst (λ (s : State g.row.P.Denot). IfOk c.stats.result (λ stats. IsTally (visits_below 0 (reachable (meant meaning s))) stats.levels)) c.self.view_is
    (subst (λ (s : State g.P.HasMeaning.Meaning). IfOk c.stats.result (λ stats. IsTally (visits_below 0 (reachable s)) stats.levels)) (sym (meant_state meaning w)) c.stats.ensures.levels)

pub returns-clause-entries : goal.returns-clause-entries
returns-clause-entries g c =
    let w = inside g.A.Allocator.charge c.self.inside.inner in
    let meaning = g.P.HasMeaning.meaning in
    let sums : NodeStats → Type 0 = λ stats. all_entries stats.levels + 1 ≡ stats.kv_pairs + all_nodes stats.levels in
    subst (λ (s : State g.row.P.Denot). IfOk c.stats.result (λ stats. NoCountSaturates (visits_below 0 (reachable (meant meaning s))) → s.entries < 2 ^ 64 → sums stats)) c.self.view_is
    (subst (λ (s : State g.P.HasMeaning.Meaning). IfOk c.stats.result (λ stats. NoCountSaturates (visits_below 0 (reachable s)) → c.self.inside.inner.stock.entries < 2 ^ 64 → sums stats)) (sym (meant_state meaning w)) c.stats.ensures.entries)
