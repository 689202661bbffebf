use Rattle.std.proofs.Common.{rules, refl, ℕ, subst, ◌≡◌, ◌∙◌}
use Rattle.live_nodes.specs.Known.{Known}
use Rattle.live_growth.specs.Calls.{known_of}
use Rattle.live_reads.specs.Paths.{Names}
use Rattle.live_reads.proofs.Finds.{names_kept}
use Rattle.live_growth.proofs.Ready.{ready_kept}
use Rattle.live_scans.specs.Scans.{HasBegun}
use Rattle.live_scans.proofs.Composed.{more_same}
use Rattle.live_scans.proofs.Pages.{begun_by, begun_on}
use Rattle.live_copies.proofs.copy.copy.Goals as goal

pub invariant_of-guard : goal.invariant_of-guard
invariant_of-guard c = ready_kept c.guard.inside.seat.view c.start.new.seat.view c.guard.inside.room c.guard.invariant c.start.ensures.keeps

pub loop-init : goal.loop-init
loop-init c =
    let u = c.guard.inside.seat in
    let v = c.start.new.seat in
    let s = c.in-Some.ensures in
    let first : known_of u.book u.id u.view ≡ c.args.guard.now = search rules in
    record {
      book = s.book ∙ (search rules);
      begun = subst (λ (z : Known). HasBegun z (known_of v.book v.id v.view)) first (begun_by u.book v.book v.book u.id v.id v.id u.view v.view v.view s.book s.id refl refl s.starts.0 (more_same v.id v.view.client.seen));
      ready = ready_kept u.view v.view c.guard.inside.room c.guard.invariant s.keeps;
      root = subst (λ (z : ℕ × ℕ). Names v.view c.in-Some.position.name z.0 z.1) (λ i. (s.starts.1 i, s.starts.2 i)) s.starts.3.2;
    }

pub loop-preserved : goal.loop-preserved
loop-preserved c =
    let i = c.loop.invariant in
    let k = c.args.guard.now in
    let v = c.loop.guard-inside.seat in
    let w = c.copy_once.new.seat in
    let t = c.copy_once.ensures in
    record {
      book = t.book ∙ i.book;
      begun = begun_on k v.book w.book v.id w.id v.view w.view t.book t.id i.begun t.seen;
      ready = ready_kept v.view w.view c.loop.guard-inside.room i.ready t.keeps;
      root = names_kept v.view w.view c.in-Some.position.name 0 8 t.keeps i.root;
    }

pub invariant_of-guard-in-Ok : goal.invariant_of-guard-in-Ok
invariant_of-guard-in-Ok c = ready_kept c.loop.guard-inside.seat.view c.copy_once.new.seat.view c.loop.guard-inside.room c.loop.invariant.ready c.copy_once.ensures.keeps

pub invariant_of-guard-in-Err-OutOfMemory : goal.invariant_of-guard-in-Err-OutOfMemory
invariant_of-guard-in-Err-OutOfMemory c = ready_kept c.loop.guard-inside.seat.view c.copy_once.new.seat.view c.loop.guard-inside.room c.loop.invariant.ready c.copy_once.ensures.keeps
