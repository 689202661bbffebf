use Rattle.std.proofs.Common.{Result, Ok, Err, IfOk, sym, subst, ◌∙◌}
use Rattle.live_reads.specs.Paths.{Sights}
use Rattle.live_reads.proofs.Finds.{keeps_then}
use Rattle.live_reads.proofs.Sights.{sights_names, sights_kept}
use Rattle.live_updates.proofs.tidy.detach_one.Goals as goal

if_ok : {A E : Type 0} (P Q : A → Type 0) (r : Result A E) → ((x : A) → P x → Q x) → IfOk r P → IfOk r Q
if_ok P Q (Err e) f h = h
if_ok P Q (Ok x) f h = f x h

pub returns-clause-keeps : goal.returns-clause-keeps
returns-clause-keeps c =
    let v = c.args.seat.now.view in
    let d = c.descend.ensures in
    let t = c.detach.ensures in
    keeps_then v c.descend.new.seat.view c.detach.new.seat.view d.keeps t.keeps

pub returns-clause-seen : goal.returns-clause-seen
returns-clause-seen c =
    let d = c.descend.ensures in
    let t = c.detach.ensures in
    t.seen ∙ d.seen

pub returns-clause-named : goal.returns-clause-named
returns-clause-named c =
    let u = c.descend.new.seat.view in
    let w = c.detach.new.seat.view in
    let position = c.in-Some.field-0.position in
    let named = c.in-Some.ensures.end.0.named in
    let sight = sights_kept u w c.detach.ensures.keeps position.name (sights_names u position.name c.args.key position.height named) in
    if_ok _ (λ taken. Sights w taken.name) c.detach.result (λ taken same. subst (Sights w) (sym same) sight) c.detach.ensures.named
