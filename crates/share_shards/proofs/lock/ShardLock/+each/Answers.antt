use Rattle.std.proofs.Common.{◌∙◌, ◌++◌, ◌∷◌, [], ℕ, List, reverse, rules, sym, ap}
use Rattle.std.specs.Prelude.{Option, Some}
use Rattle.atomic_table.specs.Table.{Me}
use Rattle.share_shards.specs.inner.SeatView.{ShardView}
use Rattle.share_shards.proofs.Holding.{behind, first_slot, first_value, has_first, last_of_reverse, turned_slots, visited_more}
use Rattle.share_shards.proofs.lock.ShardLock.+each.Goals as goal

pub slot_mut-requires : goal.slot_mut-requires
slot_mut-requires g t c =
    let M : Type 0 = Me (Option g.row.S.Denot) (ShardView g.row.T.Denot g.row.S.Denot) in
    let slots : List (ℕ × Option g.row.S.Denot) = c.args.seat.now.me.1 in let last : ℕ = c.in-Some.last.now in let held = c.requires.slots in
    let ns = last_of_reverse c.args.shards.now c.in-Some.others.now last _ c.in-Some.ensures.cases.0 held.3 in
    let f = first_slot slots held.0 held.1 last (reverse c.in-Some.others.now) held.2 ns in
    (c.requires.table ∙ ap (λ l. l.table) (sym c.self.view_is), (Some f.value, has_first slots last f.value _ f.slots_are))

pub unreachable-requires : goal.unreachable-requires
unreachable-requires g t c =
    let M : Type 0 = Me (Option g.row.S.Denot) (ShardView g.row.T.Denot g.row.S.Denot) in
    let slots : List (ℕ × Option g.row.S.Denot) = c.args.seat.now.me.1 in let last : ℕ = c.in-Some.last.now in let held = c.requires.slots in
    let ns = last_of_reverse c.args.shards.now c.in-Some.others.now last _ c.in-Some.ensures.cases.0 held.3 in
    let f = first_slot slots held.0 held.1 last (reverse c.in-Some.others.now) held.2 ns in
    c.in_default-slot_mut.not-Some f.value (first_value slots last f.value c.slot_mut.result.now _ _ f.slots_are c.slot_mut.ensures.value)

pub each-requires : goal.each-requires
each-requires g t c κs within =
    let M : Type 0 = Me (Option g.row.S.Denot) (ShardView g.row.T.Denot g.row.S.Denot) in
    let slots : List (ℕ × Option g.row.S.Denot) = c.args.seat.now.me.1 in let last : ℕ = c.in-Some.last.now in let held = c.requires.slots in
    let ns = last_of_reverse c.args.shards.now c.in-Some.others.now last _ c.in-Some.ensures.cases.0 held.3 in
    let f = first_slot slots held.0 held.1 last (reverse c.in-Some.others.now) held.2 ns in
    let w = c.visit.new.value in
    let turned = turned_slots slots last f.value w f.later held.1 c.turn.new.self.me.1 f.slots_are (ap (λ (z : M). z.1) c.turn.ensures.2) in
    (search rules, (search rules, (search rules, (search rules, (search rules, (search rules, (f.later, held.1 ++ (last, Some w) ∷ [], turned, f.numbers_are)))))))

pub returns-clause-visited : goal.returns-clause-visited
returns-clause-visited g t c = λ held others is numbered.
    let M : Type 0 = Me (Option g.row.S.Denot) (ShardView g.row.T.Denot g.row.S.Denot) in
    let slots : List (ℕ × Option g.row.S.Denot) = c.args.seat.now.me.1 in let last : ℕ = c.in-Some.last.now in
    let ns = last_of_reverse c.args.shards.now c.in-Some.others.now last _ c.in-Some.ensures.cases.0 numbered in
    let f = first_slot slots held others last (reverse c.in-Some.others.now) is ns in
    let w = c.visit.new.value in
    let turned = turned_slots slots last f.value w f.later others c.turn.new.self.me.1 f.slots_are (ap (λ (z : M). z.1) c.turn.ensures.2) in
    let more = c.each.ensures.visited f.later (others ++ (last, Some w) ∷ []) turned f.numbers_are in
    let same = first_value slots last f.value c.slot_mut.result.now _ _ f.slots_are c.slot_mut.ensures.value in (
      (last, w) ∷ more.0,
      more.1 ∙ behind last w others more.0,
      visited_more g.V.Visit.does c.args.visit.now c.visit.new.self c.each.new.visit c.args.buffer.now c.visit.new.buffer c.each.new.buffer last f.value c.in-Some-slot_mut.value w held f.later more.0 f.held_is
          (sym same ∙ c.in-Some-slot_mut.is) c.visit.ensures.does more.2,
    )
