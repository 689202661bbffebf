use Rattle.std.proofs.Common.{◌≡◌, ◌∙◌, ◌∷◌, [], ℕ, List, refl, sym, ap, subst}
use Rattle.std.specs.Prelude.{Option, Some}
use Rattle.atomic_table.specs.Table.{rest}
use Rattle.share_parts.specs.Parts.{AreWithin}
use Rattle.share_shards.specs.Held.{keys_at}
use Rattle.share_shards.proofs.Holding.{has_first, held_idle, one_held, one_may, tail_none}
use Rattle.share_shards.proofs.lock.ShardLock.hold.Goals as goal

pub slot_mut-requires : goal.slot_mut-requires
slot_mut-requires g c =
    let won = c.if-not-take_one.ensures.won refl in
    (c.take_one.ensures.table ∙ (c.requires.table ∙ ap (λ l. l.table) (sym c.self.view_is)), (Some won.value, has_first c.take_one.new.seat.me.1 c.args.shard won.value c.args.seat.now.me.1 (ap (λ z. z.1) won.is)))

pub append-requires-clause-may : goal.append-requires-clause-may
append-requires-clause-may g c =
    let content = g.S.Sharded.content c.args.self.now.limit in let n = c.args.self.now.table.slots in let i = c.args.shard in
    let won = c.if-not-take_one.ensures.won refl in let x = c.in-Some.value in let y = c.work.new.value in
    let m = c.args.seat.now.me in let m1 = c.take_one.new.seat.me in
    let Slots : Type 0 = List (ℕ × Option g.row.S.Denot) in
    let tail : ◌≡◌ {A = Slots} (rest m1.1) [] = tail_none content (g.S.Sharded.shard n) i m m1 c.requires.idle won in
    let carried : ◌≡◌ {A = Slots} m1.1 ((i, Some x) ∷ []) = c.slot_mut.ensures.value ∙ (λ k. (i, c.in-Some.is k) ∷ tail k) in (
      (i, won.value) ∷ [],
      (i, y) ∷ [],
      one_may g.S.Sharded.same content (g.S.Sharded.shard n) (g.W.Work.made c.work.new.self) i m m1 _ x y c.requires.idle won carried (λ k. (m1.0, (i, Some y) ∷ tail k)) (c.work.ensures.goes c.args.self.now.limit)
          (subst (λ (j : ℕ). AreWithin (keys_at (g.S.Sharded.shard n) j) (g.W.Work.made c.work.new.self x)) (sym c.requires.shard) (c.work.ensures.within n c.requires.suits)),
    )

pub returns-clause-held : goal.returns-clause-held
returns-clause-held g c _ =
    let content = g.S.Sharded.content c.args.self.now.limit in let n = c.args.self.now.table.slots in let i = c.args.shard in
    let won = c.if-not-take_one.ensures.won refl in let x = c.in-Some.value in let y = c.work.new.value in
    let m = c.args.seat.now.me in let m1 = c.take_one.new.seat.me in
    let Slots : Type 0 = List (ℕ × Option g.row.S.Denot) in
    let tail : ◌≡◌ {A = Slots} (rest m1.1) [] = tail_none content (g.S.Sharded.shard n) i m m1 c.requires.idle won in
    let carried : ◌≡◌ {A = Slots} m1.1 ((i, Some x) ∷ []) = c.slot_mut.ensures.value ∙ (λ k. (i, c.in-Some.is k) ∷ tail k) in (
      x,
      one_held g.S.Sharded.same content (g.S.Sharded.shard n) (g.W.Work.made c.work.new.self) i m m1 _ x y c.requires.idle won carried (λ k. (m1.0, (i, Some y) ∷ tail k)) (c.work.ensures.goes c.args.self.now.limit)
          (subst (λ (j : ℕ). AreWithin (keys_at (g.S.Sharded.shard n) j) (g.W.Work.made c.work.new.self x)) (sym c.requires.shard) (c.work.ensures.within n c.requires.suits))
          c.append.new.seat.me c.release_one.new.seat.me c.append.ensures.appended c.release_one.ensures.released,
      c.work.ensures.does,
    )

pub returns-clause-idle : goal.returns-clause-idle
returns-clause-idle g c =
    let content = g.S.Sharded.content c.args.self.now.limit in let n = c.args.self.now.table.slots in let i = c.args.shard in
    let won = c.if-not-take_one.ensures.won refl in let x = c.in-Some.value in let y = c.work.new.value in
    let m = c.args.seat.now.me in let m1 = c.take_one.new.seat.me in
    let Slots : Type 0 = List (ℕ × Option g.row.S.Denot) in
    let tail : ◌≡◌ {A = Slots} (rest m1.1) [] = tail_none content (g.S.Sharded.shard n) i m m1 c.requires.idle won in
    let carried : ◌≡◌ {A = Slots} m1.1 ((i, Some x) ∷ []) = c.slot_mut.ensures.value ∙ (λ k. (i, c.in-Some.is k) ∷ tail k) in
    held_idle g.S.Sharded.same content (g.S.Sharded.shard n) (g.W.Work.made c.work.new.self x) m c.release_one.new.seat.me
    (one_held g.S.Sharded.same content (g.S.Sharded.shard n) (g.W.Work.made c.work.new.self) i m m1 _ x y c.requires.idle won carried (λ k. (m1.0, (i, Some y) ∷ tail k)) (c.work.ensures.goes c.args.self.now.limit)
    (subst (λ (j : ℕ). AreWithin (keys_at (g.S.Sharded.shard n) j) (g.W.Work.made c.work.new.self x)) (sym c.requires.shard) (c.work.ensures.within n c.requires.suits))
    c.append.new.seat.me c.release_one.new.seat.me c.append.ensures.appended c.release_one.ensures.released)
