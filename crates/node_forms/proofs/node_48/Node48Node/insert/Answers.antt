use Rattle.std.proofs.Common.{rules, arith, ◌≡◌, ◌≤◌, ◌<◌, ◌+◌, ◌∙◌, refl, None, length, set, slice_index}
use Rattle.std.proofs.lemmas.List.{get_or-set_same, get_or-set_other}
use Rattle.spec_map.specs.Map.{lookup}
use Rattle.node_base.specs.inner.Row.{in_row}
use Rattle.node_base.proofs.RowLaws.{row-added}
use Rattle.node_forms.proofs.node_48.Node48Node.insert.Goals as goal

pub returns-clause-children : goal.returns-clause-children
returns-clause-children g c =
    let r = c.self.invariant.0 in
    let byte : c.args.byte < 256 = search rules in
    let index = c.self.inside.index.value in
    let row = c.self.inside.children.items in
    let long : length c.self.inside.index.value ≡ 256 = search rules in
    let n : c.len.result ≡ length c.self.inside.children.items = search rules in
    let none : lookup (in_row (slice_index index) row) c.args.byte ≡ None = rw (← c.self.view_is) at c.requires.absent in
    let room : length c.args.self.now.children + 1 ≤ 48 = c.requires.room in
    let each : length c.args.self.now.children ≡ length row = rw (← c.self.view_is) r.each in
    rw (← c.self.view_is, c.deref_mut.ensures.value, c.add.ensures.added)
    (row-added 48 (slice_index index) row c.self.inside.base.count r c.args.byte byte (slice_index (set index c.args.byte c.len.result)) c.args.child (c.self.inside.base.count + 1) none (omega (arith, room, each)) refl
    (get_or-set_same index c.args.byte c.len.result 0 (omega (arith, long, byte)) ∙ n) (λ d l other. get_or-set_other index c.args.byte d c.len.result 0 other)).1

pub invariant_of-self : goal.invariant_of-self
invariant_of-self g c =
    let r = c.self.invariant.0 in
    let byte : c.args.byte < 256 = search rules in
    let index = c.self.inside.index.value in
    let row = c.self.inside.children.items in
    let long : length c.self.inside.index.value ≡ 256 = search rules in
    let n : c.len.result ≡ length c.self.inside.children.items = search rules in
    let none : lookup (in_row (slice_index index) row) c.args.byte ≡ None = rw (← c.self.view_is) at c.requires.absent in
    let room : length c.args.self.now.children + 1 ≤ 48 = c.requires.room in
    let each : length c.args.self.now.children ≡ length row = rw (← c.self.view_is) r.each in
    rw (c.count_up.ensures, c.deref_mut.ensures.value, c.add.ensures.added) (
      (row-added 48 (slice_index index) row c.self.inside.base.count r c.args.byte byte (slice_index (set index c.args.byte c.len.result)) c.args.child (c.self.inside.base.count + 1) none (omega (arith, room, each)) refl
          (get_or-set_same index c.args.byte c.len.result 0 (omega (arith, long, byte)) ∙ n) (λ d l other. get_or-set_other index c.args.byte d c.len.result 0 other)).0,
      c.self.invariant.1,
      search rules,
    )
