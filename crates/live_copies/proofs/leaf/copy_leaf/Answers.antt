use Rattle.std.proofs.Common.{rules, ◌≡◌, ℕ, ◌+◌, ◌-◌, ◌%◌, ◌++◌, List, length, take, drop, sym, ap, subst, ◌∙◌}
use Rattle.live_nodes.specs.Rows.{nth, draft_of}
use Rattle.live_layout.specs.Encodes.{words_of}
use Rattle.live_layout.specs.Page.{AreListed, pairs_of}
use Rattle.live_copies.specs.inner.Locks.{Takes}
use Rattle.live_copies.proofs.Leaves.{taken_holds, taken_draft, leaf_takes}
use Rattle.live_copies.proofs.leaf.copy_leaf.Goals as goal

pub fill-filled-requires-clause-cells : goal.fill-filled-requires-clause-cells
fill-filled-requires-clause-cells c =
    let t = c.requires.taken in
    let w = c.args.seat.now.view in
    let b = c.args.seat.now.book in
    let form = c.form_below-form.ensures t.spot.shape.key t.spot.shape.form t.named in
    let draft = taken_draft w b c.args.name c.args.key 1 c.args.words.now t in
    let long = ap (λ (l : List ℕ). length l) draft ∙ (t.long ∙ (sym (ap words_of form) ∙ sym c.words_in.ensures)) in
    ((taken_holds w b c.args.name c.args.key 1 c.args.words.now t, long), c.words_in.ensures)

pub returns-clause-copied : goal.returns-clause-copied
returns-clause-copied c =
    let t = c.requires.taken in
    let w = c.args.seat.now.view in
    let b = c.args.seat.now.book in
    let form = c.form_below-form.ensures t.spot.shape.key t.spot.shape.form t.named in
    let draft = taken_draft w b c.args.name c.args.key 1 c.args.words.now t in
    let same = c.fill-filled.ensures.seat.others in
    let agrees = sym (ap (λ s. draft_of (nth 0 s.view.holds)) same ∙ draft) in
    let count = c.fill-filled.result.count in
    let buffer = c.fill-filled.new.buffer in
    let all : c.fill-filled.result.reached + 1 ≡ 256 = search rules in
    let base : ℕ = c.args.key - c.args.key % 256 in
    let more : c.extend_from_slice.new.self.items ≡ c.args.pairs.now.items ++ take count buffer = search rules in
    subst (λ s. Takes s.view c.args.name c.args.key 1 c.args.pairs.now.items c.extend_from_slice.new.self.items) (sym same)
    (leaf_takes w b c.args.name c.args.key c.args.words.now t count buffer (λ n encodes formed deep. subst (λ z. AreListed n base 0 z (drop 0 (take count (pairs_of (λ p. p) buffer)))) all (c.fill-filled.ensures.is t.content n agrees encodes (formed ∙ sym form) deep)) c.args.pairs.now.items c.extend_from_slice.new.self.items more)
