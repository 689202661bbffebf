use Rattle.std.proofs.Common.{rules, ap, subst, sym, ◌≡◌, ℕ, ◌+◌, ◌∙◌, Option, Some, None, true}
use Rattle.node_base.specs.Form.{limit}
use Rattle.live_layout.specs.Words.{at}
use Rattle.live_layout.specs.ListCells.{count, key}
use Rattle.live_layout.specs.Order.{HasNearest}
use Rattle.live_layout.specs.inner.Best.{IsBest}
use Rattle.live_layout.proofs.BestLaws.{list_none, list_some}
use Rattle.live_layout.proofs.ChildLaws.{nearest_child}
use Rattle.live_scans.proofs.after.list_after.Goals as goal

pub returns-in_err-byte-clause-is : goal.returns-in_err-byte-clause-is
returns-in_err-byte-clause-is g c = λ d n a e f.
    let room = c.args.room in
    let from = c.args.from in
    let none : c.first_place.result ≡ None = search rules in
    let out : c.from_residual.result ≡ None = search rules in
    subst (λ (o : Option (ℕ × ℕ)). HasNearest true n.children from o) (sym out)
    (nearest_child d n true from None (Some room) (ap limit f ∙ c.requires.room.1) e (λ es h. list_none room d es h from c.ranges.from.fits true (subst (IsBest (key d) from (count d)) none (c.first_place.ensures.is d a h.few))))

pub returns-clause-is : goal.returns-clause-is
returns-clause-is g c = λ d n a e f.
    let room = c.args.room in
    let from = c.args.from in
    let found = c.in_ok-byte in
    let read = c.word-word.ensures.read d a in
    let word = c.word-word.result in
    let child = ap (λ (x : ℕ). at d (x + found.place)) (sym c.first_child.ensures) ∙ read.0 in
    nearest_child d n true from (Some (found.byte, word)) (Some room) (ap limit f ∙ c.requires.room.1) e (λ es h. list_some room d es h from c.ranges.from.fits true (found.byte, found.place) word child (found.ensures.is d read.1 h.few))
