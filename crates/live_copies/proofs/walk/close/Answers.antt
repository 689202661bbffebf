use Rattle.std.proofs.Common.{rules, sym, ap, subst, length, ℕ, List, ◌≡◌, ◌∙◌}
use Rattle.live_nodes.specs.Rows.{nth, draft_of}
use Rattle.live_layout.specs.Encodes.{words_of}
use Rattle.live_copies.specs.inner.Locks.{HasTold}
use Rattle.live_copies.proofs.Leaves.{taken_holds, taken_draft}
use Rattle.live_copies.proofs.Walking.{taken_told}
use Rattle.live_copies.proofs.walk.close.Goals as goal
use Rattle.live_copies.proofs.walk.close.Goals.{In_ok-words, After-form_below}

-- the node is locked
drafted : (c : In_ok-words) → draft_of (nth 0 c.lock_noted.new.seat.view.holds) ≡ c.in_ok-words.ensures.taken.content
drafted c = taken_draft c.lock_noted.new.seat.view c.lock_noted.new.seat.book c.args.name c.args.key c.args.height c.in_ok-words.words.now c.in_ok-words.ensures.taken

form : (c : After-form_below) → c.form_below.result ≡ c.in_ok-words.ensures.taken.spot.shape.form
form c = let t = c.in_ok-words.ensures.taken in c.form_below.ensures t.spot.shape.key t.spot.shape.form t.named

pub has_children-requires-clause-may : goal.has_children-requires-clause-may
has_children-requires-clause-may c = taken_holds c.lock_noted.new.seat.view c.lock_noted.new.seat.book c.args.name c.args.key c.args.height c.in_ok-words.words.now c.in_ok-words.ensures.taken

pub has_children-requires-clause-long : goal.has_children-requires-clause-long
has_children-requires-clause-long c =
    let a = goal.at.has_children-requires-clause-long c in
    ap (λ (z : List ℕ). length z) (drafted a.In_ok-words) ∙ (c.in_ok-words.ensures.taken.long ∙ ap words_of (sym (form a.After-form_below)))

pub returns-clause-has : goal.returns-clause-has
returns-clause-has c = λ pairs n.
    let a = goal.at.returns-clause-has c in
    let w = c.lock_noted.new.seat.view in
    let l = c.in_ok-words.ensures in
    let named = c.has_children.ensures.are (search rules) in
    subst (λ s. HasTold s.view c.args.name c.args.key c.args.height pairs) (sym c.has_children.ensures.seat.same)
    (taken_told w c.lock_noted.new.seat.book c.args.name c.args.key c.args.height c.in_ok-words.words.now l.taken c.requires.height.0 c.args.seat.now.view.client.own l.grows.own c.args.names.now pairs (draft_of (nth 0 w.holds)) c.form_below.result (drafted a.In_ok-words) (form a.After-form_below) named n)
