use Rattle.std.proofs.Common.{rules, arith, refl, sym, ap, subst, ◌/◌, ◌≡◌, ◌∙◌, Option, Some, None, ℕ}
use Rattle.spec_node.specs.TableNode.{TableNode}
use Rattle.spec_map.specs.Map.{lookup}
use Rattle.live_layout.specs.Encodes.{words_of, IsBelow, Encodes, payload_of}
use Rattle.live_nodes.specs.Nodes.{Content}
use Rattle.live_nodes.specs.Seats.{Agree}
use Rattle.live_nodes.specs.Rows.{last_saw}
use Rattle.live_nodes.specs.Levels.{place_at, digit}
use Rattle.live_updates.specs.inner.Lookups.{IsOpenWith}
use Rattle.live_growth.proofs.Values.{value_found}
use Rattle.live_reads.proofs.Views.{first_word, may_read_open}
use Rattle.live_updates.proofs.Seeks.{IsEnd, HasRead, may_seek, seek_missed, seek_ends, seek_open}
use Rattle.live_updates.proofs.lookup.ends_in.Given.{Over}
use Rattle.live_updates.proofs.lookup.ends_in.Goals as goal
use Rattle.live_updates.proofs.lookup.ends_in.Goals.{After-index-words-0, After-check}

in_leaf : (found : Option ℕ) → IsEnd 1 found
in_leaf None = tt
in_leaf (Some x) = refl

-- the leaf was read, and then its version word was checked
abbrev has_read : (g : Over) (c : After-index-words-0 g) → HasRead c.args.seat.now.view c.find-found.new.seat.view c.args.seat.now.book c.args.here.words.now c.args.here.taken c.args.name c.args.key 1 c.index-words-0.result.key g.Q.Lookups.lookup
has_read g c = let o = c.requires.open in record {
  node = o;
  rest = ap (λ s. s.view) c.find-found.ensures.seat.others;
  at_k = (first_word (place_at o.names.spot) c.args.seat.now.book c.args.here.words.now o.opened.are c.index-words-0.result c.index-words-0.result (sym c.index-words-0.is)).0;
  asked = c.requires.asks.0;
}

same : (g : Over) (c : After-check g) → (c.check.new.seat.book ≡ c.args.seat.now.book) × (c.check.new.seat.id ≡ c.args.seat.now.id)
same g c = let s = c.check.ensures.seat in let r = c.find-found.ensures.seat.others in (s.0 ∙ ap (λ z. z.book) r, s.1 ∙ ap (λ z. z.id) r)

pub find-found-requires : goal.find-found-requires
find-found-requires g c =
    let o = c.requires.open in
    let spot = o.names.spot in
    let l = o.opened.are.0 in
    let e = ap words_of (c.form_below-form.ensures spot.shape.key spot.shape.form o.names.named) in
    record { cells = (may_read_open c.args.seat.now.view c.args.seat.now.book c.args.here.words.now c.args.here.taken spot o.names.placed o.opened, omega (arith, l, e)) }

pub check-requires-clause-learns : goal.check-requires-clause-learns
check-requires-clause-learns g c =
    let free = c.requires.open.free in
    may_seek (has_read g (goal.at.check-requires-clause-learns g c).After-index-words-0) c.requires.legal c.find-found.new.seat.id (c.args.here.taken / 4) (c.requires.asks.1 ∙ sym (ap (λ s. s.id) c.find-found.ensures.seat.others)) (omega (arith, free))

pub returns-then-not-check : goal.returns-then-not-check
returns-then-not-check g c =
    let a = goal.at.returns-then-not-check g c in
    let told = c.check.ensures.checked in
    let missed = seek_missed (has_read g a.After-index-words-0) c.check.new.seat.view told.0 told.2 (search rules) in
    record { book = (same g a.After-check).0; id = (same g a.After-check).1; keeps = missed.0; found = missed.1; still = tt }

pub returns : goal.returns
returns g c =
    let a = goal.at.returns g c in
    let o = c.requires.open in
    let told = c.check.ensures.checked in
    let w = c.check.new.seat.view in
    let read = has_read g a.After-index-words-0 in
    let kept = λ (content : Content) (agrees : Agree content (last_saw c.find-found.new.seat.view.reads)). subst (λ z. Agree content (last_saw z)) o.opened.reads (c.find-found.ensures.kept content agrees) in
    let form = c.form_below-form.ensures o.names.spot.shape.key o.names.spot.shape.form o.names.named in
    let below = λ (content : Content) (n : TableNode ℕ) (agrees : Agree content (last_saw c.find-found.new.seat.view.reads)) (encodes : Encodes content n) (formed : n.form ≡ o.names.spot.shape.form).
    subst (λ z. IsBelow (lookup n.children z) c.find-found.result) c.byte_at-byte.ensures (c.find-found.ensures.is content n agrees encodes (formed ∙ sym form)) in
    let ends = seek_ends read w told.0 told.2 (search rules) kept c.find-found.result (in_leaf c.find-found.result) below in
    let here = c.args.here in
    let still : IsOpenWith w c.args.seat.now.book here.words.now here.taken c.args.name c.args.key c.find-found.result = record {
      node = seek_open read w told.0 told.2 (search rules) kept ends.0;
      finds = λ content n agrees encodes formed deep.
          value_found (lookup n.children (digit 1 c.args.key)) c.find-found.result (below content n agrees encodes formed)
          (ap (λ z. payload_of (lookup n.children z)) (sym c.byte_at-byte.ensures) ∙ c.find-found.ensures.payload content n agrees encodes (formed ∙ sym form) deep);
    } in
    record { book = (same g a.After-check).0; id = (same g a.After-check).1; keeps = ends.0; found = ends.1; still = subst (λ b. IsOpenWith w b here.words.now here.taken c.args.name c.args.key c.find-found.result) (sym (same g a.After-check).0) still }
