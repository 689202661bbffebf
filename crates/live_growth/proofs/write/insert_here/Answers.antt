use Rattle.std.proofs.Common.{rules, arith, sym, ap, subst, length, ℕ, Some, None, List, ◌≡◌, ◌+◌, ◌/◌, ◌∙◌}
use Rattle.spec_node.specs.TableNode.{TableNode}
use Rattle.spec_node.specs.declared.child.Child.TheVariants.{Payload}
use Rattle.live_nodes.specs.Acts as acts
use Rattle.live_nodes.specs.Nodes.{Content}
use Rattle.live_nodes.specs.Seats.{SeatView}
use Rattle.live_nodes.specs.Rows.{draft_of, nth}
use Rattle.live_layout.specs.Encodes.{Encodes, words_of, with_child}
use Rattle.live_nodes.specs.Levels.{up, digit, Spot, place_at}
use Rattle.live_nodes.specs.Views.{View, content_of, inserted}
use Rattle.live_nodes.specs.Tree.{IsMap, Inserts, Answers}
use Rattle.live_nodes.proofs.Writes.{leaf_inserts}
use Rattle.live_reads.specs.Paths.{AreNamed}
use Rattle.live_growth.specs.Holds.{Alike, HasLocked, HasLockedOpen, HoldsOne}
use Rattle.live_reads.proofs.Views.{first_word}
use Rattle.share_rule.specs.History.{Entry}
use Rattle.live_growth.proofs.Written.{changes_leaf, stays_leaf, found_leaf}
use Rattle.live_growth.proofs.Locks.{taken_by, are_named, holds_one, may_hold, draft_is, wrote_one, may_free, is_freed, alike_then}
use Rattle.live_growth.proofs.write.insert_here.Given.{Over}
use Rattle.live_growth.proofs.write.insert_here.Goals as goal
use Rattle.live_growth.proofs.write.insert_here.Goals.{In-Some, After-write, After-index-words-0}

-- THE LEAF is locked
module _ (g : Over) (c : In-Some g) where
  leaf : HasLocked c.args.seat.now.view c.lock_open.new.seat.view c.args.name c.args.key 1 c.in-Some.free
  leaf =
      let locked : c.lock_open.result ≡ Some c.in-Some.free = search rules in
      let open_node = HasLockedOpen c.args.seat.now.view c.lock_open.new.seat.view c.args.seat.now.book c.args.here.words.now c.args.here.taken c.args.name c.args.key 1 in
      (taken_by c.lock_open.result c.in-Some.free locked open_node c.lock_open.ensures.locked c.requires.open).0

  abbrev a : Spot
  a = leaf.names.spot

  abbrev content : Content
  content = leaf.content

  one : HoldsOne c.lock_open.new.seat.view c.lock_open.new.seat.book c.args.here.words.now c.in-Some.free a content content
  one =
      let are = subst (λ z. AreNamed z c.args.name c.args.here.words.now) (sym c.lock_open.ensures.book) (are_named c.args.seat.now.view c.args.seat.now.book c.args.here.words.now c.args.here.taken c.args.name c.args.key 1 c.requires.open) in
      holds_one c.args.seat.now.view c.lock_open.new.seat.view c.args.name c.args.key 1 c.in-Some.free leaf c.lock_open.new.seat.book c.args.here.words.now are c.requires.rests.0 c.requires.rests.1

  form : c.form_below-form.result ≡ a.shape.form
  form = c.form_below-form.ensures a.shape.key a.shape.form leaf.names.named

  was : draft_of (nth 0 c.lock_open.new.seat.view.holds) ≡ content
  was = draft_is c.lock_open.new.seat.view c.lock_open.new.seat.book c.args.here.words.now c.in-Some.free a content content one

  deep : length leaf.its.prefix ≡ 7
  deep = let z = leaf.deep in omega (arith, z)

  digit_is : c.byte_at-byte.result ≡ digit 1 g.A.Asks.ask.key
  digit_is = c.byte_at-byte.ensures ∙ ap (digit 1) (sym c.requires.asks.0)

-- its draft is written
module _ (g : Over) (c : After-write g) where
  abbrev l : In-Some g
  l = (goal.at.After-write g c).In-Some

  abbrev draft : Content
  draft = draft_of (nth 0 c.write.new.seat.view.holds)

  wrote : HoldsOne c.write.new.seat.view c.lock_open.new.seat.book c.args.here.words.now c.in-Some.free (a g l) (content g l) draft × Alike c.lock_open.new.seat.view c.write.new.seat.view × (c.write.new.seat.view.client ≡ c.lock_open.new.seat.view.client)
  wrote = wrote_one c.lock_open.new.seat.view c.write.new.seat.view c.lock_open.new.seat.book c.args.here.words.now c.in-Some.free (a g l) (content g l) (content g l) (one g l) (ap (λ s. s.view) c.write.ensures.seat.others)

  same_book : c.write.new.seat.book ≡ c.lock_open.new.seat.book
  same_book = ap (λ s. s.book) c.write.ensures.seat.others

  held : HoldsOne c.write.new.seat.view c.write.new.seat.book c.args.here.words.now c.in-Some.free (a g l) (content g l) draft
  held = subst (λ z. HoldsOne c.write.new.seat.view z c.args.here.words.now c.in-Some.free (a g l) (content g l) draft) (sym same_book) wrote.0

  book : c.write.new.seat.book ≡ c.args.seat.now.book
  book = same_book ∙ c.lock_open.ensures.book

  id : c.write.new.seat.id ≡ c.args.seat.now.id
  id = ap (λ s. s.id) c.write.ensures.seat.others ∙ c.lock_open.ensures.id

  alike : Alike c.args.seat.now.view c.write.new.seat.view
  alike = alike_then c.args.seat.now.view c.lock_open.new.seat.view c.write.new.seat.view (leaf g l).alike wrote.1

  seen : c.write.new.seat.view.client.seen ≡ c.args.seat.now.view.client.seen
  seen = ap (λ (z : View). z.seen) wrote.2 ∙ (leaf g l).seen

-- THE UNLOCKING STORE
module _ (g : Over) (c : After-index-words-0 g) where
  abbrev w : After-write g
  w = (goal.at.After-index-words-0 g c).After-write

  at_first : (place_at (a g (l g w))).key ≡ c.index-words-0.result.key
  at_first = (first_word (place_at (a g (l g w))) c.write.new.seat.book c.args.here.words.now (held g w).are c.index-words-0.result c.index-words-0.result (sym c.index-words-0.is)).0

  some : c.write.result ≡ Some c.in-Some-write.old
  some = search rules

  changes : (n : TableNode ℕ) → Encodes (content g (l g w)) n → n.form ≡ (a g (l g w)).shape.form → length n.prefix ≡ 7 → Encodes (draft g w) (with_child n (digit 1 g.A.Asks.ask.key) (Some (Payload g.A.Asks.ask.value)))
  changes = changes_leaf g.A.Asks.ask c.byte_at-byte.result c.args.value (digit_is g (l g w)) c.requires.asks.1 c.form_below-form.result (content g (l g w)) (draft_of (nth 0 c.lock_open.new.seat.view.holds)) (draft g w) (was g (l g w)) c.write.result c.in-Some-write.old some c.write.ensures.is (a g (l g w)).shape.form (sym (form g (l g w)))

pub write-requires-clause-may : goal.write-requires-clause-may
write-requires-clause-may g c =
    let k = (goal.at.write-requires-clause-may g c).In-Some in
    may_hold c.lock_open.new.seat.view c.lock_open.new.seat.book c.args.here.words.now c.in-Some.free (a g k) (content g k) (content g k) (one g k) (leaf g k).long

pub write-requires-clause-long : goal.write-requires-clause-long
write-requires-clause-long g c =
    let k = (goal.at.write-requires-clause-long g c).In-Some in
    ap (λ (z : List ℕ). length z) (was g k) ∙ ((leaf g k).long ∙ ap words_of (sym (form g k)))

pub unlock_same-requires-clause-word : goal.unlock_same-requires-clause-word
unlock_same-requires-clause-word g c = let h = leaf g (goal.at.unlock_same-requires-clause-word g c).In-Some in (h.even, h.small)

pub unlock_same-requires-clause-holds : goal.unlock_same-requires-clause-holds
unlock_same-requires-clause-holds g c =
    let z = (goal.at.unlock_same-requires-clause-holds g c).After-write in
    let k = l g z in
    let none : c.write.result ≡ None = search rules in
    let same = stays_leaf g.A.Asks.ask c.byte_at-byte.result c.args.value (digit_is g k) c.requires.asks.1 c.form_below-form.result (content g k) (draft_of (nth 0 c.lock_open.new.seat.view.holds)) (draft g z) (was g k) c.write.result none c.write.ensures.is (leaf g k).its (leaf g k).encodes ((leaf g k).in_form ∙ sym (form g k)) (deep g k) in
    (a g k, content g k, subst (λ d. HoldsOne c.write.new.seat.view c.write.new.seat.book c.args.here.words.now c.in-Some.free (a g k) (content g k) d) same (held g z))

pub returns-in_default-write : goal.returns-in_default-write
returns-in_default-write g c =
    let z = (goal.at.returns-in_default-write g c).After-write in
    let e = c.unlock_same.ensures in
    record {
      book = e.book ∙ book g z;
      id = e.id ∙ id g z;
      rest = record { own = e.rest.own; holds = e.rest.holds; alike = alike_then c.args.seat.now.view c.write.new.seat.view c.unlock_same.new.seat.view (alike g z) e.rest.alike };
      done = tt;
      seen = e.seen ∙ seen g z;
    }

pub unlock-requires-clause-free : goal.unlock-requires-clause-free
unlock-requires-clause-free g c =
    let h = leaf g (goal.at.unlock-requires-clause-free g c).In-Some in
    let small = h.small in
    (h.even, omega (arith, small))

pub unlock-requires-clause-frees : goal.unlock-requires-clause-frees
unlock-requires-clause-frees g c =
    let i = (goal.at.unlock-requires-clause-frees g c).After-index-words-0 in
    let z = w g i in
    let k = l g z in
    let h = leaf g k in
    let free = c.in-Some.free in
    let q = g.A.Asks.ask in
    let by = c.requires.asks.2 ∙ sym (id g z) in
    let covers = ap (up (a g k).shape.height) c.requires.asks.0 ∙ h.names.covers in
    let long = c.write.ensures.long ∙ ap words_of (form g k) in
    let frees = subst (λ (x : View). acts.Frees IsMap c.write.new.seat.id x (a g k).number (free + 4) (draft g z) (Inserts q x (a g k).number (draft g z))) (sym (wrote g z).2)
    (leaf_inserts q c.write.new.seat.id by c.lock_open.new.seat.view.client (a g k) (content g k) (one g k).own h.names.high covers (free + 4) (free / 4 + 1) (let even = h.even in omega (arith, even)) (draft g z) long (changes g i)) in
    may_free c.write.new.seat.view c.write.new.seat.book c.args.here.words.now free (a g k) (content g k) (draft g z) (held g z) c.index-words-0.result.key (at_first g i) (Inserts q) c.write.new.seat.id (free + 4) frees

pub returns : goal.returns
returns g c =
    let i = (goal.at.returns g c).After-index-words-0 in
    let z = w g i in
    let k = l g z in
    let h = leaf g k in
    let q = g.A.Asks.ask in
    let old = c.in-Some-write.old in
    let x = c.unlock.new.seat.view in
    let e = c.unlock.ensures.seat in
    let f = is_freed c.write.new.seat.view c.write.new.seat.book c.args.here.words.now c.in-Some.free (a g k) (content g k) (draft g z) (held g z) c.index-words-0.result.key (at_first g i) (Inserts q) x (c.in-Some.free + 4) c.unlock.ensures.freed in
    let found = found_leaf q c.byte_at-byte.result c.args.value (digit_is g k) c.requires.asks.1 c.form_below-form.result (content g k) (draft_of (nth 0 c.lock_open.new.seat.view.holds)) (draft g z) (was g k) c.write.result old (some g i) c.write.ensures.is
    h.its h.encodes (h.in_form ∙ sym (form g k)) (deep g k) c.write.new.seat.view.client f.0 (ap content_of (wrote g z).0.own) f.2 in
    let answers = subst (λ (s : List (Entry ℕ) × List (Entry ℕ)). Answers q.caller (inserted q old) s.0 s.1) (λ i. (seen g z i, sym (ap (λ (s : SeatView View). s.client.seen) f.1) i)) found in
    record {
      book = e.0 ∙ book g z;
      id = e.1 ∙ id g z;
      rest = record {
        own = ap (λ (s : SeatView View). s.client.own) f.1 ∙ ap (λ (s : View). s.own) f.2.is;
        holds = ap (λ (s : SeatView View). s.holds) f.1;
        alike = alike_then c.args.seat.now.view c.write.new.seat.view x (alike g z) record {
          places = ap (λ (s : SeatView View). s.places) f.1;
          met = ap (λ (s : SeatView View). s.client.met) f.1 ∙ ap (λ (s : View). s.met) f.2.is;
          room = ap (λ (s : SeatView View). s.room) f.1;
        };
      };
      done = answers;
      seen = tt;
    }
