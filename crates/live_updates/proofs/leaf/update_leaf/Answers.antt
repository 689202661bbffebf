use Rattle.std.proofs.Common.{rules, arith, sym, ap, subst, length, ℕ, Some, None, List, ◌≡◌, ◌+◌, ◌/◌, ◌∙◌}
use Rattle.live_nodes.specs.Acts as acts
use Rattle.live_nodes.specs.Nodes.{Content}
use Rattle.live_nodes.specs.Seats.{SeatView, Agree}
use Rattle.spec_map.specs.Map.{lookup}
use Rattle.spec_node.specs.TableNode.{TableNode}
use Rattle.live_nodes.specs.Rows.{draft_of, nth}
use Rattle.live_layout.specs.Encodes.{words_of, IsCounted, Encodes}
use Rattle.live_nodes.specs.Levels.{up, digit, Spot, place_at}
use Rattle.live_nodes.specs.Views.{View}
use Rattle.live_nodes.specs.Tree.{IsMap, Answers}
use Rattle.live_reads.specs.Paths.{AreNamed, IsOpen}
use Rattle.live_growth.specs.Holds.{Alike, HasLocked, HasLockedOpen, HoldsOne}
use Rattle.live_reads.proofs.Views.{first_word}
use Rattle.share_rule.specs.History.{Entry}
use Rattle.live_updates.specs.inner.Updates.{Writes, HasExpected}
use Rattle.live_updates.proofs.Leaves.{leaf_updates}
use Rattle.live_updates.proofs.Seeks.{leaf_open, leaf_has}
use Rattle.live_updates.proofs.Written.{set_leaf, kept_leaf, encodes_few}
use Rattle.live_growth.proofs.Locks.{taken_by, are_named, holds_one, may_hold, draft_is, wrote_one, may_free, is_freed, alike_then}
use Rattle.live_updates.proofs.leaf.update_leaf.Given.{Over}
use Rattle.live_updates.proofs.leaf.update_leaf.Goals as goal
use Rattle.live_updates.proofs.leaf.update_leaf.Goals.{In-Some, After-set, After-index-words-0}

abbrev Seen : Type 0
Seen = SeatView View

-- THE LEAF is locked
module _ (g : Over) (c : In-Some g) where
  opened : IsOpen c.args.seat.now.view c.args.seat.now.book c.args.leaf.here.words.now c.args.leaf.here.taken c.args.leaf.position.name c.args.key 1
  opened = (leaf_open c.args.seat.now.view c.args.seat.now.book c.args.key c.args.leaf c.args.old c.requires.open).1

  locks : (h : HasLocked c.args.seat.now.view c.lock_open.new.seat.view c.args.leaf.position.name c.args.key 1 c.in-Some.free) × Agree h.content opened.opened.saw
  locks =
      let locked : c.lock_open.result ≡ Some c.in-Some.free = search rules in
      let open_node = HasLockedOpen c.args.seat.now.view c.lock_open.new.seat.view c.args.seat.now.book c.args.leaf.here.words.now c.args.leaf.here.taken c.args.leaf.position.name c.args.key 1 in
      taken_by c.lock_open.result c.in-Some.free locked open_node c.lock_open.ensures.locked opened

  leaf : HasLocked c.args.seat.now.view c.lock_open.new.seat.view c.args.leaf.position.name c.args.key 1 c.in-Some.free
  leaf = locks.0

  abbrev a : Spot
  a = leaf.names.spot

  form : c.form_below-form.result ≡ a.shape.form
  form = c.form_below-form.ensures a.shape.key a.shape.form leaf.names.named

  one : HoldsOne c.lock_open.new.seat.view c.lock_open.new.seat.book c.args.leaf.here.words.now c.in-Some.free a leaf.content leaf.content
  one =
      let are = subst (λ z. AreNamed z c.args.leaf.position.name c.args.leaf.here.words.now) (sym c.lock_open.ensures.book) (are_named c.args.seat.now.view c.args.seat.now.book c.args.leaf.here.words.now c.args.leaf.here.taken c.args.leaf.position.name c.args.key 1 opened) in
      holds_one c.args.seat.now.view c.lock_open.new.seat.view c.args.leaf.position.name c.args.key 1 c.in-Some.free leaf c.lock_open.new.seat.book c.args.leaf.here.words.now are c.requires.rests.0 c.requires.rests.1

  drafted : draft_of (nth 0 c.lock_open.new.seat.view.holds) ≡ leaf.content
  drafted = draft_is c.lock_open.new.seat.view c.lock_open.new.seat.book c.args.leaf.here.words.now c.in-Some.free a leaf.content leaf.content one

  -- and has what is expected
  known : (n : TableNode ℕ) → Encodes (draft_of (nth 0 c.lock_open.new.seat.view.holds)) n → n.form ≡ c.form_below-form.result → length n.prefix ≡ 7 → HasExpected (lookup n.children c.byte_at-byte.result) c.args.old
  unfolding opened leaf
  known n encodes formed deep =
      let its_form = c.form_below-form.ensures opened.names.spot.shape.key opened.names.spot.shape.form opened.names.named in
      let has = leaf_has c.args.seat.now.view c.args.seat.now.book c.args.key c.args.leaf c.args.old c.requires.open leaf.content n locks.1 (subst (λ z. Encodes z n) drafted encodes) (formed ∙ its_form) deep in
      subst (λ z. HasExpected (lookup n.children z) c.args.old) (sym c.byte_at-byte.ensures) has

-- It may be written.
module _ (g : Over) (c : After-set g) where
  abbrev first : In-Some g
  first = (goal.at.After-set g c).In-Some

  abbrev d : Content
  d = draft_of (nth 0 c.set.new.seat.view.holds)

  digit_is : c.byte_at-byte.result ≡ digit 1 g.U.Updates.update.key
  digit_is = c.byte_at-byte.ensures ∙ ap (digit 1) (sym c.requires.asks.0)

  wrote : HoldsOne c.set.new.seat.view c.lock_open.new.seat.book c.args.leaf.here.words.now c.in-Some.free (a g first) (leaf g first).content d × Alike c.lock_open.new.seat.view c.set.new.seat.view × (c.set.new.seat.view.client ≡ c.lock_open.new.seat.view.client)
  wrote = wrote_one c.lock_open.new.seat.view c.set.new.seat.view c.lock_open.new.seat.book c.args.leaf.here.words.now c.in-Some.free (a g first) (leaf g first).content (leaf g first).content (one g first) (ap (λ s. s.view) c.set.ensures.seat.others)

  on : HoldsOne c.set.new.seat.view c.set.new.seat.book c.args.leaf.here.words.now c.in-Some.free (a g first) (leaf g first).content d
  on = subst (λ z. HoldsOne c.set.new.seat.view z c.args.leaf.here.words.now c.in-Some.free (a g first) (leaf g first).content d) (sym (ap (λ s. s.book) c.set.ensures.seat.others)) wrote.0

  alike : Alike c.args.seat.now.view c.set.new.seat.view
  alike = alike_then c.args.seat.now.view c.lock_open.new.seat.view c.set.new.seat.view (leaf g first).alike wrote.1

  book : c.set.new.seat.book ≡ c.args.seat.now.book
  book = ap (λ s. s.book) c.set.ensures.seat.others ∙ c.lock_open.ensures.book

  id : c.set.new.seat.id ≡ c.args.seat.now.id
  id = ap (λ s. s.id) c.set.ensures.seat.others ∙ c.lock_open.ensures.id

-- It is written, and its keys may be counted.
module _ (g : Over) (c : After-index-words-0 g) where
  abbrev written : After-set g
  written = (goal.at.After-index-words-0 g c).After-set

  abbrev locked_of : In-Some g
  locked_of = first g written

  counted : HoldsOne c.left_in-left.new.seat.view c.left_in-left.new.seat.book c.args.leaf.here.words.now c.in-Some.free (a g locked_of) (leaf g locked_of).content (d g written)
  counted = subst (λ s. HoldsOne s.view s.book c.args.leaf.here.words.now c.in-Some.free (a g locked_of) (leaf g locked_of).content (d g written)) (sym c.left_in-left.ensures.seat.same) (on g written)

  client : c.left_in-left.new.seat.view.client ≡ c.lock_open.new.seat.view.client
  client = ap (λ s. s.view.client) c.left_in-left.ensures.seat.same ∙ (wrote g written).2

  at_k : (a g locked_of).shape.key ≡ c.index-words-0.result.key
  at_k = (first_word (place_at (a g locked_of)) c.left_in-left.new.seat.book c.args.leaf.here.words.now counted.are c.index-words-0.result c.index-words-0.result (sym c.index-words-0.is)).0

pub lock_open-requires : goal.lock_open-requires
lock_open-requires g c = record { «open» = (leaf_open c.args.seat.now.view c.args.seat.now.book c.args.key c.args.leaf c.args.old c.requires.open).1 }

pub set-requires-clause-may : goal.set-requires-clause-may
set-requires-clause-may g c =
    let k = (goal.at.set-requires-clause-may g c).In-Some in
    may_hold c.lock_open.new.seat.view c.lock_open.new.seat.book c.args.leaf.here.words.now c.in-Some.free (a g k) (leaf g k).content (leaf g k).content (one g k) (leaf g k).long

pub set-requires-clause-long : goal.set-requires-clause-long
set-requires-clause-long g c =
    let k = (goal.at.set-requires-clause-long g c).In-Some in
    ap (λ (z : Content). length z) (drafted g k) ∙ ((leaf g k).long ∙ ap words_of (sym (form g k)))

pub set-requires-clause-known : goal.set-requires-clause-known
set-requires-clause-known g c = λ n encodes formed deep.
    let k = (goal.at.set-requires-clause-known g c).In-Some in
    known g k n encodes formed deep

pub set-requires-clause-few : goal.set-requires-clause-few
set-requires-clause-few g c =
    let k = (goal.at.set-requires-clause-few g c).In-Some in
    let h = leaf g k in
    subst (λ (z : Content). IsCounted c.form_below-form.result z) (sym (drafted g k)) (encodes_few h.content h.its c.form_below-form.result (h.in_form ∙ sym (form g k)) h.encodes)

pub unlock_same-requires-clause-word : goal.unlock_same-requires-clause-word
unlock_same-requires-clause-word g c = let h = leaf g (goal.at.unlock_same-requires-clause-word g c).In-Some in (h.even, h.small)

pub unlock_same-requires-clause-holds : goal.unlock_same-requires-clause-holds
unlock_same-requires-clause-holds g c =
    let s = (goal.at.unlock_same-requires-clause-holds g c).After-set in
    let k = first g s in
    let h = leaf g k in
    let kept : c.set.result ≡ Some c.in-Some-set.missed = search rules in
    let deep : length h.its.prefix ≡ 7 = (let e = h.deep in omega (arith, e)) in
    let same = kept_leaf g.U.Updates.update c.byte_at-byte.result c.args.old c.args.new (digit_is g s) c.requires.values.0 c.requires.values.1 c.form_below-form.result h.content (draft_of (nth 0 c.lock_open.new.seat.view.holds)) (d g s) (drafted g k) c.set.result c.in-Some-set.missed kept c.set.ensures.is h.its h.encodes (h.in_form ∙ sym (form g k)) deep in
    (a g k, h.content, subst (λ z. HoldsOne c.set.new.seat.view c.set.new.seat.book c.args.leaf.here.words.now c.in-Some.free (a g k) h.content z) same (on g s))

pub returns-in-Some-set : goal.returns-in-Some-set
returns-in-Some-set g c =
    let s = (goal.at.returns-in-Some-set g c).After-set in
    let e = c.unlock_same.ensures in
    record {
      book = e.book ∙ book g s;
      id = e.id ∙ id g s;
      rest = record { own = e.rest.own; holds = e.rest.holds; alike = alike_then c.args.seat.now.view c.set.new.seat.view c.unlock_same.new.seat.view (alike g s) e.rest.alike };
      updated = e.seen ∙ (ap (λ (z : View). z.seen) (wrote g s).2 ∙ (leaf g (first g s)).seen);
    }

pub unlock-requires-clause-free : goal.unlock-requires-clause-free
unlock-requires-clause-free g c =
    let h = leaf g (goal.at.unlock-requires-clause-free g c).In-Some in
    let small = h.small in
    (h.even, omega (arith, small))

pub unlock-requires-clause-frees : goal.unlock-requires-clause-frees
unlock-requires-clause-frees g c =
    let t = (goal.at.unlock-requires-clause-frees g c).After-index-words-0 in
    let s = written g t in
    let k = locked_of g t in
    let h = leaf g k in
    let q = g.U.Updates.update in
    let y_id = c.left_in-left.new.seat.id in
    let done : c.set.result ≡ None = search rules in
    let by = c.requires.asks.1 ∙ sym (ap (λ z. z.id) c.left_in-left.ensures.seat.same ∙ id g s) in
    let covers = ap (up (a g k).shape.height) c.requires.asks.0 ∙ h.names.covers in
    let changes = set_leaf q c.byte_at-byte.result c.args.old c.args.new (digit_is g s) c.requires.values.0 c.requires.values.1 c.form_below-form.result h.content (draft_of (nth 0 c.lock_open.new.seat.view.holds)) (d g s) (drafted g k) c.set.result done c.set.ensures.is (a g k).shape.form (sym (form g k)) in
    let even = h.even in
    let updates = leaf_updates q c.requires.legal y_id by c.lock_open.new.seat.view.client (a g k) h.content (one g k).own h.names.high covers (c.in-Some.free + 4) (c.in-Some.free / 4 + 1) (omega (arith, even)) (d g s) (c.set.ensures.long ∙ ap words_of (form g k)) changes in
    let frees = subst (λ (z : View). acts.Frees IsMap y_id z (a g k).number (c.in-Some.free + 4) (d g s) (Writes q z (a g k).number (d g s))) (sym (client g t)) updates in
    may_free c.left_in-left.new.seat.view c.left_in-left.new.seat.book c.args.leaf.here.words.now c.in-Some.free (a g k) h.content (d g s) (counted g t) c.index-words-0.result.key (at_k g t) (Writes q) y_id (c.in-Some.free + 4) frees

pub returns : goal.returns
returns g c =
    let t = (goal.at.returns g c).After-index-words-0 in
    let s = written g t in
    let k = locked_of g t in
    let q = g.U.Updates.update in
    let x = c.unlock.new.seat.view in
    let e = c.unlock.ensures.seat in
    let looked = c.left_in-left.ensures.seat.same in
    let f = is_freed c.left_in-left.new.seat.view c.left_in-left.new.seat.book c.args.leaf.here.words.now c.in-Some.free (a g k) (leaf g k).content (d g s) (counted g t) c.index-words-0.result.key (at_k g t) (Writes q) x (c.in-Some.free + 4) c.unlock.ensures.freed in
    let seen = ap (λ (z : View). z.seen) (client g t) ∙ (leaf g k).seen in
    record {
      book = e.0 ∙ (ap (λ z. z.book) looked ∙ book g s);
      id = e.1 ∙ (ap (λ z. z.id) looked ∙ id g s);
      rest = record {
        own = ap (λ (z : Seen). z.client.own) f.1 ∙ ap (λ (z : View). z.own) f.2.is;
        holds = ap (λ (z : Seen). z.holds) f.1;
        alike = alike_then c.args.seat.now.view c.set.new.seat.view x (alike g s) record {
          places = ap (λ (z : Seen). z.places) f.1 ∙ ap (λ z. z.view.places) looked;
          met = ap (λ (z : Seen). z.client.met) f.1 ∙ (ap (λ (z : View). z.met) f.2.is ∙ ap (λ z. z.view.client.met) looked);
          room = ap (λ (z : Seen). z.room) f.1 ∙ ap (λ z. z.view.room) looked;
        };
      };
      updated = subst (λ (z : List (Entry ℕ) × List (Entry ℕ)). Answers q.caller q.entry z.0 z.1) (λ i. (seen i, sym (ap (λ (z : Seen). z.client.seen) f.1) i)) f.2.answers;
    }
