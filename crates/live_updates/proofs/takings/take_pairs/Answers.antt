use Rattle.std.proofs.Common.{rules, arith, sym, ap, subst, length, take, drop, ℕ, Some, List, ◌≡◌, ◌+◌, ◌*◌, ◌∙◌}
use Rattle.std.proofs.lemmas.List.{map-id}
use Rattle.spec_map.specs.Map.{Pairs}
use Rattle.spec_node.specs.TableNode.{TableNode}
use Rattle.share_rule.specs.History.{Entry}
use Rattle.live_nodes.specs.Nodes.{Content}
use Rattle.live_nodes.specs.Rows.{draft_of, nth}
use Rattle.live_layout.specs.Encodes.{words_of, Encodes}
use Rattle.live_layout.specs.Page.{AreListed, pairs_of}
use Rattle.live_nodes.specs.Levels.{up, Spot}
use Rattle.live_nodes.specs.Views.{View}
use Rattle.live_reads.specs.Paths.{AreNamed, IsOpen}
use Rattle.live_growth.specs.Holds.{Alike, HasLocked, HasLockedOpen, HoldsOne}
use Rattle.live_growth.proofs.Locks.{taken_by, are_named, holds_one, may_hold, draft_is, wrote_one, alike_then}
use Rattle.live_updates.specs.Takings.{Takes}
use Rattle.live_updates.specs.inner.Losses.{IsLeft}
use Rattle.live_updates.proofs.takings.take_pairs.Goals as goal
use Rattle.live_updates.proofs.takings.take_pairs.Goals.{In_ok-free, After-fill-filled, After-fill_of-left}

-- THE LEAF is locked
module _ (c : In_ok-free) where
  opened : IsOpen c.args.seat.now.view c.args.seat.now.book c.args.leaf.here.words.now c.args.leaf.here.taken c.args.leaf.position.name c.args.key 1
  opened = c.requires.open.1

  leaf : HasLocked c.args.seat.now.view c.lock_open.new.seat.view c.args.leaf.position.name c.args.key 1 c.in_ok-free.free
  leaf =
      let locked : c.lock_open.result ≡ Some c.in_ok-free.free = search rules in
      let open_node = HasLockedOpen c.args.seat.now.view c.lock_open.new.seat.view c.args.seat.now.book c.args.leaf.here.words.now c.args.leaf.here.taken c.args.leaf.position.name c.args.key 1 in
      (taken_by c.lock_open.result c.in_ok-free.free locked open_node c.lock_open.ensures.locked opened).0

  abbrev a : Spot
  a = leaf.names.spot

  form : c.form_below-form.result ≡ a.shape.form
  form = c.form_below-form.ensures a.shape.key a.shape.form leaf.names.named

  one : HoldsOne c.lock_open.new.seat.view c.lock_open.new.seat.book c.args.leaf.here.words.now c.in_ok-free.free a leaf.content leaf.content
  one =
      let are = subst (λ z. AreNamed z c.args.leaf.position.name c.args.leaf.here.words.now) (sym c.lock_open.ensures.book) (are_named c.args.seat.now.view c.args.seat.now.book c.args.leaf.here.words.now c.args.leaf.here.taken c.args.leaf.position.name c.args.key 1 opened) in
      holds_one c.args.seat.now.view c.lock_open.new.seat.view c.args.leaf.position.name c.args.key 1 c.in_ok-free.free leaf c.lock_open.new.seat.book c.args.leaf.here.words.now are c.requires.rests.0 c.requires.rests.1

  drafted : draft_of (nth 0 c.lock_open.new.seat.view.holds) ≡ leaf.content
  drafted = draft_is c.lock_open.new.seat.view c.lock_open.new.seat.book c.args.leaf.here.words.now c.in_ok-free.free a leaf.content leaf.content one

-- and read
module _ (c : After-fill-filled) where
  abbrev first : In_ok-free
  first = (goal.at.After-fill-filled c).In_ok-free

  abbrev same : c.fill-filled.new.seat ≡ c.lock_open.new.seat
  same = c.fill-filled.ensures.seat.others

  one_read : HoldsOne c.fill-filled.new.seat.view c.fill-filled.new.seat.book c.args.leaf.here.words.now c.in_ok-free.free (a first) (leaf first).content (leaf first).content
  one_read = subst (λ s. HoldsOne s.view s.book c.args.leaf.here.words.now c.in_ok-free.free (a first) (leaf first).content (leaf first).content) (sym same) (one first)

  drafted_read : draft_of (nth 0 c.fill-filled.new.seat.view.holds) ≡ (leaf first).content
  drafted_read = ap (λ s. draft_of (nth 0 s.view.holds)) same ∙ drafted first

  book_read : c.fill-filled.new.seat.book ≡ c.args.seat.now.book
  book_read = ap (λ s. s.book) same ∙ c.lock_open.ensures.book

  id_read : c.fill-filled.new.seat.id ≡ c.args.seat.now.id
  id_read = ap (λ s. s.id) same ∙ c.lock_open.ensures.id

  abbrev pairs : Pairs ℕ
  pairs = take c.fill-filled.result.count c.fill-filled.new.buffer

  listed : (n : TableNode ℕ) → Encodes (leaf first).content n → n.form ≡ (a first).shape.form → length n.prefix ≡ 7 → AreListed n c.args.part.base c.args.part.first (c.fill-filled.result.reached + 1) pairs
  listed n e f s =
      let is : drop 0 (take c.fill-filled.result.count (pairs_of (λ p. p) c.fill-filled.new.buffer)) ≡ pairs = ap (λ (z : Pairs ℕ). take c.fill-filled.result.count z) (map-id c.fill-filled.new.buffer) in
      subst (AreListed n c.args.part.base c.args.part.first (c.fill-filled.result.reached + 1)) is (c.fill-filled.ensures.is (leaf first).content n (sym drafted_read) e (f ∙ sym (form first)) s)

-- and written
module _ (c : After-fill_of-left) where
  abbrev read : After-fill-filled
  read = (goal.at.After-fill_of-left c).After-fill-filled

  abbrev locked : In_ok-free
  locked = first read

  abbrev d : Content
  d = draft_of (nth 0 c.fill_of-left.new.seat.view.holds)

  abbrev looked : c.fill_of-left.new.seat ≡ c.take_part.new.seat
  looked = c.fill_of-left.ensures.seat.same

  wrote : HoldsOne c.take_part.new.seat.view c.fill-filled.new.seat.book c.args.leaf.here.words.now c.in_ok-free.free (a locked) (leaf locked).content (draft_of (nth 0 c.take_part.new.seat.view.holds)) × Alike c.fill-filled.new.seat.view c.take_part.new.seat.view × (c.take_part.new.seat.view.client ≡ c.fill-filled.new.seat.view.client)
  wrote = wrote_one c.fill-filled.new.seat.view c.take_part.new.seat.view c.fill-filled.new.seat.book c.args.leaf.here.words.now c.in_ok-free.free (a locked) (leaf locked).content (leaf locked).content (one_read read) (ap (λ s. s.view) c.take_part.ensures.seat.others)

  held : HoldsOne c.fill_of-left.new.seat.view c.fill_of-left.new.seat.book c.args.leaf.here.words.now c.in_ok-free.free (a locked) (leaf locked).content d
  held = subst (λ s. HoldsOne s.view s.book c.args.leaf.here.words.now c.in_ok-free.free (a locked) (leaf locked).content (draft_of (nth 0 s.view.holds))) (sym looked)
      (subst (λ z. HoldsOne c.take_part.new.seat.view z c.args.leaf.here.words.now c.in_ok-free.free (a locked) (leaf locked).content (draft_of (nth 0 c.take_part.new.seat.view.holds))) (sym (ap (λ s. s.book) c.take_part.ensures.seat.others)) wrote.0)

  book : c.fill_of-left.new.seat.book ≡ c.args.seat.now.book
  book = ap (λ s. s.book) looked ∙ (ap (λ s. s.book) c.take_part.ensures.seat.others ∙ book_read read)

  id : c.fill_of-left.new.seat.id ≡ c.args.seat.now.id
  id = ap (λ s. s.id) looked ∙ (ap (λ s. s.id) c.take_part.ensures.seat.others ∙ id_read read)

  alike : Alike c.args.seat.now.view c.fill_of-left.new.seat.view
  alike = subst (λ s. Alike c.args.seat.now.view s.view) (sym looked) (alike_then c.args.seat.now.view c.fill-filled.new.seat.view c.take_part.new.seat.view (subst (λ s. Alike c.args.seat.now.view s.view) (sym (same read)) (leaf locked).alike) wrote.1)

  seen : c.fill_of-left.new.seat.view.client.seen ≡ c.args.seat.now.view.client.seen
  seen = ap (λ s. s.view.client.seen) looked ∙ (ap (λ (z : View). z.seen) wrote.2 ∙ (ap (λ s. s.view.client.seen) (same read) ∙ (leaf locked).seen))

  left : (n : TableNode ℕ) → Encodes (leaf locked).content n → n.form ≡ (a locked).shape.form → IsLeft c.args.part.first (c.fill-filled.result.reached + 1) n d
  left n e f = subst (λ s. IsLeft c.args.part.first (c.fill-filled.result.reached + 1) n (draft_of (nth 0 s.view.holds))) (sym looked)
      (c.take_part.ensures.is n (subst (λ (z : Content). Encodes z n) (sym (drafted_read read)) e) (f ∙ sym (form locked)))

  long : length d ≡ words_of (a locked).shape.form
  long = ap (λ s. length (draft_of (nth 0 s.view.holds))) looked ∙ (c.take_part.ensures.long ∙ ap words_of (form locked))

  base : c.args.part.base ≡ 256 * (a locked).shape.top
  base = c.requires.part.2 ∙ ap (λ (z : ℕ). 256 * z) (subst (λ (h : ℕ). up h c.args.key ≡ (a locked).shape.top) (leaf locked).names.high (leaf locked).names.covers)

pub lock_open-requires : goal.lock_open-requires
lock_open-requires c = record { «open» = c.requires.open.1 }

pub fill-filled-requires-clause-cells : goal.fill-filled-requires-clause-cells
fill-filled-requires-clause-cells c =
    let k = (goal.at.fill-filled-requires-clause-cells c).In_ok-free in
    let h = leaf k in (
      (
        may_hold c.lock_open.new.seat.view c.lock_open.new.seat.book c.args.leaf.here.words.now c.in_ok-free.free (a k) h.content h.content (one k) h.long,
        ap (λ (z : Content). length z) (drafted k) ∙ (h.long ∙ (ap words_of (sym (form k)) ∙ sym c.words_in.ensures)),
      ),
      c.words_in.ensures,
    )

pub unlock_same-requires-clause-word : goal.unlock_same-requires-clause-word
unlock_same-requires-clause-word c = let h = leaf (first (goal.at.unlock_same-requires-clause-word c).After-fill-filled) in (h.even, h.small)

pub unlock_same-requires-clause-holds : goal.unlock_same-requires-clause-holds
unlock_same-requires-clause-holds c =
    let r = (goal.at.unlock_same-requires-clause-holds c).After-fill-filled in
    (a (first r), (leaf (first r)).content, one_read r)

pub returns-then-filled-eq0-clause-book : goal.returns-then-filled-eq0-clause-book
returns-then-filled-eq0-clause-book c =
    let r = (goal.at.returns-then-filled-eq0-clause-book c).After-fill-filled in
    let e = c.unlock_same.ensures in
    e.book ∙ book_read r

pub returns-then-filled-eq0-clause-id : goal.returns-then-filled-eq0-clause-id
returns-then-filled-eq0-clause-id c =
    let r = (goal.at.returns-then-filled-eq0-clause-id c).After-fill-filled in
    let e = c.unlock_same.ensures in
    e.id ∙ id_read r

pub returns-then-filled-eq0-clause-rest : goal.returns-then-filled-eq0-clause-rest
returns-then-filled-eq0-clause-rest c =
    let r = (goal.at.returns-then-filled-eq0-clause-rest c).After-fill-filled in
    let e = c.unlock_same.ensures in
    record { own = e.rest.own; holds = e.rest.holds; alike = alike_then c.args.seat.now.view c.fill-filled.new.seat.view c.unlock_same.new.seat.view (subst (λ s. Alike c.args.seat.now.view s.view) (sym (same r)) (leaf (first r)).alike) e.rest.alike }

pub returns-then-filled-eq0-clause-none : goal.returns-then-filled-eq0-clause-none
returns-then-filled-eq0-clause-none c =
    let r = (goal.at.returns-then-filled-eq0-clause-none c).After-fill-filled in
    c.unlock_same.ensures.seen ∙ (ap (λ s. s.view.client.seen) (same r) ∙ (leaf (first r)).seen)

pub take_part-requires-clause-may : goal.take_part-requires-clause-may
take_part-requires-clause-may c =
    let r = (goal.at.take_part-requires-clause-may c).After-fill-filled in
    may_hold c.fill-filled.new.seat.view c.fill-filled.new.seat.book c.args.leaf.here.words.now c.in_ok-free.free (a (first r)) (leaf (first r)).content (leaf (first r)).content (one_read r) (leaf (first r)).long

pub take_part-requires-clause-long : goal.take_part-requires-clause-long
take_part-requires-clause-long c =
    let r = (goal.at.take_part-requires-clause-long c).After-fill-filled in
    ap (λ (z : Content). length z) (drafted_read r) ∙ ((leaf (first r)).long ∙ ap words_of (sym (form (first r))))

pub take_part-requires-clause-some : goal.take_part-requires-clause-some
take_part-requires-clause-some c =
    let r = (goal.at.take_part-requires-clause-some c).After-fill-filled in
    let h = leaf (first r) in
    (h.its, subst (λ (z : Content). Encodes z h.its) (sym (drafted_read r)) h.encodes, h.in_form ∙ sym (form (first r)))

pub unlock_taken-requires-clause-word : goal.unlock_taken-requires-clause-word
unlock_taken-requires-clause-word c = let h = leaf (locked (goal.at.unlock_taken-requires-clause-word c).After-fill_of-left) in (h.even, h.small)

pub unlock_taken-requires-clause-holds : goal.unlock_taken-requires-clause-holds
unlock_taken-requires-clause-holds c =
    let t = (goal.at.unlock_taken-requires-clause-holds c).After-fill_of-left in record {
      spot = a (locked t);
      content = (leaf (locked t)).content;
      draft = d t;
      one = held t;
      leaf = (leaf (locked t)).names.high;
      base = base t;
      long = long t;
      listed = listed (read t);
      left = left t;
    }

pub returns-clause-book : goal.returns-clause-book
returns-clause-book c =
    let t = (goal.at.returns-clause-book c).After-fill_of-left in
    let e = c.unlock_taken.ensures in
    e.book ∙ book t

pub returns-clause-id : goal.returns-clause-id
returns-clause-id c =
    let t = (goal.at.returns-clause-id c).After-fill_of-left in
    let e = c.unlock_taken.ensures in
    e.id ∙ id t

pub returns-clause-rest : goal.returns-clause-rest
returns-clause-rest c =
    let t = (goal.at.returns-clause-rest c).After-fill_of-left in
    let e = c.unlock_taken.ensures in
    record { own = e.rest.own; holds = e.rest.holds; alike = alike_then c.args.seat.now.view c.fill_of-left.new.seat.view c.unlock_taken.new.seat.view (alike t) e.rest.alike }

pub returns-clause-taken : goal.returns-clause-taken
returns-clause-taken c =
    let t = (goal.at.returns-clause-taken c).After-fill_of-left in
    let part = c.args.part in
    let to : ℕ = part.base + (c.fill-filled.result.reached + 1) in
    let reached = c.fill-filled.ensures.reached.1 in
    let e = c.unlock_taken.ensures.takes in (
      to,
      omega (arith, reached),
      subst (λ (z : ℕ × List (Entry ℕ)). Takes z.0 (part.base + part.first) to (pairs (read t)) z.1 c.unlock_taken.new.seat.view.client.seen) (λ i. (id t i, seen t i)) e,
    )
