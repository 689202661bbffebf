use Rattle.std.proofs.Common.{arith, sym, ap, subst, ◌≡◌, ◌+◌, ◌∙◌}
use Rattle.node_base.specs.declared.base_node.NodeType.{NodeType}
use Rattle.word_book.specs.Book.{Name, writes, none_joined}
use Rattle.live_nodes.specs.Plays.{Makes}
use Rattle.live_nodes.specs.Calls.{MayMake}
use Rattle.live_layout.specs.Encodes.{words_of}
use Rattle.live_nodes.specs.Tree.{IsMap, IsMade}
use Rattle.live_growth.proofs.Rooms.{may_make, has_made, has_room}
use Rattle.live_growth.proofs.room.make.Goals as goal

pub make-requires-clause-makes : goal.make-requires-clause-makes
make-requires-clause-makes g c =
    let s = c.args.seat.now in
    let form = c.args.form in
    let d = c.index-words-0.result in
    let e = c.index-words-words_in.result in
    let m = c.words_in.ensures in
    let long = c.requires.words.0 in
    let start : c.args.start + 0 ≡ d.key = ap (λ (w : Name). w.key) (sym (c.requires.words.1 0 d (omega (arith, long))) ∙ sym c.index-words-0.is) in
    let last : c.args.start + words_of form ≡ e.key = ap (λ k. c.args.start + k) (sym m) ∙ ap (λ (w : Name). w.key) (sym (c.requires.words.1 c.words_in.result e (omega (arith, m, long))) ∙ sym c.index-words-words_in.is) in
    subst (λ (f : NodeType). MayMake c.put.new.seat.view e.key IsMap c.put.new.seat.id (IsMade f) 0) (sym c.requires.form)
    (may_make s.view c.args.start c.requires.room.0 form c.requires.room.1 c.requires.room.2 c.put.new.seat.view d.key (omega (arith, start)) c.put.ensures.put e.key last c.put.new.seat.id)

pub returns-clause-made : goal.returns-clause-made
returns-clause-made g c =
    let s = c.args.seat.now in
    let form = c.args.form in
    let d = c.index-words-0.result in
    let e = c.index-words-words_in.result in
    let m = c.words_in.ensures in
    let long = c.requires.words.0 in
    let start : c.args.start + 0 ≡ d.key = ap (λ (w : Name). w.key) (sym (c.requires.words.1 0 d (omega (arith, long))) ∙ sym c.index-words-0.is) in
    let last : c.args.start + words_of form ≡ e.key = ap (λ k. c.args.start + k) (sym m) ∙ ap (λ (w : Name). w.key) (sym (c.requires.words.1 c.words_in.result e (omega (arith, m, long))) ∙ sym c.index-words-words_in.is) in
    let told = subst (λ (f : NodeType). Makes (IsMade f) (writes e.key 0) c.put.new.seat.view 0 none_joined c.make.new.seat.view) c.requires.form c.make.ensures.made in
    has_made s.view c.args.start c.requires.room.0 form c.requires.room.1 c.requires.room.2 c.put.new.seat.view d.key (omega (arith, start)) c.put.ensures.put e.key last c.make.new.seat.view told c.word_below.result c.word_below.ensures.is

pub returns-clause-room : goal.returns-clause-room
returns-clause-room g c = λ left r enough.
    let s = c.args.seat.now in
    let form = c.args.form in
    let d = c.index-words-0.result in
    let e = c.index-words-words_in.result in
    let m = c.words_in.ensures in
    let long = c.requires.words.0 in
    let start : c.args.start + 0 ≡ d.key = ap (λ (w : Name). w.key) (sym (c.requires.words.1 0 d (omega (arith, long))) ∙ sym c.index-words-0.is) in
    let last : c.args.start + words_of form ≡ e.key = ap (λ k. c.args.start + k) (sym m) ∙ ap (λ (w : Name). w.key) (sym (c.requires.words.1 c.words_in.result e (omega (arith, m, long))) ∙ sym c.index-words-words_in.is) in
    let told = subst (λ (f : NodeType). Makes (IsMade f) (writes e.key 0) c.put.new.seat.view 0 none_joined c.make.new.seat.view) c.requires.form c.make.ensures.made in
    has_room s.view c.args.start left form r enough c.put.new.seat.view d.key (omega (arith, start)) c.put.ensures.put e.key last c.make.new.seat.view told
