use Rattle.std.proofs.Common.{rules, sym}
use Rattle.live_reads.proofs.Views.{first_word, root_word_place, root_word_taken}
use Rattle.live_growth.proofs.Locks.{alike_taken}
use Rattle.live_growth.proofs.RootWords.{p, may_lock_root_word, root_word_not, root_word_held}
use Rattle.live_growth.proofs.make_root.lock_root_word.Goals as goal

pub take-free-requires-clause-known : goal.take-free-requires-clause-known
take-free-requires-clause-known c =
    let first = c.index-words-0.result in
    let at_k = (first_word p c.args.seat.now.book c.args.words.now c.requires.words first first (sym c.index-words-0.is)).0 in
    root_word_place c.args.seat.now.view c.requires.root_word first.key at_k

pub returns-then-free-ne0-clause-none : goal.returns-then-free-ne0-clause-none
returns-then-free-ne0-clause-none c =
    let v = c.args.seat.now.view in
    let first = c.index-words-0.result in
    let at_k = (first_word p c.args.seat.now.book c.args.words.now c.requires.words first first (sym c.index-words-0.is)).0 in
    let v₁ = c.take-free.new.seat.view in
    let taken = root_word_taken v c.requires.root_word first.key at_k v₁ c.take-free.result c.take-free.ensures.taken in
    alike_taken v v₁ 0 c.take-free.result taken

pub lock-requires-clause-locks : goal.lock-requires-clause-locks
lock-requires-clause-locks c =
    let v = c.args.seat.now.view in
    let first = c.index-words-0.result in
    let again = c.index-words-0-2.result in
    let at_k = (first_word p c.args.seat.now.book c.args.words.now c.requires.words first first (sym c.index-words-0.is)).0 in
    let at_again = (first_word p c.args.seat.now.book c.args.words.now c.requires.words again again (sym c.index-words-0-2.is)).0 in
    let v₁ = c.take-free.new.seat.view in
    let taken = root_word_taken v c.requires.root_word first.key at_k v₁ c.take-free.result c.take-free.ensures.taken in
    may_lock_root_word v c.requires.root_word v₁ c.take-free.result taken again.key at_again c.take-free.new.seat.id

pub returns-then-not-lock-clause-none : goal.returns-then-not-lock-clause-none
returns-then-not-lock-clause-none c =
    let v = c.args.seat.now.view in
    let first = c.index-words-0.result in
    let again = c.index-words-0-2.result in
    let at_k = (first_word p c.args.seat.now.book c.args.words.now c.requires.words first first (sym c.index-words-0.is)).0 in
    let at_again = (first_word p c.args.seat.now.book c.args.words.now c.requires.words again again (sym c.index-words-0-2.is)).0 in
    let v₁ = c.take-free.new.seat.view in
    let taken = root_word_taken v c.requires.root_word first.key at_k v₁ c.take-free.result c.take-free.ensures.taken in
    let told = c.lock.ensures.locked in
    root_word_not v c.requires.root_word v₁ c.take-free.result taken again.key at_again c.lock.new.seat.view told.0 told.1 told.3 (search rules)

pub returns-clause-locked : goal.returns-clause-locked
returns-clause-locked c =
    let v = c.args.seat.now.view in
    let first = c.index-words-0.result in
    let again = c.index-words-0-2.result in
    let at_k = (first_word p c.args.seat.now.book c.args.words.now c.requires.words first first (sym c.index-words-0.is)).0 in
    let at_again = (first_word p c.args.seat.now.book c.args.words.now c.requires.words again again (sym c.index-words-0-2.is)).0 in
    let v₁ = c.take-free.new.seat.view in
    let taken = root_word_taken v c.requires.root_word first.key at_k v₁ c.take-free.result c.take-free.ensures.taken in
    let told = c.lock.ensures.locked in
    root_word_held v c.requires.root_word v₁ c.take-free.result taken again.key at_again c.lock.new.seat.view told.0 told.1 told.3 (search rules) (search rules) (search rules)
