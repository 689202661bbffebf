use Rattle.std.proofs.Common.{rules, subst, sym, refl, [], ◌∷◌, ◌++◌, ◌≡◌, ◌∙◌}
use Rattle.live_reads.specs.Paths.{AreNamed}
use Rattle.live_copies.specs.declared.locks.Lock.{Lock}
use Rattle.live_copies.specs.inner.Locks.{HasLocks}
use Rattle.live_copies.proofs.Locking.{locks_top, locks_more, locked_grows, locked_taken}
use Rattle.live_copies.proofs.locks.lock_noted.Goals as goal

pub returns : goal.returns
returns c =
    let v = c.args.seat.now.view in
    let w = c.lock_patiently.new.seat.view in
    let b = c.args.seat.now.book in
    let b' = c.lock_patiently.new.seat.book in
    let t = c.in-Some-lock_patiently.ensures in
    let name = c.args.name in
    let key = c.args.key in
    let height = c.args.height in
    let free = c.in-Some-lock_patiently.free in
    let words = c.in-Some.words.now in
    let ls = c.args.locks.now.items in
    let are = subst (λ z. AreNamed z name words) (sym (t.book ∙ c.requires.book)) c.in-Some.ensures in
    let l : Lock = record { words = c.in-Some.words; free = free } in
    let more : c.push.new.self.items ≡ ls ++ l ∷ [] = search rules in
    let top = locks_top v w b b' name key height free words ls c.requires.locks t.locked are t.book in
    record { book = t.book; id = t.id; grows = locked_grows v w name key height free t.locked; locks = subst (HasLocks w b') (sym more) (locks_more w b' words free ls l top refl refl); taken = locked_taken v w b' name key height free words t.locked are }
