use Rattle.std.proofs.Common.{◌≡◌, ◌≢◌, ℕ, ◌<◌, length, get_or, sym, ap, ◌∙◌, arith}
use Rattle.text_trace.proofs.Places.{put_over, put_between}
use Rattle.text_trace.proofs.content.put.Goals as goal
use Rattle.text_trace.proofs.content.put.Goals.{else-at-len-via-then-at-len+else-index-key, else-at-len-via-else-at-len}

pub returns-then-index-key-clause-pairs : goal.returns-then-index-key-clause-pairs
returns-then-index-key-clause-pairs c =
    let m = c.args.pairs.now.items in
    let read = c.index.result.now in
    let place = rw c.deref.ensures.value at c.place_for-at.ensures in
    let within : c.place_for-at.result < length m = omega (arith, c.if-at-len.true, c.len.ensures, ap length c.deref.ensures.value, c.deref.ensures.len) in
    let same : (get_or m c.place_for-at.result read).0 ≡ c.args.key = omega (arith, c.if-index-key.true, ap (λ (e : ℕ × ℕ). e.0) c.index.ensures) in
    sym (put_over c.args.key m c.place_for-at.result c.args.value read place within same)

pub returns-clause-pairs : goal.returns-clause-pairs
returns-clause-pairs c =
    let m = c.args.pairs.now.items in
    let at = c.place_for-at.result in
    let place = rw c.deref.ensures.value at c.place_for-at.ensures in
    let length_is : length m ≡ c.len.result = omega (arith, c.len.ensures, ap length c.deref.ensures.value, c.deref.ensures.len) in
    let other : at < length m → (e : ℕ × ℕ) × (e ≡ get_or m at e) × (e.0 ≢ c.args.key) = λ lt. elim c.else-at-len.branch [
      | else-at-len-via-then-at-len+else-index-key w ↦ (w.index.result.now, w.index.ensures, λ same. omega (arith, w.if-index-key.false, same))
      | else-at-len-via-else-at-len w ↦ absurd (omega (arith, w.if-at-len.false, lt, length_is))
    ] in
    c.in-Ok.ensures.items ∙ sym (put_between c.args.key m at c.args.value place other)
