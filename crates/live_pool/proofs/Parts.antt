-- Pairs of a leaf that were removed at one moment were popped one after another.
use Rattle.std.proofs.Common.{◌≡◌, ◌⊎◌, ℕ, zero, suc, ◌+◌, ◌-◌, ◌%◌, ◌<◌, ◌≤◌, nat_eq, true, List, [], ◌∷◌, ◌++◌, length, take, get_or, false, Some, None, Result, Ok, Err, IsErr, OnErr, refl, sym, ap, ◌∙◌, subst, arith, append-nil, append_assoc}
use mathlib.Core.Logic.{dite}
use native.Mathlib.Decide.{ℕ_discrete}
use Rattle.spec_map.specs.Map.{Pairs, lookup, without, Rises}
use Rattle.spec_map.proofs.MapLaws.{lookup-first, lookup-next, lookup-below, Rises-wider}
use Rattle.share_rule.specs.History.{Entry, entries_of, IsHistory}
use Rattle.share_rule.proofs.Keeps.{entries-append}
use Rattle.word_book.specs.Book.{Book}
use Rattle.live_nodes.specs.Known.{Known, MadeCall}
use Rattle.live_nodes.specs.Begun.{began}
use Rattle.live_nodes.proofs.Histories.{its_own, began_legal}
use Rattle.live_updates.specs.Takings.{taken, takings, Takes, HasTakenOut}
use Rattle.live_updates.proofs.Taken.{HasAll, has_first, has_rest, taken_legal}
use Rattle.live_scans.specs.Scans.{HasRead, HasBegun}
use Rattle.live_scans.proofs.Composed.{starts_same, starts_then, one_moment, joined_up}
use Rattle.live_pool.specs.Pops.{HasMissed, HasPopped}
use Rattle.live_pool.specs.Removals.{HaveTaken}
use Rattle.live_pool.specs.inner.Parts.{HavePopped, HasTakenPart, behind, HaveHandedOn}
use Rattle.live_pool.proofs.Missed.{missed_none, popped_then}

abbrev History : Type 0
History = List (Entry ℕ)

abbrev known : Book → ℕ → History → Known
known b c h = record { book = b; caller = c; seen = h }

-- one pair, and no keys before it
one_pair : (m : Pairs ℕ) (p : ℕ × ℕ) (low : ℕ) → lookup m p.0 ≡ Some p.1 → ((k : ℕ) → low ≤ k → k < p.0 → lookup m k ≡ None) → (k : ℕ) → low ≤ k → k < p.0 + 1 → lookup (p ∷ []) k ≡ lookup m k
one_pair m p low has none k from below = dite (ℕ_discrete p.0 k)
    (λ e. sym (ap (lookup (p ∷ [])) e) ∙ (lookup-first p [] ∙ (sym has ∙ ap (lookup m) e)))
    (λ ne. lookup-next p [] k ne ∙ sym (none k from (omega (arith, below, ne))))

none_before : (low to : ℕ) (p : ℕ × ℕ) (ps m : Pairs ℕ) → Rises low to (p ∷ ps) → HasAll low to (p ∷ ps) m → (k : ℕ) → low ≤ k → k < p.0 → lookup m k ≡ None
none_before low to p ps m rises all k from below =
    let inside = rises.1 in
    sym (all k from (omega (arith, below, inside))) ∙ (lookup-next p ps k (λ e. omega (arith, below, e)) ∙ lookup-below (p.0 + 1) to ps k rises.2 (omega (arith, below)))

module _ (b : Book) (c high : ℕ) where
  made : (h : History) (m : Pairs ℕ) (e : Entry ℕ) → e.caller ≡ c → IsHistory nat_eq (h ++ e ∷ []) m → MadeCall (known b c h) e (known b c (h ++ e ∷ []))
  made h m e by legal = record {
    between = [];
    book = refl;
    caller = refl;
    legal = (m, legal);
    seen = ap (λ (z : History). z ++ e ∷ []) (sym (append-nil h));
    own = entries-append c h (e ∷ []) ∙ ap (λ (z : History). entries_of c h ++ z) (ap (λ (z : ℕ). entries_of z (e ∷ [])) (sym by) ∙ its_own e);
  }

  -- A READER BEGAN, and found the first pair, which was removed
  begun_here : (h : History) (m : Pairs ℕ) → IsHistory nat_eq h m → HasBegun (known b c h) (known b c (h ++ began c ∷ []))
  begun_here h m run =
      let legal = began_legal h m c run in record {
        start = known b c (h ++ began c ∷ []);
        begun = made h m (began c) refl legal;
        later = record { book = refl; caller = refl; legal = (m, legal); seen = starts_same (h ++ began c ∷ []); own = refl };
      }

  popped_here : (low : ℕ) (h : History) (m : Pairs ℕ) (p : ℕ × ℕ) → IsHistory nat_eq h m → low ≤ p.0 → p.0 < high → lookup m p.0 ≡ Some p.1 → ((k : ℕ) → low ≤ k → k < p.0 → lookup m k ≡ None) → HasPopped true low high (known b c h) (Some p) (known b c ((h ++ began c ∷ []) ++ taken c p ∷ []))
  unfolding begun_here
  popped_here low h m p run from below has none =
      let k : Known = known b c h in
      let start : History = h ++ began c ∷ [] in
      let legal = began_legal h m c run in
      let read = one_moment true start start m low (p.0 + 1) (p ∷ []) (starts_same start) legal (from, omega arith, tt) (one_pair m p low has none) in
      (k, missed_none true low high k, (known b c start, (below, (begun_here h m run, read)), made start (without m p.0) (taken c p) refl (taken_legal c start m p legal has)))

  later_popped : (low to : ℕ) → to ≤ high → (ps : Pairs ℕ) (h : History) (m : Pairs ℕ) → IsHistory nat_eq h m → Rises low to ps → HasAll low to ps m → HavePopped low high ps (known b c h) (known b c (h ++ takings c ps))
  later_popped low to within [] h m run rises all = ap (known b c) (append-nil h)
  later_popped low to within (p ∷ ps) h m run rises all =
      let start : History = h ++ began c ∷ [] in
      let next : History = start ++ taken c p ∷ [] in
      let inside = rises.1 in
      let has = has_first low to p ps m rises all in
      let legal = taken_legal c start m p (began_legal h m c run) has in
      let rest = later_popped (p.0 + 1) to within ps next (without m p.0) legal rises.2 (has_rest low to p ps m rises all) in
      let same : next ++ takings c ps ≡ h ++ takings c (p ∷ ps) = append_assoc start (taken c p ∷ []) (takings c ps) ∙ append_assoc h (began c ∷ []) (taken c p ∷ takings c ps) in (
        known b c next,
        popped_here low h m p run rises.0 (omega (arith, inside, within)) has (none_before low to p ps m rises all),
        subst (λ (z : History). HavePopped (p.0 + 1) high ps (known b c next) (known b c z)) same rest,
      )

-- A SEARCH FOUND no key before a leaf, and the leaf's first pairs were taken out
pub taken_popped : (low begin high : ℕ) (k s n : Known) (p : ℕ × ℕ) (ps : Pairs ℕ) → (seen : HasBegun k s) × HasRead true seen.start.seen s.seen low begin [] → low ≤ begin → (begin % 256 ≡ 0) ⊎ (low ≡ begin) → HasTakenOut s begin high (p ∷ ps) n → HavePopped low high (p ∷ ps) k n
taken_popped low begin high k s n p ps found order seam out =
    let c : ℕ = n.caller in
    let begun = found.0 in
    let within = out.within in
    let t : Takes c begin out.to (p ∷ ps) s.seen n.seen = subst (λ (z : ℕ). Takes z begin out.to (p ∷ ps) s.seen n.seen) (sym out.caller) out.takes in
    let h : History = t.whole in
    let m : Pairs ℕ = t.pairs in
    let has = has_first begin out.to p ps m t.ascend t.value in
    let legal = taken_legal c h m p t.legal has in
    let from = t.ascend.0 in
    let inside = t.ascend.1 in
    let read = one_moment true s.seen h m begin (p.0 + 1) (p ∷ []) t.fits.begins t.legal (from, omega arith, tt) (one_pair m p begin has (none_before begin out.to p ps m t.ascend t.value)) in
    let all_read = joined_up begun.start.seen s.seen h low begin (p.0 + 1) [] (p ∷ []) found.1 read begun.later.seen t.fits.begins order (omega (arith, from)) seam in
    let begun_on : HasBegun k (known n.book c h) = record {
      start = begun.start;
      begun = begun.begun;
      later = record {
        book = out.book ∙ begun.later.book;
        caller = out.caller ∙ begun.later.caller;
        legal = (m, t.legal);
        seen = starts_then begun.start.seen s.seen h begun.later.seen t.fits.begins;
        own = t.fits.own ∙ (ap (λ (z : ℕ). entries_of z s.seen) out.caller ∙ begun.later.own);
      };
    } in
    let next : History = h ++ taken c p ∷ [] in
    let rest = later_popped n.book c high (p.0 + 1) out.to within ps next (without m p.0) legal t.ascend.2 (has_rest begin out.to p ps m t.ascend t.value) in
    let same : next ++ takings c ps ≡ n.seen = append_assoc h (taken c p ∷ []) (takings c ps) ∙ sym t.is in (
      known n.book c next,
      (k, missed_none true low high k, (known n.book c h, (omega (arith, inside, within), (begun_on, all_read)), made n.book c high h (without m p.0) (taken c p) refl legal)),
      subst (λ (z : History). HavePopped (p.0 + 1) high ps (known n.book c next) (known n.book c z)) same rest,
    )

-- a part after searches that found nothing
pub part_then : (low high : ℕ) (ps : Pairs ℕ) (k m n : Known) → HasMissed true low high k m → HasTakenPart low high ps m n → HasTakenPart low high ps k n
part_then low high [] k m n missed part = popped_then true low high k m n None missed part
part_then low high (p ∷ ps) k m n missed part = (part.0, popped_then true low high k m part.0 (Some p) missed part.1, part.2)

-- THE PAIRS OF A PART are handed on
pub handed_more : {F : Type 0} (step : F → ℕ × ℕ → F → Type 0) (ps : Pairs ℕ) (p : ℕ × ℕ) (f g h : F) → HaveHandedOn step ps f g → step g p h → HaveHandedOn step (ps ++ p ∷ []) f h
handed_more step [] p f g h all one = (h, subst (λ z. step z p h) all one, refl)
handed_more step (q ∷ ps) p f g h all one = (all.0, all.1, handed_more step ps p all.0 g h all.2 one)

-- so that the last one comes first
abbrev pub turned : Pairs ℕ → Pairs ℕ → Pairs ℕ
turned [] before = before
turned (p ∷ ps) before = turned ps (p ∷ before)

pub turned-length : (ps before : Pairs ℕ) → length (turned ps before) ≡ length before + length ps
turned-length [] before = omega arith
turned-length (p ∷ ps) before = let e = turned-length ps (p ∷ before) in omega (arith, e)

pub taken_on : {F : Type 0} (step : F → ℕ × ℕ → F → Type 0) (low high from : ℕ) (ps before : Pairs ℕ) (f g h : F) (k m n : Known) → HaveTaken step low high before from f k g m → HavePopped from high ps m n → HaveHandedOn step ps g h → HaveTaken step low high (turned ps before) (behind from ps) f k h n
taken_on {F} step low high from [] before f g h k m n taken popped handed = subst (λ (z : F × Known). HaveTaken step low high before from f k z.0 z.1) (λ i. (sym handed i, sym popped i)) taken
taken_on step low high from (p ∷ ps) before f g h k m n taken popped handed = taken_on step low high (p.0 + 1) ps (p ∷ before) f handed.0 h k popped.0 n (from, g, m, refl, taken, popped.1, handed.1) popped.2 handed.2

-- and the last one is the last of the page
pub behind-low : (low high : ℕ) (ps : Pairs ℕ) → Rises low high ps → length ps + low ≤ behind low ps
behind-low low high [] rises = omega arith
behind-low low high (p ∷ ps) rises = let a = rises.0 in let l = behind-low (p.0 + 1) high ps rises.2 in omega (arith, a, l)

pub behind-last : (low i : ℕ) (page : Pairs ℕ) (d : ℕ × ℕ) → i < length page → behind low (take (suc i) page) ≡ (get_or page i d).0 + 1
behind-last low i [] d inside = absurd (omega (arith, inside))
behind-last low zero (p ∷ page) d inside = refl
behind-last low (suc i) (p ∷ page) d inside = behind-last (p.0 + 1) i page d (omega (arith, inside))

-- A part that has a pair was removed.
pub part_popped : (low high : ℕ) (ps : Pairs ℕ) (k n : Known) → 1 ≤ length ps → HasTakenPart low high ps k n → HavePopped low high ps k n
part_popped low high [] k n some part = absurd (omega (arith, some))
part_popped low high (p ∷ ps) k n some part = part

-- THE PART that a search and a removal took out
pub part_taken : (low begin high : ℕ) (k s n : Known) (ps : Pairs ℕ) → (seen : HasBegun k s) × HasRead true seen.start.seen s.seen low begin [] → low ≤ begin → (begin % 256 ≡ 0) ⊎ (low ≡ begin) → 1 ≤ length ps → HasTakenOut s begin high ps n → HasTakenPart low high ps k n
part_taken low begin high k s n [] found order seam some out = absurd (omega (arith, some))
part_taken low begin high k s n (p ∷ ps) found order seam some out = taken_popped low begin high k s n p ps found order seam out

pub part_rises : (low begin high : ℕ) (s n : Known) (ps : Pairs ℕ) → low ≤ begin → HasTakenOut s begin high ps n → Rises low high ps
part_rises low begin high s n ps order out = Rises-wider begin out.to low high ps order out.within out.takes.ascend

pub on_err : {A E : Type 0} {P : Type 0} (r : Result A E) → IsErr r → OnErr r P → P
on_err (Ok a) fails p = absurd (let e : false ≡ true = fails in cc)
on_err (Err e) fails p = p

high_of : (low high : ℕ) (ps : Pairs ℕ) → low ≤ high → Rises low high ps → behind low ps ≤ high
high_of low high [] order rises = order
high_of low high (p ∷ ps) order rises = let a = rises.1 in high_of (p.0 + 1) high ps (omega (arith, a)) rises.2

pub behind-high : (low high : ℕ) (ps : Pairs ℕ) → 1 ≤ length ps → Rises low high ps → behind low ps ≤ high
behind-high low high [] some rises = absurd (omega (arith, some))
behind-high low high (p ∷ ps) some rises = let a = rises.1 in high_of (p.0 + 1) high ps (omega (arith, a)) rises.2

-- of a page from whose pairs this part is
pub behind-part : (low read : ℕ) (page : Pairs ℕ) (d : ℕ × ℕ) → 1 ≤ read → read ≤ length page → behind low (take read page) ≡ (get_or page (read - 1) d).0 + 1
behind-part low zero page d some inside = absurd (omega (arith, some))
behind-part low (suc i) page d some inside =
    let e : i ≡ suc i - 1 = omega arith in
    behind-last low i page d (omega (arith, inside)) ∙ ap (λ (z : ℕ). (get_or page z d).0 + 1) e
