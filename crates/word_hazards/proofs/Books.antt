-- The rule at the beginning, as seats enter and meet, and as words join.
use Rattle.std.proofs.Common.{◌≡◌, ◌≢◌, ◌⊎◌, ⊎_elim, inl, inr, ℕ, zero, suc, ◌+◌, ◌*◌, List, [], ◌∷◌, ◌++◌, length, set, length-set, refl, sym, ap, ◌∙◌, subst, arith}
use mathlib.Core.Option.{some, some-injective, some-ne-none}
use lib.ListN.{get_elem?, replicate}
use Rattle.atomic_table.proofs.Lists.{set_here, set_else, set_again, at_longer}
use Rattle.word_book.specs.Book.{State, Loads, Stores, Exchanges, Enters, Meets}
use Rattle.word_segments.specs.Segments.{keys}
use Rattle.word_hazards.specs.Views.{slot_of, View, nobody, HasLent, HasReclaimed}
use Rattle.word_hazards.specs.Steps.{state_key, owner_key, link_key, Same, Grows}
use Rattle.word_hazards.specs.inner.Rule.{AreGrown, AreSlots, IsSeat, AreApart, AreHazards, Meet}
use Rattle.word_hazards.proofs.Moves.{within, same_at, moves, pair, stays}
use Rattle.word_hazards.proofs.Words.{kept, grown_by}

-- NOTHING is learned
pub reads_same : (id k : ℕ) (v : View) → Loads AreHazards Same id v k
reads_same id k v s n r at there = (v, stays s id v r at, refl)

pub links : (id k i x : ℕ) (v : View) → k ≡ link_key i → Stores AreHazards Same id v k x
links id k i x v key s n r at there =
    let ws : List ℕ = set s.words k x in
    let other : (h y : ℕ) → h ≢ k → get_elem? s.words h ≡ some y → get_elem? ws h ≡ some y = λ h y ne e. set_else s.words k h x ne ∙ e in
    let after : (w : View) → IsSeat s.words w → IsSeat ws w = λ w a. record {
      hazard = λ h p. let q = a.hazard h p in let low = q.0 in (q.0, other h w.announced (λ z. omega (arith, z, key, low)) q.1, q.2);
      settled = a.settled;
      slots = kept s.words ws (λ j y e. other (state_key j) y (λ z. omega (arith, z, key)) e) (λ j y e. other (owner_key j) y (λ z. omega (arith, z, key)) e) w a.slots;
      scanned = a.scanned;
      agree = a.agree;
    } in
    (v, moves s r id v v ws at (grown_by s.words k x n (λ z. omega (arith, z, key)) there r.grown) (λ j w e ne. after w (r.seats j w e)) (after v (r.seats id v at)) (λ j w e ne. pair s r id v at j w e ne), refl)

pub length_longer : (ws : List ℕ) (n : ℕ) → length (ws ++ replicate n 0) ≡ length ws + n
length_longer [] zero = refl
length_longer [] (suc n) = let e : length (replicate {A = ℕ} n 0) ≡ 0 + n = length_longer [] n in let f : length (replicate {A = ℕ} (suc n) 0) ≡ suc (length (replicate {A = ℕ} n 0)) = refl in omega arith
length_longer (x ∷ ws) n = let e : length (ws ++ replicate n 0) ≡ length ws + n = length_longer ws n in omega arith

-- A SEGMENT joins
pub grows : (id a : ℕ) (v : View) → Exchanges AreHazards Grows id v 64 a (a + 1)
grows id a v s n r at there = (
  (λ is.
      let ws : List ℕ = set s.words 64 (a + 1) in
      let more : List ℕ = replicate keys 0 in
      let other : (h y : ℕ) → h ≢ 64 → get_elem? s.words h ≡ some y → get_elem? (ws ++ more) h ≡ some y = λ h y ne e. at_longer ws more h y (set_else s.words 64 h (a + 1) ne ∙ e) in
      let after : (w : View) → IsSeat s.words w → IsSeat (ws ++ more) w = λ w b. record {
        hazard = λ h p. let q = b.hazard h p in let low = q.0 in (q.0, other h w.announced (λ z. omega (arith, z, low)) q.1, q.2);
        settled = b.settled;
        slots = kept s.words (ws ++ more) (λ j y e. other (state_key j) y (λ z. omega (arith, z)) e) (λ j y e. other (owner_key j) y (λ z. omega (arith, z)) e) w b.slots;
        scanned = b.scanned;
        agree = b.agree;
      } in
      let g = r.grown in
      let same = same_at s.words 64 64 g.number n refl g.is there in
      let count : g.number ≡ a = same ∙ is in
      let len : length s.words ≡ 65 + keys * a = g.so ∙ ap (λ (z : ℕ). 65 + keys * z) count in
      let grown : AreGrown (ws ++ more) = record {
        number = a + 1;
        is = at_longer ws more 64 (a + 1) (set_here s.words 64 (a + 1) (within s.words 64 n there));
        so = length_longer ws keys ∙ (let e = length-set s.words 64 (a + 1) in omega (arith, e, len));
      } in (
        v,
        keys,
        moves s r id v v (ws ++ more) at grown (λ j w e ne. after w (r.seats j w e)) (after v (r.seats id v at)) (λ j w e ne. pair s r id v at j w e ne),
        (refl, λ e. (refl, len)),
      )),
  (λ ne. (v, stays s id v r at, (refl, λ e. absurd (ne e)))),
)

-- who knows nothing yet
new_seat : (ws : List ℕ) → IsSeat ws nobody
new_seat ws = record {
  hazard = λ k e. absurd cc;
  settled = λ e. absurd cc;
  slots = record {
    lent = λ t x. let e = x.0 in absurd cc;
    issued = λ t o x. absurd x;
    claim = λ c e. absurd cc;
    retired = λ t x. absurd x;
    peeked = λ i o t e x z. absurd x;
    reclaimed = λ t x. absurd x;
  };
  scanned = λ t k x p less has. absurd x;
  agree = λ t o p x y. absurd x;
}

new_apart : (w : View) → AreApart nobody w × AreApart w nobody
new_apart w = (
  record { hazards = λ k e f. absurd cc; scanned = λ t k x p less has. absurd x; agree = λ t o p x y. absurd x; claims = λ c d e f z. absurd cc; reclaimed = λ t x y. absurd x },
  record { hazards = λ k e f. absurd cc; scanned = λ t k x p less has. absurd cc; agree = λ t o p x y. absurd y; claims = λ c d e f z. absurd cc; reclaimed = λ t x y. absurd y },
)

at_end : (l : List View) (j : ℕ) (b : View) → get_elem? (l ++ nobody ∷ []) j ≡ some b → (get_elem? l j ≡ some b) ⊎ ((j ≡ length l) × (nobody ≡ b))
at_end [] zero b e = inr (refl, some-injective nobody b e)
at_end [] (suc j) b e = absurd (some-ne-none b (sym e))
at_end (x ∷ xs) zero b e = inl e
at_end (x ∷ xs) (suc j) b e = ⊎_elim (λ y. inl y) (λ y. inr (ap suc y.0, y.1)) (at_end xs j b e)

apart_at : (s : State View) (r : AreHazards s) (i j : ℕ) (v w : View)
    → (get_elem? s.views i ≡ some v) ⊎ ((i ≡ length s.views) × (nobody ≡ v)) → (get_elem? s.views j ≡ some w) ⊎ ((j ≡ length s.views) × (nobody ≡ w)) → i ≢ j → AreApart v w
apart_at s r i j v w (inl e) (inl f) ne = r.apart i j v w e f ne
apart_at s r i j v w (inl e) (inr f) ne = subst (AreApart v) f.1 (new_apart v).1
apart_at s r i j v w (inr e) (inl f) ne = subst (λ (z : View). AreApart z w) e.1 (new_apart w).0
apart_at s r i j v w (inr e) (inr f) ne = absurd (ne (e.0 ∙ sym f.0))

-- A SEAT enters
pub enters : Enters AreHazards nobody
enters s r = record {
  grown = r.grown;
  seats = λ j w e. ⊎_elim (λ f. r.seats j w f) (λ f. subst (IsSeat s.words) f.1 (new_seat s.words)) (at_end s.views j w e);
  apart = λ i j v w e f ne. apart_at s r i j v w (at_end s.views i v e) (at_end s.views j w f) ne;
}

only : (j : ℕ) (w : View) → get_elem? (nobody ∷ []) j ≡ some w → (j ≡ 0) × (nobody ≡ w)
only zero w e = (refl, some-injective nobody w e)
only (suc j) w e = absurd (some-ne-none w (sym e))

-- A BOOK is opened
pub begins : (count : ℕ) → count ≡ 65 → AreHazards record { words = replicate count 0; views = nobody ∷ [] }
begins count is = subst (λ (n : ℕ). AreHazards record { words = replicate n 0; views = nobody ∷ [] }) (sym is) (record {
  grown = record { number = 0; is = refl; so = refl };
  seats = λ j w e. subst (IsSeat (replicate 65 0)) (only j w e).1 (new_seat (replicate 65 0));
  apart = λ i j v w e f ne. absurd (ne ((only i v e).0 ∙ sym (only j w f).0));
})

-- what is lent isn't reclaimed
not_both : (ws : List ℕ) (v w : View) → AreSlots ws v → AreSlots ws w → (t : ℕ) → HasLent v t → HasReclaimed w t → ⊥
not_both ws v w a b t has x =
    let h = a.lent t has in let y = b.reclaimed t x in let same = same_at ws (state_key (slot_of t)) (state_key (slot_of t)) h.number y.number refl h.is y.is in let few = h.so.1 in let high = y.so in
    omega (arith, same, few, high)

-- TWO SEATS meet
pub meets : (i j : ℕ) (v w : View) → Meets AreHazards Meet i v j w
meets i j v w s r a b ne =
    let one : set s.views j w ≡ s.views = set_again s.views j w b in
    let both : set (set s.views j w) i v ≡ s.views = ap (λ (l : List View). set l i v) one ∙ set_again s.views i v a in
    let p = r.apart i j v w a b ne in let x = r.seats i v a in let y = r.seats j w b in (
      v,
      w,
      subst (λ (vs : List View). AreHazards record { words = s.words; views = vs }) (sym both) r,
      (
        refl,
        refl,
        record { lent = not_both s.words v w x.slots y.slots; own = not_both s.words v v x.slots x.slots; agree = p.agree; alone = x.agree; once = p.reclaimed },
      ),
    )
