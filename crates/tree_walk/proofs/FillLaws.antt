-- A buffer that is filled entry by entry.
use Rattle.std.proofs.Common.{◌≡◌, ℕ, suc, ◌+◌, ◌<◌, ◌≤◌, List, [], ◌∷◌, ◌++◌, length, drop, set, get_or, refl, ap, sym, subst, ◌∙◌, arith, append_assoc, length-append, length-take, length-drop, length-set, add-one}
use Rattle.std.proofs.lemmas.List.{append-nil, take_all, take-append-le}
use Rattle.std.proofs.Math.Seq.{drop-cons, set-append_seam}
use Rattle.tree_walk.specs.inner.Scan.{FillsBuffer, AddsEntries}

module _ {E : Type 0} where
  same_length : (whole done : List E) (n : ℕ) (b : List E) → FillsBuffer whole done n b → length b ≡ length whole
  same_length whole done n b h =
      let l = simp (length-append, length-take, length-drop) at (ap length h.filled) in
      omega (arith, h.counted)

  pub fills-none : (whole : List E) → FillsBuffer whole [] 0 whole
  fills-none whole = record { counted = omega arith; filled = refl }

  pub fills-push : (whole done : List E) (n : ℕ) (b : List E) (x : E) → FillsBuffer whole done n b → n < length b → FillsBuffer whole (done ++ x ∷ []) (n + 1) (set b n x)
  fills-push whole done n b x h room =
      let same = same_length whole done n b h in
      let all : n ≡ length done = omega (arith, h.counted) in
      let is : b ≡ done ++ get_or whole n x ∷ drop (suc n) whole =
      h.filled ∙ ap (λ t. t ++ drop n whole) (take_all n done (omega arith)) ∙ ap (λ t. done ++ t) (drop-cons whole n x (omega arith)) in
      let after : set b n x ≡ done ++ x ∷ drop (suc n) whole =
      ap (λ t. set t n x) is ∙ subst (λ m. set (done ++ get_or whole n x ∷ drop (suc n) whole) m x ≡ done ++ x ∷ drop (suc n) whole) (sym all)
      (set-append_seam done (get_or whole n x) (drop (suc n) whole) x) in
      record {
        counted = simp length-append (omega (arith, h.counted));
        filled = after ∙ sym (append_assoc done (x ∷ []) (drop (suc n) whole)) ∙ rw (take_all (n + 1) (done ++ x ∷ []) (simp length-append (omega arith)), add-one n) refl;
      }

  pub fills-full : (whole done more : List E) (n : ℕ) (b : List E) → FillsBuffer whole done n b → length b ≤ n → FillsBuffer whole (done ++ more) n b
  fills-full whole done more n b h full =
      let same = same_length whole done n b h in
      record {
        counted = simp length-append (omega (arith, h.counted));
        filled = h.filled ∙ ap (λ t. t ++ drop n whole) (sym (take-append-le n done more (omega (arith, h.counted))));
      }

  adds-none : (b : List E) (n : ℕ) → n ≤ length b → AddsEntries [] b n b n
  adds-none b n inside = record { inside = inside; fills = λ whole done h. subst (λ t. FillsBuffer whole t n b) (sym (append-nil done)) h }

  adds-join : (f g b0 b b' : List E) (n0 n n' : ℕ) → AddsEntries f b0 n0 b n → AddsEntries g b n b' n' → AddsEntries (f ++ g) b0 n0 b' n'
  adds-join f g b0 b b' n0 n n' h k =
      record {
        inside = k.inside;
        fills = λ whole done x. subst (λ t. FillsBuffer whole t n' b') (append_assoc done f g) (k.fills whole (done ++ f) (h.fills whole done x));
      }

  pub adds-one : (b : List E) (n : ℕ) (x : E) → n < length b → AddsEntries (x ∷ []) b n (set b n x) (n + 1)
  adds-one b n x room =
      record {
        inside = simp length-set (omega arith);
        fills = λ whole done h. fills-push whole done n b x h room;
      }

  adds-full : (more b : List E) (n : ℕ) → n ≤ length b → length b ≤ n → AddsEntries more b n b n
  adds-full more b n inside full = record { inside = inside; fills = λ whole done h. fills-full whole done more n b h full }

  -- of all these entries the last are left, and the others are written
  pub record Written (all left old : List E) (first : ℕ) (new : List E) (count : ℕ) : Type 0 where
    pub seen : List E
    pub adds : AddsEntries seen old first new count
    pub whole : all ≡ seen ++ left

  pub written-none : (all b : List E) (n : ℕ) → n ≤ length b → Written all all b n b n
  written-none all b n inside = record { seen = []; adds = adds-none b n inside; whole = refl }

  module _ (all left old new : List E) (first count : ℕ) (h : Written all left old first new count) where
    pub written-more : (more rest b : List E) (k : ℕ) → left ≡ more ++ rest → AddsEntries more new count b k → Written all rest old first b k
    written-more more rest b k is adds =
        record {
          seen = h.seen ++ more;
          adds = adds-join h.seen more old new b first count k h.adds adds;
          whole = h.whole ∙ ap (λ t. h.seen ++ t) is ∙ sym (append_assoc h.seen more rest);
        }

    pub written-all : AddsEntries left new count new count → AddsEntries all old first new count
    written-all adds = subst (λ t. AddsEntries t old first new count) (sym h.whole) (adds-join h.seen left old new new first count count h.adds adds)

    pub written-full : length new ≤ count → AddsEntries all old first new count
    written-full full = written-all (adds-full left new count h.adds.inside full)

    pub written-end : left ≡ [] → AddsEntries all old first new count
    written-end none = written-all (subst (λ t. AddsEntries t new count new count) (sym none) (adds-none new count h.adds.inside))
