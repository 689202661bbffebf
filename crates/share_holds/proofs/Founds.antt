-- The pairs that an attempt at a range has found, with one more, and those of a page.
use Rattle.std.proofs.Common.{◌≡◌, ℕ, zero, suc, ◌+◌, ◌<◌, ◌≤◌, ◌^◌, Bool, List, [], ◌∷◌, ◌++◌, length, map, take, drop, set, refl, sym, ap, ◌∙◌, arith}
use Rattle.std.proofs.Math.Seq.{take-append_seam}
use Rattle.std.proofs.lemmas.Grind.{take-set_at}
use Rattle.std.proofs.lemmas.List.{length-append, length-map, length-set, length-take, map-append, take_min, take-map}
use Rattle.std.specs.Prelude.{Some}
use Rattle.share_holds.specs.Moments.{HasPage, HasRange, WasStored, WereStored}
use Rattle.share_holds.specs.inner.Founds.{AreFound}
use Rattle.share_rule.specs.History.{Entry, IsHistory, StartsWith}
use Rattle.spec_map.proofs.JoinLaws.{Rises-append}
use Rattle.spec_map.proofs.MapLaws.{Rises-wider, lookup-between_inside, lookup-first, lookup-next}
use Rattle.spec_map.proofs.RangeLaws.{between-within}
use Rattle.spec_map.specs.Map.{Pairs, Rises, between, lookup}

module _ (same : ℕ → ℕ → Bool) (seen : List (Entry ℕ)) where
  one_stored : (pairs : Pairs ℕ) (key value : ℕ) → WereStored same seen pairs → WasStored same seen key value → WereStored same seen (pairs ++ (key, value) ∷ [])
  one_stored [] key value all one = (one, tt)
  one_stored (pair ∷ pairs) key value all one = (all.0, one_stored pairs key value all.1 one)

  module _ {E : Type 0} (entry : ℕ → ℕ → E) (start end : ℕ) where
    -- none at first
    pub none_found : (buffer : List E) → AreFound same seen entry start end start 0 buffer
    none_found buffer = record { pairs = []; inside = tt; below = tt; stored = tt; order = omega arith; many = refl; room = omega arith; written = refl }

    -- those of a range
    pub range_found : (next count : ℕ) (buffer : List E) → AreFound same seen entry start end next count buffer → HasRange same seen entry start end count buffer
    range_found next count buffer h = (h.pairs, h.inside, h.stored, h.many, h.written)

    pub one_more : (next count key value : ℕ) (buffer : List E) → next ≤ key → key < end → count < length buffer → WasStored same seen key value
        → AreFound same seen entry start end next count buffer → AreFound same seen entry start end (key + 1) (count + 1) (set buffer count (entry key value))
    one_more next count key value buffer from to fits was h =
        let f : ℕ × ℕ → E = λ pair. entry pair.0 pair.1 in
        let one : Pairs ℕ = (key, value) ∷ [] in
        let before : Rises start key h.pairs = Rises-wider start next start key h.pairs (omega arith) from h.below in
        let first : start ≤ key = omega (arith, h.order, from) in
        record {
          pairs = h.pairs ++ one;
          inside = Rises-append start key end h.pairs one first (omega (arith, to)) before (omega arith, to, tt);
          below = Rises-append start key (key + 1) h.pairs one first (omega arith) before (omega arith, omega arith, tt);
          stored = one_stored h.pairs key value h.stored was;
          order = omega (arith, first);
          many = ap (λ (n : ℕ). n + 1) h.many ∙ sym (length-append h.pairs one);
          room = omega (arith, fits, length-set buffer count (entry key value));
          written = take-set_at buffer count (count + 1) (entry key value) refl fits
              ∙ (ap (λ (es : List E). es ++ entry key value ∷ []) h.written ∙ sym (map-append f h.pairs one));
        }

-- a map has each of these pairs
abbrev AreIn : Pairs ℕ → Pairs ℕ → Type 0
AreIn m [] = Unit {0}
AreIn m (pair ∷ pairs) = (lookup m pair.0 ≡ Some pair.1) × AreIn m pairs

-- those of an ascending list with its look-ups
all_in : (m : Pairs ℕ) (a b : ℕ) (es : Pairs ℕ) → Rises a b es → ((k : ℕ) → a ≤ k → k < b → lookup m k ≡ lookup es k) → AreIn m es
all_in m a b [] h same = tt
all_in m a b (e ∷ es) h same = (
  same e.0 h.0 h.1 ∙ lookup-first e es,
  all_in m (e.0 + 1) b es h.2 (λ k from to. same k (omega (arith, from, h.0)) to ∙ lookup-next e es k (omega (arith, from))),
)

firsts_in : (m : Pairs ℕ) (n : ℕ) (es : Pairs ℕ) → AreIn m es → AreIn m (take n es)
firsts_in m zero [] h = tt
firsts_in m zero (e ∷ es) h = tt
firsts_in m (suc n) [] h = tt
firsts_in m (suc n) (e ∷ es) h = (h.0, firsts_in m n es h.1)

Rises-take : (n a b : ℕ) (es : Pairs ℕ) → Rises a b es → Rises a b (take n es)
Rises-take zero a b [] h = tt
Rises-take zero a b (e ∷ es) h = tt
Rises-take (suc n) a b [] h = tt
Rises-take (suc n) a b (e ∷ es) h = (h.0, h.1, Rises-take n (e.0 + 1) b es h.2)

module _ (same : ℕ → ℕ → Bool) (seen : List (Entry ℕ)) where
  stored_in : (history : List (Entry ℕ)) (m : Pairs ℕ) → StartsWith history seen → IsHistory same history m → (es : Pairs ℕ) → AreIn m es → WereStored same seen es
  stored_in history m starts is [] h = tt
  stored_in history m starts is (e ∷ es) h = ((history, m, starts, is, h.0), stored_in history m starts is es h.1)

  -- A PAGE has pairs of its range, which were stored at its moment
  pub page_range : {E : Type 0} (entry : ℕ → ℕ → E) (start end : ℕ) (before : List E) (count : ℕ) (after : List E) → HasPage same seen entry start end before count after → HasRange same seen entry start end count after
  page_range {E} entry start end before count after h =
      let f : ℕ × ℕ → E = λ pair. entry pair.0 pair.1 in
      let m = h.1 in
      let page = h.5 in
      let all = between m start end in
      let room = length before in
      let rises : Rises start end all = between-within 0 (2 ^ 64) start end m h.4 in
      let many : count ≡ length (take room all) = page.0 ∙ sym (length-take room all) in
      let firsts : take count all ≡ take room all = ap (λ (n : ℕ). take n all) page.0 ∙ take_min room all in
      let written : after ≡ map f (take room all) ++ drop count before =
      page.1 ∙ ap (λ (es : List E). es ++ drop count before) (take-map f count all ∙ ap (λ (es : Pairs ℕ). map f es) firsts) in
      let long : count ≡ length (map f (take room all)) = many ∙ sym (length-map (take room all) f) in (
        take room all,
        Rises-take room start end all rises,
        stored_in h.0 m h.2 h.3 (take room all) (firsts_in m room all (all_in m start end all rises (λ k from to. sym (lookup-between_inside m start end k from to)))),
        many,
        ap (λ (es : List E). take count es) written
            ∙ (ap (λ (n : ℕ). take n (map f (take room all) ++ drop count before)) long
            ∙ take-append_seam (map f (take room all)) (drop count before)),
      )
