-- How a map goes on by the removal of the pairs that a closure doesn't keep.
use Rattle.std.proofs.Common.{◌≡◌, ℕ, ◌+◌, ◌<◌, ◌^◌, Bool, true, false, if◌then◌else◌, not, [], ◌∷◌, length, refl, sym, ap, subst, ◌∙◌, arith}
use Rattle.std.proofs.lemmas.Bool.{eq-eqb, ne_eqb}
use Rattle.std.proofs.lemmas.List.{take_all}
use Rattle.std.specs.Prelude.{filter, is_none}
use Rattle.congee_tree.specs.Bulk.{Retains}
use Rattle.share_works.proofs.Going.{Goes, goes_by}
use Rattle.share_works.proofs.Removing.{removed}
use Rattle.share_works.proofs.Writing.{few_between}
use Rattle.share_works.specs.Made.{retaining}
use Rattle.spec_map.proofs.MapLaws.{Rises-wider, lookup-below}
use Rattle.spec_map.proofs.RangeLaws.{between-all}
use Rattle.spec_map.specs.Call.{ranged}
use Rattle.spec_map.specs.Legal.{IsLegal}
use Rattle.spec_map.specs.Map.{IsMap, Pairs, Rises, between, lookup}
use Rattle.spec_map.specs.Refusal.{never}

-- those of these pairs whose keys the others have
abbrev stay : Pairs ℕ → Pairs ℕ → Pairs ℕ
stay kept es = filter (λ (x : ℕ × ℕ). not (is_none (lookup kept x.0))) es

-- a pair below all keys doesn't matter
stay_above : (e : ℕ × ℕ) (kept : Pairs ℕ) (low high : ℕ) (es : Pairs ℕ) → e.0 < low → Rises low high es → stay (e ∷ kept) es ≡ stay kept es
stay_above e kept low high [] less h = refl
stay_above e kept low high (x ∷ xs) less h =
    rw (ne_eqb e.0 x.0 (omega (arith, h.0))) (ap (λ (l : Pairs ℕ). if not (is_none (lookup kept x.0)) then x ∷ l else l) (stay_above e kept (x.0 + 1) high xs (omega (arith, h.0)) h.2))

record Kept (low : ℕ) (es kept : Pairs ℕ) : Type 0 where
  pub rises : Rises low (2 ^ 64) kept
  pub stays : kept ≡ stay kept es

module _ {F : Type 0} (step : F → ℕ × ℕ → Bool → F → Type 0) where
  kept_by : (low : ℕ) (e : ℕ × ℕ) (es rest : Pairs ℕ) → Rises low (2 ^ 64) (e ∷ es) → Kept (e.0 + 1) es rest → (b : Bool) → Kept low (e ∷ es) (if b then e ∷ rest else rest)
  kept_by low e es rest h k true = record {
    rises = (h.0, h.1, k.rises);
    stays = rw (eq-eqb e.0 e.0 refl) (ap (λ (l : Pairs ℕ). e ∷ l) (k.stays ∙ sym (stay_above e rest (e.0 + 1) (2 ^ 64) es (omega arith) h.2)));
  }
  kept_by low e es rest h k false = record {
    rises = Rises-wider (e.0 + 1) (2 ^ 64) low (2 ^ 64) rest (omega (arith, h.0)) (omega arith) k.rises;
    stays = rw (lookup-below (e.0 + 1) (2 ^ 64) rest e.0 k.rises (omega arith)) k.stays;
  }

  kept_of : (low : ℕ) (es : Pairs ℕ) (f : F) (kept : Pairs ℕ) (last : F) → Rises low (2 ^ 64) es → Retains step f es kept last → Kept low es kept
  kept_of low [] f kept last h r = subst (λ (l : Pairs ℕ). Kept low [] l) (sym r.0) (record { rises = tt; stays = refl })
  kept_of low (e ∷ es) f kept last h (b, next, rest, called, more, is) =
      subst (λ (l : Pairs ℕ). Kept low (e ∷ es) l) (sym is) (kept_by low e es rest h (kept_of (e.0 + 1) es next rest last h.2 more) b)

  module _ {S : Type 0} (same : ℕ → ℕ → Bool) (content : S → Pairs ℕ → Type 0) (x : S) (p : Pairs ℕ) (map : IsMap p) (only : (m : Pairs ℕ) → content x m → m ≡ p) where
    pub retain_goes : (y : S) (q : Pairs ℕ) (f last : F) → content y q → Retains step f p q last → Goes same content (retaining p q) x y
    retain_goes y q f last has kept =
        let whole = between-all 0 (2 ^ 64) 0 (2 ^ 64) p map (omega arith) (omega arith) in
        let all = take_all (length p) (between p 0 (2 ^ 64)) (few_between p 0 (2 ^ 64)) ∙ whole in
        let is = (kept_of 0 p f q last map kept).stays in
        goes_by same content (retaining p q) x y p q only has (subst (λ (z : Pairs ℕ). IsLegal same never p (retaining p q) z) (sym is)
        ((refl, refl), ((refl, ap (λ (l : Pairs ℕ). ranged l) (sym all)), removed same (λ k. is_none (lookup q k)) p)))
