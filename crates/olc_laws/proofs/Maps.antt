-- WHICH MAP a table keeps, and that a changed table keeps the map with one pair more, another value, or one pair less.
use Rattle.std.proofs.Common.{◌≡◌, ℕ, ◌^◌, ◌<◌, Some, ◌↔◌, inl, inr, sym, subst, ap, ◌∙◌, arith}
use Rattle.std.proofs.lemmas.Bool.Decides.{eqb_tells}
use Rattle.spec_map.specs.Map.{Pairs, IsMap, lookup, put, without}
use Rattle.spec_map.proofs.MapLaws.{lookup-put_same, lookup-put_other, Rises-put, lookup-without_same, lookup-without_other, Rises-without}
use Rattle.spec_olc.specs.Calls.{bytes_of}
use Rattle.olc_state.specs.inner.World.{NodeMap}
use Rattle.olc_state.specs.inner.Tables.{IsPlaced, Keeps}
use Rattle.olc_state.proofs.Options.{some_same, none_some}
use Rattle.olc_laws.proofs.Pairs.{SamePairs, PutsPair, TakesPair, kept_once}

module _ {M : Type 0} where
  -- the map has exactly the pairs that linked leaves keep
  pub record IsMapOf (t : NodeMap M) (m : Pairs M) : Type 0 where
    pub map : IsMap m
    pub pairs : (key : ℕ) (v : M) → (lookup m key ≡ Some v) ↔ ((key < 2 ^ 64) × Keeps t (bytes_of key) v)

  pub map_same : {t t' : NodeMap M} {m : Pairs M} → SamePairs t t' → IsMapOf t m → IsMapOf t' m
  map_same {t} {t'} {m} same is = record {
    map = is.map;
    pairs = λ key v. (
      (λ (e : lookup m key ≡ Some v). let h = (is.pairs key v).0 e in (h.0, (same (bytes_of key) v).0 h.1)),
      (λ h. (is.pairs key v).1 (h.0, (same (bytes_of key) v).1 h.1)),
    );
  }

  pub map_put : {t t' : NodeMap M} {m : Pairs M} {key : ℕ} {v : M} (root : ℕ) → IsPlaced t' root → key < 2 ^ 64 → PutsPair t t' key v → IsMapOf t m → IsMapOf t' (put m key v)
  map_put {t} {t'} {m} {key} {v} root placed small puts is = record {
    map = Rises-put 0 (2 ^ 64) m key v is.map (omega arith) small;
    pairs = λ k w.
        elim (eqb_tells k key) [
          | inl same ↦
              subst (λ z. (lookup (put m key v) z ≡ Some w) ↔ ((z < 2 ^ 64) × Keeps t' (bytes_of z) w)) (sym same.1) (
                (λ (e : lookup (put m key v) key ≡ Some w).
                    let value : v ≡ w = some_same v w (sym (lookup-put_same m key v) ∙ e) in
                    (small, subst (λ z. Keeps t' (bytes_of key) z) value puts.here)),
                (λ h.
                    let value : v ≡ w = kept_once t' root (bytes_of key) v w placed puts.here h.1 in
                    lookup-put_same m key v ∙ ap (λ z. Some z) value),
              )
          | inr far ↦ (
            (λ (e : lookup (put m key v) k ≡ Some w).
                let h = (is.pairs k w).0 (sym (lookup-put_other m key v k far.1) ∙ e) in
                (h.0, (puts.others k w h.0 far.1).0 h.1)),
            (λ h. lookup-put_other m key v k far.1 ∙ (is.pairs k w).1 (h.0, (puts.others k w h.0 far.1).1 h.1)),
          )
        ];
  }

  pub map_without : {t t' : NodeMap M} {m : Pairs M} {key : ℕ} → TakesPair t t' key → IsMapOf t m → IsMapOf t' (without m key)
  map_without {t} {t'} {m} {key} takes is = record {
    map = Rises-without 0 (2 ^ 64) m key is.map;
    pairs = λ k w.
        elim (eqb_tells k key) [
          | inl same ↦
              subst (λ z. (lookup (without m key) z ≡ Some w) ↔ ((z < 2 ^ 64) × Keeps t' (bytes_of z) w)) (sym same.1) (
                (λ (e : lookup (without m key) key ≡ Some w). absurd (none_some w (sym (lookup-without_same 0 (2 ^ 64) m key is.map) ∙ e))),
                (λ h. absurd (takes.gone w h.1)),
              )
          | inr far ↦ (
            (λ (e : lookup (without m key) k ≡ Some w).
                let h = (is.pairs k w).0 (sym (lookup-without_other m key k far.1) ∙ e) in
                (h.0, (takes.others k w h.0 far.1).0 h.1)),
            (λ h. lookup-without_other m key k far.1 ∙ (is.pairs k w).1 (h.0, (takes.others k w h.0 far.1).1 h.1)),
          )
        ];
  }
