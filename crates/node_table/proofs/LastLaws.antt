-- The last child below a byte, among children that are made of others.
use Rattle.std.proofs.Common.{◌≡◌, ℕ, List, [], ◌∷◌, Option, Some, None, IsSome, option_map, refl, ap, sym, subst, ◌∙◌, arith}
use Rattle.spec_map.specs.Map.{lookup, between, Rises}
use Rattle.spec_map.specs.Near.{last_of, below_of}
use Rattle.spec_map.proofs.NearLaws.{greatest_between, stored_between}
use Rattle.node_table.specs.inner.Kinds.{mapped}
use Rattle.node_table.proofs.KindLaws.{between-mapped}

module _ {C : Type 0} where
  -- the pair of a byte that was found
  record Found (es : List (ℕ × C)) (to byte : ℕ) : Type 0 where
    pub child : C
    pub below : below_of es to ≡ Some (byte, child)
    pub here : lookup es byte ≡ Some child

  found : (es : List (ℕ × C)) (to byte : ℕ) → Rises 0 256 es → Some byte ≡ option_map (λ p. p.0) (below_of es to) → Found es to byte
  found es to byte h is = go (below_of es to) refl is
    where
      go : (o : Option (ℕ × C)) → below_of es to ≡ o → Some byte ≡ option_map (λ p. p.0) o → Found es to byte
      go None e k = absurd (cc)
      go (Some p) e k =
          let same : p.0 ≡ byte = cc in
          let l = greatest_between 0 to 0 256 es p h e in
          subst (λ b. Found es to b) same (record { child = p.1; below = e; here = stored_between 0 to es p (omega arith) l.to l.stored })

  pub found-present : (es : List (ℕ × C)) (to byte : ℕ) → Rises 0 256 es → Some byte ≡ option_map (λ p. p.0) (below_of es to) → IsSome (lookup es byte)
  found-present es to byte h is = let f = found es to byte h is in rw f.here refl

module _ {C D : Type 0} (f : C → D) where
  last_of-mapped : (es : List (ℕ × C)) → last_of (mapped f es) ≡ option_map (λ p. (p.0, f p.1)) (last_of es)
  last_of-mapped [] = refl
  last_of-mapped (e ∷ []) = refl
  last_of-mapped (e ∷ d ∷ es) = last_of-mapped (d ∷ es)

  below_of-mapped : (es : List (ℕ × C)) (to : ℕ) → below_of (mapped f es) to ≡ option_map (λ p. (p.0, f p.1)) (below_of es to)
  below_of-mapped es to = ap (λ ds. last_of ds) (between-mapped f es 0 to) ∙ last_of-mapped (between es 0 to)

  pub last-none : (es : List (ℕ × C)) (to : ℕ) → None ≡ option_map (λ p. p.0) (below_of es to) → None ≡ below_of (mapped f es) to
  last-none es to is = sym (below_of-mapped es to ∙ ap (λ o. option_map (λ p. (p.0, f p.1)) o) (nothing (below_of es to) is))
    where
      nothing : (o : Option (ℕ × C)) → None ≡ option_map (λ p. p.0) o → o ≡ None
      nothing None e = refl
      nothing (Some p) e = absurd (cc)

  pub last-found : (es : List (ℕ × C)) (to byte : ℕ) (c : C) → Rises 0 256 es → Some byte ≡ option_map (λ p. p.0) (below_of es to) → Some c ≡ lookup es byte → Some (byte, f c) ≡ below_of (mapped f es) to
  last-found es to byte c h is here =
      let d = found es to byte h is in
      let both : Some c ≡ Some d.child = here ∙ d.here in
      let same : c ≡ d.child = cc in
      sym (below_of-mapped es to ∙ ap (λ o. option_map (λ p. (p.0, f p.1)) o) d.below ∙ ap (λ x. Some (byte, f x)) (sym same))
