-- One child more goes from the front of one list to the end of another.
use Rattle.std.proofs.Common.{◌≡◌, ℕ, ◌+◌, ◌<◌, ◌≤◌, List, [], ◌∷◌, ◌++◌, length, Some, None, refl, ap, sym, ◌∙◌, arith, subst, append_assoc}
use Rattle.std.proofs.lemmas.Bool.{lt-ltb, eq-eqb, ne_eqb}
use Rattle.spec_map.specs.Map.{lookup, put, without, Rises}
use Rattle.spec_map.proofs.MapLaws.{Rises-wider}

module _ {C : Type 0} where
  pub put-last : (a : ℕ) (ds t : List (ℕ × C)) (b : ℕ) (c v : C) → Rises a 256 (ds ++ (b, c) ∷ t) → put ds b v ≡ ds ++ (b, v) ∷ []
  put-last a [] t b c v h = refl
  put-last a (d ∷ ds) t b c v h =
      let less = before (d.0 + 1) ds t b c h.2 in
      rw (lt-ltb d.0 b (omega arith)) (ap (λ u. d ∷ u) (put-last (d.0 + 1) ds t b c v h.2))
    where
      before : (a : ℕ) (ds t : List (ℕ × C)) (b : ℕ) (c : C) → Rises a 256 (ds ++ (b, c) ∷ t) → a ≤ b
      before a [] t b c h = h.0
      before a (d ∷ ds) t b c h = let r = before (d.0 + 1) ds t b c h.2 in omega (arith, r, h.0)

  pub lookup-last : (a : ℕ) (ds t : List (ℕ × C)) (b : ℕ) (c : C) → Rises a 256 (ds ++ (b, c) ∷ t) → lookup ds b ≡ None
  lookup-last a [] t b c h = refl
  lookup-last a (d ∷ ds) t b c h =
      let less = before (d.0 + 1) ds t b c h.2 in
      rw (ne_eqb d.0 b (omega arith)) (lookup-last (d.0 + 1) ds t b c h.2)
    where
      before : (a : ℕ) (ds t : List (ℕ × C)) (b : ℕ) (c : C) → Rises a 256 (ds ++ (b, c) ∷ t) → a ≤ b
      before a [] t b c h = h.0
      before a (d ∷ ds) t b c h = let r = before (d.0 + 1) ds t b c h.2 in omega (arith, r, h.0)

  -- the first child of a list is found under its byte, and leaves the others
  pub lookup-first : (es t : List (ℕ × C)) (b : ℕ) (c : C) → es ≡ (b, c) ∷ t → lookup es b ≡ Some c
  lookup-first es t b c e = rw (e, eq-eqb b b refl) refl

  pub without-first : (es t : List (ℕ × C)) (b : ℕ) (c : C) → es ≡ (b, c) ∷ t → without es b ≡ t
  without-first es t b c e = rw (e, eq-eqb b b refl) refl

module _ {C : Type 0} where
  pub record Moved (ds es : List (ℕ × C)) (b : ℕ) (v : C) : Type 0 where
    pub absent : lookup ds b ≡ None
    pub fewer : length (without es b) < length es
    pub whole : put ds b v ++ without es b ≡ ds ++ es
    pub above : (a : ℕ) → Rises a 256 es → Rises b 256 (without es b)

  pub moved : (ds es t : List (ℕ × C)) (b : ℕ) (c v : C) → es ≡ (b, c) ∷ t → Rises 0 256 (ds ++ es) → lookup es b ≡ Some v → Moved ds es b v
  moved ds es t b c v e h l =
      let h' : Rises 0 256 (ds ++ (b, c) ∷ t) = subst (λ x. Rises 0 256 (ds ++ x)) e h in
      let w = without-first es t b c e in
      let same : c ≡ v = some_same c v (sym (lookup-first es t b c e) ∙ l) in
      record {
        absent = lookup-last 0 ds t b c h';
        fewer = rw (w, e) (omega arith);
        whole = rw (w, e, put-last 0 ds t b c v h') (append_assoc ds ((b, v) ∷ []) t ∙ ap (λ x. ds ++ (b, x) ∷ t) (sym same));
        above = λ a r. rw w (let r' : Rises a 256 ((b, c) ∷ t) = subst (Rises a 256) e r in Rises-wider (b + 1) 256 b 256 t (omega arith) (omega arith) r'.2);
      }
    where
      some_same : (c v : C) → Some c ≡ Some v → c ≡ v
      some_same c v e = cc
