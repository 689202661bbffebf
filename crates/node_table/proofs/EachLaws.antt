-- What holds of each child of a node, and what follows for all of them.
use Rattle.std.proofs.Common.{◌≡◌, ℕ, ◌+◌, ◌≤◌, List, [], ◌∷◌, ◌++◌, refl, ap, ◌∙◌, arith}
use Rattle.spec_map.specs.Map.{Pairs, Rises}
use Rattle.spec_node.specs.Key.{low}
use Rattle.node_table.specs.Table.{NodeInfo, pairs_of, nodes_of, AreChildren}
use Rattle.spec_node.specs.TableNode.{Child}
use Rattle.spec_node.specs.declared.child.Child.TheVariants.{Payload, Node}

module _ {P : Type 0} where
  -- where each byte is at least d
  pub each_from : (R Q : List ℕ → ℕ → Type 0) (p : List ℕ) (d : ℕ) (es : List (ℕ × Child P)) → Rises d 256 es
      → ((b j : ℕ) → d ≤ b → R (p ++ b ∷ []) j → Q (p ++ b ∷ []) j) → AreChildren R p es → AreChildren Q p es
  each_from R Q p d [] o f h = tt
  each_from R Q p d ((b, Payload v) ∷ es) o f h = (h.0, each_from R Q p (b + 1) es o.2 (λ c j l. f c j (omega (arith, o.0, l))) h.1)
  each_from R Q p d ((b, Node j) ∷ es) o f h = (f b j o.0 h.0, each_from R Q p (b + 1) es o.2 (λ c i l. f c i (omega (arith, o.0, l))) h.1)

  pub each : (R Q : List ℕ → ℕ → Type 0) (p : List ℕ) (es : List (ℕ × Child P)) → ((b j : ℕ) → R (p ++ b ∷ []) j → Q (p ++ b ∷ []) j) → AreChildren R p es → AreChildren Q p es
  each R Q p [] f h = tt
  each R Q p ((b, Payload v) ∷ es) f h = (h.0, each R Q p es f h.1)
  each R Q p ((b, Node j) ∷ es) f h = (f b j h.0, each R Q p es f h.1)

  -- the same pairs, or nodes, below each
  pub pairs_of-each : (f g : ℕ → Pairs P) (p : List ℕ) (es : List (ℕ × Child P)) → AreChildren (λ r j. f j ≡ g j) p es → pairs_of f p es ≡ pairs_of g p es
  pairs_of-each f g p [] h = refl
  pairs_of-each f g p ((b, Payload v) ∷ es) h = ap (λ x. (low (p ++ b ∷ []), v) ∷ x) (pairs_of-each f g p es h.1)
  pairs_of-each f g p ((b, Node j) ∷ es) h = ap (λ x. x ++ pairs_of f p es) h.0 ∙ ap (λ x. g j ++ x) (pairs_of-each f g p es h.1)

  pub nodes_of-each : (f g : List ℕ → ℕ → List NodeInfo) (p : List ℕ) (es : List (ℕ × Child P)) → AreChildren (λ r j. f r j ≡ g r j) p es → nodes_of f p es ≡ nodes_of g p es
  nodes_of-each f g p [] h = refl
  nodes_of-each f g p ((b, Payload v) ∷ es) h = nodes_of-each f g p es h.1
  nodes_of-each f g p ((b, Node j) ∷ es) h = ap (λ x. x ++ nodes_of f p es) h.0 ∙ ap (λ x. g (p ++ b ∷ []) j ++ x) (nodes_of-each f g p es h.1)
