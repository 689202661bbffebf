-- What a node has last below a byte, as links.
use Rattle.std.proofs.Common.{◌≡◌, ℕ, List, [], ◌∷◌, Some, None, option_map, refl, ap, sym, ◌∙◌}
use Rattle.spec_map.specs.Near.{last_of, below_of}
use Rattle.spec_node.specs.declared.child.Child.{Child as ChildOf}
use Rattle.node_table.specs.inner.Kinds.{mapped}
use Rattle.node_table.proofs.KindLaws.{between-mapped}
use Rattle.tree_links.specs.Places.{as_link, as_links}
use Rattle.tree_links.specs.declared.link.Link.{Link}
use Rattle.tree_links.specs.declared.place.Place.{Place}
use Rattle.spec_map.specs.Map.{between}

module _ {C D : Type 0} (f : C → D) where
  last_of-mapped : (es : List (ℕ × C)) → last_of (mapped f es) ≡ option_map (λ p. (p.0, f p.1)) (last_of es)
  last_of-mapped [] = refl
  last_of-mapped (e ∷ []) = refl
  last_of-mapped (e ∷ d ∷ es) = last_of-mapped (d ∷ es)

  below_of-mapped : (es : List (ℕ × C)) (to : ℕ) → below_of (mapped f es) to ≡ option_map (λ p. (p.0, f p.1)) (below_of es to)
  below_of-mapped es to = ap (λ ds. last_of ds) (between-mapped f es 0 to) ∙ last_of-mapped (between es 0 to)

module _ {P : Type 0} (es : List (ℕ × ChildOf P (Place P))) (to : ℕ) where
  pub last_link : (byte : ℕ) (c : ChildOf P (Place P)) (l : Link P) → l ≡ as_link c → Some (byte, c) ≡ below_of es to → Some (byte, l) ≡ below_of (as_links es) to
  last_link byte c l same is =
      ap (λ x. Some (byte, x)) same ∙ ap (λ o. option_map (λ p. (p.0, as_link p.1)) o) is ∙ sym (below_of-mapped as_link es to)

  pub no_last_link : None ≡ below_of es to → None ≡ below_of (as_links es) to
  no_last_link is = ap (λ o. option_map (λ p. (p.0, as_link p.1)) o) is ∙ sym (below_of-mapped as_link es to)
