-- How the number of pairs in places changes.
use Rattle.std.proofs.Common.{◌≡◌, ◌≢◌, ℕ, zero, suc, ◌+◌, List, [], ◌∷◌, Option, Some, None, refl, ap, ◌∙◌, arith, inl, inr}
use Rattle.std.proofs.lemmas.Bool.{le-ltb, lt-ltb, eq-eqb, ne_eqb, cases_order, cases_eq}
use Rattle.std.specs.Option.{option_map}
use Rattle.spec_map.specs.Map.{lookup, put, without, Rises}
use Rattle.spec_map.proofs.MapLaws.{lookup-below}
use Rattle.tree_links.specs.LinkNode.{LinkNode}
use Rattle.tree_links.specs.SeenTable.{LinkTable, link_at}
use Rattle.tree_links.specs.declared.link.Link.{Link}
use Rattle.tree_links.specs.declared.link.Link.TheVariants.{Payload}
use Rattle.tree_links.specs.inner.Pairs.{pairs_in_link, pairs_in_links, pairs_in_node, pairs_in_table}
use Rattle.tree_links.specs.inner.Slots.{SameSlots, ExchangesLink, PutsLink, TakesLink, SetsAt}

not_zero : (k : ℕ) → suc k ≢ zero
not_zero k = omega arith

zero_not : (k : ℕ) → zero ≢ suc k
zero_not k = omega arith

further : (k i : ℕ) → k ≢ i → suc k ≢ suc i
further k i other e = other (omega arith)

module _ {P : Type 0} where
  -- the pairs of a link that may be there
  abbrev pairs_at : Option (Link P) → ℕ
  pairs_at None = 0
  pairs_at (Some c) = pairs_in_link c

  -- one link in the place of another, or of none
  links-put : (d : ℕ) (es : List (ℕ × Link P)) (b : ℕ) (c : Link P) → Rises d 256 es → pairs_in_links (put es b c) + pairs_at (lookup es b) ≡ pairs_in_links es + pairs_in_link c
  links-put d [] b c o = omega arith
  links-put d (e ∷ es) b c o =
      elim (cases_order e.0 b) [
        | inl same ↦ rw (le-ltb e.0 b (omega arith), eq-eqb e.0 b same) (omega arith)
        | inr (inl less) ↦
            let r = links-put (e.0 + 1) es b c o.2 in
            rw (lt-ltb e.0 b less, ne_eqb e.0 b (omega arith)) (omega (arith, r))
        | inr (inr more) ↦
            let none = lookup-below (e.0 + 1) 256 es b o.2 (omega arith) in
            rw (le-ltb e.0 b (omega arith), ne_eqb e.0 b (omega arith), none) (omega arith)
      ]

  -- one link less
  links-without : (d : ℕ) (es : List (ℕ × Link P)) (b : ℕ) → Rises d 256 es → pairs_in_links (without es b) + pairs_at (lookup es b) ≡ pairs_in_links es
  links-without d [] b o = refl
  links-without d (e ∷ es) b o =
      elim (cases_eq e.0 b) [
        | inl same ↦ rw (eq-eqb e.0 b same) (omega arith)
        | inr other ↦
            let r = links-without (e.0 + 1) es b o.2 in
            rw (ne_eqb e.0 b other) (omega (arith, r))
      ]

  pub table-same : (t u : LinkTable P) → ((k : ℕ) → link_at u k ≡ link_at t k) → pairs_in_table u ≡ pairs_in_table t
  table-same [] [] h = refl
  table-same [] (y ∷ u) h =
      let a : pairs_in_node y ≡ 0 = ap pairs_in_node (h 0) in
      let r = table-same [] u (λ k. h (suc k)) in omega (arith, a, r)
  table-same (x ∷ t) [] h =
      let a : 0 ≡ pairs_in_node x = ap pairs_in_node (h 0) in
      let r = table-same t [] (λ k. h (suc k)) in omega (arith, a, r)
  table-same (x ∷ t) (y ∷ u) h =
      let a : pairs_in_node y ≡ pairs_in_node x = ap pairs_in_node (h 0) in
      let r = table-same t u (λ k. h (suc k)) in omega (arith, a, r)

  -- another node, or none, in one slot
  table-changed : (t u : LinkTable P) (i : ℕ) → SameSlots t u i → pairs_in_table u + pairs_in_node (link_at t i) ≡ pairs_in_table t + pairs_in_node (link_at u i)
  table-changed [] [] i h = refl
  table-changed [] (y ∷ u) zero h = let r = table-same [] u (λ k. h (suc k) (not_zero k)) in omega (arith, r)
  table-changed [] (y ∷ u) (suc i) h =
      let a : pairs_in_node y ≡ 0 = ap pairs_in_node (h 0 (zero_not i)) in
      let r = table-changed [] u i (λ k other. h (suc k) (further k i other)) in omega (arith, a, r)
  table-changed (x ∷ t) [] zero h = let r = table-same t [] (λ k. h (suc k) (not_zero k)) in omega (arith, r)
  table-changed (x ∷ t) [] (suc i) h =
      let a : 0 ≡ pairs_in_node x = ap pairs_in_node (h 0 (zero_not i)) in
      let r = table-changed t [] i (λ k other. h (suc k) (further k i other)) in omega (arith, a, r)
  table-changed (x ∷ t) (y ∷ u) zero h = let r = table-same t u (λ k. h (suc k) (not_zero k)) in omega (arith, r)
  table-changed (x ∷ t) (y ∷ u) (suc i) h =
      let a : pairs_in_node y ≡ pairs_in_node x = ap pairs_in_node (h 0 (zero_not i)) in
      let r = table-changed t u i (λ k other. h (suc k) (further k i other)) in omega (arith, a, r)

  -- WHAT A CALL DOES TO ONE SLOT
  pub pairs-exchanged : (t u : LinkTable P) (i b : ℕ) (c d : Link P) → ExchangesLink t u i b c d → pairs_in_table u + pairs_in_link c ≡ pairs_in_table t + pairs_in_link d
  pairs-exchanged t u i b c d h =
      let was : pairs_in_node (link_at t i) ≡ pairs_in_links h.node.links = ap pairs_in_node h.here in
      let is : pairs_in_node (link_at u i) ≡ pairs_in_links (put h.node.links b d) = ap pairs_in_node h.there in
      let one : pairs_at (lookup h.node.links b) ≡ pairs_in_link c = ap pairs_at h.found in
      omega (arith, was, is, one, table-changed t u i h.others, links-put 0 h.node.links b d h.ordered)

  pub pairs-put : (t u : LinkTable P) (i b : ℕ) (c : Link P) → PutsLink t u i b c → pairs_in_table u ≡ pairs_in_table t + pairs_in_link c
  pairs-put t u i b c h =
      let was : pairs_in_node (link_at t i) ≡ pairs_in_links h.node.links = ap pairs_in_node h.here in
      let is : pairs_in_node (link_at u i) ≡ pairs_in_links (put h.node.links b c) = ap pairs_in_node h.there in
      let one : pairs_at (lookup h.node.links b) ≡ 0 = ap pairs_at h.absent in
      omega (arith, was, is, one, table-changed t u i h.others, links-put 0 h.node.links b c h.ordered)

  pub pairs-taken : (t u : LinkTable P) (i b : ℕ) (c : Link P) → TakesLink t u i b c → pairs_in_table u + pairs_in_link c ≡ pairs_in_table t
  pairs-taken t u i b c h =
      let was : pairs_in_node (link_at t i) ≡ pairs_in_links h.node.links = ap pairs_in_node h.here in
      let is : pairs_in_node (link_at u i) ≡ pairs_in_links (without h.node.links b) = ap pairs_in_node h.there in
      let one : pairs_at (lookup h.node.links b) ≡ pairs_in_link c = ap pairs_at h.found in
      omega (arith, was, is, one, table-changed t u i h.others, links-without 0 h.node.links b h.ordered)

  -- payloads are no pairs
  no_pairs : (before : Option P) → pairs_at (option_map (λ v. Payload v) before) ≡ 0
  no_pairs None = refl
  no_pairs (Some v) = refl

  pub pairs-set : (t u : LinkTable P) (i b : ℕ) (v : P) (before : Option P) → SetsAt t u i b v before → pairs_in_table u ≡ pairs_in_table t
  pairs-set t u i b v before h =
      let was : pairs_in_node (link_at t i) ≡ pairs_in_links h.node.links = ap pairs_in_node h.here in
      let is : pairs_in_node (link_at u i) ≡ pairs_in_links (put h.node.links b (Payload v)) = ap pairs_in_node h.there in
      let one : pairs_at (lookup h.node.links b) ≡ 0 = ap pairs_at h.was ∙ no_pairs before in
      omega (arith, was, is, one, table-changed t u i h.others, links-put 0 h.node.links b (Payload v) h.ordered)

  pub pairs-more : (t u : LinkTable P) (i : ℕ) (n : LinkNode P) → link_at t i ≡ None → link_at u i ≡ Some n → SameSlots t u i → pairs_in_table u ≡ pairs_in_table t + pairs_in_links n.links
  pairs-more t u i n none there others =
      let was : pairs_in_node (link_at t i) ≡ 0 = ap pairs_in_node none in
      let is : pairs_in_node (link_at u i) ≡ pairs_in_links n.links = ap pairs_in_node there in
      omega (arith, was, is, table-changed t u i others)

  pub pairs-less : (t u : LinkTable P) (i : ℕ) (n : LinkNode P) → link_at t i ≡ Some n → link_at u i ≡ None → SameSlots t u i → pairs_in_table u + pairs_in_links n.links ≡ pairs_in_table t
  pairs-less t u i n here none others =
      let was : pairs_in_node (link_at t i) ≡ pairs_in_links n.links = ap pairs_in_node here in
      let is : pairs_in_node (link_at u i) ≡ 0 = ap pairs_in_node none in
      omega (arith, was, is, table-changed t u i others)

  pub pairs-same : (t u : LinkTable P) (i : ℕ) (n m : LinkNode P) → link_at t i ≡ Some n → link_at u i ≡ Some m → m.links ≡ n.links → SameSlots t u i → pairs_in_table u ≡ pairs_in_table t
  pairs-same t u i n m here there same others =
      let was : pairs_in_node (link_at t i) ≡ pairs_in_links n.links = ap pairs_in_node here in
      let is : pairs_in_node (link_at u i) ≡ pairs_in_links m.links = ap pairs_in_node there in
      let alike : pairs_in_links m.links ≡ pairs_in_links n.links = ap pairs_in_links same in
      omega (arith, was, is, alike, table-changed t u i others)

  -- two links
  pub pairs-two : (a b : ℕ) (c d : Link P) → a ≢ b → pairs_in_links (put ((a, c) ∷ []) b d) ≡ pairs_in_link c + pairs_in_link d
  pairs-two a b c d apart =
      elim (cases_order a b) [
        | inl same ↦ absurd (apart same)
        | inr (inl less) ↦ rw (lt-ltb a b less) (omega arith)
        | inr (inr more) ↦ rw (le-ltb a b (omega arith), ne_eqb a b apart) (omega arith)
      ]
