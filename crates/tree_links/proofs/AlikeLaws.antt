-- A tree whose nodes all have other places in another table is the same tree.
use Rattle.std.proofs.Common.{◌≡◌, ℕ, zero, suc, ◌+◌, List, [], ◌∷◌, ◌++◌, length, Some, refl, ap, sym, subst, ◌∙◌, arith, length-append}
use Rattle.spec_map.specs.Map.{Rises}
use Rattle.spec_node.specs.TableNode.{TableNode, Child}
use Rattle.node_table.specs.Table.{IsSound, NodeTable, node_at, node_info, pairs_under, pairs_of, pairs_at, nodes_under, nodes_of, IsChild, AreChildren, IsTree}
use Rattle.spec_node.specs.declared.child.Child.TheVariants.{Payload, Node}
use Rattle.node_table.proofs.BeginLaws.{after}
use Rattle.node_table.proofs.NodesLaws.{below}
use Rattle.tree_links.proofs.TreeLaws.{SameIn}

module _ {P : Type 0} where
  -- a leaf has payloads alone
  abbrev pub IsPayload : Child P → Type 0
  IsPayload (Payload v) = Unit {0}
  IsPayload (Node j) = ⊥

  abbrev pub ArePayloads : List (ℕ × Child P) → Type 0
  ArePayloads [] = Unit {0}
  ArePayloads (e ∷ es) = IsPayload e.1 × ArePayloads es

  no_deeper : (s : NodeTable P) (levels b j : ℕ) (p : List ℕ) → length p ≡ 7 → IsTree s levels (p ++ b ∷ []) j → ⊥
  no_deeper s zero b j p seven h = h
  no_deeper s (suc levels) b j p seven h =
      let k = simp (length-append, length-append) at (ap length (after h.begins).is) in
      omega (arith, h.sound.short)

  pub are_payloads : (s : NodeTable P) (levels : ℕ) (p : List ℕ) (es : List (ℕ × Child P)) → length p ≡ 7 → AreChildren (λ r j. IsTree s levels r j) p es → ArePayloads es
  are_payloads s levels p [] seven h = tt
  are_payloads s levels p ((b, Payload v) ∷ es) seven h = (tt, are_payloads s levels p es seven h.1)
  are_payloads s levels p ((b, Node j) ∷ es) seven h = absurd (no_deeper s levels b j p seven h.0)

module _ {P : Type 0} (R : ℕ → ℕ → Type 0) where
  -- the same payload, or a node in the place that goes with the other
  abbrev pub AlikeChild : Child P → Child P → Type 0
  AlikeChild (Payload v) y = y ≡ Payload v
  AlikeChild (Node j) y = (k : ℕ) × (y ≡ Node k) × R j k

  pub record AlikeFirst (Rest : List (ℕ × Child P) → Type 0) (b : ℕ) (x : Child P) (fs : List (ℕ × Child P)) : Type 0 where
    pub child : Child P
    pub others : List (ℕ × Child P)
    pub is : fs ≡ (b, child) ∷ others
    pub alike : AlikeChild x child
    pub rest : Rest others

  abbrev pub AreAlike : List (ℕ × Child P) → List (ℕ × Child P) → Type 0
  AreAlike [] fs = fs ≡ []
  AreAlike (e ∷ es) fs = AlikeFirst (λ gs. AreAlike es gs) e.0 e.1 fs

  -- a node with such children
  pub record HasAlike (t : NodeTable P) (k : ℕ) (n : TableNode P) : Type 0 where
    pub children : List (ℕ × Child P)
    pub here : node_at t k ≡ Some (record n { children = children })
    pub alike : AreAlike n.children children

  rises_alike : (d : ℕ) (es fs : List (ℕ × Child P)) → Rises d 256 es → AreAlike es fs → Rises d 256 fs
  rises_alike d [] fs o a = rw a tt
  rises_alike d (e ∷ es) fs o a = subst (λ gs. Rises d 256 gs) (sym a.is) (o.0, o.1, rises_alike (e.0 + 1) es a.others o.2 a.rest)

  length_alike : (es fs : List (ℕ × Child P)) → AreAlike es fs → length fs ≡ length es
  length_alike [] fs a = ap length a
  length_alike (e ∷ es) fs a = ap length a.is ∙ ap suc (length_alike es a.others a.rest)

  module _ (s t : NodeTable P) where
    -- all children at once
    record SameUnder (levels : ℕ) (p : List ℕ) (es fs : List (ℕ × Child P)) : Type 0 where
      trees : AreChildren (λ r j. IsTree t levels r j) p fs
      pairs : pairs_of (λ j. pairs_at t levels j) p fs ≡ pairs_of (λ j. pairs_at s levels j) p es
      nodes : nodes_of (below t levels) p fs ≡ nodes_of (below s levels) p es

    same_first : (levels b : ℕ) (p : List ℕ) (x y : Child P) (es fs : List (ℕ × Child P)) → IsChild (λ r j. IsTree t levels r j) p b y
        → pairs_under (λ j. pairs_at t levels j) p b y ≡ pairs_under (λ j. pairs_at s levels j) p b x
        → nodes_under (below t levels) p b y ≡ nodes_under (below s levels) p b x
        → SameUnder levels p es fs → SameUnder levels p ((b, x) ∷ es) ((b, y) ∷ fs)
    same_first levels b p x y es fs child pairs nodes r = record {
      trees = (child, r.trees);
      pairs = ap (λ z. z ++ pairs_of (λ j. pairs_at t levels j) p fs) pairs ∙ ap (λ z. pairs_under (λ j. pairs_at s levels j) p b x ++ z) r.pairs;
      nodes = ap (λ z. z ++ nodes_of (below t levels) p fs) nodes ∙ ap (λ z. nodes_under (below s levels) p b x ++ z) r.nodes;
    }

    module _ (levels : ℕ) (same : (q : List ℕ) (j k : ℕ) → R j k → IsTree s levels q j → SameIn s t levels q j k) where
      same_under : (p : List ℕ) (es fs : List (ℕ × Child P)) → AreChildren (λ r j. IsTree s levels r j) p es → AreAlike es fs → SameUnder levels p es fs
      same_under p [] fs h a = subst (λ gs. SameUnder levels p [] gs) (sym a) (record { trees = tt; pairs = refl; nodes = refl })
      same_under p ((b, Payload v) ∷ es) fs h a =
          subst (λ gs. SameUnder levels p ((b, Payload v) ∷ es) gs) (sym (a.is ∙ ap (λ y. (b, y) ∷ a.others) a.alike))
          (same_first levels b p (Payload v) (Payload v) es a.others h.0 refl refl (same_under p es a.others h.1 a.rest))
      same_under p ((b, Node j) ∷ es) fs h a =
          let k = a.alike.0 in
          let x = same (p ++ b ∷ []) j k a.alike.2 h.0 in
          subst (λ gs. SameUnder levels p ((b, Node j) ∷ es) gs) (sym (a.is ∙ ap (λ y. (b, y) ∷ a.others) a.alike.1))
          (same_first levels b p (Node j) (Node k) es a.others x.tree x.pairs x.nodes (same_under p es a.others h.1 a.rest))

    -- THE WHOLE SUBTREE, where each node has one like it in the place that goes with its own
    module _ (each : (j k : ℕ) (n : TableNode P) → R j k → node_at s j ≡ Some n → IsSound n → (length n.prefix ≡ 7 → ArePayloads n.children) → HasAlike t k n) where
      pub alike_tree : (levels : ℕ) (q : List ℕ) (j k : ℕ) → R j k → IsTree s levels q j → SameIn s t levels q j k
      alike_tree zero q j k r h = absurd h
      alike_tree (suc levels) q j k r h =
          let n = h.node in
          let a = each j k n r h.here h.sound (λ seven. are_payloads s levels n.prefix n.children seven h.children) in
          let m : TableNode P = record n { children = a.children } in
          let u = same_under levels (λ q j k r h. alike_tree levels q j k r h) n.prefix n.children a.children h.children a.alike in
          let info : node_info q m ≡ node_info q n = ap (λ c. record { edge = q; prefix = n.prefix; form = n.form; count = c }) (length_alike n.children a.children a.alike) in
          record {
            tree = record {
              node = m;
              here = a.here;
              begins = h.begins;
              sound = record { ordered = rises_alike 0 n.children a.children h.sound.ordered a.alike; bytes = h.sound.bytes; short = h.sound.short };
              children = u.trees;
            };
            pairs = rw (a.here, h.here) u.pairs;
            nodes = rw (a.here, h.here) (ap (λ z. z ∷ nodes_of (below t levels) n.prefix a.children) info ∙ ap (λ z. node_info q n ∷ z) u.nodes);
          }
