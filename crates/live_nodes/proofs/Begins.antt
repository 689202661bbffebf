-- A map begins with a root word that names no root, and a seat may come at any time.
use Rattle.std.proofs.Common.{◌≡◌, ◌⊎◌, ⊎_elim, ℕ, zero, suc, ◌≤◌, List, [], ◌∷◌, ◌++◌, length, length-append, None, refl, sym, subst, inl, inr, arith}
use mathlib.Core.Option.{some, some-ne-none}
use lib.ListN.{get_elem?}
use Rattle.node_base.specs.declared.base_node.NodeType.TheVariants.{N4}
use Rattle.live_nodes.specs.Nodes.{Content, Node, node_at}
use Rattle.live_nodes.specs.Acts as acts
use Rattle.live_nodes.specs.Views.{View, view_of}
use Rattle.live_nodes.specs.Tree.{Plan, Knows, IsMap}

abbrev start : View
start = view_of [] [] []

some_same : {A : Type 0} (a b : A) → some a ≡ some b → a ≡ b
some_same a b e = cc

at_end : {A : Type 0} (l : List A) (a b : A) (j : ℕ) → get_elem? (l ++ a ∷ []) j ≡ some b → (get_elem? l j ≡ some b) ⊎ ((length l ≤ j) × (a ≡ b))
at_end [] a b zero e = inr (omega arith, some_same a b e)
at_end [] a b (suc j) e = absurd (some-ne-none b (sym e))
at_end (x ∷ l) a b zero e = inl e
at_end (x ∷ l) a b (suc j) e = ⊎_elim (λ h. inl h) (λ h. inr ((let w = h.0 in omega (arith, w)), h.1)) (at_end l a b j e)

pub admits : acts.Admits IsMap start
admits ns vs p = record {
  plan = p.plan;
  contents = p.contents;
  history = p.history;
  pairs = p.pairs;
  legal = p.legal;
  nodes = p.nodes;
  settled = p.settled;
  alive = p.alive;
  tree = p.tree;
  each_view = λ id v e. ⊎_elim
      (λ old. p.each_view id v old)
      (λ is. subst (Knows p.plan ns p.contents p.history id) is.1 record { seen = record { begins = (p.history, refl); own = p.unborn id is.0 }; met = tt; own = tt; watched = tt })
      (at_end vs start v id e);
  unborn = λ c l. p.unborn c (omega (arith, l, length-append vs (start ∷ [])));
}

-- before the first step
abbrev nodes : List Node
nodes = node_at 1 0 (0 ∷ []) None ∷ []

abbrev plan : Plan
plan = record { shape = λ _. record { key = 0; form = N4; height = 0; top = 0 }; home = λ _ _. 0 }

abbrev contents : ℕ → Content
contents _ = []

pub begins : IsMap nodes (start ∷ [])
begins = record {
  plan = plan;
  contents = contents;
  history = [];
  pairs = [];
  legal = refl;
  nodes = record {
    some_root_word = omega arith;
    root_word_long = refl;
    placed = λ k some_node low. absurd (omega (arith, some_node, low));
    long = λ k some_node low. absurd (omega (arith, some_node, low));
    apart = λ j k some_j some_k low lower. absurd (omega (arith, some_j, low));
  };
  settled = λ k some_node low free. absurd (omega (arith, some_node, low));
  alive = λ k some_node low here free. absurd (omega (arith, some_node, low));
  tree = record {
    root = inl (refl, refl);
    rooted = λ some_node. absurd (omega (arith, some_node));
    housed = λ h t some_node. absurd (omega (arith, some_node));
    upward = λ h t l some_node. absurd (omega (arith, some_node));
    skips = λ h t x l some_node low. absurd (omega (arith, some_node));
    current = λ k some_node here. absurd (let e : 0 ≡ k = here in omega (arith, some_node, e));
    absent = λ k none. refl;
  };
  each_view = λ id v e. ⊎_elim
      (λ none. absurd (some-ne-none v (sym none)))
      (λ is. subst (Knows plan nodes contents [] id) is.1 record { seen = record { begins = ([], refl); own = refl }; met = tt; own = tt; watched = tt })
      (at_end [] start v id e);
  unborn = λ c l. refl;
}
