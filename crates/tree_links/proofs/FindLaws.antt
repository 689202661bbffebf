-- What a look-up finds where its descent ends, and how many nodes it has read.
use Rattle.std.proofs.Common.{◌≡◌, ℕ, ◌+◌, ◌<◌, ◌≤◌, List, [], ◌∷◌, ◌++◌, length, take, drop, get_or, Option, Some, None, refl, ap, sym, ◌∙◌, arith, inl, inr}
use Rattle.std.proofs.lemmas.Bool.{eq-eqb, ne_eqb, cases_eq}
use Rattle.std.proofs.lemmas.List.{length-take, take-append-drop}
use Rattle.std.specs.Option.{option_map}
use Rattle.spec_map.specs.Map.{lookup}
use Rattle.spec_node.specs.Key.{AreBytes, Begins, key_number, next_byte}
use Rattle.spec_node.specs.TableNode.{TableNode}
use Rattle.node_table.specs.Table.{NodeTable, node_at, pairs_at, nodes_at}
use Rattle.node_table.proofs.BeginLaws.{begins_by}
use Rattle.node_table.proofs.KeyLaws.{goes_on}
use Rattle.node_table.proofs.TableLaws.{open_subtree}
use Rattle.tree_path.specs.Path.{on_path}
use Rattle.tree_path.specs.inner.Descent.{Halts, LeadsTo, SeeksTo}
use Rattle.tree_path.specs.inner.Root.{depth}
use Rattle.tree_path.specs.declared.descent.Stop.{Stop}
use Rattle.tree_path.specs.declared.descent.Stop.TheVariants as stops
use Rattle.tree_path.specs.declared.descent.PathEnd.{PathEnd}
use Rattle.tree_path.proofs.PathEndLaws.{leads_step, leaf_has, leaf_lacks, none_above, ended, leaf_at}
use Rattle.tree_path.proofs.PathLaws.{path_length, path_short}
use Rattle.tree_links.specs.LinkNode.{LinkNode}
use Rattle.tree_links.specs.SeenTable.{LinkTable, bytes, name_of, name_under, key_under, link_at, leaf_of, seen_link, seen_node, seen_table}
use Rattle.tree_links.specs.declared.link.Link.{Link}
use Rattle.tree_links.specs.declared.link.Link.TheVariants.{Payload, Slot, Pair}
use Rattle.tree_links.proofs.KeyLaws.{key_long, whole_key, rest_of, eight, begins_seven, begin_or_differ}
use Rattle.tree_links.proofs.SeenLaws.{at_slot, lookup-seen, leaf_under}

module _ {P : Type 0} (t : LinkTable P) (root : ℕ) (key : List ℕ) (all_bytes : AreBytes key) (full : length key ≡ 8) where
  abbrev s : NodeTable P
  s = seen_table t

  -- the value at the key, and the nodes on its path
  pub record Finds (x : Option P) (above : ℕ) : Type 0 where
    pub value : lookup (pairs_at s depth (name_of root)) (key_number key) ≡ x
    pub reads : on_path (nodes_at s depth [] (name_of root)) key ≡ above + 1
    pub few : on_path (nodes_at s depth [] (name_of root)) key ≤ 8

  finds : (spot : PathEnd) → SeeksTo s (name_of root) key spot → (x : Option P) → lookup (pairs_at s depth (name_of root)) (key_number key) ≡ x → Finds x spot.above
  finds spot w x is =
      let e = (ended s (name_of root) key spot w).ends in
      record { value = is; reads = path_length s (name_of root) key all_bytes full _ e; few = path_short s (name_of root) key all_bytes full _ e }

  abbrev spot_of : ℕ → ℕ → ℕ → Stop → PathEnd
  spot_of slot parent above stop = record { slot = slot; parent = parent; above = above; stop = stop }

  pub ends : (above slot parent : ℕ) (n : TableNode P) (stop : Stop) → LeadsTo s (name_of root) key above slot parent → node_at s slot ≡ Some n → Halts key n stop → SeeksTo s (name_of root) key (spot_of slot parent above stop)
  ends above slot parent n stop leads here halts = record { leads = leads; node = n; here = here; stop = halts }

  module _ (above parent i : ℕ) (n : LinkNode P) (leads : LeadsTo s (name_of root) key above (name_of i) parent) (at : link_at t i ≡ Some n) where
    pub there : node_at s (name_of i) ≡ Some (seen_node i n)
    there = at_slot t i n at

    pub short : length n.prefix ≤ 7
    short =
        let o = open_subtree s leads.levels (name_of i) (seen_node i n) (record { above = leads.q; tree = leads.tree }) (sym there) in
        o.sound.short

    pub seen_at : (c : Option (Link P)) → lookup n.links (next_byte n.prefix key) ≡ c → lookup (seen_node i n).children (next_byte n.prefix key) ≡ option_map (λ d. seen_link i (next_byte n.prefix key) d) c
    seen_at c found = lookup-seen i n.links (next_byte n.prefix key) ∙ ap (option_map (λ d. seen_link i (next_byte n.prefix key) d)) found

    pub find_down : (j : ℕ) → Begins n.prefix key → lookup n.links (next_byte n.prefix key) ≡ Some (Slot j) → LeadsTo s (name_of root) key (above + 1) (name_of j) (name_of i)
    find_down j begins found = leads_step s (name_of root) key above (name_of i) parent (seen_node i n) leads there begins all_bytes full (name_of j) (seen_at (Some (Slot j)) found)

    pub find_other : (Begins n.prefix key → ⊥) → Finds None above
    find_other differ =
        elim (begin_or_differ n.prefix key (omega (arith, short, full))) [
          | inl begins ↦ absurd (differ begins)
          | inr far ↦
              let w = ends above (name_of i) parent (seen_node i n) (stops.Differs far.0) leads there far.1 in
              finds (spot_of (name_of i) parent above (stops.Differs far.0)) w None (none_above s (name_of root) key all_bytes full _ w (λ b e. absurd (cc)))
        ]

    pub find_nothing : Begins n.prefix key → length n.prefix < 7 → lookup n.links (next_byte n.prefix key) ≡ None → Finds None above
    find_nothing begins inner none =
        let w = ends above (name_of i) parent (seen_node i n) (stops.Absent (next_byte n.prefix key)) leads there (refl, begins, seen_at None none, inner) in
        finds (spot_of (name_of i) parent above (stops.Absent (next_byte n.prefix key))) w None (none_above s (name_of root) key all_bytes full _ w (λ b e. absurd (cc)))

    module _ (begins : Begins n.prefix key) (seven : length n.prefix ≡ 7) where
      -- the key's last byte
      abbrev last : ℕ
      last = get_or key 7 0

      last_is : last ≡ next_byte n.prefix key
      last_is = ap (λ k. get_or key k 0) (sym seven)

      at_leaf : SeeksTo s (name_of root) key (spot_of (name_of i) parent above (stops.Leaf last))
      at_leaf = ends above (name_of i) parent (seen_node i n) (stops.Leaf last) leads there (last_is, begins, seven)

      seen_last : (c : Option (Link P)) → lookup n.links last ≡ c → lookup (seen_node i n).children last ≡ option_map (λ d. seen_link i last d) c
      seen_last c found = lookup-seen i n.links last ∙ ap (option_map (λ d. seen_link i last d)) found

      pub find_absent : lookup n.links last ≡ None → Finds None above
      find_absent none = finds _ at_leaf None (leaf_lacks s (name_of root) key all_bytes full _ at_leaf (seen_node i n) there last refl (seen_last None none))

      pub find_payload : (v : P) → lookup n.links last ≡ Some (Payload v) → Finds (Some v) above
      find_payload v found = finds _ at_leaf (Some v) (leaf_has s (name_of root) key all_bytes full _ at_leaf (seen_node i n) there last refl v (seen_last (Some (Payload v)) found))

      -- a leaf has no nodes below it
      pub no_slot : (j : ℕ) → lookup n.links last ≡ Some (Slot j) → ⊥
      no_slot j found = (leaf_at s (name_of root) key _ at_leaf (seen_node i n) there last refl).none (name_of j) (seen_last (Some (Slot j)) found)

      pub no_pair_there : (rest : List ℕ) (v : P) → lookup n.links last ≡ Some (Pair rest v) → ⊥
      no_pair_there rest v found = (leaf_at s (name_of root) key _ at_leaf (seen_node i n) there last refl).none (name_under i last) (seen_last (Some (Pair rest v)) found)

    module _ (rest : List ℕ) (v : P) (begins : Begins n.prefix key) (inner : length n.prefix < 7) (found : lookup n.links (next_byte n.prefix key) ≡ Some (Pair rest v)) (long : length rest ≡ 7) where
      abbrev b : ℕ
      b = next_byte n.prefix key

      abbrev other_key : List ℕ
      other_key = key_under n.prefix b rest

      pub inside : b < bytes
      unfolding bytes
      inside = let on = goes_on n.prefix key begins all_bytes (omega (arith, inner)) full in on.byte

      pub below : LeadsTo s (name_of root) key (above + 1) (name_under i b) (name_of i)
      below = leads_step s (name_of root) key above (name_of i) parent (seen_node i n) leads there begins all_bytes full (name_under i b) (seen_at (Some (Pair rest v)) found)

      pub leaf_there : node_at s (name_under i b) ≡ Some (leaf_of other_key v)
      leaf_there = leaf_under t i b n rest v inside at found

      pub long_key : length other_key ≡ 8
      long_key = key_long n.prefix b rest long

      pub seven_bytes : length (take 7 other_key) ≡ 7
      seven_bytes = length-take 7 other_key ∙ omega (arith, long_key)

      pub at_pair : Begins (take 7 other_key) key → SeeksTo s (name_of root) key (spot_of (name_under i b) (name_of i) (above + 1) (stops.Leaf (get_or key 7 0)))
      at_pair goes = ends (above + 1) (name_under i b) (name_of i) (leaf_of other_key v) (stops.Leaf (get_or key 7 0)) below leaf_there (ap (λ k. get_or key k 0) (sym seven_bytes), goes, seven_bytes)

      pub find_pair : rest ≡ drop 1 key → Finds (Some v) (above + 1)
      find_pair same =
          let on = goes_on n.prefix key begins all_bytes (omega (arith, inner)) full in
          let is : other_key ≡ key = ap (λ r. key_under n.prefix b r) same ∙ whole_key n.prefix b key on.begins in
          let goes : Begins (take 7 other_key) key = begins_by (take 7 other_key) (drop 7 other_key) key (sym is ∙ sym (take-append-drop 7 other_key)) in
          let last : get_or other_key 7 0 ≡ get_or key 7 0 = ap (λ k. get_or k 7 0) is in
          finds _ (at_pair goes) (Some v) (leaf_has s (name_of root) key all_bytes full _ (at_pair goes) (leaf_of other_key v) leaf_there (get_or key 7 0) refl v (rw (eq-eqb (get_or other_key 7 0) (get_or key 7 0) last) refl))

      pub find_no_pair : (rest ≡ drop 1 key → ⊥) → Finds None (above + 1)
      find_no_pair differ =
          elim (begin_or_differ (take 7 other_key) key (omega (arith, seven_bytes, full))) [
            | inl goes ↦ elim (cases_eq (get_or other_key 7 0) (get_or key 7 0)) [
              | inl last ↦ absurd (
                  let first : take 7 other_key ≡ take 7 key = begins_seven (take 7 other_key) key goes seven_bytes in
                  let is : other_key ≡ key = eight other_key long_key ∙ ap (λ x. x ++ get_or other_key 7 0 ∷ []) first ∙ ap (λ x. take 7 key ++ x ∷ []) last ∙ sym (eight key full) in
                  differ (sym (rest_of n.prefix b rest) ∙ ap (drop 1) is))
              | inr other ↦ finds _ (at_pair goes) None (leaf_lacks s (name_of root) key all_bytes full _ (at_pair goes) (leaf_of other_key v) leaf_there (get_or key 7 0) refl (rw (ne_eqb (get_or other_key 7 0) (get_or key 7 0) other) refl))
            ]
            | inr far ↦
                let w = ends (above + 1) (name_under i b) (name_of i) (leaf_of other_key v) (stops.Differs far.0) below leaf_there far.1 in
                finds (spot_of (name_under i b) (name_of i) (above + 1) (stops.Differs far.0)) w None (none_above s (name_of root) key all_bytes full _ w (λ c e. absurd (cc)))
          ]
