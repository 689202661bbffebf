-- A table of links after a write of one node in its slot.
use Rattle.std.proofs.Common.{◌≡◌, ◌≢◌, ℕ, zero, suc, ◌+◌, ◌<◌, List, [], ◌∷◌, length, get_or, slice_set, Option, Some, None, IsSome, IfSome, IfNone, Result, Ok, Err, IfOk, OnOk, OnErr, refl, ap, sym, ◌∙◌, arith}
use Rattle.std.proofs.lemmas.List.{get_or-set_same, get_or-set_other}
use Rattle.std.specs.Option.{option_map}
use Rattle.spec_map.specs.Map.{lookup, Rises}
use Rattle.spec_map.proofs.MapLaws.{without-absent}
use Rattle.node_base.specs.Form.{Fits}
use Rattle.tree_links.specs.LinkNode.{LinkNode, with_link, without_link}
use Rattle.tree_links.specs.SeenTable.{links_of, link_at}
use Rattle.tree_links.specs.declared.link.Link.{Link}
use Rattle.tree_links.specs.declared.link.Link.TheVariants.{Payload}
use Rattle.tree_links.specs.inner.Slots.{SameSlots, ExchangesLink, PutsLink, TakesLink, SetsAt, IsFullAt, IsAbsentAt}
use Rattle.tree_links.proofs.SeenLaws.{at_links_of}

-- a slot that has a node is within the table
pub in_range : {X : Type 0} (s : List (Option X)) (i : ℕ) (n : X) → get_or s i None ≡ Some n → i < length s
in_range [] i n h = absurd (cc)
in_range (x ∷ s) zero n h = omega arith
in_range (x ∷ s) (suc i) n h = omega (arith, in_range s i n h)

module _ {N P : Type 0} (f : N → LinkNode P) where
  pub node_there : (s : List (Option N)) (i : ℕ) (n : N) → get_or s i None ≡ Some n → link_at (links_of f s) i ≡ Some (f n)
  node_there s i n h = at_links_of f s i ∙ ap (option_map f) h

  pub none_there : (s : List (Option N)) (i : ℕ) → get_or s i None ≡ None → link_at (links_of f s) i ≡ None
  none_there s i h = at_links_of f s i ∙ ap (option_map f) h

  -- the node that a slab has is the one that is seen there
  pub same_node : (s : List (Option N)) (i : ℕ) (n : N) (m : LinkNode P) → get_or s i None ≡ Some n → link_at (links_of f s) i ≡ Some m → m ≡ f n
  same_node s i n m h there = let both : Some m ≡ Some (f n) = sym there ∙ node_there s i n h in cc

  pub value_there : (s : List (Option N)) (i : ℕ) → IsSome (link_at (links_of f s) i) → IsSome (get_or s i None)
  value_there s i h = at (get_or s i None) refl
    where
      at : (x : Option N) → get_or s i None ≡ x → IsSome (get_or s i None)
      at None e = absurd (let none = none_there s i e in let clash = rw none at h in cc)
      at (Some n) e = rw e refl

  -- there is one
  pub not_none : (s : List (Option N)) (i : ℕ) (m : LinkNode P) → get_or s i None ≡ None → link_at (links_of f s) i ≡ Some m → ⊥
  not_none s i m h there = let clash : ◌≡◌ {A = Option (LinkNode P)} None (Some m) = sym (none_there s i h) ∙ there in cc

  pub same_slots : (s t : List (Option N)) → ((o : ℕ) → get_or t o None ≡ get_or s o None) → (k : ℕ) → link_at (links_of f t) k ≡ link_at (links_of f s) k
  same_slots s t h k = at_links_of f t k ∙ ap (option_map f) (h k) ∙ sym (at_links_of f s k)

  pub same_others : (s t : List (Option N)) (i : ℕ) → ((o : ℕ) → o ≢ i → get_or t o None ≡ get_or s o None) → SameSlots (links_of f s) (links_of f t) i
  same_others s t i h k other = at_links_of f t k ∙ ap (option_map f) (h k other) ∙ sym (at_links_of f s k)

  module _ (s : List (Option N)) (i : ℕ) (n m : N) (here : get_or s i None ≡ Some n) where
    abbrev then : List (Option N)
    then = slice_set s i (Some m)

    pub set_there : link_at (links_of f then) i ≡ Some (f m)
    set_there = node_there then i m (get_or-set_same s i (Some m) None (in_range s i n here))

    pub set_others : SameSlots (links_of f s) (links_of f then) i
    set_others = same_others s then i (λ o other. get_or-set_other s i o (Some m) None other)

    pub exchanges : (b : ℕ) (before c : Link P) → Rises 0 256 (f n).links → lookup (f n).links b ≡ Some before → f m ≡ with_link (f n) b c → ExchangesLink (links_of f s) (links_of f then) i b before c
    exchanges b before c ordered found is = record { node = f n; here = node_there s i n here; ordered = ordered; found = found; there = set_there ∙ ap (λ x. Some x) is; others = set_others }

    pub puts : (b : ℕ) (c : Link P) → Rises 0 256 (f n).links → lookup (f n).links b ≡ None → f m ≡ with_link (f n) b c → PutsLink (links_of f s) (links_of f then) i b c
    puts b c ordered absent is = record { node = f n; here = node_there s i n here; ordered = ordered; absent = absent; there = set_there ∙ ap (λ x. Some x) is; others = set_others }

    pub takes : (b : ℕ) (before : Link P) → Rises 0 256 (f n).links → lookup (f n).links b ≡ Some before → f m ≡ without_link (f n) b → TakesLink (links_of f s) (links_of f then) i b before
    takes b before ordered found is = record { node = f n; here = node_there s i n here; ordered = ordered; found = found; there = set_there ∙ ap (λ x. Some x) is; others = set_others }

    -- where what it has is the same
    pub set_same : f m ≡ f n → links_of f then ≡ links_of f s
    set_same same = at s i here
      where
        at : (r : List (Option N)) (j : ℕ) → get_or r j None ≡ Some n → links_of f (slice_set r j (Some m)) ≡ links_of f r
        at [] j h = refl
        at (x ∷ r) zero h = ap (λ y. y ∷ links_of f r) (ap (λ y. Some y) same ∙ sym (ap (option_map f) h))
        at (x ∷ r) (suc j) h = ap (λ l. option_map f x ∷ l) (at r j h)

    -- where a payload of a leaf is set, or taken out
    module _ (b : ℕ) (ordered : Rises 0 256 (f n).links) where
      pub sets : (v : P) (r : Result (Option P) P) → IfOk r (λ before. lookup (f n).links b ≡ option_map (λ x. Payload x) before)
          → IfOk r (λ before. before ≡ None → Fits (f n).form (length (f n).links + 1)) → OnOk r (f m ≡ with_link (f n) b (Payload v))
          → IfOk r (λ before. SetsAt (links_of f s) (links_of f then) i b v before)
      sets v (Ok before) was room is = record { node = f n; here = node_there s i n here; ordered = ordered; was = was; room = room; there = set_there ∙ ap (λ x. Some x) is; others = set_others }
      sets v (Err back) was room is = tt

      pub is_full : (r : Result (Option P) P) → OnErr r (lookup (f n).links b ≡ None) → OnErr r (Fits (f n).form (length (f n).links + 1) → ⊥)
          → OnErr r (IsFullAt (links_of f s) i b)
      is_full (Ok before) absent full = tt
      is_full (Err back) absent full = record { node = f n; here = node_there s i n here; absent = absent; full = full }

      pub takes_out : (o : Option P) → option_map (λ x. Payload x) o ≡ lookup (f n).links b → f m ≡ without_link (f n) b
          → IfSome o (λ before. TakesLink (links_of f s) (links_of f then) i b (Payload before))
      takes_out None found is = tt
      takes_out (Some before) found is = takes b (Payload before) ordered (sym found) is

      pub is_absent : (o : Option P) → option_map (λ x. Payload x) o ≡ lookup (f n).links b → IfNone o (IsAbsentAt (links_of f s) i b)
      is_absent None found = record { node = f n; here = node_there s i n here; absent = sym found }
      is_absent (Some before) found = tt

      pub takes_none : (o : Option P) → option_map (λ x. Payload x) o ≡ lookup (f n).links b → f m ≡ without_link (f n) b
          → IfNone o (links_of f then ≡ links_of f s)
      takes_none None found is = set_same (is ∙ ap (λ es. record (f n) { links = es }) (without-absent (f n).links b (sym found)))
      takes_none (Some before) found is = tt
