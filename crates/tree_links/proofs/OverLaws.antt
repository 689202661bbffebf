-- Loops that take all nodes over into another table, and give their links new slots.
use Rattle.std.proofs.Common.{◌≡◌, ◌≢◌, ℕ, ◌+◌, ◌<◌, ◌≤◌, List, [], ◌∷◌, ◌++◌, length, get_or, slice_set, Option, Some, None, Result, Ok, Err, OnOk, OnErr, refl, ap, sym, subst, ◌∙◌, arith, inl, inr}
use Rattle.std.proofs.lemmas.Bool.{cases_eq, cases_lt}
use Rattle.std.proofs.lemmas.List.{get_or_append_left, get_or-append-add, get_or_past}
use Rattle.std.specs.Option.{option_map}
use Rattle.spec_map.specs.Map.{lookup, between, Rises}
use Rattle.spec_map.proofs.MapLaws.{lookup-first, lookup-next, lookup-put_same, lookup-put_other, lookup-between_inside, lookup-between_outside, same_from_lookups}
use Rattle.spec_map.proofs.JoinLaws.{lookup-above}
use Rattle.node_table.specs.inner.Kinds.{mapped}
use Rattle.node_table.proofs.KindLaws.{lookup-mapped, Rises-mapped}
use Rattle.tree_links.specs.LinkNode.{LinkNode, looked_at, with_link}
use Rattle.tree_links.specs.SeenTable.{LinkTable, links_of, link_at}
use Rattle.tree_links.specs.declared.link.Link.{Link}
use Rattle.tree_links.specs.declared.link.Link.TheVariants.{Slot}
use Rattle.tree_links.specs.declared.link.LinkRef.{LinkRef}
use Rattle.tree_links.specs.declared.link.LinkRef.TheVariants as borrowed
use Rattle.tree_links.specs.inner.Compact.{GoesOver, GoesAllOver, redirected, Redirects, RedirectsIn, RedirectsEach}
use Rattle.tree_links.specs.inner.Pairs.{pairs_in_table}
use Rattle.tree_links.specs.inner.Slots.{SameSlots}
use Rattle.tree_links.proofs.PairSums.{table-same, pairs-more, pairs-less}
use Rattle.tree_links.proofs.SlotLaws.{node_there, none_there, same_node, same_others, set_there}

-- nothing is past the end
pub past_end : {N P : Type 0} (f : N → LinkNode P) (s : List (Option N)) (k : ℕ) → length s ≤ k → link_at (links_of f s) k ≡ None
past_end f s k far = none_there f s k (get_or_past s k None far)

module _ {N P : Type 0} (f : N → LinkNode P) (s v r w : List (Option N)) (i j : ℕ) (n : N)
    (was : get_or s i None ≡ Some n) (gone : get_or v i None ≡ None) (others : (o : ℕ) → o ≢ i → get_or v o None ≡ get_or s o None)
    (fresh : get_or r j None ≡ None) (there : get_or w j None ≡ Some n) (more : (o : ℕ) → o ≢ j → get_or w o None ≡ get_or r o None) where
  pub goes_over : GoesOver (links_of f s) (links_of f v) (links_of f r) (links_of f w) i j
  goes_over = record {
    gone = none_there f v i gone;
    others = same_others f s v i others;
    keeps = keeps;
    there = λ m here. node_there f w j n there ∙ ap (λ x. Some x) (sym (same_node f s i n m was here));
  }
    where
      keeps : (k : ℕ) (m : LinkNode P) → link_at (links_of f r) k ≡ Some m → link_at (links_of f w) k ≡ Some m
      keeps k m here =
          elim (cases_eq k j) [
            | inl same ↦ absurd (let clash : ◌≡◌ {A = Option (LinkNode P)} None (Some m) = sym (none_there f r j fresh) ∙ ap (λ x. link_at (links_of f r) x) (sym same) ∙ here in cc)
            | inr other ↦ same_others f r w j more k other ∙ here
          ]

  pub pairs-over : pairs_in_table (links_of f v) + pairs_in_table (links_of f w) ≡ pairs_in_table (links_of f s) + pairs_in_table (links_of f r)
  pairs-over =
      let less = pairs-less (links_of f s) (links_of f v) i (f n) (node_there f s i n was) (none_there f v i gone) (same_others f s v i others) in
      let plus = pairs-more (links_of f r) (links_of f w) j (f n) (none_there f r j fresh) (node_there f w j n there) (same_others f r w j more) in
      omega (arith, less, plus)

module _ {P : Type 0} where
  -- ALL NODES: those of the first slots of t are in w, and v has the others
  pub record TakesOver (t v w : LinkTable P) (slots : List ℕ) (i : ℕ) : Type 0 where
    pub left : (k : ℕ) → i ≤ k → link_at v k ≡ link_at t k
    pub gone : (k : ℕ) → k < i → link_at v k ≡ None
    pub over : (k : ℕ) (n : LinkNode P) → k < i → link_at t k ≡ Some n → link_at w (get_or slots k 0) ≡ Some n
    pub pairs : pairs_in_table v + pairs_in_table w ≡ pairs_in_table t

  pub over-none : (t w : LinkTable P) → pairs_in_table w ≡ 0 → TakesOver t t w [] 0
  over-none t w none = record {
    left = λ k l. refl;
    gone = λ k l. absurd (omega arith);
    over = λ k n l h. absurd (omega arith);
    pairs = omega (arith, none);
  }

  pub over-more : (t v w x y : LinkTable P) (slots : List ℕ) (i j : ℕ) → length slots ≡ i → TakesOver t v w slots i → GoesOver v x w y i j
      → pairs_in_table x + pairs_in_table y ≡ pairs_in_table v + pairs_in_table w → TakesOver t x y (slots ++ j ∷ []) (i + 1)
  over-more t v w x y slots i j long h g pairs = record {
    left = λ k l. g.others k (omega (arith, l)) ∙ h.left k (omega (arith, l));
    gone = λ k l. elim (cases_eq k i) [
      | inl same ↦ ap (λ z. link_at x z) same ∙ g.gone
      | inr other ↦ g.others k other ∙ h.gone k (omega (arith, l, other))
    ];
    over = λ k n l here. elim (cases_eq k i) [
      | inl same ↦
          let at_end : get_or (slots ++ j ∷ []) k 0 ≡ j = ap (λ z. get_or (slots ++ j ∷ []) z 0) (omega (arith, long, same)) ∙ get_or-append-add slots (j ∷ []) 0 0 in
          ap (λ z. link_at y z) at_end ∙ g.there n (ap (λ z. link_at v z) (sym same) ∙ h.left k (omega (arith, same)) ∙ here)
      | inr other ↦
          let inside : k < length slots = omega (arith, l, other, long) in
          ap (λ z. link_at y z) (get_or_append_left slots (j ∷ []) 0 k inside) ∙ g.keeps (get_or slots k 0) n (h.over k n (omega (arith, l, other)) here)
    ];
    pairs = omega (arith, h.pairs, pairs);
  }

  module _ (t v w : LinkTable P) (slots : List ℕ) (i : ℕ) (h : TakesOver t v w slots i) (end : (k : ℕ) → i ≤ k → link_at t k ≡ None) where
    pub over-all : GoesAllOver slots t w
    over-all k n here =
        elim (cases_lt k i) [
          | inl less ↦ h.over k n less here
          | inr more ↦ absurd (let clash : ◌≡◌ {A = Option (LinkNode P)} None (Some n) = sym (end k (omega (arith, more))) ∙ here in cc)
        ]

    pub over-pairs : pairs_in_table w ≡ pairs_in_table t
    over-pairs =
        let nothing : (k : ℕ) → link_at v k ≡ None = λ k. elim (cases_lt k i) [
          | inl less ↦ h.gone k less
          | inr more ↦ h.left k (omega (arith, more)) ∙ end k (omega (arith, more))
        ] in
        let none = table-same [] v nothing in
        omega (arith, h.pairs, none)

module _ {P : Type 0} (slots : List ℕ) where
  -- ONE NODE: its links below a byte have the new slots
  pub record Redirected (n m : LinkNode P) (from : ℕ) : Type 0 where
    pub form : m.form ≡ n.form
    pub prefix : m.prefix ≡ n.prefix
    pub before : (k : ℕ) → k < from → lookup m.links k ≡ option_map (redirected slots) (lookup n.links k)
    pub after : (k : ℕ) → from ≤ k → lookup m.links k ≡ lookup n.links k

  pub redirected-none : (n : LinkNode P) → Redirected n n 0
  redirected-none n = record { form = refl; prefix = refl; before = λ k l. absurd (omega arith); after = λ k l. refl }

  -- the first link from a byte on
  module _ (es : List (ℕ × Link P)) (from b : ℕ) (c : Link P) (less : from ≤ b) (next : between es from 256 ≡ (b, c) ∷ between es (b + 1) 256) where
    inside : b < 256
    inside =
        elim (cases_lt b 256) [
          | inl low ↦ low
          | inr high ↦ absurd (
              let clash : ◌≡◌ {A = Option (Link P)} None (Some c) = sym (lookup-between_outside es from 256 b (inr (omega (arith, high)))) ∙ ap (λ x. lookup x b) next ∙ lookup-first (b, c) (between es (b + 1) 256) in cc)
        ]

    first_at : lookup es b ≡ Some c
    first_at = sym (lookup-between_inside es from 256 b less inside) ∙ ap (λ x. lookup x b) next ∙ lookup-first (b, c) (between es (b + 1) 256)

    none_before : (k : ℕ) → from ≤ k → k < b → lookup es k ≡ None
    none_before k l m =
        sym (lookup-between_inside es from 256 k l (omega (arith, m, inside))) ∙ ap (λ x. lookup x k) next
        ∙ lookup-next (b, c) (between es (b + 1) 256) k (omega (arith, m))
        ∙ lookup-between_outside es (b + 1) 256 k (inl (omega (arith, m)))

  module _ (n m : LinkNode P) (from b : ℕ) (c : Link P) (h : Redirected n m from) (less : from ≤ b) (next : between m.links from 256 ≡ (b, c) ∷ between m.links (b + 1) 256) where
    -- what is before that byte
    passed : (k : ℕ) → k < b → lookup m.links k ≡ option_map (redirected slots) (lookup n.links k)
    passed k l =
        elim (cases_lt k from) [
          | inl low ↦ h.before k low
          | inr high ↦
              let none = none_before m.links from b c less next k (omega (arith, high)) l in
              none ∙ ap (option_map (redirected slots)) (sym (sym (h.after k (omega (arith, high))) ∙ none))
        ]

    found : lookup n.links b ≡ Some c
    found = sym (h.after b less) ∙ first_at m.links from b c less next

    -- a link that isn't to a slot
    pub redirected-passes : redirected slots c ≡ c → Redirected n m (b + 1)
    redirected-passes same = record {
      form = h.form;
      prefix = h.prefix;
      before = λ k l. elim (cases_eq k b) [
        | inl is ↦
            ap (lookup m.links) is ∙ first_at m.links from b c less next ∙ ap (λ x. Some x) (sym same)
            ∙ ap (option_map (redirected slots)) (sym found) ∙ ap (λ z. option_map (redirected slots) (lookup n.links z)) (sym is)
        | inr other ↦ passed k (omega (arith, l, other))
      ];
      after = λ k l. h.after k (omega (arith, l, less));
    }

    -- one that is
    redirected-exchanged : (o : LinkNode P) (r : Result (Link P) (Link P)) → OnOk r (o ≡ with_link m b (redirected slots c)) → OnErr r (lookup m.links b ≡ None) → Redirected n o (b + 1)
    redirected-exchanged o (Err x) ok err =
        absurd (let clash : ◌≡◌ {A = Option (Link P)} None (Some c) = sym err ∙ first_at m.links from b c less next in cc)
    redirected-exchanged o (Ok x) ok err = record {
      form = ap (λ (y : LinkNode P). y.form) ok ∙ h.form;
      prefix = ap (λ (y : LinkNode P). y.prefix) ok ∙ h.prefix;
      before = λ k l. ap (λ (y : LinkNode P). lookup y.links k) ok ∙ elim (cases_eq k b) [
        | inl is ↦
            ap (lookup (with_link m b (redirected slots c)).links) is ∙ lookup-put_same m.links b (redirected slots c)
            ∙ ap (option_map (redirected slots)) (sym found) ∙ ap (λ z. option_map (redirected slots) (lookup n.links z)) (sym is)
        | inr other ↦ lookup-put_other m.links b (redirected slots c) k other ∙ passed k (omega (arith, l, other))
      ];
      after = λ k l. ap (λ (y : LinkNode P). lookup y.links k) ok ∙ lookup-put_other m.links b (redirected slots c) k (omega (arith, l)) ∙ h.after k (omega (arith, l, less));
    }

  -- all its links
  pub redirected-all : (n m : LinkNode P) (from : ℕ) → Redirected n m from → between m.links from 256 ≡ [] → Rises 0 256 n.links → Rises 0 256 m.links → length n.prefix < 7 → Redirects slots n m
  redirected-all n m from h none rises rises' inner = inr (inner, whole)
    where
      past : (k : ℕ) → from ≤ k → lookup m.links k ≡ None
      past k l =
          elim (cases_lt k 256) [
            | inl less ↦ sym (lookup-between_inside m.links from 256 k l less) ∙ ap (λ x. lookup x k) none
            | inr more ↦ lookup-above 0 256 m.links k rises' (omega (arith, more))
          ]

      each : (k : ℕ) → lookup m.links k ≡ lookup (mapped (redirected slots) n.links) k
      each k =
          elim (cases_lt k from) [
            | inl low ↦ h.before k low ∙ sym (lookup-mapped (redirected slots) n.links k (lookup n.links k) refl)
            | inr high ↦
                let there = past k (omega (arith, high)) in
                there ∙ sym (lookup-mapped (redirected slots) n.links k None (sym (h.after k (omega (arith, high))) ∙ there))
          ]

      links : m.links ≡ mapped (redirected slots) n.links
      links = same_from_lookups 0 256 0 256 m.links (mapped (redirected slots) n.links) rises' (Rises-mapped (redirected slots) 0 256 n.links rises) each

      whole : m ≡ record n { links = mapped (redirected slots) n.links }
      whole =
          ap (λ x. record { form = x; prefix = m.prefix; links = m.links }) h.form
          ∙ ap (λ x. record { form = n.form; prefix = x; links = m.links }) h.prefix
          ∙ ap (λ x. record { form = n.form; prefix = n.prefix; links = x }) links

  -- EACH NODE of a table, up to a slot
  pub record RedirectsBelow (t u : LinkTable P) (i : ℕ) : Type 0 where
    pub before : (k : ℕ) → k < i → RedirectsIn slots (link_at t k) (link_at u k)
    pub after : (k : ℕ) → i ≤ k → link_at u k ≡ link_at t k

  pub redirects-none : (t : LinkTable P) → RedirectsBelow t t 0
  redirects-none t = record { before = λ k l. absurd (omega arith); after = λ k l. refl }

  pub redirects-more : (t u v : LinkTable P) (i : ℕ) → RedirectsBelow t u i → RedirectsIn slots (link_at u i) (link_at v i) → SameSlots u v i → RedirectsBelow t v (i + 1)
  redirects-more t u v i h r others = record {
    before = λ k l. elim (cases_eq k i) [
      | inl is ↦
          let was : link_at u i ≡ link_at t k = ap (λ z. link_at u z) (sym is) ∙ h.after k (omega (arith, is)) in
          subst (λ x. RedirectsIn slots x (link_at v k)) was (subst (λ z. RedirectsIn slots (link_at u i) (link_at v z)) (sym is) r)
      | inr other ↦ subst (λ x. RedirectsIn slots (link_at t k) x) (sym (others k other)) (h.before k (omega (arith, l, other)))
    ];
    after = λ k l. others k (omega (arith, l)) ∙ h.after k (omega (arith, l));
  }

  pub redirects-all : (t u : LinkTable P) (i : ℕ) → RedirectsBelow t u i → ((k : ℕ) → i ≤ k → link_at t k ≡ None) → RedirectsEach slots t u
  redirects-all t u i h end k =
      elim (cases_lt k i) [
        | inl less ↦ h.before k less
        | inr more ↦
            let none = end k (omega (arith, more)) in
            subst (λ x. RedirectsIn slots x (link_at u k)) (sym none) (h.after k (omega (arith, more)) ∙ none)
      ]

  -- the node in a slot of a slab, and where there is none
  pub redirected_there : {N : Type 0} (f : N → LinkNode P) (s : List (Option N)) (i : ℕ) (n m : N) → get_or s i None ≡ Some n → Redirects slots (f n) (f m) → RedirectsIn slots (link_at (links_of f s) i) (link_at (links_of f (slice_set s i (Some m))) i)
  redirected_there f s i n m here r = subst (λ x. RedirectsIn slots x (link_at (links_of f (slice_set s i (Some m))) i)) (sym (node_there f s i n here)) (f m, set_there f s i n m here, r)

  pub redirected_nowhere : {N : Type 0} (f : N → LinkNode P) (s : List (Option N)) (i : ℕ) → get_or s i None ≡ None → RedirectsIn slots (link_at (links_of f s) i) (link_at (links_of f s) i)
  redirected_nowhere f s i none = subst (λ x. RedirectsIn slots x x) (sym (none_there f s i none)) refl

  -- a link that is looked at, and isn't to a slot
  pub stays_link : (x : LinkRef P) → ((j : ℕ) → x ≡ borrowed.Slot j → ⊥) → redirected slots (looked_at x) ≡ looked_at x
  stays_link (borrowed.Payload v) other = refl
  stays_link (borrowed.Slot j) other = absurd (other j refl)
  stays_link (borrowed.Pair rest v) other = refl

  -- one that is, and gets its new slot
  pub redirected-slot : (n m o : LinkNode P) (from b : ℕ) (x : LinkRef P) (j k : ℕ) → Redirected n m from → from ≤ b → between m.links from 256 ≡ (b, looked_at x) ∷ between m.links (b + 1) 256 → x ≡ borrowed.Slot j → k ≡ get_or slots j 0
      → (r : Result (Link P) (Link P)) → OnOk r (o ≡ with_link m b (Slot k)) → OnErr r (lookup m.links b ≡ None) → Redirected n o (b + 1)
  redirected-slot n m o from b x j k h less next is new r ok err =
      redirected-exchanged n m from b (Slot j) h less (subst (λ y. between m.links from 256 ≡ (b, looked_at y) ∷ between m.links (b + 1) 256) is next) o r (subst (λ y. OnOk r (o ≡ with_link m b (Slot y))) new ok) err
