-- What locked nodes tell, node by node.
use Rattle.std.proofs.Common.{◌≡◌, ℕ, zero, suc, ◌+◌, ◌-◌, ◌*◌, ◌/◌, ◌%◌, ◌^◌, ◌<◌, ◌≤◌, nat_eq, List, [], ◌∷◌, ◌++◌, length, slice_index, slice_set, length-set, Option, Some, None, refl, sym, ap, ◌∙◌, subst, inl, inr, arith}
use Rattle.std.proofs.lemmas.Bool.{cases_lt, cases_eq, eq-eqb, ne_eqb}
use Rattle.std.proofs.lemmas.List.{get_or-set_same, get_or-set_other}
use Rattle.spec_node.specs.TableNode.{TableNode, Child, MayHave}
use Rattle.spec_node.specs.declared.child.Child.TheVariants.{Payload, Node}
use Rattle.spec_map.specs.Map.{Pairs, lookup, Rises}
use Rattle.spec_map.proofs.MapLaws.{Rises-wider, same_from_lookups}
use Rattle.spec_map.proofs.JoinLaws.{Rises-append, lookup-above, lookup-append_left, lookup-append_right}
use Rattle.share_rule.specs.History.{IsHistory}
use Rattle.live_nodes.specs.Nodes.{Content}
use Rattle.live_nodes.specs.Seats.{IsIn}
use Rattle.live_layout.specs.Encodes.{Encodes, AreOfKind, IsBelow, IsWord, payload_of}
use Rattle.live_nodes.specs.Levels.{up, digit, Shape, name_of, Covers, bytes_above, Spot}
use Rattle.live_nodes.specs.Views.{Own, locked, View}
use Rattle.live_nodes.proofs.Plans.{joined, bytes_above-key, root-top}
use Rattle.live_copies.specs.inner.Told.{TellsBelow, TellsUnder, TellsNoted, IsNoted, IsContent, Tells, first_of, end_of, HasPairs}
use Rattle.live_copies.specs.inner.Noted.{start_of, HasNoted}
use Rattle.live_copies.specs.inner.Whole.{HasWhole}
use Rattle.live_copies.proofs.Spans.{covered, none_outside, start_first, start_end, start_rises, under_byte, child_between}

-- A CHILD'S KEYS are keys of the node above, with one byte
module _ (e a : Shape) (h key b : ℕ) (high : a.height ≡ suc h) (lower : e.height < a.height) (above : Covers a key) (byte_is : digit a.height key ≡ b) (covers : Covers e key) where
  pub child_bytes_above : bytes_above e h ≡ 256 * a.top + b
  child_bytes_above =
      let low : e.height ≤ h = omega (arith, lower, high) in
      let is : up (suc h) key ≡ a.top = ap (λ (z : ℕ). up z key) (sym high) ∙ above in
      let byte : digit (suc h) key ≡ b = ap (λ (z : ℕ). digit z key) (sym high) ∙ byte_is in
      bytes_above-key e h key covers low ∙ (sym (joined h key a.top is) ∙ ap (λ (z : ℕ). 256 * a.top + z) byte)

  child_up : (k : ℕ) → Covers e k → up h k ≡ up h key
  child_up k inside = let low : e.height ≤ h = omega (arith, lower, high) in sym (bytes_above-key e h k inside low) ∙ bytes_above-key e h key covers low

  pub child_above : (k : ℕ) → Covers e k → Covers a k
  child_above k inside = ap (λ (z : ℕ). up z k) high ∙ (ap (λ (z : ℕ). z / 256) (child_up k inside) ∙ (ap (λ (z : ℕ). up z key) (sym high) ∙ above))

  pub child_byte : (k : ℕ) → Covers e k → digit a.height k ≡ b
  child_byte k inside = ap (λ (z : ℕ). digit z k) high ∙ (ap (λ (z : ℕ). z % 256) (child_up k inside) ∙ (ap (λ (z : ℕ). digit z key) (sym high) ∙ byte_is))

-- FROM ONE LIST TO ANOTHER that has the same values there
height_of : (h n : ℕ) → n < h → h ≡ suc (h - 1)
height_of h n l = omega (arith, l)

module _ (P Q : Spot → Pairs ℕ → Type 0) (a : Spot) (m m' : Pairs ℕ) (b : ℕ) (low : b < 256) (same : (k : ℕ) → Covers a.shape k → digit a.shape.height k ≡ b → lookup m' k ≡ lookup m k) (on : (e : Spot) → e.shape.height < a.shape.height → ((k : ℕ) → Covers e.shape k → Covers a.shape k × (digit a.shape.height k ≡ b)) → P e m → Q e m') where
  pub below_goes : (name : ℕ) → TellsBelow P a m b name → TellsBelow Q a m' b name
  below_goes name t =
      let high : a.shape.height ≡ suc (a.shape.height - 1) = height_of a.shape.height t.spot.shape.height t.lower in
      let above = child_above t.spot.shape a.shape (a.shape.height - 1) t.key b high t.lower t.above t.byte_is t.covers in
      let byte = child_byte t.spot.shape a.shape (a.shape.height - 1) t.key b high t.lower t.above t.byte_is t.covers in record {
        spot = t.spot;
        named = t.named;
        lower = t.lower;
        key = t.key;
        above = t.above;
        byte_is = t.byte_is;
        covers = t.covers;
        tells = on t.spot t.lower (λ k c. (above k c, byte k c)) t.tells;
        beside = λ k c d no. same k c d ∙ t.beside k c d no;
      }

  pub under_goes : (o : Option (Child ℕ)) → TellsUnder P a m b o → TellsUnder Q a m' b o
  under_goes None t = λ k c d. same k c d ∙ t k c d
  under_goes (Some (Payload x)) t =
      let k : ℕ = 256 * a.shape.top + b in
      let c : Covers a.shape k = ap (λ (z : ℕ). up z k) t.0 ∙ (let e : k / 256 ≡ a.shape.top = omega (arith, low) in e) in
      let d : digit a.shape.height k ≡ b = ap (λ (z : ℕ). digit z k) t.0 ∙ (let e : k % 256 ≡ b = omega (arith, low) in e) in
      (t.0, same k c d ∙ t.1)
  under_goes (Some (Node s)) t = below_goes s t

  pub noted_goes : (name : ℕ) → TellsNoted P a m b name → TellsNoted Q a m' b name
  noted_goes name t = (λ zero_is k c d. same k c d ∙ t.0 zero_is k c d, λ some_name. below_goes name (t.1 some_name))

-- What more locked nodes tell, of more levels, by another list
module _ (own own' : List Own) (more : (o : Own) → IsIn o own → IsIn o own') where
  pub tells_goes : (n n' : ℕ) → n ≤ n' → (a : Spot) (m m' : Pairs ℕ) → ((k : ℕ) → Covers a.shape k → lookup m' k ≡ lookup m k) → Tells own n a m → Tells own' n' a m'
  tells_goes zero n' l a m m' same t = absurd t
  tells_goes (suc n) zero l a m m' same t = absurd (omega (arith, l))
  tells_goes (suc n) (suc n') l a m m' same t = record {
    content = t.content;
    held = more (locked a t.content) t.held;
    under = λ x is b low. under_goes (Tells own n) (Tells own' n') a m m' b low (λ k c d. same k c) (λ e lower inside u. tells_goes n n' (omega (arith, l)) e m m' (λ k c. same k (inside k c).0) u) (lookup x.children b) (t.under x is b low);
  }

pub tells_more : (own own' : List Own) → ((o : Own) → IsIn o own → IsIn o own') → (n : ℕ) (a : Spot) (m : Pairs ℕ) → Tells own n a m → Tells own' n a m
tells_more own own' more n a m t = tells_goes own own' more n n (omega arith) a m m (λ k c. refl) t

pub tells_over : (own : List Own) (n : ℕ) (a : Spot) (m m' : Pairs ℕ) → ((k : ℕ) → Covers a.shape k → lookup m' k ≡ lookup m k) → Tells own n a m → Tells own n a m'
tells_over own n a m m' same t = tells_goes own own (λ o i. i) n n (omega arith) a m m' same t

pub pairs_more : (own own' : List Own) → ((o : Own) → IsIn o own → IsIn o own') → (a : Spot) (m : Pairs ℕ) → HasPairs own a m → HasPairs own' a m
pairs_more own own' more a m t = record { rises = t.rises; tells = tells_more own own' more a.shape.height a m t.tells }

-- A LEAF
is_kind : List ℕ → Option (Child ℕ) → Type 0
is_kind p None = Unit {0}
is_kind p (Some x) = MayHave p x

kind_found : (p : List ℕ) (fs : List (ℕ × Child ℕ)) (b : ℕ) → AreOfKind p fs → is_kind p (lookup fs b)
unfolding is_kind
kind_found p [] b a = tt
kind_found p (f ∷ fs) b a =
    elim (cases_eq f.0 b) [
      | inl same ↦ rw (eq-eqb f.0 b same) a.0
      | inr other ↦ rw (ne_eqb f.0 b other) (kind_found p fs b a.1)
    ]

leaf_under : (P : Spot → Pairs ℕ → Type 0) (a : Spot) (m : Pairs ℕ) (p : List ℕ) (b : ℕ) → a.shape.height ≡ 1 → length p ≡ 7 → (o : Option (Child ℕ)) → is_kind p o → payload_of o ≡ lookup m (256 * a.shape.top + b) → TellsUnder P a m b o
unfolding is_kind
leaf_under P a m p b high seven None kind is = λ k c d.
    let top : up 1 k ≡ a.shape.top = ap (λ (z : ℕ). up z k) (sym high) ∙ c in
    let byte : digit 1 k ≡ b = ap (λ (z : ℕ). digit z k) (sym high) ∙ d in
    ap (lookup m) (sym (joined 0 k a.shape.top top) ∙ ap (λ (z : ℕ). 256 * a.shape.top + z) byte) ∙ sym is
leaf_under P a m p b high seven (Some (Payload x)) kind is = (high, sym is)
leaf_under P a m p b high seven (Some (Node s)) kind is = absurd (omega (arith, kind, seven))

-- which is locked, and whose payloads are these
pub leaf_pairs : (own : List Own) (a : Spot) (c : Content) (m : Pairs ℕ) → a.shape.height ≡ 1 → IsIn (locked a c) own → ((n : TableNode ℕ) → IsContent c a n → (b : ℕ) → b < 256 → payload_of (lookup n.children b) ≡ lookup m (256 * a.shape.top + b)) → Rises (first_of a.shape) (end_of a.shape) m → HasPairs own a m
leaf_pairs own a c m high held payloads rises = record {
  rises = rises;
  tells = subst (λ (z : ℕ). Tells own z a m) (sym high) record {
    content = c;
    held = held;
    under = λ n is b low.
        let deep = is.deep in
        leaf_under (Tells own 0) a m n.prefix b high (omega (arith, deep, high)) (lookup n.children b) (kind_found n.prefix n.children b is.encodes.of_kind) (payloads n is b low);
  };
}

-- AN INNER NODE, whose children below some byte are noted
pub noted_first : (own : List Own) (a : Spot) (table : List ℕ) → 1 ≤ a.shape.height → length table ≡ 256 → ((i : ℕ) → i < 256 → slice_index table i ≡ 0) → HasNoted own a 0 table []
noted_first own a table tall long empty = record {
  level = a.shape.height - 1;
  high = omega (arith, tall);
  long = long;
  rises = tt;
  noted = λ i l. absurd (omega (arith, l));
  later = λ i _ l. empty i l;
}

-- is another one of that height, with those bytes above it
module _ (P : Spot → Pairs ℕ → Type 0) (a a' : Spot) (height_is : a.shape.height ≡ a'.shape.height) (top_is : a.shape.top ≡ a'.shape.top) (m : Pairs ℕ) (b : ℕ) where
  its_key : (k : ℕ) → Covers a'.shape k → Covers a.shape k
  its_key k c = ap (λ (z : ℕ). up z k) height_is ∙ (c ∙ sym top_is)

  its_byte : (k : ℕ) → digit a'.shape.height k ≡ b → digit a.shape.height k ≡ b
  its_byte k d = ap (λ (z : ℕ). digit z k) height_is ∙ d

  noted_like : (name : ℕ) → TellsNoted P a m b name → TellsNoted P a' m b name
  noted_like name t = (
    λ zero_is k c d. t.0 zero_is k (its_key k c) (its_byte k d),
    (λ some_name. let x = t.1 some_name in let lower = x.lower in record {
      spot = x.spot;
      named = x.named;
      lower = subst (λ (z : ℕ). x.spot.shape.height < z) height_is lower;
      key = x.key;
      above = ap (λ (z : ℕ). up z x.key) (sym height_is) ∙ (x.above ∙ top_is);
      byte_is = ap (λ (z : ℕ). digit z x.key) (sym height_is) ∙ x.byte_is;
      covers = x.covers;
      tells = x.tells;
      beside = λ k c d no. x.beside k (its_key k c) (its_byte k d) no;
    }),
  )

pub noted_as : (own : List Own) (a a' : Spot) (b : ℕ) (table : List ℕ) (m : Pairs ℕ) → a.shape.height ≡ a'.shape.height → a.shape.top ≡ a'.shape.top → HasNoted own a b table m → HasNoted own a' b table m
noted_as own a a' b table m height_is top_is n = record {
  level = n.level;
  high = sym height_is ∙ n.high;
  long = n.long;
  rises = subst (λ (z : ℕ × ℕ). Rises (z.1 * 256 ^ z.0) (start_of n.level z.1 b) m) (λ i. (height_is i, top_is i)) n.rises;
  noted = λ i l. noted_like (Tells own n.level) a a' height_is top_is m i (slice_index table i) (n.noted i l);
  later = n.later;
}

module _ (own own' : List Own) (more : (o : Own) → IsIn o own → IsIn o own') (a : Spot) (b : ℕ) (low : b ≤ 256) (table : List ℕ) (m : Pairs ℕ) (n : HasNoted own a b table m) where
  -- the keys under a byte
  spans : (k i : ℕ) → Covers a.shape k → digit a.shape.height k ≡ i → (start_of n.level a.shape.top i ≤ k) × (k < start_of n.level a.shape.top (i + 1))
  spans k i c d = under_byte n.level a.shape.top i k (ap (λ (z : ℕ). up z k) (sym n.high) ∙ c) (ap (λ (z : ℕ). digit z k) (sym n.high) ∙ d)

  -- under an earlier byte it is the same
  earlier : (m' : Pairs ℕ) → ((k : ℕ) → k < start_of n.level a.shape.top b → lookup m' k ≡ lookup m k) → (i : ℕ) → i < b → TellsNoted (Tells own' n.level) a m' i (slice_index table i)
  earlier m' same i l =
      let bound : (k : ℕ) → Covers a.shape k → digit a.shape.height k ≡ i → k < start_of n.level a.shape.top b = λ k c d.
      let r = spans k i c d in
      let s = start_rises n.level a.shape.top (i + 1) b (omega (arith, l)) in
      omega (arith, r, s) in
      noted_goes (Tells own n.level) (Tells own' n.level) a m m' i (omega (arith, l, low)) (λ k c d. same k (bound k c d))
      (λ e lower inside t. tells_goes own own' more n.level n.level (omega arith) e m m' (λ k c. let x = inside k c in same k (bound k x.0 x.1)) t) (slice_index table i) (n.noted i l)

  -- it has more to itself, and there is no child under the next bytes,
  pub noted_on : (b' : ℕ) → b ≤ b' → b' ≤ 256 → HasNoted own' a b' table m
  noted_on b' from to = record {
    level = n.level;
    high = n.high;
    long = n.long;
    rises = Rises-wider (first_of a.shape) (start_of n.level a.shape.top b) (first_of a.shape) (start_of n.level a.shape.top b') m (omega arith) (start_rises n.level a.shape.top b b' from) n.rises;
    noted = λ i l.
        elim (cases_lt i b) [
          | inl less ↦ earlier m (λ k x. refl) i less
          | inr over ↦ (
            λ z k c d.
                let r = spans k i c d in
                let s = start_rises n.level a.shape.top b i over in
                lookup-above (first_of a.shape) (start_of n.level a.shape.top b) m k n.rises (omega (arith, r, s)),
            λ some_name. absurd (let zero_is = n.later i over (omega (arith, l, to)) in omega (arith, some_name, zero_is)),
          )
        ];
    later = λ i l h. n.later i (omega (arith, l, from)) h;
  }

  -- or there is one under the next byte, whose pairs come next.
  module _ (below : b < 256) (e : Spot) (s : Pairs ℕ) (pairs : HasPairs own' e s) (key : ℕ) (lower : e.shape.height < a.shape.height) (above : Covers a.shape key) (byte_is : digit a.shape.height key ≡ b) (covers : Covers e.shape key) where
    between : (start_of n.level a.shape.top b ≤ first_of e.shape) × (end_of e.shape ≤ start_of n.level a.shape.top (b + 1))
    between = let high = n.high in child_between e.shape n.level a.shape.top b (omega (arith, lower, high)) (child_bytes_above e.shape a.shape n.level key b n.high lower above byte_is covers)

    rise_then : Rises (start_of n.level a.shape.top b) (start_of n.level a.shape.top (b + 1)) s
    rise_then = Rises-wider (first_of e.shape) (end_of e.shape) (start_of n.level a.shape.top b) (start_of n.level a.shape.top (b + 1)) s between.0 between.1 pairs.rises

    next : (k : ℕ) → start_of n.level a.shape.top b ≤ k → lookup (m ++ s) k ≡ lookup s k
    next k l = lookup-append_right (first_of a.shape) (start_of n.level a.shape.top b) m s k n.rises l

    start_low : first_of a.shape ≤ start_of n.level a.shape.top b
    start_low = let e = start_first a.shape n.level n.high in let r = start_rises n.level a.shape.top 0 b (omega arith) in omega (arith, e, r)

    this_one : TellsBelow (Tells own' n.level) a (m ++ s) b (name_of e.shape)
    this_one = let high = n.high in record {
      spot = e;
      named = refl;
      lower = lower;
      key = key;
      above = above;
      byte_is = byte_is;
      covers = covers;
      tells = tells_goes own' own' (λ o i. i) e.shape.height n.level (omega (arith, lower, high)) e s (m ++ s) (λ k c. next k (let r = covered e.shape k c in let x = between.0 in omega (arith, r, x))) pairs.tells;
      beside = λ k c d no. let r = spans k b c d in next k r.0 ∙ none_outside e.shape s pairs.rises k no;
    }

    pub noted_child : 1 ≤ name_of e.shape → HasNoted own' a (b + 1) (slice_set table b (name_of e.shape)) (m ++ s)
    noted_child some_name =
        let name : ℕ = name_of e.shape in
        let table' : List ℕ = slice_set table b name in
        let long = n.long in
        let is : slice_index table' b ≡ name = get_or-set_same table b name 0 (omega (arith, long, below)) in
        record {
          level = n.level;
          high = n.high;
          long = length-set table b name ∙ n.long;
          rises = Rises-append (first_of a.shape) (start_of n.level a.shape.top b) (start_of n.level a.shape.top (b + 1)) m s start_low (start_rises n.level a.shape.top b (b + 1) (omega arith)) n.rises rise_then;
          noted = λ i l.
              elim (cases_lt i b) [
                | inl less ↦
                    subst (TellsNoted (Tells own' n.level) a (m ++ s) i) (sym (get_or-set_other table b i name 0 (λ same. omega (arith, same, less))))
                    (earlier (m ++ s) (λ k x. lookup-append_left (start_of n.level a.shape.top b) (start_of n.level a.shape.top (b + 1)) m s k rise_then x) i less)
                | inr from ↦
                    let at : b ≡ i = omega (arith, from, l) in
                    subst (λ (z : ℕ). TellsNoted (Tells own' n.level) a (m ++ s) z (slice_index table' z)) at
                    (λ z. absurd (omega (arith, z, is, some_name)), λ x. subst (TellsBelow (Tells own' n.level) a (m ++ s) b) (sym is) this_one)
              ];
          later = λ i l h. get_or-set_other table b i name 0 (λ same. omega (arith, same, l)) ∙ n.later i (omega (arith, l)) h;
        }

-- which is locked then, and has the children that were noted
noted_under : (P : Spot → Pairs ℕ → Type 0) (a : Spot) (m : Pairs ℕ) (b name : ℕ) → TellsNoted P a m b name → (o : Option (Child ℕ)) → IsNoted o name → TellsUnder P a m b o
noted_under P a m b name t None is = t.0 is
noted_under P a m b name t (Some (Payload x)) is = absurd is
noted_under P a m b name t (Some (Node s)) is = subst (TellsBelow P a m b) (sym is.1) (t.1 is.0)

noted_word : (p : List ℕ) (o : Option (Child ℕ)) (w name : ℕ) → is_kind p o → length p < 7 → IsBelow o (Some w) → 1 ≤ name → ((s : ℕ) → IsWord w (Node s) → s ≡ name) → IsNoted o name
unfolding is_kind
noted_word p None w name kind few is some_name spelt = absurd is
noted_word p (Some (Payload x)) w name kind few is some_name spelt = absurd (omega (arith, kind, few))
noted_word p (Some (Node s)) w name kind few is some_name spelt = (some_name, spelt s is)

noted_absent : (o : Option (Child ℕ)) (name : ℕ) → IsBelow o None → name ≡ 0 → IsNoted o name
noted_absent None name is zero_is = zero_is
noted_absent (Some x) name is zero_is = absurd is

pub named_word : (c : Content) (n : TableNode ℕ) (b w name : ℕ) → Encodes c n → length n.prefix < 7 → IsBelow (lookup n.children b) (Some w) → 1 ≤ name → ((s : ℕ) → IsWord w (Node s) → s ≡ name) → IsNoted (lookup n.children b) name
named_word c n b w name e few is some_name spelt = noted_word n.prefix (lookup n.children b) w name (kind_found n.prefix n.children b e.of_kind) few is some_name spelt

pub named_absent : (n : TableNode ℕ) (b name : ℕ) → IsBelow (lookup n.children b) None → name ≡ 0 → IsNoted (lookup n.children b) name
named_absent n b name is zero_is = noted_absent (lookup n.children b) name is zero_is

pub inner_pairs : (own own' : List Own) → ((o : Own) → IsIn o own → IsIn o own') → (a : Spot) (c : Content) (table : List ℕ) (m : Pairs ℕ) → HasNoted own a 256 table m → IsIn (locked a c) own' → ((n : TableNode ℕ) → IsContent c a n → (b : ℕ) → b < 256 → IsNoted (lookup n.children b) (slice_index table b)) → HasPairs own' a m
inner_pairs own own' more a c table m n held are = record {
  rises = subst (λ (z : ℕ). Rises (first_of a.shape) z m) (sym (start_end a.shape n.level n.high)) n.rises;
  tells = subst (λ (z : ℕ). Tells own' z a m) (sym n.high) record {
    content = c;
    held = held;
    under = λ x is b low.
        under_goes (Tells own n.level) (Tells own' n.level) a m m b low (λ k _ _. refl) (λ e lower inside t. tells_more own own' more n.level e m t) (lookup x.children b)
        (noted_under (Tells own n.level) a m b (slice_index table b) (n.noted b low) (lookup x.children b) (are x is b low));
  };
}

-- THE ROOT's pairs are the map.
pub whole_is : (caller : ℕ) (v w : View) → HasWhole caller v w → (a : Spot) (m : Pairs ℕ) → HasPairs v.own a m → a.shape.height ≡ 8 → a.shape.top ≡ 0 → IsHistory nat_eq w.seen m
whole_is caller v w x a m t high top =
    let last : end_of a.shape ≡ 2 ^ 64 = ap (λ (z : ℕ × ℕ). (z.0 + 1) * 256 ^ z.1) (λ i. (top i, high i)) in
    let same : (k : ℕ) → lookup x.pairs k ≡ lookup m k = λ k.
    elim (cases_lt k (2 ^ 64)) [
      | inl less ↦ x.same a.shape.height a m t.tells k (ap (λ (z : ℕ). up z k) high ∙ (root-top k less ∙ sym top))
      | inr more ↦ lookup-above 0 (2 ^ 64) x.pairs k x.rises more ∙ sym (lookup-above (first_of a.shape) (end_of a.shape) m k t.rises (omega (arith, last, more)))
    ]
    in
    subst (IsHistory nat_eq w.seen) (same_from_lookups 0 (2 ^ 64) (first_of a.shape) (end_of a.shape) x.pairs m x.rises t.rises same) x.legal
