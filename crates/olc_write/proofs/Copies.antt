-- THE NEW NODES of a call: the leaf of its key, the node that is put between, and the larger copy.
use Rattle.std.proofs.Common.{◌≡◌, ◌≢◌, ℕ, zero, suc, slice_index_or, ◌+◌, ◌<◌, ◌≤◌, List, [], ◌∷◌, ◌++◌, length, take, drop, Option, Some, None, ◌⊎◌, inl, inr, refl, sym, subst, ap, ◌∙◌, arith}
use Rattle.std.proofs.lemmas.Bool.{eq-eqb, ne_eqb}
use Rattle.std.proofs.lemmas.Bool.Decides.{eqb_tells}
use Rattle.std.proofs.lemmas.List.{length-take-le, take-append-drop}
use Rattle.node_base.specs.Form.{Fits, next_form}
use Rattle.node_base.specs.declared.base_node.NodeType.{NodeType}
use Rattle.node_base.specs.declared.base_node.NodeType.TheVariants.{N4, N16, N48, N256}
use Rattle.spec_map.specs.Map.{Rises, lookup, put}
use Rattle.spec_map.proofs.MapLaws.{lookup-put_same, lookup-put_other, Rises-put}
use Rattle.spec_map.proofs.ByteMapLaws.{length-put_new}
use Rattle.spec_node.specs.Key.{AreBytes, Begins, IsFirstDifference, next_byte}
use Rattle.spec_node.specs.TableNode.{MayHave, TableNode, Child}
use Rattle.spec_node.specs.declared.child.Child.TheVariants.{Payload, Node as below_at}
use Rattle.node_table.proofs.BeginLaws.{begins_by}
use Rattle.spec_olc.specs.Calls.{key_of}
use Rattle.node_table.specs.inner.Kinds.{mapped}
use Rattle.node_table.proofs.KindLaws.{put-mapped}
use Rattle.spec_olc.specs.Meaning.{child_of}
use Rattle.olc_state.specs.inner.Meant.{meant_node}
use Rattle.olc_write.specs.inner.Makings.{IsBetween}
use Rattle.spec_olc.specs.State.{CallState, State}
use Rattle.spec_olc.specs.Writing.{HeldNode, IsCopy, IsMoved, IsNewNode, IsOwn, byte_below}
use Rattle.olc_state.specs.declared.stage.Task.{Task}
use Rattle.olc_state.specs.declared.tail.NodePair.{NodePair}
use Rattle.olc_state.specs.declared.tail.Tail as tails
use Rattle.olc_state.specs.declared.tail.Tail.TheVariants.{Grow, MakeMiddle}
use Rattle.olc_state.specs.inner.Shown.{flight}
use Rattle.olc_state.specs.inner.TailFacts.{IsFork, leaf_of, stores}
use Rattle.olc_state.specs.inner.Tasks.{key_bytes}
use Rattle.olc_state.proofs.Options.{none_some, some_same}
use Rattle.olc_laws.proofs.Prefixes.{begins_on, key_byte}
use Rattle.olc_write.proofs.MakingNodes.{at}

begins_take : (n : ℕ) (k : List ℕ) → Begins (take n k) k
begins_take n k = begins_by (take n k) (drop n k) k (sym (take-append-drop n k))

only-one : {C : Type 0} (b byte : ℕ) (x c : C) → lookup ((b, x) ∷ []) byte ≡ Some c → (byte ≡ b) × (c ≡ x)
only-one {C} b byte x c h =
    elim (eqb_tells b byte) [
      | inl e ↦ (sym e.1, sym (some_same x c (subst (λ (o : Option C). o ≡ Some c) (rw (eq-eqb b byte e.1) refl) h)))
      | inr off ↦ absurd (none_some c (subst (λ (o : Option C). o ≡ Some c) (rw (ne_eqb b byte off.1) refl) h))
    ]

byte-small : (p : List ℕ) → AreBytes p → (i : ℕ) → slice_index_or p i 0 < 256
byte-small [] h i = omega arith
byte-small (b ∷ p) h zero = h.0
byte-small (b ∷ p) h (suc i) = byte-small p h.1 i

-- an entry of a new node
abbrev IsEntryOf : {M : Type 0} (s : State M) (call : CallState M) → TableNode M → ℕ → Child M → Type 0
IsEntryOf {M} s call a byte c = MayHave a.prefix c × (((byte ≡ byte_below call a.prefix) × IsOwn call (Some c)) ⊎ (((x : IsCopy s call a) × (lookup x.from.node.node.children byte ≡ Some c)) ⊎ IsMoved s call a.prefix byte c))

module _ {M : Type 0} (s : State M) (pin : ℕ) (task : Task M) where
  -- the leaf
  pub leaf_new : (tail : tails.Tail) (v : M) → stores task ≡ Some v → IsNewNode s (flight pin (at tail task)) (leaf_of (key_bytes task) v)
  leaf_new tail v stored =
      let prefix : List ℕ = take 7 (key_bytes task) in
      let way : Begins prefix (key_bytes task) = begins_take 7 (key_bytes task) in
      record {
        way = way;
        ascending = (omega arith, key_byte prefix (key_of task.outline) way (omega arith), tt);
        fits = omega arith;
        form_is = inl (refl, (λ alone. refl));
        entries = λ byte child h.
            let one = only-one (next_byte prefix (key_bytes task)) byte (Payload v) child h in
            subst (λ (c : Child M). IsEntryOf s (flight pin (at tail task)) (leaf_of (key_bytes task) v) byte c)
            (sym one.1) (refl, inl (one.0, stored));
      }

  -- the byte of a prefix after a shorter one that begins it
  pub moved-byte : (prefix p : List ℕ) → AreBytes p → next_byte prefix p < 256
  moved-byte prefix p bytes = byte-small p bytes (length prefix)

  put-entry : (es : List (ℕ × Child M)) (b byte : ℕ) (x c : Child M) → lookup (put es b x) byte ≡ Some c → ((byte ≡ b) × (c ≡ x)) ⊎ ((byte ≢ b) × (lookup es byte ≡ Some c))
  put-entry es b byte x c h =
      elim (eqb_tells byte b) [
        | inl e ↦ inl (e.1, sym (some_same x c (sym (lookup-put_same es b x) ∙ subst (λ (z : ℕ). lookup (put es b x) z ≡ Some c) e.1 h)))
        | inr far ↦ inr (far.1, sym (lookup-put_other es b x byte far.1) ∙ h)
      ]

  -- the node that is put between
  pub middle_new : (pair : NodePair) (leaf : ℕ) (prefix : List ℕ) (held : HeldNode s (flight pin (at (MakeMiddle pair leaf) task))) → IsFork prefix held.node.node.prefix (key_bytes task)
      → AreBytes held.node.node.prefix → length held.node.node.prefix ≤ 7
      → IsNewNode s (flight pin (at (MakeMiddle pair leaf) task)) (record {
        form = N4;
        prefix = prefix;
        children = put ((next_byte prefix held.node.node.prefix, below_at held.slot) ∷ []) (next_byte prefix (key_bytes task)) (below_at leaf);
      })
  middle_new pair leaf prefix held fork bytes short =
      let k : List ℕ = key_bytes task in
      let p : List ℕ = held.node.node.prefix in
      let shorter : length prefix < length p = fork.shorter in
      let b : ℕ = next_byte prefix p in
      let n : ℕ = next_byte prefix k in
      let old : List (ℕ × Child M) = (b, below_at held.slot) ∷ [] in
      let mine : n < 256 = key_byte prefix (key_of task.outline) fork.right (omega (arith, shorter, short)) in
      let rises : Rises 0 256 old = (omega arith, moved-byte prefix p bytes, tt) in
      let call : CallState M = flight pin (at (MakeMiddle pair leaf) task) in
      let none : lookup old n ≡ None = rw (ne_eqb b n fork.apart) refl in
      let count : length (put old n (below_at leaf)) ≡ 2 = length-put_new 0 256 old n (below_at leaf) rises none in
      let made : TableNode M = record { form = N4; prefix = prefix; children = put old n (below_at leaf) } in
      record {
        way = fork.right;
        ascending = Rises-put 0 256 old n (below_at leaf) rises (omega arith) mine;
        fits = omega (arith, count);
        form_is = inl (refl, (λ alone. omega (arith, count, alone)));
        entries = λ byte child h. elim (put-entry old n byte (below_at leaf) child h) [
          | inl e ↦
              subst (λ (c : Child M). IsEntryOf s call made byte c)
              (sym e.1) (omega (arith, shorter, short), inl (e.0, rw (eq-eqb leaf leaf refl) refl))
          | inr e ↦
              let one = only-one b byte (below_at held.slot) child e.1 in
              let begins : Begins (prefix ++ byte ∷ []) p = subst (λ (z : ℕ). Begins (prefix ++ z ∷ []) p) (sym one.0) (begins_on prefix p fork.left shorter) in
              subst (λ (c : Child M). IsEntryOf s call made byte c)
              (sym one.1) (omega (arith, shorter, short), inr (inr (record { moved = held; is = refl; begins = begins })))
        ];
      }

  -- the larger copy
  fits_next : (form : NodeType) (n : ℕ) → Fits form n → (Fits form (n + 1) → ⊥) → Fits (next_form form) (n + 1)
  fits_next N4 n fits full = omega (arith, fits)
  fits_next N16 n fits full = omega (arith, fits)
  fits_next N48 n fits full = tt
  fits_next N256 n fits full = tt

  pub copy_new : (pair : NodePair) (leaf : Option ℕ) (held : HeldNode s (flight pin (at (Grow pair leaf) task))) (child : Child M)
      → Begins held.node.node.prefix (key_bytes task) → Rises 0 256 held.node.node.children → length held.node.node.prefix ≤ 7
      → Fits held.node.node.form (length held.node.node.children) → (Fits held.node.node.form (length held.node.node.children + 1) → ⊥)
      → lookup held.node.node.children (next_byte held.node.node.prefix (key_bytes task)) ≡ None
      → ((byte : ℕ) (c : Child M) → lookup held.node.node.children byte ≡ Some c → MayHave held.node.node.prefix c)
      → MayHave held.node.node.prefix child → IsOwn (flight pin (at (Grow pair leaf) task)) (Some child)
      → IsNewNode s (flight pin (at (Grow pair leaf) task)) (record {
        form = next_form held.node.node.form;
        prefix = held.node.node.prefix;
        children = put held.node.node.children (next_byte held.node.node.prefix (key_bytes task)) child;
      })
  copy_new pair leaf held child way rises short fits full none kinds may own =
      let k : List ℕ = key_bytes task in
      let p : List ℕ = held.node.node.prefix in
      let es : List (ℕ × Child M) = held.node.node.children in
      let n : ℕ = next_byte p k in
      let mine : n < 256 = key_byte p (key_of task.outline) way short in
      let call : CallState M = flight pin (at (Grow pair leaf) task) in
      let count : length (put es n child) ≡ length es + 1 = length-put_new 0 256 es n child rises none in
      let made : TableNode M = record { form = next_form held.node.node.form; prefix = p; children = put es n child } in
      let copy : IsCopy s call made = record { from = held; prefix_is = refl; form_is = refl } in
      record {
        way = way;
        ascending = Rises-put 0 256 es n child rises (omega arith) mine;
        fits = subst (λ (z : ℕ). Fits (next_form held.node.node.form) z) (sym count) (fits_next held.node.node.form (length es) fits full);
        form_is = inr copy;
        entries = λ byte c h. elim (put-entry es n byte child c h) [
          | inl e ↦
              subst (λ (z : Child M). IsEntryOf s call made byte z) (sym e.1) (may, inl (e.0, own))
          | inr e ↦ (kinds byte c e.1, inr (inl (copy, e.1)))
        ];
      }

-- where a prefix and a key differ first they fork
pub fork_of : (p k : List ℕ) (i : ℕ) → IsFirstDifference p k i → IsFork (take i p) p k
fork_of p k i d =
    let inside : i < length p = d.inside in
    let long : length (take i p) ≡ i = length-take-le i p (omega (arith, inside)) in
    record {
      left = begins_take i p;
      right = subst (λ (z : List ℕ). Begins z k) (sym d.same_before) (begins_take i k);
      shorter = omega (arith, long, inside);
      apart = subst (λ (n : ℕ). slice_index_or p n 0 ≢ slice_index_or k n 0) (sym long) d.differ;
    }

-- the node that is put between has two children
module _ {P M : Type 0} (meaning : P → M) (a : TableNode P) (k : List ℕ) (i b c slot leaf : ℕ) where
  pub between_is : (empty one two : TableNode P) → IsFirstDifference a.prefix k i → empty ≡ record { form = N4; prefix = take i a.prefix; children = [] }
      → one ≡ record empty { children = put empty.children b (below_at slot) } → two ≡ record one { children = put one.children c (below_at leaf) }
      → b ≡ slice_index_or a.prefix i 0 → c ≡ slice_index_or k i 0 → IsBetween meaning a two k slot leaf
  between_is empty one two d e f g first last =
      let inside : i < length a.prefix = d.inside in
      let long : length (take i a.prefix) ≡ i = length-take-le i a.prefix (omega (arith, inside)) in
      let p : List ℕ = take i a.prefix in
      let left : b ≡ next_byte p a.prefix = first ∙ ap (λ n. slice_index_or a.prefix n 0) (sym long) in
      let right : c ≡ next_byte p k = last ∙ ap (λ n. slice_index_or k n 0) (sym long) in
      let first_is : one ≡ record { form = N4; prefix = p; children = (b, below_at slot) ∷ [] } = f ∙ ap (λ (z : TableNode P). record z { children = put z.children b (below_at slot) }) e in
      let both : two ≡ record { form = N4; prefix = p; children = put ((b, below_at slot) ∷ []) c (below_at leaf) } = g ∙ ap (λ (z : TableNode P). record z { children = put z.children c (below_at leaf) }) first_is in
      let old : List (ℕ × Child P) = (b, below_at slot) ∷ [] in
      let new : List (ℕ × Child M) = (b, below_at slot) ∷ [] in
      let meant : mapped (child_of meaning) (put old c (below_at leaf)) ≡ put new c (below_at leaf) = put-mapped (child_of meaning) old c (below_at leaf) in
      let node : List (ℕ × Child M) → TableNode M = λ es. record { form = N4; prefix = p; children = es } in
      record {
        prefix = p;
        fork = fork_of a.prefix k i d;
        is = ap (meant_node meaning) both ∙ (ap node meant ∙ (ap (λ (n : ℕ). node (put ((n, below_at slot) ∷ []) c (below_at leaf))) left
            ∙ ap (λ (n : ℕ). node (put ((next_byte p a.prefix, below_at slot) ∷ []) n (below_at leaf))) right));
      }

abbrev pub empty_node : {P : Type 0} → List ℕ → TableNode P
empty_node prefix = record { form = N4; prefix = prefix; children = [] }
