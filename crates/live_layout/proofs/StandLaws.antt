-- Words that stand for children: the same holds of both lists.
use Rattle.std.proofs.Common.{◌≡◌, ℕ, ◌<◌, List, [], ◌∷◌, length, Option, Some, None, IfSome, refl, ap, sym, ◌∙◌, subst, arith, inl, inr}
use Rattle.std.proofs.lemmas.Bool.{cases_eq, cases_order, eq-eqb, ne_eqb, lt-ltb, le-ltb}
use Rattle.spec_map.specs.Map.{lookup, put, without}
use Rattle.node_base.specs.Form.{limit, form_place}
use Rattle.node_base.specs.declared.base_node.NodeType.{NodeType}
use Rattle.node_base.specs.declared.base_node.NodeType.TheVariants.{N4, N16, N48, N256}
use Rattle.spec_node.specs.TableNode.{TableNode, Child, MayHave}
use Rattle.spec_node.specs.declared.child.Child.TheVariants.{Payload, Node}
use Rattle.live_layout.specs.Words.{at}
use Rattle.live_layout.specs.Head.{IsHead}
use Rattle.live_layout.specs.Encodes.{IsWord, Stands, HasChildren, counted, Encodes, with_child, in_form, empty_node, IsBelow, AreOfKind, payload_of}

pub stands-length : (es : List (ℕ × ℕ)) (fs : List (ℕ × Child ℕ)) → Stands es fs → length es ≡ length fs
stands-length [] [] s = refl
stands-length [] (f ∷ fs) s = absurd s
stands-length (e ∷ es) [] s = absurd s
stands-length (e ∷ es) (f ∷ fs) s = let r = stands-length es fs s.2 in omega (arith, r)

pub stands-lookup : (es : List (ℕ × ℕ)) (fs : List (ℕ × Child ℕ)) (b : ℕ) → Stands es fs → IsBelow (lookup fs b) (lookup es b)
stands-lookup [] [] b s = tt
stands-lookup [] (f ∷ fs) b s = absurd s
stands-lookup (e ∷ es) [] b s = absurd s
stands-lookup (e ∷ es) (f ∷ fs) b s =
    elim (cases_eq e.0 b) [
      | inl same ↦ rw (eq-eqb e.0 b same, eq-eqb f.0 b (sym s.0 ∙ same)) s.1
      | inr other ↦ rw (ne_eqb e.0 b other, ne_eqb f.0 b (λ x. other (s.0 ∙ x))) (stands-lookup es fs b s.2)
    ]

pub stands-put : (es : List (ℕ × ℕ)) (fs : List (ℕ × Child ℕ)) (b w : ℕ) (x : Child ℕ) → Stands es fs → IsWord w x → Stands (put es b w) (put fs b x)
stands-put [] [] b w x s i = (refl, i, tt)
stands-put [] (f ∷ fs) b w x s i = absurd s
stands-put (e ∷ es) [] b w x s i = absurd s
stands-put (e ∷ es) (f ∷ fs) b w x s i =
    elim (cases_order e.0 b) [
      | inl same ↦ rw (le-ltb e.0 b (omega arith), le-ltb f.0 b (omega (arith, s.0)), eq-eqb e.0 b same, eq-eqb f.0 b (sym s.0 ∙ same)) (refl, i, s.2)
      | inr (inl less) ↦ rw (lt-ltb e.0 b less, lt-ltb f.0 b (omega (arith, s.0))) (s.0, s.1, stands-put es fs b w x s.2 i)
      | inr (inr more) ↦ rw (le-ltb e.0 b (omega arith), le-ltb f.0 b (omega (arith, s.0)), ne_eqb e.0 b (omega arith), ne_eqb f.0 b (omega (arith, s.0))) (refl, i, s)
    ]

pub stands-without : (es : List (ℕ × ℕ)) (fs : List (ℕ × Child ℕ)) (b : ℕ) → Stands es fs → Stands (without es b) (without fs b)
stands-without [] [] b s = tt
stands-without [] (f ∷ fs) b s = absurd s
stands-without (e ∷ es) [] b s = absurd s
stands-without (e ∷ es) (f ∷ fs) b s =
    elim (cases_eq e.0 b) [
      | inl same ↦ rw (eq-eqb e.0 b same, eq-eqb f.0 b (sym s.0 ∙ same)) s.2
      | inr other ↦ rw (ne_eqb e.0 b other, ne_eqb f.0 b (λ x. other (s.0 ∙ x))) (s.0, s.1, stands-without es fs b s.2)
    ]

kind-put : (p : List ℕ) (fs : List (ℕ × Child ℕ)) (b : ℕ) (x : Child ℕ) → AreOfKind p fs → MayHave p x → AreOfKind p (put fs b x)
kind-put p [] b x a k = (k, tt)
kind-put p (f ∷ fs) b x a k =
    elim (cases_order f.0 b) [
      | inl same ↦ rw (le-ltb f.0 b (omega arith), eq-eqb f.0 b same) (k, a.1)
      | inr (inl less) ↦ rw (lt-ltb f.0 b less) (a.0, kind-put p fs b x a.1 k)
      | inr (inr more) ↦ rw (le-ltb f.0 b (omega arith), ne_eqb f.0 b (omega arith)) (k, a)
    ]

kind-without : (p : List ℕ) (fs : List (ℕ × Child ℕ)) (b : ℕ) → AreOfKind p fs → AreOfKind p (without fs b)
kind-without p [] b a = tt
kind-without p (f ∷ fs) b a =
    elim (cases_eq f.0 b) [
      | inl same ↦ rw (eq-eqb f.0 b same) a.1
      | inr other ↦ rw (ne_eqb f.0 b other) (a.0, kind-without p fs b a.1)
    ]

-- a leaf's child is a payload, and its word is that
payload-found : (p : List ℕ) (fs : List (ℕ × Child ℕ)) (b : ℕ) (r : Option ℕ) → length p ≡ 7 → AreOfKind p fs → IsBelow (lookup fs b) r → payload_of (lookup fs b) ≡ r
payload-found p [] b None l a i = refl
payload-found p [] b (Some w) l a i = absurd i
payload-found p (f ∷ fs) b r l a i =
    elim (cases_eq f.0 b) [
      | inl same ↦ rw (eq-eqb f.0 b same) (of_child f.1 r a.0 (rw (eq-eqb f.0 b same) at i))
      | inr other ↦ rw (ne_eqb f.0 b other) (payload-found p fs b r l a.1 (rw (ne_eqb f.0 b other) at i))
    ]
  where
    of_child : (x : Child ℕ) (r : Option ℕ) → MayHave p x → IsBelow (Some x) r → payload_of (Some x) ≡ r
    of_child (Payload v) None m i = absurd i
    of_child (Payload v) (Some w) m i = ap (λ k. Some k) (sym i)
    of_child (Node slot) r m i = absurd (omega (arith, m, l))

pub leaf-found : (c : List ℕ) (n : TableNode ℕ) (b : ℕ) (r : Option ℕ) → Encodes c n → length n.prefix ≡ 7 → IsBelow (lookup n.children b) r → payload_of (lookup n.children b) ≡ r
leaf-found c n b r e l i = payload-found n.prefix n.children b r l e.of_kind i

-- the children are counted, and there are no more than the form has room for
children-counted : (o : Option ℕ) (c : List ℕ) (es : List (ℕ × ℕ)) → HasChildren o c es → length es ≡ counted o c
children-counted None c es h = h.counted
children-counted (Some room) c es h = h.counted

pub encodes-counted : (c : List ℕ) (n : TableNode ℕ) → Encodes c n → length n.children ≡ counted (limit n.form) c
encodes-counted c n e = sym (stands-length e.words n.children e.stand) ∙ children-counted (limit n.form) c e.words e.children

-- what was found under a byte is the node's child there
pub found-child : (c : List ℕ) (n : TableNode ℕ) (b : ℕ) (r : Option ℕ) (o : Option ℕ) → limit n.form ≡ o → Encodes c n → ((es : List (ℕ × ℕ)) → HasChildren o c es → lookup es b ≡ r) → IsBelow (lookup n.children b) r
found-child c n b r o is e found = subst (λ x. IsBelow (lookup n.children b) x) (found e.words (subst (λ k. HasChildren k c e.words) is e.children)) (stands-lookup e.words n.children b e.stand)

lookup-absent : (es : List (ℕ × ℕ)) (fs : List (ℕ × Child ℕ)) (b : ℕ) → Stands es fs → lookup fs b ≡ None → lookup es b ≡ None
lookup-absent es fs b s none = go (lookup es b) (subst (λ x. IsBelow x (lookup es b)) none (stands-lookup es fs b s))
  where
    go : (o : Option ℕ) → IsBelow None o → o ≡ None
    go None t = refl
    go (Some w) t = absurd t

-- What a writer owes: its words are those of the changed node.
module _ (c d : List ℕ) (n : TableNode ℕ) (o : Option ℕ) (is : limit n.form ≡ o) (head : at d 0 ≡ at c 0) (e : Encodes c n) where
  here : HasChildren o c e.words
  here = subst (λ k. HasChildren k c e.words) is e.children

  there : (es : List (ℕ × ℕ)) → HasChildren o d es → HasChildren (limit n.form) d es
  there es h = subst (λ k. HasChildren k d es) (sym is) h

  same-head : IsHead (at d 0) (form_place n.form) n.prefix
  same-head = subst (λ k. IsHead k (form_place n.form) n.prefix) (sym head) e.head

  pub put-encoded : (b w : ℕ) (x : Child ℕ) → ((es : List (ℕ × ℕ)) → HasChildren o c es → lookup es b ≡ None → HasChildren o d (put es b w)) → IsWord w x → MayHave n.prefix x → lookup n.children b ≡ None → Encodes d (with_child n b (Some x))
  put-encoded b w x wrote i kind none = record {
    words = put e.words b w;
    head = same-head;
    children = there (put e.words b w) (wrote e.words here (lookup-absent e.words n.children b e.stand none));
    stand = stands-put e.words n.children b w x e.stand i;
    of_kind = kind-put n.prefix n.children b x e.of_kind kind;
  }

  pub change-encoded : (b w : ℕ) (x : Child ℕ) → ((es : List (ℕ × ℕ)) → HasChildren o c es → HasChildren o d (put es b w)) → IsWord w x → MayHave n.prefix x → Encodes d (with_child n b (Some x))
  change-encoded b w x wrote i kind = record {
    words = put e.words b w;
    head = same-head;
    children = there (put e.words b w) (wrote e.words here);
    stand = stands-put e.words n.children b w x e.stand i;
    of_kind = kind-put n.prefix n.children b x e.of_kind kind;
  }

  pub take-encoded : (b : ℕ) → ((es : List (ℕ × ℕ)) → HasChildren o c es → HasChildren o d (without es b)) → Encodes d (with_child n b None)
  take-encoded b wrote = record {
    words = without e.words b;
    head = same-head;
    children = there (without e.words b) (wrote e.words here);
    stand = stands-without e.words n.children b e.stand;
    of_kind = kind-without n.prefix n.children b e.of_kind;
  }

-- the same children in another form
pub moved-encoded : (c d : List ℕ) (n : TableNode ℕ) (form : NodeType) (o o' : Option ℕ) → limit n.form ≡ o → limit form ≡ o' → IsHead (at d 0) (form_place form) n.prefix → ((es : List (ℕ × ℕ)) → HasChildren o c es → HasChildren o' d es) → Encodes c n → Encodes d (in_form n form)
moved-encoded c d n form o o' is is' head moved e = record {
  words = e.words;
  head = head;
  children = subst (λ k. HasChildren k d e.words) (sym is') (moved e.words (subst (λ k. HasChildren k c e.words) is e.children));
  stand = e.stand;
  of_kind = e.of_kind;
}

-- and no children
pub empty-encoded : (d : List ℕ) (form : NodeType) (prefix : List ℕ) (o : Option ℕ) → limit form ≡ o → IsHead (at d 0) (form_place form) prefix → HasChildren o d [] → Encodes d (empty_node form prefix)
empty-encoded d form prefix o is head none = record {
  words = [];
  head = head;
  children = subst (λ k. HasChildren k d []) (sym is) none;
  stand = tt;
  of_kind = tt;
}

-- a form by its place
pub in_place-0 : (f : NodeType) → form_place f ≡ 0 → N4 ≡ f
in_place-0 N4 e = refl
in_place-0 N16 e = absurd (omega arith)
in_place-0 N48 e = absurd (omega arith)
in_place-0 N256 e = absurd (omega arith)

pub in_place-1 : (f : NodeType) → form_place f ≡ 1 → N16 ≡ f
in_place-1 N4 e = absurd (omega arith)
in_place-1 N16 e = refl
in_place-1 N48 e = absurd (omega arith)
in_place-1 N256 e = absurd (omega arith)

pub in_place-2 : (f : NodeType) → form_place f ≡ 2 → N48 ≡ f
in_place-2 N4 e = absurd (omega arith)
in_place-2 N16 e = absurd (omega arith)
in_place-2 N48 e = refl
in_place-2 N256 e = absurd (omega arith)

pub in_place-3 : (f : NodeType) → 2 < form_place f → N256 ≡ f
in_place-3 N4 e = absurd (omega arith)
in_place-3 N16 e = absurd (omega arith)
in_place-3 N48 e = absurd (omega arith)
in_place-3 N256 e = refl

-- what follows of a word that is there
pub if_some : {P Q : ℕ → Type 0} (o : Option ℕ) → ((w : ℕ) → P w → Q w) → IfSome o P → IfSome o Q
if_some None f h = tt
if_some (Some w) f h = f w h

pub few_forms : (f : NodeType) → form_place f < 4
few_forms N4 = omega arith
few_forms N16 = omega arith
few_forms N48 = omega arith
few_forms N256 = omega arith
