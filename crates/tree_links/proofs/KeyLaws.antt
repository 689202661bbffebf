-- The key of a pair in its parent: its first byte is one of the bytes above, and the pair has the others.
use Rattle.std.proofs.Common.{◌≡◌, ℕ, suc, ◌≤◌, ◌⊎◌, List, [], ◌∷◌, ◌++◌, length, take, drop, get_or, refl, ap, sym, ◌∙◌, arith, inl, inr, length-append}
use Rattle.std.proofs.lemmas.Bool.{cases_eq}
use Rattle.std.proofs.lemmas.List.{length-take, drop_all}
use Rattle.spec_node.specs.Key.{Begins, IsFirstDifference}
use Rattle.spec_node.specs.TableNode.{TableNode, Child}
use Rattle.node_table.proofs.BeginLaws.{after, begins_by, begins_append, taken}
use Rattle.node_table.proofs.KeyLaws.{split_at}
use Rattle.tree_links.specs.SeenTable.{key_under, leaf_of}

pub key_long : (p : List ℕ) (b : ℕ) (rest : List ℕ) → length rest ≡ 7 → length (key_under p b rest) ≡ 8
key_long p b rest seven = omega (arith, length-append (take 1 (p ++ b ∷ [])) rest, length-take 1 (p ++ b ∷ []), length-append p (b ∷ []), seven)

-- the key is the first byte, from the bytes above, and its other seven
pub whole_key : (p : List ℕ) (b : ℕ) (key : List ℕ) → Begins (p ++ b ∷ []) key → key_under p b (drop 1 key) ≡ key
whole_key [] b key h = let x = after h in rw x.is refl
whole_key (c ∷ p) b key h = let x = after h in rw x.is refl

pub rest_of : (p : List ℕ) (b : ℕ) (rest : List ℕ) → drop 1 (key_under p b rest) ≡ rest
rest_of [] b rest = refl
rest_of (c ∷ p) b rest = refl

-- from its first byte
pub key_first : (p : List ℕ) (b first : ℕ) (rest : List ℕ) → key_under p b [] ≡ first ∷ [] → key_under p b rest ≡ first ∷ rest
key_first [] b first rest h = let e : b ≡ first = cc in ap (λ x. x ∷ rest) e
key_first (c ∷ p) b first rest h = let e : c ≡ first = cc in ap (λ x. x ∷ rest) e

pub eight : (key : List ℕ) → length key ≡ 8 → key ≡ take 7 key ++ get_or key 7 0 ∷ []
eight key full = split_at key 7 (omega (arith, full)) ∙ ap (λ x. take 7 key ++ get_or key 7 0 ∷ x) (drop_all 8 key (omega (arith, full)))

pub begins_seven : (p key : List ℕ) → Begins p key → length p ≡ 7 → p ≡ take 7 key
begins_seven p key h seven = sym (taken p key h) ∙ ap (λ n. take n key) seven

-- the byte of the first child
abbrev first_byte : {P : Type 0} → List (ℕ × Child P) → ℕ
first_byte [] = 0
first_byte (e ∷ es) = e.0

-- a leaf of one pair has its key
pub same_leaf : {P : Type 0} (j k : List ℕ) (v w : P) → length j ≡ 8 → length k ≡ 8 → ◌≡◌ {A = TableNode P} (leaf_of j v) (leaf_of k w) → j ≡ k
same_leaf {P} j k v w long full e =
    let first : take 7 j ≡ take 7 k = ap (λ (n : TableNode P). n.prefix) e in
    let last : get_or j 7 0 ≡ get_or k 7 0 = ap (λ (n : TableNode P). first_byte n.children) e in
    eight j long ∙ ap (λ x. x ++ get_or j 7 0 ∷ []) first ∙ ap (λ x. take 7 k ++ x ∷ []) last ∙ sym (eight k full)

-- bytes begin a key, or differ from it at a first place
pub begin_or_differ : (p key : List ℕ) → length p ≤ length key → Begins p key ⊎ ((at : ℕ) × IsFirstDifference p key at)
begin_or_differ [] key short = inl (begins_append [] key)
begin_or_differ (b ∷ p) [] short = absurd (omega (arith, short))
begin_or_differ (b ∷ p) (c ∷ key) short =
    elim (cases_eq b c) [
      | inl same ↦ elim (begin_or_differ p key (omega (arith, short))) [
        | inl begins ↦ let x = after begins in inl (begins_by (b ∷ p) x.rest (c ∷ key) (ap (λ y. y ∷ key) (sym same) ∙ ap (λ y. b ∷ y) x.is))
        | inr far ↦ inr (
          suc far.0,
          record {
            inside = omega (arith, far.1.inside);
            same_before = ap (λ y. y ∷ take far.0 p) same ∙ ap (λ y. c ∷ y) far.1.same_before;
            differ = far.1.differ;
          },
        )
      ]
      | inr other ↦ inr (0, record { inside = omega arith; same_before = refl; differ = other })
    ]
