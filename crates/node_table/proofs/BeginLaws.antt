-- What it is that a list begins with another.
use Rattle.std.proofs.Common.{◌≡◌, ◌≢◌, ◌↔◌, ℕ, Bool, IsTrue, true, false, List, [], ◌∷◌, ◌++◌, eqb, refl, ap, sym, subst, ◌∙◌, inl, inr, append-nil, length, take, drop}
use Rattle.std.proofs.Math.Seq.{take-append_seam}
use Rattle.std.proofs.lemmas.List.{take-append-drop}
use Rattle.std.proofs.lemmas.Bool.{eq-eqb, ne_eqb, cases_eq, and_parts, eqb-true}
use Rattle.spec_node.specs.Key.{begins, Begins}

-- what q goes on with after p
pub record After (p q : List ℕ) : Type 0 where
  pub rest : List ℕ
  pub is : q ≡ p ++ rest

append_begins : (p r : List ℕ) → begins p (p ++ r) ≡ true
append_begins [] r = refl
append_begins (b ∷ p) r = rw (eq-eqb b b refl) (append_begins p r)

pub begins_append : (p r : List ℕ) → Begins p (p ++ r)
begins_append p r = record { holds = append_begins p r }

pub begins_by : (p r q : List ℕ) → q ≡ p ++ r → Begins p q
begins_by p r q e = subst (λ x. Begins p x) (sym e) (begins_append p r)

pub begins_itself : (p : List ℕ) → Begins p p
begins_itself p = begins_by p [] p (sym (append-nil p))

after_true : (p q : List ℕ) → begins p q ≡ true → After p q
after_true [] q h = record { rest = q; is = refl }
after_true (b ∷ p) [] h = absurd (cc)
after_true (b ∷ p) (c ∷ q) h =
    let parts = and_parts (eqb b c) (begins p q) h in
    let same = eqb-true b c parts.0 in
    let k = after_true p q parts.1 in
    record { rest = k.rest; is = ap (λ t. c ∷ t) k.is ∙ ap (λ x. x ∷ (p ++ k.rest)) (sym same) }

pub after : {p q : List ℕ} → Begins p q → After p q
after {p} {q} h = after_true p q h.holds

-- as many bytes of q as p has are p
pub begins_taken : (p q : List ℕ) → take (length p) q ≡ p → Begins p q
begins_taken p q e = begins_by p (drop (length p) q) q (sym (take-append-drop (length p) q) ∙ ap (λ t. t ++ drop (length p) q) e)

pub taken : (p q : List ℕ) → Begins p q → take (length p) q ≡ p
taken p q h = let x = after h in rw x.is (take-append_seam p x.rest)

pub begins_other : (p : List ℕ) (b c : ℕ) (r k : List ℕ) → b ≢ c → begins (p ++ b ∷ r) (p ++ c ∷ k) ≡ false
begins_other [] b c r k d = rw (ne_eqb b c d) refl
begins_other (x ∷ p) b c r k d = rw (eq-eqb x x refl) (begins_other p b c r k d)

pub begins_longer : (p r q : List ℕ) → begins p q ≡ false → begins (p ++ r) q ≡ false
begins_longer [] r q h = absurd (cc)
begins_longer (b ∷ p) r [] h = refl
begins_longer (b ∷ p) r (c ∷ q) h =
    elim (cases_eq b c) [
      | inl same ↦ let h' = rw (eq-eqb b c same) at h in rw (eq-eqb b c same) (begins_longer p r q h')
      | inr other ↦ rw (ne_eqb b c other) refl
    ]

-- a comparison of words decides whether the key begins with a prefix, where the word has the key's bytes
pub begun : {b : Bool} (q ks p key : List ℕ) → IsTrue b ↔ (take (length q) ks ≡ q) → q ≡ p → ks ≡ key → b ≡ true → Begins p key
begun q ks p key h e f t = subst (λ x. Begins x key) e (subst (λ x. Begins q x) f (begins_taken q ks (h.0 t)))

pub parted : {b : Bool} (q ks p key : List ℕ) → IsTrue b ↔ (take (length q) ks ≡ q) → q ≡ p → ks ≡ key → b ≡ false → Begins p key → ⊥
parted {b} q ks p key h e f t k =
    let reports : b ≡ true = h.1 (taken q ks (subst (λ x. Begins x ks) (sym e) (subst (λ x. Begins p x) (sym f) k))) in absurd (cc)
