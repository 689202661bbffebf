-- WHAT AN EVENT THAT WRITES LEAVES of a table: the place facts, what other calls know, and which nodes need a holder.
use Rattle.std.proofs.Common.{◌≡◌, ◌≢◌, ℕ, List, [], ◌∷◌, ◌⊎◌, inl, inr, sym, subst, ap, ◌∙◌}
use Rattle.std.proofs.lemmas.Bool.Decides.{eqb_tells}
use Rattle.olc_state.specs.inner.World.{NodeMap}
use Rattle.olc_state.specs.inner.Tables.{IsIn, IsPlaced, Guarantees, PrivateStays, NeedsHolder}
use Rattle.olc_laws.proofs.Trees.{Tree, IsTree, Pays, linked_in, tree_of, placed_tree, tree_placed, placed_worded, tree_same}
use Rattle.olc_laws.proofs.Pairs.{SamePairs, same_pairs}
use Rattle.olc_laws.proofs.Slots.{StepsAt, untouched}

-- the number is none of these
abbrev pub Beside : ℕ → List ℕ → Type 0
Beside s slots = IsIn s slots → ⊥

-- it holds of each number in the list
abbrev pub AllIn : (ℕ → Type 0) → List ℕ → Type 0
AllIn Q [] = Unit {0}
AllIn Q (s ∷ slots) = Q s × AllIn Q slots

pub all_in : (Q : ℕ → Type 0) (slots : List ℕ) → AllIn Q slots → (s : ℕ) → IsIn s slots → Q s
all_in Q [] all s h = absurd h
all_in Q (x ∷ slots) all s h = elim h [ inl e ↦ subst Q e all.0 | inr later ↦ all_in Q slots all.1 s later ]

pub all_of : (Q R : ℕ → Type 0) (slots : List ℕ) → ((s : ℕ) → Q s → R s) → AllIn Q slots → AllIn R slots
all_of Q R [] on all = tt
all_of Q R (s ∷ slots) on all = (on s all.0, all_of Q R slots on all.1)

pub in_or : (s : ℕ) (slots : List ℕ) → IsIn s slots ⊎ Beside s slots
in_or s [] = inr (λ h. h)
in_or s (x ∷ slots) =
    elim (eqb_tells x s) [
      | inl e ↦ inl (inl e.1)
      | inr ne ↦ elim (in_or s slots) [
        | inl later ↦ inl (inr later)
        | inr out ↦ inr (λ h. elim h [ inl e ↦ ne.1 e | inr later ↦ out later ])
      ]
    ]

module _ {M : Type 0} where
  -- all other slots are unchanged
  abbrev pub OthersStay : NodeMap M → NodeMap M → List ℕ → Type 0
  OthersStay t t' slots = (s : ℕ) → Beside s slots → t' s ≡ t s

  -- The event of a call that has its nodes wrote these slots. The place facts hold again; calls with pins that may rely
  -- on it keep what they know; private nodes of other calls stay; of the slots that were written at most the named ones
  -- need a holder.
  pub record Effect (t t' : NodeMap M) (root : ℕ) (Mine May : ℕ → Type 0) (written named : List ℕ) : Type 0 where
    pub placed : IsPlaced t' root
    pub others : (pin : ℕ) → May pin → Guarantees t t' Mine pin
    pub privates : PrivateStays t t' Mine
    pub needs : (s : ℕ) → NeedsHolder t' s → IsIn s named ⊎ (NeedsHolder t s × Beside s written)

  -- nothing else needs a holder that needed none
  pub still_needs : (t t' : NodeMap M) (s : ℕ) → t' s ≡ t s → NeedsHolder t' s → NeedsHolder t s
  still_needs t t' s same need = record { node = need.node; here = sym same ∙ need.here; why = need.why }

  -- slot by slot
  pub effect : (t t' : NodeMap M) (root : ℕ) (Mine May : ℕ → Type 0) (written named : List ℕ) → IsPlaced t root → OthersStay t t' written
      → AllIn (StepsAt t t' Mine May) written → AllIn (λ s. NeedsHolder t' s → IsIn s named) written → (IsTree (tree_of t) root → IsTree (tree_of t') root) → Effect t t' root Mine May written named
  effect t t' root Mine May written named placed others steps needs tree =
      let at : (s : ℕ) → StepsAt t t' Mine May s = λ s.
      elim (in_or s written) [
        | inl one ↦ all_in (StepsAt t t' Mine May) written steps s one
        | inr out ↦ untouched t t' Mine May s (others s out) (placed_worded t root placed s)
      ] in
      record {
        placed = tree_placed t' root (tree (placed_tree t root placed)) (λ s. (at s).worded);
        others = λ pin may s. (at s).remains pin may;
        privates = λ s. (at s).stays;
        needs = λ s need. elim (in_or s written) [
          | inl one ↦ inl (all_in (λ z. NeedsHolder t' z → IsIn z named) written needs s one need)
          | inr out ↦ inr (still_needs t t' s (others s out) need, out)
        ];
      }

  -- THE LINKED NODES STAY: so do the place facts, and all pairs
  abbrev pub SameTree : NodeMap M → NodeMap M → ℕ → Type 0
  SameTree t t' s = tree_of t' s ≡ tree_of t s

  pub same_tree : (t t' : NodeMap M) (written : List ℕ) → OthersStay t t' written → AllIn (SameTree t t') written → (s : ℕ) → SameTree t t' s
  same_tree t t' written others same s =
      elim (in_or s written) [
        | inl one ↦ all_in (SameTree t t') written same s one
        | inr out ↦ ap linked_in (others s out)
      ]

  pub same_tree_effect : (t t' : NodeMap M) (root : ℕ) (Mine May : ℕ → Type 0) (written named : List ℕ) → IsPlaced t root → OthersStay t t' written
      → AllIn (SameTree t t') written → AllIn (StepsAt t t' Mine May) written → AllIn (λ s. NeedsHolder t' s → IsIn s named) written → Effect t t' root Mine May written named
  same_tree_effect t t' root Mine May written named placed others same steps needs =
      effect t t' root Mine May written named placed others steps needs (tree_same (tree_of t) (tree_of t') root (same_tree t t' written others same))

  pays_same : (f f' : Tree M) → ((s : ℕ) → f' s ≡ f s) → (p : List ℕ) (x : ℕ) (v : M) → Pays f p x v → Pays f' p x v
  pays_same f f' same p x v h = record { slot = h.slot; node = h.node; here = same h.slot ∙ h.here; same = h.same; child = h.child }

  pub same_tree_pairs : (t t' : NodeMap M) (written : List ℕ) → OthersStay t t' written → AllIn (SameTree t t') written → SamePairs t t'
  same_tree_pairs t t' written others same =
      let all : (s : ℕ) → SameTree t t' s = same_tree t t' written others same in
      same_pairs t t' (λ p x v. (
        (λ (h : Pays (tree_of t) p x v). pays_same (tree_of t) (tree_of t') all p x v h),
        (λ (h : Pays (tree_of t') p x v). pays_same (tree_of t') (tree_of t) (λ s. sym (all s)) p x v h),
      ))

  -- all other slots stay, with the written ones as a list
  pub beside_one : (t t' : NodeMap M) (s : ℕ) → ((o : ℕ) → o ≢ s → t' o ≡ t o) → OthersStay t t' (s ∷ [])
  beside_one t t' s others o out = others o (λ e. out (inl (sym e)))

  pub beside_two : (t t' : NodeMap M) (s r : ℕ) → ((o : ℕ) → o ≢ s → o ≢ r → t' o ≡ t o) → OthersStay t t' (s ∷ r ∷ [])
  beside_two t t' s r others o out = others o (λ e. out (inl (sym e))) (λ e. out (inr (inl (sym e))))
