-- A number in a list, and the sizes of a state's nodes without one of them.
use Rattle.std.proofs.Common.{◌≡◌, ℕ, ◌+◌, List, [], ◌∷◌, Option, Some, inl, inr, refl, subst, ap, arith}
use Rattle.std.proofs.lemmas.Bool.{eq-eqb, ne_eqb}
use Rattle.std.proofs.lemmas.Bool.Decides.{eqb_tells}
use Rattle.spec_map.specs.Map.{lookup, without}
use Rattle.node_base.specs.Form.{stated_size}
use Rattle.spec_olc.specs.State.{VersionedNode}
use Rattle.spec_olc.specs.WellFormed.{sizes_of}
use Rattle.olc_state.proofs.Options.{none_some, some_same}
use Rattle.olc_state.specs.declared.stage.Record.{Record}
use Rattle.olc_state.specs.declared.stage.Stage.TheVariants.{Tail}
use Rattle.olc_state.specs.declared.stage.Task.{Task}
use Rattle.olc_state.specs.declared.tail.Tail as tails

-- a call at an event of its tail
abbrev pub at : {M : Type 0} → tails.Tail → Task M → Record M
at tail task = record { stage = Tail tail; task = task }

module _ {M : Type 0} where
  first-size : (e : ℕ × VersionedNode M) (es : List (ℕ × VersionedNode M)) (k : ℕ) (a : VersionedNode M) → e.0 ≡ k → lookup (e ∷ es) k ≡ Some a → sizes_of (e ∷ es) ≡ sizes_of (without (e ∷ es) k) + stated_size a.node.form
  first-size e es k a same h =
      let test = eq-eqb e.0 k same in
      let is : e.1 ≡ a = some_same e.1 a (subst (λ (o : Option (VersionedNode M)). o ≡ Some a) (rw test refl) h) in
      let rest : without (e ∷ es) k ≡ es = rw test refl in
      let size : stated_size e.1.node.form ≡ stated_size a.node.form = ap (λ (z : VersionedNode M). stated_size z.node.form) is in
      let left : sizes_of (without (e ∷ es) k) ≡ sizes_of es = ap sizes_of rest in omega (arith, size, left)

  -- the sizes without one node
  pub sizes-without : (m : List (ℕ × VersionedNode M)) (k : ℕ) (a : VersionedNode M) → lookup m k ≡ Some a → sizes_of m ≡ sizes_of (without m k) + stated_size a.node.form
  sizes-without [] k a h = absurd (none_some a h)
  sizes-without (e ∷ es) k a h =
      elim (eqb_tells e.0 k) [
        | inl same ↦ first-size e es k a same.1 h
        | inr off ↦
            let test = ne_eqb e.0 k off.1 in
            let next : lookup es k ≡ Some a = subst (λ (o : Option (VersionedNode M)). o ≡ Some a) (rw test refl) h in
            let less : sizes_of es ≡ sizes_of (without es k) + stated_size a.node.form = sizes-without es k a next in
            let rest : without (e ∷ es) k ≡ e ∷ without es k = rw test refl in
            let left : sizes_of (without (e ∷ es) k) ≡ stated_size e.1.node.form + sizes_of (without es k) = ap sizes_of rest in omega (arith, less, left)
      ]
