-- A change of a pair raises the count of its key; other keys' pairs are unchanged.
use Rattle.std.proofs.Common.{◌≡◌, ◌≢◌, ℕ, ◌+◌, ◌≤◌, ◌<◌, ◌%◌, min, slice_index, inl, inr, sym, ap, ◌∙◌, arith}
use Rattle.std.proofs.lemmas.Bool.{cases_eq}
use Rattle.spec_map.specs.Map.{lookup, put, without}
use Rattle.spec_map.proofs.MapLaws.{lookup-put_other, lookup-without_other}
use Rattle.node_table.specs.inner.Kinds.{mapped}
use Rattle.spec_olc.specs.Meaning.{in_some}
use Rattle.share_tree.proofs.Mapped.{lookup_mapped}
use Rattle.share_tree.specs.inner.Contents.{Contents}
use Rattle.share_tree.specs.inner.Current.{change_count, CountsRise}

no_change : (a b : ℕ) → b ≡ min (a + 1) 18446744073709551615 → a ≡ b → b < 18446744073709551615 → ⊥
no_change a b is same below = omega arith

up : (a b : ℕ) → a ≤ 18446744073709551615 → b ≡ min (a + 1) 18446744073709551615 → a ≤ b
up a b small is = omega arith

module _ {P M : Type 0} (meaning : P → M) (old new : Contents P) where
  -- nothing was changed
  pub onward_still : new.pairs ≡ old.pairs → new.counts ≡ old.counts → CountsRise meaning old new
  onward_still pairs counts = record {
    rises = λ k. omega (arith, ap (λ cs. change_count cs k) counts);
    stays = λ k e below. ap (λ es. lookup (mapped meaning es) k) pairs;
  }

  module _ (key : ℕ) (small : change_count old.counts key ≤ 18446744073709551615)
      (own : (k : ℕ) → k % 64 ≡ key % 64 → change_count new.counts k ≡ min (change_count old.counts k + 1) 18446744073709551615)
      (others : (k : ℕ) → k % 64 ≢ key % 64 → change_count new.counts k ≡ change_count old.counts k) where
    -- a counted change at one key
    pub onward_at : ((k : ℕ) → k ≢ key → lookup new.pairs k ≡ lookup old.pairs k) → CountsRise meaning old new
    onward_at elsewhere = record {
      rises = λ k. elim (cases_eq (k % 64) (key % 64)) [
        | inl is ↦
            let there : change_count old.counts k ≡ change_count old.counts key = ap (λ i. slice_index old.counts i) is in
            up (change_count old.counts k) (change_count new.counts k) (omega arith) (own k is)
        | inr not ↦ omega (arith, others k not)
      ];
      stays = λ k same below. elim (cases_eq (k % 64) (key % 64)) [
        | inl is ↦ absurd (no_change (change_count old.counts k) (change_count new.counts k) (own k is) same below)
        | inr not ↦
            lookup_mapped meaning new.pairs k
            ∙ (ap (λ o. in_some meaning o) (elsewhere k (λ is. not (ap (λ i. i % 64) is)))
            ∙ sym (lookup_mapped meaning old.pairs k))
      ];
    }

    pub onward_put : (v : P) → new.pairs ≡ put old.pairs key v → CountsRise meaning old new
    onward_put v is = onward_at (λ k not. ap (λ es. lookup es k) is ∙ lookup-put_other old.pairs key v k not)

    pub onward_without : new.pairs ≡ without old.pairs key → CountsRise meaning old new
    onward_without is = onward_at (λ k not. ap (λ es. lookup es k) is ∙ lookup-without_other old.pairs key k not)

  -- a counted change at each key
  pub onward_all : ((k : ℕ) → change_count old.counts k ≤ 18446744073709551615) → ((k : ℕ) → change_count new.counts k ≡ min (change_count old.counts k + 1) 18446744073709551615) → CountsRise meaning old new
  onward_all small all = record {
    rises = λ k. up (change_count old.counts k) (change_count new.counts k) (small k) (all k);
    stays = λ k same below. absurd (no_change (change_count old.counts k) (change_count new.counts k) (all k) same below);
  }
