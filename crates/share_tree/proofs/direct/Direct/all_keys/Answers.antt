use Rattle.std.proofs.Common.{◌≡◌, ℕ, List, map, refl, sym, ap, ◌∙◌, ◌^◌}
use Rattle.spec_map.specs.Map.{Pairs, IsMap}
use Rattle.node_table.proofs.KindLaws.{Rises-mapped}
use Rattle.node_table.specs.inner.Kinds.{mapped}
use Rattle.share_tree.proofs.Mapped.{keys_mapped}
use Rattle.share_tree.proofs.direct.Direct.all_keys.Goals as goal

-- the keys of a tree's pairs are those of their meanings
listed : {P M K : Type 0} (f : P → M) (read : ℕ → K) (es ts : Pairs P) (keys : List K) → IsMap es → ts ≡ es → keys ≡ map read (map (λ (pair : ℕ × P). pair.0) ts)
    → (m : Pairs M) × IsMap m × (m ≡ mapped f es) × (keys ≡ map read (map (λ (pair : ℕ × M). pair.0) m))
listed {P} f read es ts keys ordered same is = (
  mapped f es,
  Rises-mapped f 0 (2 ^ 64) es ordered,
  refl,
  is ∙ (ap (λ (xs : Pairs P). map read (map (λ (pair : ℕ × P). pair.0) xs)) same ∙ ap (λ (ks : List ℕ). map read ks) (sym (keys_mapped f es))),
)

pub returns : goal.returns
returns g c = rw (← c.self.view_is) (listed g.P.HasMeaning.meaning g.K.Word.of_number c.self.inside.tree.pairs _ _ c.tree.ensures.ordered c.tree.ensures.pairs c.in_ok-keys.ensures)
