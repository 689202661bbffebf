-- Spare rows of nodes, by what is seen of them.
use Rattle.std.proofs.Common.{◌≡◌, ℕ, ◌<◌, length, Option, Some, ap, sym, subst, ◌∙◌, arith}
use Rattle.std.specs.Option.{option_map}
use Rattle.std.specs.Global.{Vec}
use Rattle.node_rows.specs.Spare.{IsSpareFor}
use Rattle.tree_links.specs.LinkNode.{LinkNode}
use Rattle.tree_links.specs.SeenTable.{LinkTable, name_of, seen_node, seen_table}
use Rattle.tree_links.specs.Spares.{HasSpare}
use Rattle.tree_links.specs.declared.link.Link.TheVariants.{Payload}
use Rattle.tree_links.specs.declared.place.Place.{Place}
use Rattle.tree_links.specs.inner.Slots.{HasSpareAt, LacksLink}
use Rattle.tree_links.proofs.SeenLaws.{length-seen, seen_slot}

module _ {P : Type 0} (t : LinkTable P) (i : ℕ) (spare : Option (Vec (Place P))) where
  pub spare_at : HasSpare (seen_table t) (name_of i) spare → HasSpareAt t i spare
  spare_at h n here = λ form short.
      subst (λ k. IsSpareFor k spare) (length-seen i n.links) (h (seen_node i n) (seen_slot t i ∙ ap (option_map (λ x. seen_node i x)) here) form short)

  -- a leaf needs none
  pub leaf_spare : (b : ℕ) (v : P) → LacksLink t i b (Payload v) → HasSpareAt t i spare
  leaf_spare b v l n here = λ form short.
      let both : Some l.node ≡ Some n = sym l.here ∙ here in
      let same : l.node ≡ n = cc in
      absurd (let long = subst (λ (m : LinkNode P). length m.prefix ≡ 7) same l.kind in omega (arith, short, long))
