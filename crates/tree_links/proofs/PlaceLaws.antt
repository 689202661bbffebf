-- What a node has as links, where its children change.
use Rattle.std.proofs.Common.{◌≡◌, ℕ, ◌+◌, List, ◌∷◌, Option, Some, None, ap, sym, ◌∙◌}
use Rattle.std.specs.Option.{option_map}
use Rattle.spec_map.specs.Map.{lookup, put, without, between}
use Rattle.spec_node.specs.TableNode.{TableNodeOf}
use Rattle.spec_node.specs.declared.child.Child.{Child as ChildOf}
use Rattle.spec_node.specs.declared.child.Child.TheVariants as children
use Rattle.node_table.specs.inner.Kinds.{mapped}
use Rattle.node_table.proofs.KindLaws.{put-mapped, without-mapped, between-mapped, lookup-mapped_none, lookup-mapped_some}
use Rattle.tree_links.specs.LinkNode.{with_link, without_link}
use Rattle.tree_links.specs.Places.{as_link, as_links, as_linked}
use Rattle.tree_links.specs.declared.link.Link.{Link}
use Rattle.tree_links.specs.declared.link.Link.TheVariants.{Payload}
use Rattle.tree_links.specs.declared.place.Place.{Place}

module _ {P : Type 0} where
  pub put_link : (n m : TableNodeOf P (Place P)) (byte : ℕ) (c : ChildOf P (Place P)) (l : Link P) → as_link c ≡ l
      → m ≡ record n { children = put n.children byte c } → as_linked m ≡ with_link (as_linked n) byte l
  put_link n m byte c l same is =
      ap (λ x. as_linked x) is
      ∙ ap (λ es. record (as_linked n) { links = es }) (put-mapped as_link n.children byte c ∙ ap (λ x. put (as_links n.children) byte x) same)

  pub taken_link : (n m : TableNodeOf P (Place P)) (byte : ℕ) → m ≡ record n { children = without n.children byte }
      → as_linked m ≡ without_link (as_linked n) byte
  taken_link n m byte is =
      ap (λ x. as_linked x) is ∙ ap (λ es. record (as_linked n) { links = es }) (without-mapped as_link n.children byte)

  pub first_link : (es : List (ℕ × ChildOf P (Place P))) (from byte : ℕ) (c : ChildOf P (Place P)) (l : Link P) → l ≡ as_link c
      → between es from 256 ≡ (byte, c) ∷ between es (byte + 1) 256
      → between (as_links es) from 256 ≡ (byte, l) ∷ between (as_links es) (byte + 1) 256
  first_link es from byte c l same is =
      between-mapped as_link es from 256
      ∙ ap (λ t. mapped as_link t) is
      ∙ ap (λ t. (byte, as_link c) ∷ t) (sym (between-mapped as_link es (byte + 1) 256))
      ∙ ap (λ x. (byte, x) ∷ between (as_links es) (byte + 1) 256) (sym same)

  -- a payload under a byte is seen there
  pub found_payload : (es : List (ℕ × ChildOf P (Place P))) (byte : ℕ) (before : Option P) → lookup es byte ≡ option_map (λ v. children.Payload v) before
      → lookup (as_links es) byte ≡ option_map (λ v. Payload v) before
  found_payload es byte None found = lookup-mapped_none as_link es byte found
  found_payload es byte (Some v) found = lookup-mapped_some as_link es byte (children.Payload v) found
