-- Nodes that stay sound.
use Rattle.std.proofs.Common.{◌≡◌, ℕ, ◌<◌, ◌≤◌, List, length, take, drop, sym, subst, arith}
use Rattle.std.proofs.lemmas.List.{take-append-drop}
use Rattle.spec_map.specs.Map.{put, Rises}
use Rattle.spec_node.specs.Key.{AreBytes}
use Rattle.node_table.specs.Table.{IsSound}
use Rattle.spec_node.specs.TableNode.{TableNode, Child}
use Rattle.spec_map.proofs.MapLaws.{Rises-put}
use Rattle.node_table.proofs.KeyLaws.{AreBytes-append_left}

pub AreBytes-take : (i : ℕ) (p : List ℕ) → AreBytes p → AreBytes (take i p)
AreBytes-take i p h = AreBytes-append_left (take i p) (drop i p) (subst AreBytes (sym (take-append-drop i p)) h)

module _ {P : Type 0} where
  -- a node with a prefix of bytes and children in order
  pub sound_from : (m : TableNode P) (p : List ℕ) (es : List (ℕ × Child P)) → m.prefix ≡ p → m.children ≡ es → AreBytes p → length p ≤ 7 → Rises 0 256 es → IsSound m
  sound_from m p es e f bytes short ordered = record {
    ordered = subst (λ x. Rises 0 256 x) (sym f) ordered;
    bytes = subst AreBytes (sym e) bytes;
    short = subst (λ x. length x ≤ 7) (sym e) short;
  }

  -- with one child put
  pub sound-put : (n m : TableNode P) (b : ℕ) (c : Child P) → IsSound n → b < 256 → m.prefix ≡ n.prefix → m.children ≡ put n.children b c → IsSound m
  sound-put n m b c h byte e f =
      sound_from m n.prefix (put n.children b c) e f h.bytes h.short (Rises-put 0 256 n.children b c h.ordered (omega arith) byte)
