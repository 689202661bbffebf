-- A node loses children.
use Rattle.std.proofs.Common.{◌≡◌, ◌≢◌, ◌⊎◌, ℕ, ◌+◌, ◌<◌, ◌≤◌, [], Option, Some, None, IfSome, IfNone, refl, sym, ap, ◌∙◌, subst, inl, inr, arith}
use mathlib.Core.Logic.{dite}
use native.Mathlib.Decide.{ℕ_discrete}
use Rattle.spec_node.specs.TableNode.{TableNode}
use Rattle.spec_map.specs.Map.{lookup}
use Rattle.spec_map.proofs.JoinLaws.{lookup-above}
use Rattle.node_base.specs.Form.{limit, form_place}
use Rattle.live_nodes.specs.Nodes.{Content}
use Rattle.live_layout.specs.Words.{at}
use Rattle.live_layout.specs.Head.{IsHead}
use Rattle.live_layout.specs.Encodes.{HasChildren, Encodes, IsBelow, with_child, empty_node}
use Rattle.live_updates.specs.inner.Losses.{IsLeft}
use Rattle.live_updates.proofs.Ordered.{encodes_rise}
use Rattle.live_updates.proofs.Rising.{lookup-same, lookup-other}
use Rattle.live_growth.proofs.Values.{none_below}

-- all of them
pub cleared : (c d : Content) (n : TableNode ℕ) (o : Option ℕ) → limit n.form ≡ o → at d 0 ≡ at c 0 → HasChildren o d [] → Encodes c n → Encodes d (empty_node n.form n.prefix)
cleared c d n o is head none e = record {
  words = [];
  head = subst (λ (z : ℕ). IsHead z (form_place n.form) n.prefix) (sym head) e.head;
  children = subst (λ (z : Option ℕ). HasChildren z d []) (sym is) none;
  stand = tt;
  of_kind = tt;
}

pub left_none : (c d : Content) (n : TableNode ℕ) (first to : ℕ) → first ≡ 0 → to ≡ 256 → Encodes c n → Encodes d (empty_node n.form n.prefix) → IsLeft first to n d
left_none c d n first to low high was e = record {
  its = empty_node n.form n.prefix;
  encodes = e;
  form = refl;
  prefix = refl;
  gone = λ b from below. refl;
  kept = λ b side. sym (lookup-above 0 256 n.children b (encodes_rise c n was) (beyond b side));
}
  where
    beyond : (b : ℕ) → (b < first) ⊎ (to ≤ b) → 256 ≤ b
    beyond b (inl l) = absurd (omega (arith, l, low))
    beyond b (inr l) = omega (arith, l, high)

-- none as yet
pub left_all : (c : Content) (n : TableNode ℕ) (first : ℕ) → Encodes c n → IsLeft first first n c
left_all c n first e = record { its = n; encodes = e; form = refl; prefix = refl; gone = λ b from below. absurd (omega (arith, from, below)); kept = λ b side. refl }

-- ONE MORE
module _ (c d : Content) (n : TableNode ℕ) (first b : ℕ) (from : first ≤ b) (l : IsLeft first b n c) where
  other : (x : ℕ) → (x < first) ⊎ (b + 1 ≤ x) → x ≢ b
  other x (inl low) = λ e. omega (arith, low, e, from)
  other x (inr high) = λ e. omega (arith, high, e)

  before : (x : ℕ) → (x < first) ⊎ (b + 1 ≤ x) → (x < first) ⊎ (b ≤ x)
  before x (inl low) = inl low
  before x (inr high) = inr (omega (arith, high))

  left_more : Encodes d (with_child l.its b None) → IsLeft first (b + 1) n d
  left_more e = record {
    its = with_child l.its b None;
    encodes = e;
    form = l.form;
    prefix = l.prefix;
    gone = λ x low below. dite (ℕ_discrete x b)
        (λ same. ap (lookup (with_child l.its b None).children) same ∙ lookup-same l.its.children b None (256, encodes_rise c l.its l.encodes))
        (λ ne. lookup-other l.its.children b None x ne ∙ l.gone x low (omega (arith, below, ne)));
    kept = λ x side. lookup-other l.its.children b None x (other x side) ∙ l.kept x (before x side);
  }

  left_same : d ≡ c → lookup l.its.children b ≡ None → IsLeft first (b + 1) n d
  left_same same none = record {
    its = l.its;
    encodes = subst (λ (z : Content). Encodes z l.its) (sym same) l.encodes;
    form = l.form;
    prefix = l.prefix;
    gone = λ x low below. dite (ℕ_discrete x b) (λ e. ap (lookup l.its.children) e ∙ none) (λ ne. l.gone x low (omega (arith, below, ne)));
    kept = λ x side. l.kept x (before x side);
  }

  -- by what `take` returns
  pub left_taken : (r : Option ℕ) → IsBelow (lookup l.its.children b) r → IfSome r (λ _. Encodes d (with_child l.its b None)) → IfNone r (d ≡ c) → IsLeft first (b + 1) n d
  left_taken None was wrote same = left_same same (none_below (lookup l.its.children b) None was refl)
  left_taken (Some w) was wrote same = left_more wrote
