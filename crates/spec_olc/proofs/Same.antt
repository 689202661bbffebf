-- The meaning of a number is the number, so the meaning of a state over numbers is the state.
use Rattle.std.proofs.Common.{◌≡◌, ℕ, List, [], ◌∷◌, Option, Some, None, refl, ap, ◌∙◌}
use Rattle.node_table.specs.inner.Kinds.{mapped}
use Rattle.spec_node.specs.TableNode.{Child}
use Rattle.spec_node.specs.declared.child.Child.TheVariants.{Payload, Node as node}
use Rattle.spec_olc.specs.Meaning.{in_some, child_of, seen_of, op_of, asking_of, node_meant, flight_of, meant}
use Rattle.spec_olc.specs.State.{State, VersionedNode, CallState}
use Rattle.spec_olc.specs.declared.types.Asking.{Asking}
use Rattle.spec_olc.specs.declared.types.Asking.TheVariants.{Fresh, Wants, Given}
use Rattle.spec_olc.specs.declared.types.Op.{Op}
use Rattle.spec_olc.specs.declared.types.Op.TheVariants.{CompareExchange}
use Rattle.spec_olc.specs.declared.types.Seen.{Seen}

module _ {X : Type 0} where
  pub some_same : (f : X → X) → ((x : X) → f x ≡ x) → (o : Option X) → in_some f o ≡ o
  some_same f h None = refl
  some_same f h (Some x) = ap Some (h x)

  pub list_same : (f : X → X) → ((x : X) → f x ≡ x) → (es : List (ℕ × X)) → mapped f es ≡ es
  list_same f h [] = refl
  list_same f h (e ∷ es) = ap (λ x. (e.0, x) ∷ mapped f es) (h e.1) ∙ ap (λ t. e ∷ t) (list_same f h es)

abbrev pub itself : ℕ → ℕ
itself x = x

pub child_same : (c : Child ℕ) → child_of itself c ≡ c
child_same (Payload v) = refl
child_same (node slot) = refl

pub number_same : (o : Option ℕ) → in_some itself o ≡ o
number_same = some_same itself (λ x. refl)

pub seen_same : (s : Seen ℕ) → seen_of itself s ≡ s
seen_same s = ap (λ (c : Option (Child ℕ)). record s { child = c }) (some_same (child_of itself) child_same s.child)

pub op_same : (op : Op ℕ) → op_of itself op ≡ op
op_same (CompareExchange k old new) = ap (CompareExchange k old) (number_same new)
op_same op = refl

pub asking_same : (a : Asking ℕ) → asking_of itself a ≡ a
asking_same Fresh = refl
asking_same (Wants old) = ap Wants (number_same old)
asking_same (Given old answer) = ap (λ o. Given o (in_some itself answer)) (number_same old) ∙ ap (Given old) (number_same answer)

node_same : (a : VersionedNode ℕ) → node_meant itself a ≡ a
node_same a = ap (λ (cs : List (ℕ × Child ℕ)). record a { node = record a.node { children = cs } }) (list_same (child_of itself) child_same a.node.children)

flight_same : (c : CallState ℕ) → flight_of itself c ≡ c
flight_same c =
    ap (λ (o : Option (Op ℕ)). record c { op = o; seen = in_some (seen_of itself) c.seen; asking = asking_of itself c.asking }) (some_same (op_of itself) op_same c.op)
    ∙ (ap (λ (s : Option (Seen ℕ)). record c { seen = s; asking = asking_of itself c.asking }) (some_same (seen_of itself) seen_same c.seen)
    ∙ ap (λ (a : Asking ℕ). record c { asking = a }) (asking_same c.asking))

pub state_same : (s : State ℕ) → meant itself s ≡ s
state_same s =
    ap (λ (ns : List (ℕ × VersionedNode ℕ)). record s { nodes = ns; calls = mapped (flight_of itself) s.calls }) (list_same (node_meant itself) node_same s.nodes)
    ∙ ap (λ (fs : List (ℕ × CallState ℕ)). record s { calls = fs }) (list_same (flight_of itself) flight_same s.calls)
