-- How a node of a table lies in words.
use Rattle.std.specs.Prelude.{◌≡◌, ℕ, ◌+◌, ◌*◌, ◌<◌, ◌≤◌, List, [], ◌∷◌, Option, Some, None}
use Rattle.spec_map.specs.Map.{with_answer}
use Rattle.node_base.specs.Form.{limit, form_place}
use Rattle.node_base.specs.declared.base_node.NodeType.{NodeType}
use Rattle.spec_node.specs.TableNode.{TableNode, Child, MayHave}
use Rattle.spec_node.specs.declared.child.Child.TheVariants.{Payload, Node}
use Rattle.live_layout.specs.Words.{at}
use Rattle.live_layout.specs.Head.{IsHead}
use Rattle.live_layout.specs.ListCells.{count, first, HasList}
use Rattle.live_layout.specs.PlaceCells.{HasPlaces}

-- The word of a child: a payload is its own word, and a node below is its slot and a byte behind that.
abbrev pub IsWord : ℕ → Child ℕ → Type 0
IsWord w (Payload v) = w ≡ v
IsWord w (Node slot) = (below : ℕ) × (below < 256) × (w ≡ 256 * slot + below)

-- the same bytes, and a word for each child
abbrev pub Stands : List (ℕ × ℕ) → List (ℕ × Child ℕ) → Type 0
Stands [] [] = Unit {0}
Stands [] (f ∷ fs) = ⊥
Stands (e ∷ es) [] = ⊥
Stands (e ∷ es) (f ∷ fs) = (e.0 ≡ f.0) × IsWord e.1 f.1 × Stands es fs

-- By the number of children that a form has room for, which is that of a list. Where there is none, there are places.
-- How many words a node has:
abbrev pub long_for : Option ℕ → ℕ
long_for (Some room) = first room + room
long_for None = 262

-- which children its words have, by their keys:
abbrev pub HasChildren : Option ℕ → List ℕ → List (ℕ × ℕ) → Type 0
HasChildren (Some room) c es = HasList room c es
HasChildren None c es = HasPlaces c es

-- how many they count:
abbrev pub counted : Option ℕ → List ℕ → ℕ
counted (Some room) c = count c
counted None c = at c 1

-- and how many it can have:
abbrev pub most : Option ℕ → ℕ
most (Some room) = room
most None = 256

-- The words count no more children than a node of this form can have. A key more has room.
abbrev pub IsCounted : NodeType → List ℕ → Type 0
IsCounted form c = counted (limit form) c ≤ most (limit form)

abbrev pub HasRoom : NodeType → List ℕ → Type 0
HasRoom form c = counted (limit form) c < most (limit form)

-- how many words a node of this form has
abbrev pub words_of : NodeType → ℕ
words_of form = long_for (limit form)

-- Payloads are children of nodes with seven bytes, and of these alone.
abbrev pub AreOfKind : List ℕ → List (ℕ × Child ℕ) → Type 0
AreOfKind p [] = Unit {0}
AreOfKind p (f ∷ fs) = MayHave p f.1 × AreOfKind p fs

-- The words are the node's.
pub record Encodes (c : List ℕ) (n : TableNode ℕ) : Type 0 where
  pub words : List (ℕ × ℕ)
  pub head : IsHead (at c 0) (form_place n.form) n.prefix
  pub children : HasChildren (limit n.form) c words
  pub stand : Stands words n.children
  pub of_kind : AreOfKind n.prefix n.children

-- the node with this child under a byte, or with none there
abbrev pub with_child : TableNode ℕ → ℕ → Option (Child ℕ) → TableNode ℕ
with_child n b child = record { form = n.form; prefix = n.prefix; children = with_answer n.children b child }

-- the node in another form
abbrev pub in_form : TableNode ℕ → NodeType → TableNode ℕ
in_form n form = record { form = form; prefix = n.prefix; children = n.children }

-- a node without children
abbrev pub empty_node : NodeType → List ℕ → TableNode ℕ
empty_node form prefix = record { form = form; prefix = prefix; children = [] }

-- A node has this child under a byte, by its word.
abbrev pub IsBelow : Option (Child ℕ) → Option ℕ → Type 0
IsBelow None None = Unit {0}
IsBelow None (Some w) = ⊥
IsBelow (Some x) None = ⊥
IsBelow (Some x) (Some w) = IsWord w x

-- the payload that a child is
abbrev pub payload_of : Option (Child ℕ) → Option ℕ
payload_of None = None
payload_of (Some (Payload v)) = Some v
payload_of (Some (Node slot)) = None
