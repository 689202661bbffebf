-- Nodes in the words of a book. A node lies at a place: its version word has that key, and its content lies in the words
-- behind it.
use Rattle.std.specs.Prelude.{◌≡◌, ◌⊎◌, ℕ, ◌+◌, ◌*◌, ◌<◌, List, length, slice_index_or, Option, Some, None, []}
use mathlib.Core.Option.{some}
use lib.ListN.{get_elem?}

abbrev pub Content : Type 0
Content = List ℕ

abbrev pub at : List ℕ → ℕ → ℕ
at c i = slice_index_or c i 0

-- Where it lies, its version word, its content as it was last unlocked, and the seat that holds it.
pub record Node : Type 0 where
  pub place : ℕ
  pub word : ℕ
  pub content : Content
  pub holder : Option ℕ

abbrev pub node_at : ℕ → ℕ → Content → Option ℕ → Node
node_at p w c h = record { place = p; word = w; content = c; holder = h }

abbrev pub node : List Node → ℕ → Node
node ns k = slice_index_or ns k (node_at 0 0 [] None)

-- Whose a word is: it counts the segments, it is of a node, or a seat keeps it for new nodes.
pub data Owner : Type 0 where
  counts : Owner
  in_node : ℕ → Owner
  in_room : ℕ → Owner

-- A free node's word is 4 times its version, and 3 more once it is obsolete. A held one's is 2 more.
abbrev pub WordFits : Option ℕ → ℕ → Type 0
WordFits None w = (m : ℕ) × ((w ≡ 4 * m) ⊎ (w ≡ 4 * m + 3))
WordFits (Some id) w = (m : ℕ) × (w ≡ 4 * m + 2)

-- What its words show: while a seat holds it, what that seat has written so far.
abbrev pub shown : Option ℕ → Content → Content → Content
shown None content draft = content
shown (Some id) content draft = draft

-- The words are those of the node, which has the number k.
pub record IsNode (owner : ℕ → Owner) (k : ℕ) (a : Node) (draft : Content) (words : List ℕ) : Type 0 where
  pub drafted : length draft ≡ length a.content
  pub version : get_elem? words a.place ≡ some a.word
  pub version_is : owner a.place ≡ in_node k
  pub cells : (i : ℕ) → i < length a.content → get_elem? words (a.place + i + 1) ≡ some (at (shown a.holder a.content draft) i)
  pub cells_are : (i : ℕ) → i < length a.content → owner (a.place + i + 1) ≡ in_node k
  pub bits : WordFits a.holder a.word
