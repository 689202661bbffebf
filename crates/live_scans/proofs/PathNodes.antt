-- Nodes on a reader's path, whose words are known.
use Rattle.std.proofs.Common.{◌≡◌, ℕ, ◌%◌, ◌≤◌, List, [], Option, IfSome, sym, ap, ◌∙◌, subst}
use Rattle.word_book.specs.Book.{Book, Name, reads, none_joined}
use Rattle.live_nodes.specs.Nodes.{Content}
use Rattle.live_nodes.specs.Seats.{SeatView, IsIn, Agree}
use Rattle.live_nodes.specs.Plays.{Takes}
use Rattle.live_nodes.specs.Rows.{AreOf, last_saw, without_reads}
use Rattle.live_layout.specs.Words as cells
use Rattle.live_nodes.specs.Levels.{up, Spot, place_at}
use Rattle.live_nodes.specs.Views.{View}
use Rattle.live_reads.specs.Paths.{Names, HasOpened, IsOpen, Keeps}
use Rattle.live_reads.proofs.Views.{reading, reading_keeps, reading_on_keeps, open_read, if_some}
use Rattle.live_reads.proofs.Finds.{keeps_then, names_kept}
use Rattle.live_scans.specs.inner.Stops.{HasWords, IsPathNode, IsTrail}
use Rattle.live_scans.specs.declared.position.Position.{Position}
use Rattle.live_scans.specs.declared.position.PathNode.{PathNode}
use Rattle.live_scans.specs.declared.position.Trail.{Trail}
use Rattle.live_scans.proofs.Nexts.{position_on}

abbrev Seen : Type 0
Seen = SeatView View

-- LATER
pub known_kept : (v w : Seen) (b b' : Book) (s : Position) (words : List Name) (head : ℕ) → Keeps v w → b' ≡ b → HasWords v b s words head → HasWords w b' s words head
known_kept v w b b' s words head keeps book k = record {
  names = names_kept v w s.name s.key s.height keeps k.names;
  are = subst (λ (z : Book). AreOf (place_at k.names.spot) z words) (sym book) k.are;
  sure = k.sure;
}

pub path_node_kept : (v w : Seen) (b b' : Book) (s : PathNode) → Keeps v w → b' ≡ b → IsPathNode v b s → IsPathNode w b' s
path_node_kept v w b b' s keeps book i = (position_on v w s.at keeps i.0, if_some s.known (λ k x. known_kept v w b b' s.at k.words.now k.head keeps book x) i.1)

pub trail_kept : (o : Option Trail) (v w : Seen) (b b' : Book) → b' ≡ b → Keeps v w → IfSome o (IsTrail v b) → IfSome o (IsTrail w b')
trail_kept o v w b b' book keeps i = if_some o (λ t x. (path_node_kept v w b b' t.low keeps book x.0, path_node_kept v w b b' t.high keeps book x.1)) i

-- BY ANOTHER KEY
names_like : (v : Seen) (p q : Position) → q.name ≡ p.name → q.height ≡ p.height → up p.height q.key ≡ up p.height p.key → Names v p.name p.key p.height → Names v q.name q.key q.height
names_like v p q named high same n = record {
  spot = n.spot;
  met = n.met;
  placed = n.placed;
  named = named ∙ n.named;
  high = n.high ∙ sym high;
  covers = ap (λ (z : ℕ). up z q.key) n.high ∙ (same ∙ (sym (ap (λ (z : ℕ). up z p.key) n.high) ∙ n.covers));
}

known_like : (v : Seen) (b : Book) (p q : Position) (words : List Name) (head : ℕ) → q.name ≡ p.name → q.height ≡ p.height → up p.height q.key ≡ up p.height p.key → HasWords v b p words head → HasWords v b q words head
unfolding names_like
known_like v b p q words head named high same k = record { names = names_like v p q named high same k.names; are = k.are; sure = k.sure }

pub path_node_like : (v : Seen) (b : Book) (s r : PathNode) → r.at.name ≡ s.at.name → r.at.height ≡ s.at.height → r.known ≡ s.known → up s.at.height r.at.key ≡ up s.at.height s.at.key → IsPathNode v b s → IsPathNode v b r
path_node_like v b s r named high known same i = (
  (
    subst (λ (z : ℕ). 2 ≤ z) (sym high) i.0.0,
    subst (λ (z : ℕ). z ≤ 8) (sym high) i.0.1,
    names_like v s.at r.at named high same i.0.2,
  ),
  subst (λ o. IfSome o (λ k. HasWords v b r.at k.words.now k.head)) (sym known) (if_some s.known (λ k x. known_like v b s.at r.at k.words.now k.head named high same x) i.1),
)

-- A NODE whose words are known is opened.
module _ (v : Seen) (b : Book) (s : Position) (words : List Name) (head : ℕ) (k : HasWords v b s words head) (key : ℕ) (at_k : (place_at k.names.spot).key ≡ key) (v₁ : Seen) (t : ℕ) (took_it : Takes (reads key) v t none_joined v₁) where
  abbrev a : Spot
  a = k.names.spot

  known_taken : v₁ ≡ reading v a.number t []
  known_taken = took_it (place_at a) k.names.placed at_k

  pub known_keeps : Keeps v v₁ × (v₁.client ≡ v.client)
  known_keeps = reading_keeps v v₁ a.number t [] known_taken

  pub known_opened : (b₁ : Book) → b₁ ≡ b → HasOpened v₁ b₁ words t a
  known_opened b₁ book = record { are = subst (λ (z : Book). AreOf (place_at a) z words) (sym book) k.are; saw = []; before = v.reads; reads = ap (λ (z : Seen). z.reads) known_taken }

  pub known_placed : IsIn (place_at a) v₁.places
  known_placed = known_keeps.0.places (place_at a) k.names.placed

  module _ (v₂ : Seen) (rest : without_reads v₂ ≡ without_reads v₁) where
    abbrev opened : HasOpened v₁ b words t a
    opened = record { are = k.are; saw = []; before = v.reads; reads = ap (λ (z : Seen). z.reads) known_taken }

    pub opened_keeps : Keeps v v₂ × (v₂.client.seen ≡ v.client.seen)
    opened_keeps =
        let on = reading_on_keeps v₁ v₂ v.reads a.number t (last_saw v₂.reads) (open_read v₁ b words t a known_placed opened v₂ rest) in
        (keeps_then v v₁ v₂ known_keeps.0 on.0, ap (λ (z : View). z.seen) (on.1 ∙ known_keeps.1))

    pub known_open : (b₂ : Book) → b₂ ≡ b → t % 4 ≡ 0 → ((c : Content) → Agree c (last_saw v₂.reads) → cells.at c 0 ≡ head) → IsOpen v₂ b₂ words t s.name s.key s.height
    known_open b₂ book free at_head = record {
      names = names_kept v v₂ s.name s.key s.height opened_keeps.0 k.names;
      opened = record {
        are = subst (λ (z : Book). AreOf (place_at a) z words) (sym book) k.are;
        saw = last_saw v₂.reads;
        before = v.reads;
        reads = ap (λ (z : Seen). z.reads) (open_read v₁ b words t a known_placed opened v₂ rest);
      };
      free = free;
      sure = λ shape is. k.sure (last_saw v₂.reads) shape at_head is;
    }
