-- LOOK-UPS of a key, which may end a call.
use Rattle.std.specs.Prelude.{◌≡◌, ℕ, nat_eq, Bool, true, false, List, [], ◌∷◌, ◌++◌, length, Option, Some, None, Result, Ok, Err}
use Rattle.spec_node.specs.TableNode.{TableNode, Child}
use Rattle.spec_node.specs.declared.child.Child.TheVariants.{Payload, Node}
use Rattle.spec_map.specs.Legal.{exchange}
use Rattle.spec_map.specs.Map.{Pairs, lookup}
use Rattle.share_rule.specs.History.{Entry, IsHistory}
use Rattle.live_nodes.specs.Nodes.{Content}
use Rattle.live_nodes.specs.Seats.{Place, SeatView, Agree}
use Rattle.live_layout.specs.Encodes.{Encodes}
use Rattle.live_nodes.specs.Levels.{digit, Spot}
use Rattle.live_nodes.specs.Views.{Watch, View, view_of, Ask, ask, got}
use Rattle.live_nodes.specs.Tree.{HasValue, Answers, Parts, LearnsNode}
use Rattle.live_reads.specs.declared.descend.End.{End}
use Rattle.live_reads.specs.Paths.{Sights, IsOpen}
use Rattle.live_reads.specs.Positions.{KnowsPosition}
use Rattle.word_book.specs.Book.{Book, Name}
use Rattle.live_updates.specs.Entries.{removed, swapped}
use Rattle.live_updates.specs.declared.lookup.Site.{Site}
use Rattle.live_updates.specs.declared.lookup.Site.TheVariants as sites

-- who looks for which key, and by which entry the call ends that finds this value. There may be none: then it goes on
pub record Lookup : Type 0 where
  pub caller : ℕ
  pub key : ℕ
  pub entry : Option ℕ → Option (Entry ℕ)

abbrev pub lookup_of : ℕ → ℕ → (Option ℕ → Option (Entry ℕ)) → Lookup
lookup_of c k entry = record { caller = c; key = k; entry = entry }

abbrev pub asked_by : Lookup → Ask
asked_by q = ask q.caller q.key 0 1

-- Its entries are the caller's, and leave a map as it is in which the key has that value.
pub record IsLookup (q : Lookup) : Type 0 where
  pub by : (found : Option ℕ) (e : Entry ℕ) → q.entry found ≡ Some e → e.caller ≡ q.caller
  pub legal : (found : Option ℕ) (e : Entry ℕ) → q.entry found ≡ Some e → (history : List (Entry ℕ)) (m : Pairs ℕ) → IsHistory nat_eq history m → lookup m q.key ≡ found
      → IsHistory nat_eq (history ++ e ∷ []) m

-- The call has ended by this entry.
pub record HasEnded (caller : ℕ) (e : Entry ℕ) (v w : View) : Type 0 where
  pub is : w ≡ view_of w.seen v.met v.own
  pub answers : Answers caller e v.seen w.seen

-- It has ended, if it ends there, or the caller knows no more.
abbrev pub MayEnd : ℕ → Option (Entry ℕ) → View → View → Type 0
MayEnd c None v w = w ≡ v
MayEnd c (Some e) v w = HasEnded c e v w

-- A NODE was read where the path ends: in a leaf, where nothing is below, or above a watched node without such keys.
abbrev pub Seeks : Lookup → ℕ → Ask → View → Spot → Option (Child ℕ) → List Place → View → Type 0
Seeks q word a v s None ps w = MayEnd q.caller (q.entry None) v w
Seeks q word a v s (Some (Payload y)) ps w = MayEnd q.caller (q.entry (Some y)) v w
Seeks q word a v s (Some (Node n)) ps w = (b : Watch) → Parts a v word s n b → MayEnd q.caller (q.entry None) v w

abbrev pub LearnsSeek : Lookup → View → ℕ → ℕ → List (ℕ × ℕ) → List Place → View → Type 0
LearnsSeek q v k word saw ps w = LearnsNode (Seeks q word) (asked_by q) v k word saw ps w

-- The seat has met that node, if there is one.
abbrev pub MaySight : SeatView View → Option ℕ → Type 0
MaySight v None = Unit {0}
MaySight v (Some b) = Sights v b

-- The call has ended, if it ends there, or the seat has seen no more.
abbrev pub EndsBy : ℕ → Option (Entry ℕ) → SeatView View → SeatView View → Type 0
EndsBy c None v w = w.client.seen ≡ v.client.seen
EndsBy c (Some e) v w = Answers c e v.client.seen w.client.seen

-- What a leaf has, or nothing, where a writer came in between.
abbrev pub Found : Lookup → Option (Option ℕ) → SeatView View → SeatView View → Type 0
Found q None v w = w.client.seen ≡ v.client.seen
Found q (Some found) v w = EndsBy q.caller (q.entry found) v w

-- The key is absent, or nothing is known.
abbrev pub Lacks : Lookup → Bool → SeatView View → SeatView View → Type 0
Lacks q true v w = EndsBy q.caller (q.entry None) v w
Lacks q false v w = w.client.seen ≡ v.client.seen

-- A key's path ends at a leaf, which is open.
abbrev pub IsOpenLeaf : SeatView View → Book → ℕ → End → Type 0
IsOpenLeaf v b key e = KnowsPosition v key e.position × IsOpen v b e.here.words.now e.here.taken e.position.name key 1

-- A leaf is open, and has this under the key's digit by what was read of it.
pub record IsOpenWith (v : SeatView View) (b : Book) (words : List Name) (taken name key : ℕ) (found : Option ℕ) : Type 0 where
  pub node : IsOpen v b words taken name key 1
  pub finds : (c : Content) (n : TableNode ℕ) → Agree c node.opened.saw → Encodes c n → n.form ≡ node.names.spot.shape.form → length n.prefix ≡ 7
      → HasValue (lookup n.children (digit 1 key)) found

-- A key's path ends at an open leaf. Where a value is expected there, it was found.
abbrev pub IsLeafWith : SeatView View → Book → ℕ → End → Option ℕ → Type 0
IsLeafWith v b key e None = IsOpenLeaf v b key e
IsLeafWith v b key e (Some x) = KnowsPosition v key e.position × IsOpenWith v b e.here.words.now e.here.taken e.position.name key (Some x)

-- The key is absent, or is in a leaf, which is open. Nothing is known where a writer came in between.
abbrev pub Sought : Lookup → Book → Option Site → SeatView View → SeatView View → Type 0
Sought q b None v w = w.client.seen ≡ v.client.seen
Sought q b (Some sites.Absent) v w = EndsBy q.caller (q.entry None) v w
Sought q b (Some (sites.At leaf x)) v w = EndsBy q.caller (q.entry (Some x)) v w × IsLeafWith w b q.key leaf (Some x)

-- A removal ends where the key is absent.
abbrev pub removal : ℕ → ℕ → Option ℕ → Option (Entry ℕ)
removal c k None = Some (removed c k None)
removal c k (Some x) = None

-- A look-up that a refused insertion makes ends where the key is absent.
abbrev pub absence : ℕ → ℕ → Option ℕ → Option (Entry ℕ)
absence c k None = Some (got (ask c k 0 0) None)
absence c k (Some x) = None

-- who calls, with which key, the value that it expects there, and what it gives for it
pub record Swap : Type 0 where
  pub caller : ℕ
  pub key : ℕ
  pub old : ℕ
  pub new : Option ℕ

abbrev pub swap_of : ℕ → ℕ → ℕ → Option ℕ → Swap
swap_of c k old new = record { caller = c; key = k; old = old; new = new }

-- An exchange ends where it fails.
abbrev pub failure : (Result (Option ℕ) (Option ℕ) → Entry ℕ) → Result (Option ℕ) (Option ℕ) → Option (Entry ℕ)
failure entry (Ok stored) = None
failure entry (Err current) = Some (entry (Err current))

abbrev pub exchange_fails : Swap → Option ℕ → Option (Entry ℕ)
exchange_fails x found = failure (swapped x.caller x.key x.old x.new) (exchange nat_eq found x.old x.new)
