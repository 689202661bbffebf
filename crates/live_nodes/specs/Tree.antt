-- THE LAW. Node 0 is the root word, and its one number names the root, or is 0. All others are nodes of the map: they were,
-- are, or are going to be. One that is no longer may be used again, elsewhere in the map.
use Rattle.std.specs.Prelude.{◌≡◌, ◌≢◌, ◌⊎◌, ℕ, zero, suc, ◌+◌, ◌-◌, ◌*◌, ◌/◌, ◌^◌, ◌<◌, ◌≤◌, nat_eq, Bool, true, false, List, [], ◌∷◌, ◌++◌, length, slice_index, Option, Some, None}
use mathlib.Core.Option.{some}
use lib.ListN.{get_elem?}
use Rattle.node_base.specs.declared.base_node.NodeType.{NodeType}
use Rattle.spec_map.specs.Map.{Pairs, lookup}
use Rattle.spec_node.specs.TableNode.{TableNode, Child}
use Rattle.spec_node.specs.declared.child.Child.TheVariants as below
use Rattle.share_rule.specs.History.{Entry, entries_of, IsHistory, IsLegalHistory}
use Rattle.share_rule.specs.inner.Rule.{HasSeen}
use Rattle.live_nodes.specs.Nodes.{Content, at, Node, node}
use Rattle.live_nodes.specs.Seats.{Place, Each, IsIn, Agree}
use Rattle.live_layout.specs.Encodes.{words_of, Encodes}
use Rattle.live_nodes.specs.Levels.{up, digit, Shape, name_of, Covers, bytes_above, IsBelow, Spot, spot, place_at}
use Rattle.live_nodes.specs.Views.{Own, locked, detached, root_word, Watch, watch, View, view_of, with_met, watching, number_of, rest_of, content_of, Ask, got, inserted}

-- what each node is, and which one is current where. A node that is current is at its own height, and at each level above it up
-- to its parent's, which has no other node there
pub record Plan : Type 0 where
  pub shape : ℕ → Shape
  pub home : ℕ → ℕ → ℕ

-- Its version word says that nobody writes it, and that it isn't obsolete.
abbrev pub IsFree : Node → Type 0
IsFree a = (a.holder ≡ None) × ((m : ℕ) × (a.word ≡ 4 * m))

-- It is free by that word, or the seat has it locked.
abbrev pub IsBound : ℕ → Option ℕ → Node → Type 0
IsBound id (Some t) a = (a.holder ≡ None) × (t ≡ a.word)
IsBound id None a = a.holder ≡ Some id

-- It was free by that word.
abbrev pub NoLater : Option ℕ → Node → Type 0
NoLater (Some t) a = t ≤ a.word
NoLater None a = Unit {0}

-- A leaf has the key's value, or there is none.
abbrev pub HasValue : Option (Child ℕ) → Option ℕ → Type 0
HasValue None v = v ≡ None
HasValue (Some (below.Payload x)) v = v ≡ Some x
HasValue (Some (below.Node s)) v = ⊥

-- It has the highest bytes of its keys as its prefix.
pub record HasPrefix (prefix : List ℕ) (s : Shape) : Type 0 where
  pub key : ℕ
  pub fits : key < 2 ^ 64
  pub covers : Covers s key
  pub bytes : (i : ℕ) → i < length prefix → slice_index prefix i ≡ digit (8 - i) key

module _ (d : Plan) where
  abbrev pub home_of : Shape → ℕ
  home_of s = d.home s.height s.top

  -- An inner node leads to the node that is current there, by its name, or there is none.
  abbrev pub LeadsTo : Option (Child ℕ) → ℕ → Type 0
  LeadsTo None j = j ≡ 0
  LeadsTo (Some (below.Payload x)) j = ⊥
  LeadsTo (Some (below.Node s)) j = (1 ≤ j) × (s ≡ name_of (d.shape j))

  -- what a node of this height has under a byte
  abbrev pub IsUnder : Pairs ℕ → ℕ → ℕ → ℕ → Option (Child ℕ) → Type 0
  IsUnder m zero t b o = ⊥
  IsUnder m (suc zero) t b o = HasValue o (lookup m (256 * t + b))
  IsUnder m (suc (suc h)) t b o = LeadsTo o (d.home (suc h) (256 * t + b))

  -- A node that is on this level, or is the highest below it: those bytes are above it there.
  pub record IsHouse (ns : List Node) (h t j : ℕ) : Type 0 where
    pub low : j < length ns
    pub level : h ≤ 8
    pub some_height : 1 ≤ (d.shape j).height
    pub below : IsBelow (d.shape j) h t

  -- One level down it is there too, or nothing is.
  abbrev pub Skips : ℕ → ℕ → ℕ → Type 0
  Skips h t j = (IsBelow (d.shape j) h t → d.home h t ≡ j) × ((IsBelow (d.shape j) h t → ⊥) → d.home h t ≡ 0)

  -- This is the content of a node of that shape, which is current.
  pub record IsCurrent (m : Pairs ℕ) (s : Shape) (c : Content) : Type 0 where
    pub its : TableNode ℕ
    pub encodes : Encodes c its
    pub in_form : its.form ≡ s.form
    pub deep : length its.prefix + s.height ≡ 8
    pub prefixed : HasPrefix its.prefix s
    pub under : (b : ℕ) → b < 256 → IsUnder m s.height s.top b (lookup its.children b)

  -- The root word's number names the root.
  abbrev pub NamesRoot : ℕ → Type 0
  NamesRoot x = ((x ≡ 0) × (d.home 8 0 ≡ 0)) ⊎ ((1 ≤ d.home 8 0) × (1 ≤ x) × (x ≡ name_of (d.shape (d.home 8 0))))

  -- Node k leads to this one: on its highest level, this one is below k.
  pub record LeadsDown (k : ℕ) (a : Spot) : Type 0 where
    pub level : ℕ
    pub some_node : 1 ≤ a.number
    pub shaped : d.shape a.number ≡ a.shape
    pub tall : a.shape.height ≤ level
    pub here : d.home level (bytes_above a.shape level) ≡ a.number
    pub above : d.home (suc level) (bytes_above a.shape (suc level)) ≡ k
    pub above_high : (d.shape k).height ≡ suc level

  module _ (ns : List Node) where
    -- where it lies, and how long it is, for good
    pub record IsSpot (a : Spot) : Type 0 where
      pub below_root_word : 1 ≤ a.number
      pub low : a.number < length ns
      pub key : (d.shape a.number).key ≡ a.shape.key
      pub form : (d.shape a.number).form ≡ a.shape.form

    -- The seat has met the node: if it is free, it is current where it says. The root stays.
    pub record IsMet (a : Spot) : Type 0 where
      pub spot : IsSpot a
      pub lasts : a.shape.height ≡ 8 → (d.shape a.number ≡ a.shape) × (home_of a.shape ≡ a.number)
      pub current : IsFree (node ns a.number) → home_of (d.shape a.number) ≡ a.number

    -- The node above may be another by now. While it isn't, it leads to this node.
    pub record IsWatched (id : ℕ) (w : Watch) : Type 0 where
      pub below_root_word : 1 ≤ w.above
      pub low : w.above < length ns
      pub later : NoLater w.word (node ns w.above)
      pub leads : IsBound id w.word (node ns w.above) → LeadsDown w.above w.spot

    pub record IsDetached (id : ℕ) (a : Spot) : Type 0 where
      pub spot : IsSpot a
      pub holder : (node ns a.number).holder ≡ Some id
      pub replaced : home_of (d.shape a.number) ≢ a.number

    -- the nodes as they lie
    pub record AreNodes : Type 0 where
      pub some_root_word : 0 < length ns
      pub root_word_long : length (node ns 0).content ≡ 1
      pub placed : (k : ℕ) → 1 ≤ k → k < length ns → (node ns k).place ≡ (d.shape k).key
      pub long : (k : ℕ) → 1 ≤ k → k < length ns → length (node ns k).content ≡ words_of (d.shape k).form
      pub apart : (j k : ℕ) → 1 ≤ j → 1 ≤ k → j < length ns → k < length ns → (d.shape j).key ≡ (d.shape k).key → j ≡ k

    -- A node that is current isn't obsolete.
    abbrev pub AreAlive : Type 0
    AreAlive = (k : ℕ) → 1 ≤ k → k < length ns → home_of (d.shape k) ≡ k → (node ns k).holder ≡ None → IsFree (node ns k)

    -- By the content that each node has, or is going to have once its holder unlocks it.
    module _ (cs : ℕ → Content) where
      pub record IsLocked (id : ℕ) (a : Spot) (c : Content) : Type 0 where
        pub met : IsMet a
        pub shaped : d.shape a.number ≡ a.shape
        pub holder : (node ns a.number).holder ≡ Some id
        pub content : cs a.number ≡ c
        pub current : home_of a.shape ≡ a.number

      abbrev pub IsOwn : ℕ → Own → Type 0
      IsOwn id (locked a c) = IsLocked id a c
      IsOwn id (detached a) = IsDetached id a
      IsOwn id (root_word c) = ((node ns 0).holder ≡ Some id) × ((node ns 0).content ≡ c)

      pub record Knows (history : List (Entry ℕ)) (id : ℕ) (v : View) : Type 0 where
        pub seen : HasSeen history id v.seen
        pub met : Each IsMet v.met
        pub own : Each (IsOwn id) v.own
        pub watched : Each (IsWatched id) v.watched

      -- the nodes as they are current. Where one is, so are those above it
      pub record IsTree (m : Pairs ℕ) : Type 0 where
        pub root : NamesRoot (at (node ns 0).content 0)
        pub rooted : 1 ≤ d.home 8 0 → (d.shape (d.home 8 0)).height ≡ 8
        pub housed : (h t : ℕ) → 1 ≤ d.home h t → IsHouse ns h t (d.home h t)
        pub upward : (h t : ℕ) → h < 8 → 1 ≤ d.home h t → 1 ≤ d.home (suc h) (t / 256)
        pub skips : (h t x : ℕ) → x < 256 → 1 ≤ d.home (suc h) t → (d.shape (d.home (suc h) t)).height ≤ h → Skips h (256 * t + x) (d.home (suc h) t)
        pub current : (k : ℕ) → 1 ≤ k → home_of (d.shape k) ≡ k → IsCurrent m (d.shape k) (cs k)
        pub absent : (k : ℕ) → d.home 1 (k / 256) ≡ 0 → lookup m k ≡ None

-- What a node has that no seat holds is there.
abbrev pub IsSettled : List Node → (ℕ → Content) → Type 0
IsSettled ns cs = (k : ℕ) → 1 ≤ k → k < length ns → (node ns k).holder ≡ None → (node ns k).content ≡ cs k

pub record IsMap (ns : List Node) (vs : List View) : Type 0 where
  pub plan : Plan
  pub contents : ℕ → Content
  pub history : List (Entry ℕ)
  pub pairs : Pairs ℕ
  pub legal : IsHistory nat_eq history pairs
  pub nodes : AreNodes plan ns
  pub settled : IsSettled ns contents
  pub alive : AreAlive plan ns
  pub tree : IsTree plan ns contents pairs
  pub each_view : (id : ℕ) (v : View) → get_elem? vs id ≡ some v → Knows plan ns contents history id v
  pub unborn : (c : ℕ) → length vs ≤ c → entries_of c history ≡ []

-- The call ends by this entry: what is seen then is a legal history that begins with what was seen, and ends with it. The
-- caller has no other new entries.
pub record Answers (caller : ℕ) (e : Entry ℕ) (seen seen' : List (Entry ℕ)) : Type 0 where
  pub whole : List (Entry ℕ)
  pub is : seen' ≡ whole ++ e ∷ []
  pub fits : HasSeen whole caller seen
  pub legal : IsLegalHistory nat_eq (whole ++ e ∷ [])

-- The path of a key goes on at this node, if the node has keys that begin like it.
pub record GoesTo (v : View) (a : Spot) (name : ℕ) (ps : List Place) (w : View) : Type 0 where
  pub spot : Spot
  pub place : ps ≡ place_at spot ∷ []
  pub is : w ≡ view_of v.seen (spot ∷ v.met) v.own
  pub named : name ≡ name_of spot.shape
  pub lower : spot.shape.height < a.shape.height

pub record HasAnswer (a : Ask) (found : Option ℕ) (v w : View) : Type 0 where
  pub is : w ≡ view_of w.seen v.met v.own
  pub answers : Answers a.caller (got a found) v.seen w.seen

-- A NODE was read in a look-up: it goes on below, or ends with an answer.
abbrev pub Gets : Ask → View → Spot → Option (Child ℕ) → List Place → View → Type 0
Gets q v a None ps w = HasAnswer q None v w
Gets q v a (Some (below.Payload x)) ps w = HasAnswer q (Some x) v w
Gets q v a (Some (below.Node s)) ps w = GoesTo v a s ps w

-- The same in another call: it goes on below, or nothing is known.
abbrev pub Finds : Ask → View → Spot → Option (Child ℕ) → List Place → View → Type 0
Finds q v a None ps w = w ≡ v
Finds q v a (Some (below.Payload x)) ps w = w ≡ v
Finds q v a (Some (below.Node s)) ps w = GoesTo v a s ps w

-- Below this node, which is free by that word, a watched one has no such keys.
pub record Parts (q : Ask) (v : View) (word : ℕ) (a : Spot) (s : ℕ) (b : Watch) : Type 0 where
  pub known : IsIn b v.watched
  pub above : b.above ≡ a.number
  pub free_by : b.word ≡ Some word
  pub named : s ≡ name_of b.spot.shape
  pub leaves : Covers b.spot.shape q.key → ⊥

-- The same at the node above one that has no such keys: there is no value.
abbrev pub Misses : ℕ → Ask → View → Spot → Option (Child ℕ) → List Place → View → Type 0
Misses word q v a None ps w = w ≡ v
Misses word q v a (Some (below.Payload x)) ps w = w ≡ v
Misses word q v a (Some (below.Node s)) ps w = (b : Watch) → Parts q v word a s b → HasAnswer q None v w

abbrev pub Looks : Bool → Ask → View → Spot → Option (Child ℕ) → List Place → View → Type 0
Looks true = Gets
Looks false = Finds

-- A leaf has values, and an inner node has nodes.
abbrev pub IsOfKind : ℕ → Option (Child ℕ) → Type 0
IsOfKind h None = Unit {0}
IsOfKind zero (Some x) = ⊥
IsOfKind (suc zero) (Some (below.Payload x)) = Unit {0}
IsOfKind (suc zero) (Some (below.Node s)) = ⊥
IsOfKind (suc (suc h)) (Some (below.Payload x)) = ⊥
IsOfKind (suc (suc h)) (Some (below.Node s)) = Unit {0}

-- What a node is now that the seat has met as this one: it has that key and that form, and the root is as it was.
pub record IsNow (a : Spot) (s : Shape) : Type 0 where
  pub key : s.key ≡ a.shape.key
  pub form : s.form ≡ a.shape.form
  pub lasts : a.shape.height ≡ 8 → s ≡ a.shape

-- What was read is of this node, which is now of that shape.
pub record IsOf (a : Spot) (s : Shape) (saw : List (ℕ × ℕ)) : Type 0 where
  pub now : IsNow a s
  pub content : Content
  pub its : TableNode ℕ
  pub agrees : Agree content saw
  pub encodes : Encodes content its
  pub in_form : its.form ≡ a.shape.form
  pub deep : length its.prefix + s.height ≡ 8
  pub prefixed : HasPrefix its.prefix s

-- It may be on the path of the key, or not.
pub record Meets (Then : Ask → View → Spot → Option (Child ℕ) → List Place → View → Type 0) (q : Ask) (v : View) (a : Spot) (saw : List (ℕ × ℕ)) (ps : List Place) (w : View) : Type 0 where
  pub shape : Shape
  pub is : IsOf a shape saw
  pub of_kind : IsOfKind shape.height (lookup is.its.children (digit shape.height q.key))
  pub on_path : Covers shape q.key → Then q v (spot a.number shape) (lookup is.its.children (digit shape.height q.key)) ps w
  pub beside : (Covers shape q.key → ⊥) → w ≡ v

abbrev pub LearnsNode : (Ask → View → Spot → Option (Child ℕ) → List Place → View → Type 0) → Ask → View → ℕ → ℕ → List (ℕ × ℕ) → List Place → View → Type 0
LearnsNode Then q v k word saw ps w = (a : Spot) → IsIn a v.met → a.number ≡ k → Meets Then q v a saw ps w

abbrev pub LearnsMiss : Ask → View → ℕ → ℕ → List (ℕ × ℕ) → List Place → View → Type 0
LearnsMiss q v k word saw ps w = LearnsNode (Misses word) q v k word saw ps w

-- A NODE was read, and is met as what it is now.
pub record Headed (v : View) (a : Spot) (saw : List (ℕ × ℕ)) (w : View) : Type 0 where
  pub shape : Shape
  pub is : IsOf a shape saw
  pub heads : w ≡ view_of v.seen (spot a.number shape ∷ v.met) v.own

abbrev pub LearnsHead : View → ℕ → ℕ → List (ℕ × ℕ) → List Place → View → Type 0
LearnsHead v k word saw ps w = (a : Spot) → IsIn a v.met → a.number ≡ k → Headed v a saw w

-- A NODE was read below another one, node n, which was free by a word, or which the seat has locked: it is watched.
pub record Watches (n : ℕ) (t : Option ℕ) (v : View) (a : Spot) (saw : List (ℕ × ℕ)) (w : View) : Type 0 where
  pub shape : Shape
  pub is : IsOf a shape saw
  pub watches : w ≡ watching v (watch n t (spot a.number shape))
  pub one_name : (b : Spot) → IsIn b v.met → b.number ≡ a.number → name_of b.shape ≡ name_of a.shape

abbrev pub LearnsBelow : ℕ → Option ℕ → View → ℕ → ℕ → List (ℕ × ℕ) → List Place → View → Type 0
LearnsBelow n t v k word saw ps w = (a : Spot) → IsIn a v.met → a.number ≡ k → Watches n t v a saw w

-- A node that the seat has to itself is another one.
abbrev pub IsApart : ℕ → Own → Type 0
IsApart k o = number_of o ≢ k

-- A NODE was locked, which has this content.
pub record IsHeld (v : View) (a : Spot) (c : Content) (w : View) : Type 0 where
  pub shape : Shape
  pub now : IsNow a shape
  pub is : w ≡ view_of v.seen v.met (locked (spot a.number shape) c ∷ v.own)
  pub its : TableNode ℕ
  pub encodes : Encodes c its
  pub in_form : its.form ≡ a.shape.form
  pub deep : length its.prefix + shape.height ≡ 8
  pub prefixed : HasPrefix its.prefix shape
  pub apart : Each (IsApart a.number) v.own

abbrev pub LearnsLocked : View → ℕ → Content → View → Type 0
LearnsLocked v k c w = (a : Spot) → IsIn a v.met → a.number ≡ k → IsHeld v a c w

-- AN OBSOLETE NODE was locked again.
pub record IsReclaimed (v : View) (a : Spot) (w : View) : Type 0 where
  pub shape : Shape
  pub now : IsNow a shape
  pub is : w ≡ view_of v.seen v.met (detached (spot a.number shape) ∷ v.own)
  pub apart : Each (IsApart a.number) v.own

abbrev pub LearnsReclaimed : View → ℕ → Content → View → Type 0
LearnsReclaimed v k c w = (a : Spot) → IsIn a v.met → a.number ≡ k → IsReclaimed v a w

abbrev pub LearnsRootWord : View → ℕ → Content → View → Type 0
LearnsRootWord v k c w = w ≡ view_of v.seen v.met (root_word c ∷ v.own)

-- What the seat had to itself last is no longer so, and nothing else changes.
abbrev pub StaysSame : View → ℕ → Content → View → Type 0
StaysSame v k c w = w ≡ view_of v.seen v.met (rest_of v.own)

-- A LEAF was unlocked, which has the call's value under the call's key now.
pub record Inserted (q : Ask) (v w : View) : Type 0 where
  pub found : Option ℕ
  pub its : TableNode ℕ
  pub encodes : Encodes (content_of v.own) its
  pub was : HasValue (lookup its.children (digit 1 q.key)) found
  pub is : w ≡ view_of w.seen v.met []
  pub answers : Answers q.caller (inserted q found) v.seen w.seen

abbrev pub Inserts : Ask → View → ℕ → Content → View → Type 0
Inserts q v k c w = Inserted q v w

-- A NODE was unlocked, or the root word, which leads on now to one that was obsolete, for the path of a key at some height: to one
-- more, or to one in the place of another. That one stays locked, and is going to have this content.
abbrev pub again : Ask → Spot → Spot
again q x = spot x.number record { key = x.shape.key; form = x.shape.form; height = q.height; top = up q.height q.key }

abbrev pub leads_again : Ask → List Own → List Spot
leads_again q (detached x ∷ os) = again q x ∷ []
leads_again q os = []

abbrev pub left_again : Ask → Content → List Own → List Own
left_again q c (detached x ∷ locked p f ∷ []) = locked (again q x) c ∷ []
left_again q c (detached x ∷ root_word f ∷ []) = locked (again q x) c ∷ []
left_again q c (detached x ∷ locked b e ∷ locked p f ∷ []) = locked (again q x) c ∷ detached b ∷ []
left_again q c os = []

abbrev pub LinksAgain : Ask → Content → View → ℕ → Content → View → Type 0
LinksAgain q d v k c w = w ≡ view_of v.seen (leads_again q v.own ++ v.met) (left_again q d v.own)

-- A NODE of that form was made. It is obsolete.
pub record IsNew (form : NodeType) (v : View) (key k : ℕ) (w : View) : Type 0 where
  pub spot : Spot
  pub number : spot.number ≡ k
  pub placed : spot.shape.key ≡ key
  pub in_form : spot.shape.form ≡ form
  pub is : w ≡ with_met v (spot ∷ v.met)

abbrev pub IsMade : NodeType → View → ℕ → Content → ℕ → View → Type 0
IsMade form v key c k w = IsNew form v key k w
