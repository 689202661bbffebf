-- What a seat knows, step by step.
use Rattle.std.proofs.Common.{◌≡◌, ◌≢◌, ℕ, ◌+◌, ◌-◌, ◌*◌, ◌<◌, zero, suc, Bool, true, false, cond, List, [], ◌∷◌, ◌++◌, length, get_or, Option, Some, None, IfSome, refl, sym, ap, ◌∙◌, subst, inl, inr, arith, eq-eqb}
use Rattle.spec_node.specs.TableNode.{TableNode, Child}
use Rattle.spec_node.specs.declared.child.Child.TheVariants.{Payload, Node as Below}
use Rattle.spec_map.specs.Map.{lookup}
use Rattle.word_book.specs.Book.{Book, Name, name, reads, none_joined}
use Rattle.node_base.specs.Form.{form_place}
use Rattle.node_base.specs.declared.base_node.NodeType.{NodeType}
use Rattle.node_base.specs.declared.base_node.NodeType.TheVariants.{N4, N16, N48, N256}
use Rattle.live_nodes.specs.Nodes.{Content}
use Rattle.live_nodes.specs.Seats.{Place, place, Read, read, SeatView, seat_view, IsIn, Agree}
use Rattle.live_nodes.specs.Plays as Plays
use Rattle.live_nodes.specs.Plays.{read_of, saw_in, took, saw, Takes, Sees, Checks}
use Rattle.live_nodes.specs.Acts.{Learns}
use Rattle.live_nodes.specs.Calls.{KnowsPlace, KnowsCell, MayCheck}
use Rattle.live_nodes.specs.Rows.{AreOf, last_saw, unread, MayRead, without_reads}
use Rattle.live_layout.specs.Encodes.{words_of, IsBelow, IsWord, Encodes}
use Rattle.live_layout.proofs.StandLaws.{few_forms}
use Rattle.live_nodes.specs.Levels.{up, digit, Shape, Spot, spot, name_of, Covers, place_at}
use Rattle.live_nodes.specs.Views.{View, Ask, got}
use Rattle.live_nodes.specs.Tree.{IsMap, LearnsNode, LearnsHead, Headed, Looks, GoesTo, HasAnswer, Answers, IsOfKind, IsNow, IsOf}
use Rattle.live_nodes.proofs.Looks.{node_looks, node_heads}
use Rattle.live_reads.specs.Paths.{KnowsRootWord, Names, Sights, AreNamed, HasOpened, IsOpen, Keeps, Told}

abbrev Seen : Type 0
Seen = SeatView View

pub head_read : (k n : ℕ) (s : List (ℕ × ℕ)) (rs : List Read) → read_of k (read k n s ∷ rs) ≡ Some (read k n s)
head_read k n s rs = ap (λ (b : Bool). cond b (Some (read k n s)) (read_of k rs)) (eq-eqb k k refl)

saw_first : (k n : ℕ) (x : ℕ × ℕ) (s : List (ℕ × ℕ)) (rs : List Read) → saw_in k x (read k n s ∷ rs) ≡ read k n (x ∷ s) ∷ rs
saw_first k n x s rs = ap (λ (b : Bool). cond b (read k n (x ∷ s) ∷ rs) (read k n s ∷ saw_in k x rs)) (eq-eqb k k refl)

-- a node's word was taken last, and since then so much was read of it
abbrev pub reading_on : Seen → List Read → ℕ → ℕ → List (ℕ × ℕ) → Seen
reading_on v before k n s = seat_view v.client v.places (read k n s ∷ before) v.holds v.room

abbrev pub reading : Seen → ℕ → ℕ → List (ℕ × ℕ) → Seen
reading v k n s = reading_on v v.reads k n s

pub reading_on_keeps : (v w : Seen) (before : List Read) (k n : ℕ) (s : List (ℕ × ℕ)) → w ≡ reading_on v before k n s → Keeps v w × (w.client ≡ v.client)
reading_on_keeps v w before k n s e = (
  record {
    places = λ p h. subst (λ (z : Seen). IsIn p z.places) (sym e) h;
    met = λ a h. subst (λ (z : Seen). IsIn a z.client.met) (sym e) h;
    own = ap (λ (z : Seen). z.client.own) e;
    holds = ap (λ (z : Seen). z.holds) e;
    room = ap (λ (z : Seen). z.room) e;
  },
  ap (λ (z : Seen). z.client) e,
)

pub reading_keeps : (v w : Seen) (k n : ℕ) (s : List (ℕ × ℕ)) → w ≡ reading v k n s → Keeps v w × (w.client ≡ v.client)
reading_keeps v w k n s e = reading_on_keeps v w v.reads k n s e

-- places were learnt, and the client knows more
in_more : {A : Type 0} (x : A) (ys xs : List A) → IsIn x xs → IsIn x (ys ++ xs)
in_more x [] xs h = h
in_more x (y ∷ ys) xs h = inr (in_more x ys xs h)

pub learned_keeps : (v w : Seen) (ps : List Place) (c : View) (rs : List Read) → w ≡ seat_view c (ps ++ v.places) rs v.holds v.room → ((a : Spot) → IsIn a v.client.met → IsIn a c.met) → c.own ≡ v.client.own → Keeps v w
learned_keeps v w ps c rs e met own = record {
  places = λ p h. subst (λ (z : Seen). IsIn p z.places) (sym e) (in_more p ps v.places h);
  met = λ a h. subst (λ (z : Seen). IsIn a z.client.met) (sym e) (met a h);
  own = ap (λ (z : Seen). z.client.own) e ∙ own;
  holds = ap (λ (z : Seen). z.holds) e;
  room = ap (λ (z : Seen). z.room) e;
}

-- THE ROOT WORD
abbrev root_word : Place
root_word = place 0 1 1

module _ (v : Seen) (known : KnowsRootWord v) (k₁ : ℕ) (at₁ : 1 ≡ k₁) where
  pub root_word_place : KnowsPlace v k₁
  root_word_place = (root_word, (known, at₁))

  module _ (v₁ : Seen) (n : ℕ) (took_it : Takes (reads k₁) v n none_joined v₁) where
    pub root_word_taken : v₁ ≡ reading v 0 n []
    root_word_taken = took_it root_word known at₁

    module _ (k₂ : ℕ) (at₂ : 2 ≡ k₂) where
      pub root_word_cell : KnowsCell v₁ k₂
      root_word_cell = (root_word, 0, (subst KnowsRootWord (sym root_word_taken) known, (let l : 0 < 1 = omega arith in l), at₂))

      module _ (v₂ : Seen) (x : ℕ) (saw_it : Sees (reads k₂) v₁ x none_joined v₂) where
        pub root_word_read : v₂ ≡ reading v 0 n ((0, x) ∷ [])
        root_word_read = saw_it root_word 0 (subst KnowsRootWord (sym root_word_taken) known) (let l : 0 < 1 = omega arith in l) at₂
            ∙ (ap (λ (z : Seen). saw z 0 (0, x)) root_word_taken ∙ ap (λ (rs : List Read). seat_view v.client v.places rs v.holds v.room) (saw_first 0 n (0, x) [] v.reads))

-- A NODE
pub if_some : {A : Type 0} {P Q : A → Type 0} (o : Option A) → ((x : A) → P x → Q x) → IfSome o P → IfSome o Q
if_some None f h = tt
if_some (Some x) f h = f x h

pub name_slot : (a : Spot) → (name : ℕ) → name ≡ name_of a.shape → IsWord name (Below a.shape.key)
name_slot a name e = (form_place a.shape.form, (let l = few_forms a.shape.form in omega (arith, l)), e)

number_of : List Read → ℕ
number_of [] = 0
number_of (r ∷ rs) = r.number

taken_of : List Read → ℕ
taken_of [] = 0
taken_of (r ∷ rs) = r.word

others_of : List Read → List Read
others_of [] = []
others_of (r ∷ rs) = rs

no_reads : (r : Read) (rs : List Read) → [] ≡ r ∷ rs → ⊥
no_reads r rs e = cc

unread_is : (xs : List Read) (k n : ℕ) (ys : List Read) → unread xs ≡ read k n [] ∷ ys → xs ≡ read k n (last_saw xs) ∷ ys
unfolding number_of taken_of others_of
unread_is [] k n ys e = absurd (no_reads (read k n []) ys e)
unread_is (x ∷ xs) k n ys e = λ i. read (number_of (e i)) (taken_of (e i)) x.saw ∷ others_of (e i)

pub reads_on : (v w : Seen) (k n : ℕ) → without_reads w ≡ without_reads (took v k n) → w ≡ reading v k n (last_saw w.reads)
reads_on v w k n e = ap (λ (z : Seen). seat_view z.client z.places w.reads z.holds z.room) e
    ∙ ap (λ (xs : List Read). seat_view v.client v.places xs v.holds v.room) (unread_is w.reads k n v.reads (ap (λ (z : Seen). z.reads) e))

-- the first of a node's words is its version word
pub first_word : (p : Place) (b : Book) (words : List Name) → AreOf p b words → (w d : Name) → get_or words 0 d ≡ w → (p.key ≡ w.key) × (w.book ≡ b)
first_word p b words of w d is =
    let e : name (p.key + 0) b ≡ w = sym (of.1 0 d (let l = of.0 in omega (arith, l))) ∙ is in
    ((let z : p.key ≡ p.key + 0 = omega arith in z) ∙ ap (λ (x : Name). x.key) e, sym (ap (λ (x : Name). x.book) e))

-- What was found ends the path, or leads on.
ends : (look : Bool) (q : Ask) (height : ℕ) (v w : Seen) (a : Spot) (ps : List Place) (rs : List Read) (c : View) (o : Option (Child ℕ)) (found : Option ℕ) → a.shape.height ≡ height → w ≡ seat_view c (ps ++ v.places) rs v.holds v.room
    → IsOfKind height o → IsBelow o found → Looks look q v.client a o ps c → Keeps v w × Told look q height found v w
ends look q height v w a ps rs c o (Some x) high is kind below then = some_there height o high kind below then
  where
    goes : (h : ℕ) (s : ℕ) → a.shape.height ≡ suc (suc h) → IsWord x (Below s) → GoesTo v.client a s ps c → Keeps v w × ((w.client.seen ≡ v.client.seen) × ((name : ℕ) × IsWord x (Below name) × Sights w name))
    goes h s at_h word g = let b : Spot = g.spot in (
      learned_keeps v w ps c rs is (λ z in_it. subst (λ (y : View). IsIn z y.met) (sym g.is) (inr in_it)) (ap (λ (y : View). y.own) g.is),
      (
        ap (λ (z : Seen). z.client.seen) is ∙ ap (λ (z : View). z.seen) g.is,
        (
          s,
          word,
          record {
            spot = b;
            met = subst (λ (z : Seen). IsIn b z.client.met) (sym is) (subst (λ (z : View). IsIn b z.met) (sym g.is) (inl refl));
            placed = subst (λ (z : Seen). IsIn (place_at b) z.places) (sym is) (subst (λ (z : List Place). IsIn (place_at b) (z ++ v.places)) (sym g.place) (inl refl));
            named = g.named;
          },
        ),
      ),
    )

    answered : (found : Option ℕ) → HasAnswer q found v.client c → Keeps v w × Answers q.caller (got q found) v.client.seen w.client.seen
    answered found h = (
      learned_keeps v w ps c rs is (λ z in_it. subst (λ (y : View). IsIn z y.met) (sym h.is) in_it) (ap (λ (y : View). y.own) h.is),
      subst (λ (z : Seen). Answers q.caller (got q found) v.client.seen z.client.seen) (sym is) h.answers,
    )

    same : c ≡ v.client → Keeps v w × (w.client.seen ≡ v.client.seen)
    same e = (
      learned_keeps v w ps c rs is (λ z in_it. subst (λ (y : View). IsIn z y.met) (sym e) in_it) (ap (λ (y : View). y.own) e),
      ap (λ (z : Seen). z.client.seen) is ∙ ap (λ (z : View). z.seen) e,
    )

    some_there : (height : ℕ) (o : Option (Child ℕ)) → a.shape.height ≡ height → IsOfKind height o → IsBelow o (Some x) → Looks look q v.client a o ps c → Keeps v w × Told look q height (Some x) v w
    some_there height None high kind below then = absurd below
    some_there zero (Some y) high kind below then = absurd kind
    some_there (suc zero) (Some (Payload y)) high kind below then = leaf look then
      where
        leaf : (look : Bool) → Looks look q v.client a (Some (Payload y)) ps c → Keeps v w × Told look q 1 (Some x) v w
        leaf true h = subst (λ (z : ℕ). Keeps v w × Answers q.caller (got q (Some z)) v.client.seen w.client.seen) (sym below) (answered (Some y) h)
        leaf false h = same h
    some_there (suc zero) (Some (Below s)) high kind below then = absurd kind
    some_there (suc (suc h)) (Some (Payload y)) high kind below then = absurd kind
    some_there (suc (suc h)) (Some (Below s)) high kind below then = inner look then
      where
        inner : (look : Bool) → Looks look q v.client a (Some (Below s)) ps c → Keeps v w × Told look q (suc (suc h)) (Some x) v w
        inner true g = goes h s high below g
        inner false g = goes h s high below g
ends look q height v w a ps rs c None None high is kind below then = none_there look height then
  where
    answered : HasAnswer q None v.client c → Keeps v w × Answers q.caller (got q None) v.client.seen w.client.seen
    answered h = (
      learned_keeps v w ps c rs is (λ z in_it. subst (λ (y : View). IsIn z y.met) (sym h.is) in_it) (ap (λ (y : View). y.own) h.is),
      subst (λ (z : Seen). Answers q.caller (got q None) v.client.seen z.client.seen) (sym is) h.answers,
    )

    same : c ≡ v.client → Keeps v w × (w.client.seen ≡ v.client.seen)
    same e = (
      learned_keeps v w ps c rs is (λ z in_it. subst (λ (y : View). IsIn z y.met) (sym e) in_it) (ap (λ (y : View). y.own) e),
      ap (λ (z : Seen). z.client.seen) is ∙ ap (λ (z : View). z.seen) e,
    )

    none_there : (look : Bool) (height : ℕ) → Looks look q v.client a None ps c → Keeps v w × Told look q height None v w
    none_there true height h = answered h
    none_there false height h = same h
ends look q height v w a ps rs c (Some y) None high is kind below then = absurd below

module _ (v : Seen) (name key height : ℕ) (n : Names v name key height) (b : Book) (words : List Name) (are : AreNamed b name words) where
  abbrev pub its : Spot
  its = n.spot

  abbrev p : Place
  p = place_at its

  pub of : AreOf p b words
  of = are its n.named

  pub at_place : (k : ℕ) → p.key ≡ k → KnowsPlace v k
  at_place k at_k = (p, (n.placed, at_k))

  module _ (k : ℕ) (at_k : p.key ≡ k) (v₁ : Seen) (t : ℕ) (took_it : Takes (reads k) v t none_joined v₁) where
    pub node_taken : v₁ ≡ reading v its.number t []
    node_taken = took_it p n.placed at_k

    pub taken_keeps : Keeps v v₁ × (v₁.client ≡ v.client)
    taken_keeps = reading_keeps v v₁ its.number t [] node_taken

    pub may_read_node : MayRead words b v₁
    may_read_node = subst (MayRead words b) (sym node_taken) (p, read its.number t [], v.reads, n.placed, of, refl, refl)

-- A NODE of which only its name is known, and a look at its head
module _ (v : Seen) (name : ℕ) (n : Sights v name) (b : Book) (words : List Name) (are : AreNamed b name words) where
  abbrev pub seen_spot : Spot
  seen_spot = n.spot

  abbrev pub seen_place : Place
  seen_place = place_at seen_spot

  pub seen_of : AreOf seen_place b words
  seen_of = are seen_spot n.named

  pub seen_at : (k : ℕ) → seen_place.key ≡ k → KnowsPlace v k
  seen_at k at_k = (seen_place, (n.placed, at_k))

  module _ (k : ℕ) (at_k : seen_place.key ≡ k) (v₁ : Seen) (t : ℕ) (took_it : Takes (reads k) v t none_joined v₁) where
    seen_taken : v₁ ≡ reading v seen_spot.number t []
    seen_taken = took_it seen_place n.placed at_k

    pub seen_keeps : Keeps v v₁ × (v₁.client ≡ v.client)
    seen_keeps = reading_keeps v v₁ seen_spot.number t [] seen_taken

    pub seen_reads : v₁.reads ≡ read seen_spot.number t [] ∷ v.reads
    seen_reads = ap (λ (z : Seen). z.reads) seen_taken

    pub seen_open : HasOpened v₁ b words t seen_spot
    seen_open = record { are = seen_of; saw = []; before = v.reads; reads = ap (λ (z : Seen). z.reads) seen_taken }

some_words : (form : NodeType) → 0 < words_of form
some_words N4 = omega arith
some_words N16 = omega arith
some_words N48 = omega arith
some_words N256 = omega arith

pub open_long_of : (a : Spot) (b : Book) (words : List Name) → AreOf (place_at a) b words → 0 < length words - 1
open_long_of a b words are = let l = are.0 in let some = some_words a.shape.form in omega (arith, l, some)

-- A NODE THAT IS OPEN
module _ (v : Seen) (b : Book) (words : List Name) (t : ℕ) (a : Spot) (placed : IsIn (place_at a) v.places) (o : HasOpened v b words t a) where
  before_it : Seen
  before_it = seat_view v.client v.places o.before v.holds v.room

  was_read : v ≡ reading_on v o.before a.number t o.saw
  was_read = ap (λ (rs : List Read). seat_view v.client v.places rs v.holds v.room) o.reads

  pub may_read_open : MayRead words b v
  may_read_open = (place_at a, read a.number t o.saw, o.before, placed, o.are, o.reads, refl)

  pub open_long : 0 < length words - 1
  open_long = let l = o.are.0 in let some = some_words a.shape.form in omega (arith, l, some)

  module _ (v₂ : Seen) (rest : without_reads v₂ ≡ without_reads v) where
    abbrev pub saw_open : List (ℕ × ℕ)
    saw_open = last_saw v₂.reads

    pub open_read : v₂ ≡ reading_on v o.before a.number t saw_open
    unfolding before_it
    open_read = reads_on before_it v₂ a.number t (rest ∙ ap without_reads was_read)

    module _ (k : ℕ) (at_k : (place_at a).key ≡ k) (Then : View → ℕ → ℕ → List (ℕ × ℕ) → List Place → View → Type 0) where
      pub may_check_open : (id : ℕ) → Learns IsMap id v.client a.number t saw_open (read a.number t saw_open ∷ o.before) (Then v.client a.number t saw_open) → MayCheck v₂ k IsMap id Then t
      may_check_open id learns = subst (λ (z : Seen). MayCheck z k IsMap id Then t) (sym open_read)
          (place_at a, read a.number t saw_open, (placed, at_k), head_read a.number t saw_open o.before, refl, learns)

      module _ (w : Seen) (m : ℕ) (told : Checks Then (reads k) v₂ m none_joined w) where
        pub open_checked : Plays.Checked (Then v.client a.number t saw_open) t (reading_on v o.before a.number t saw_open) m w
        open_checked = subst (λ (z : Seen). Checks Then (reads k) z m none_joined w) open_read told (place_at a) (read a.number t saw_open) placed at_k (head_read a.number t saw_open o.before)

        pub open_missed : m ≢ t → Keeps v w × (w.client ≡ v.client)
        open_missed ne = reading_on_keeps v w o.before a.number t saw_open (open_checked.miss ne)

-- what it has under a key's digit
module _ (v : Seen) (b : Book) (words : List Name) (t name key height : ℕ) (o : IsOpen v b words t name key height) (v₂ : Seen) (rest : without_reads v₂ ≡ without_reads v) (k : ℕ) (at_k : (place_at o.names.spot).key ≡ k) (reads_it : Bool) (q : Ask) (asked : q.key ≡ key) where
  abbrev open_spot : Spot
  open_spot = o.names.spot

  abbrev saw_it : List (ℕ × ℕ)
  saw_it = last_saw v₂.reads

  abbrev Then : View → ℕ → ℕ → List (ℕ × ℕ) → List Place → View → Type 0
  Then = LearnsNode (Looks reads_it) q

  covers : Covers open_spot.shape q.key
  covers = ap (up open_spot.shape.height) asked ∙ o.names.covers

  pub may_look : (id m : ℕ) → q.caller ≡ id → t ≡ 4 * m → MayCheck v₂ k IsMap id Then t
  may_look id m by even = may_check_open v b words t open_spot o.names.placed o.opened v₂ rest k at_k Then id (node_looks q id by v.client open_spot o.names.met t saw_it m even (read open_spot.number t saw_it ∷ o.opened.before) reads_it)

  module _ (w : Seen) (m : ℕ) (told : Checks Then (reads k) v₂ m none_joined w) where
    pub look_missed : m ≢ t → Keeps v w × (w.client ≡ v.client)
    look_missed ne = open_missed v b words t open_spot o.names.placed o.opened v₂ rest k at_k Then w m told ne

    -- what was read before is so still
    module _ (hit : m ≡ t) (kept : (c : Content) → Agree c saw_it → Agree c o.opened.saw) where
      pub look_ends : (found : Option ℕ)
          → ((c : Content) (n : TableNode ℕ) → Agree c saw_it → Encodes c n → n.form ≡ open_spot.shape.form → IsBelow (lookup n.children (digit height key)) found)
          → Keeps v w × Told reads_it q height found v w
      look_ends found finds =
          let h = (open_checked v b words t open_spot o.names.placed o.opened v₂ rest k at_k Then w m told).hit hit in
          let x = h.3 open_spot o.names.met refl in
          let shape_is : x.shape ≡ open_spot.shape = o.sure x.shape record {
            now = x.is.now;
            content = x.is.content;
            its = x.is.its;
            agrees = kept x.is.content x.is.agrees;
            encodes = x.is.encodes;
            in_form = x.is.in_form;
            deep = x.is.deep;
            prefixed = x.is.prefixed;
          } in
          let below : IsBelow (lookup x.is.its.children (digit open_spot.shape.height q.key)) found =
          subst (λ (z : ℕ × ℕ). IsBelow (lookup x.is.its.children (digit z.0 z.1)) found) (λ i. (sym o.names.high i, sym asked i)) (finds x.is.content x.is.its x.is.agrees x.is.encodes x.is.in_form) in
          let kind : IsOfKind open_spot.shape.height (lookup x.is.its.children (digit open_spot.shape.height q.key)) = subst (λ (z : Shape). IsOfKind z.height (lookup x.is.its.children (digit z.height q.key))) shape_is x.of_kind in
          let then = subst (λ (z : Shape). Covers z q.key → Looks reads_it q v.client (spot open_spot.number z) (lookup x.is.its.children (digit z.height q.key)) h.0 h.1) shape_is x.on_path covers in
          ends reads_it q height v w open_spot h.0 (read open_spot.number t saw_it ∷ o.opened.before) h.1 (lookup x.is.its.children (digit open_spot.shape.height q.key)) found o.names.high h.2
          (subst (λ (z : ℕ). IsOfKind z (lookup x.is.its.children (digit open_spot.shape.height q.key))) o.names.high kind) below then

-- what a node is now lies where it lay
pub same_place : (a : Spot) (s : Shape) → IsNow a s → place_at (spot a.number s) ≡ place_at a
same_place a s now = λ i. place a.number (now.key i) (words_of (now.form i))

pub same_named : (a : Spot) (s : Shape) → IsNow a s → name_of s ≡ name_of a.shape
same_named a s now = λ i. 256 * now.key i + form_place (now.form i)

-- A NODE whose head was read is open, as what it is now.
pub record IsHeaded (w : Seen) (b : Book) (words : List Name) (t name : ℕ) (saw : List (ℕ × ℕ)) : Type 0 where
  pub sighted : Sights w name
  pub are : AreOf (place_at sighted.spot) b words
  pub before : List Read
  pub reads : w.reads ≡ read sighted.spot.number t saw ∷ before
  pub is : IsOf sighted.spot sighted.spot.shape saw

-- its head
module _ (v : Seen) (b : Book) (words : List Name) (t name : ℕ) (n : Sights v name) (o : HasOpened v b words t n.spot) (v₂ : Seen) (rest : without_reads v₂ ≡ without_reads v) (k : ℕ) (at_k : (place_at n.spot).key ≡ k) where
  abbrev pub saw_head : List (ℕ × ℕ)
  saw_head = last_saw v₂.reads

  pub may_meet : (id m : ℕ) → t ≡ 4 * m → MayCheck v₂ k IsMap id LearnsHead t
  may_meet id m even = may_check_open v b words t n.spot n.placed o v₂ rest k at_k LearnsHead id (node_heads id v.client n.spot n.met t saw_head m even (read n.spot.number t saw_head ∷ o.before))

  module _ (w : Seen) (m : ℕ) (told : Checks LearnsHead (reads k) v₂ m none_joined w) where
    pub meet_missed : m ≢ t → Keeps v w × (w.client ≡ v.client)
    meet_missed ne = open_missed v b words t n.spot n.placed o v₂ rest k at_k LearnsHead w m told ne

    pub meet_head : m ≡ t → Keeps v w × (w.client.seen ≡ v.client.seen) × IsHeaded w b words t name saw_head
    meet_head hit =
        let h = (open_checked v b words t n.spot n.placed o v₂ rest k at_k LearnsHead w m told).hit hit in
        let x : Headed v.client n.spot saw_head h.1 = h.3 n.spot n.met refl in
        let a : Spot = spot n.spot.number x.shape in
        let there : place_at a ≡ place_at n.spot = same_place n.spot x.shape x.is.now in
        let keeps = learned_keeps v w h.0 h.1 (read n.spot.number t saw_head ∷ o.before) h.2 (λ z in_it. subst (λ (y : View). IsIn z y.met) (sym x.heads) (inr in_it)) (ap (λ (y : View). y.own) x.heads) in (
          keeps,
          ap (λ (z : Seen). z.client.seen) h.2 ∙ ap (λ (z : View). z.seen) x.heads,
          record {
            sighted = record {
              spot = a;
              met = subst (λ (z : Seen). IsIn a z.client.met) (sym h.2) (subst (λ (z : View). IsIn a z.met) (sym x.heads) (inl refl));
              placed = subst (λ (p : Place). IsIn p w.places) (sym there) (keeps.places (place_at n.spot) n.placed);
              named = n.named ∙ sym (same_named n.spot x.shape x.is.now);
            };
            are = subst (λ (p : Place). AreOf p b words) (sym there) o.are;
            before = o.before;
            reads = ap (λ (z : Seen). z.reads) h.2;
            is = record {
              now = record { key = refl; form = refl; lasts = λ _. refl };
              content = x.is.content;
              its = x.is.its;
              agrees = x.is.agrees;
              encodes = x.is.encodes;
              in_form = x.is.in_form ∙ sym x.is.now.form;
              deep = x.is.deep;
              prefixed = x.is.prefixed;
            };
          },
        )
