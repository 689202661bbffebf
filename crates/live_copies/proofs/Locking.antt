-- Nodes are locked one by one, and unlocked again.
use Rattle.std.proofs.Common.{◌≡◌, ℕ, ◌+◌, List, [], ◌∷◌, ◌++◌, drop, length, refl, sym, ap, ◌∙◌, subst, inr}
use Rattle.word_book.specs.Book.{Book, Name}
use Rattle.live_nodes.specs.Seats.{Place, Hold, hold, SeatView, IsIn, Each}
use Rattle.live_nodes.specs.Rows.{AreOf}
use Rattle.live_nodes.specs.Levels.{Spot, place_at}
use Rattle.live_nodes.specs.Views.{View, Own, locked, rest_of}
use Rattle.live_nodes.specs.Tree.{IsApart}
use Rattle.live_reads.specs.Paths.{AreNamed, Keeps}
use Rattle.live_growth.specs.Holds.{Alike, HasLocked}
use Rattle.live_growth.proofs.Again.{Beside}
use Rattle.live_copies.specs.declared.locks.Lock.{Lock}
use Rattle.live_copies.specs.inner.Locks.{Grip, own_of, holds_of, AreNoted, IsGrip, AreGrips, HasLocks, IsTop, Knows, Grows, HasTaken}

abbrev Seen : Type 0
Seen = SeatView View

-- LISTS that end with one more
first_or : {A : Type 0} → A → List A → A
first_or d [] = d
first_or d (x ∷ xs) = x

rest : {A : Type 0} → List A → List A
rest [] = []
rest (x ∷ xs) = xs

pub not_none : {A : Type 0} (xs : List A) (x : A) → [] ≡ xs ++ x ∷ [] → ⊥
not_none [] x e = cc
not_none (y ∷ xs) x e = cc

pub same_end : {A : Type 0} (xs ys : List A) (x y : A) → xs ++ x ∷ [] ≡ ys ++ y ∷ [] → (xs ≡ ys) × (x ≡ y)
unfolding first_or rest
same_end [] [] x y e = (refl, ap (first_or x) e)
same_end [] (b ∷ ys) x y e = absurd (not_none ys y (ap rest e))
same_end (a ∷ xs) [] x y e = absurd (not_none xs x (sym (ap rest e)))
same_end (a ∷ xs) (b ∷ ys) x y e =
    let t = same_end xs ys x y (ap rest e) in
    let h : a ≡ b = ap (first_or a) e in
    ((λ i. h i ∷ t.0 i), t.1)

-- The others are held by other numbers, too.
pub beside : (k : ℕ) (gs : List Grip) → Each (IsApart k) (own_of gs) → Each (Beside k) (holds_of gs)
beside k [] a = tt
beside k (g ∷ gs) a = (a.0, beside k gs a.1)

-- MORE IS KNOWN
grip_kept : (ps qs : List Place) (b b' : Book) (words : List Name) (free : ℕ) (a : Spot) (os : List Own) → ((p : Place) → IsIn p ps → IsIn p qs) → b' ≡ b → IsGrip ps b words free a os → IsGrip qs b' words free a os
grip_kept ps qs b b' words free a os more same g = record {
  placed = more (place_at a) g.placed;
  are = subst (λ (z : Book). AreOf (place_at a) z words) (sym same) g.are;
  even = g.even;
  small = g.small;
  apart = g.apart;
}

grips_kept : (ps qs : List Place) (b b' : Book) (gs : List Grip) → ((p : Place) → IsIn p ps → IsIn p qs) → b' ≡ b → AreGrips ps b gs → AreGrips qs b' gs
grips_kept ps qs b b' [] more same g = tt
grips_kept ps qs b b' (x ∷ gs) more same g = (grip_kept ps qs b b' x.lock.words.now x.lock.free x.spot (own_of gs) more same g.0, grips_kept ps qs b b' gs more same g.1)

pub locks_kept : (v w : Seen) (b b' : Book) (ls : List Lock) → ((p : Place) → IsIn p v.places → IsIn p w.places) → w.client.own ≡ v.client.own → w.holds ≡ v.holds → b' ≡ b → HasLocks v b ls → HasLocks w b' ls
locks_kept v w b b' ls more own holds same h = record {
  grips = h.grips;
  noted = h.noted;
  own = own ∙ h.own;
  holds = holds ∙ h.holds;
  are = grips_kept v.places w.places b b' h.grips more same h.are;
}

pub same_places : (ps qs : List Place) → qs ≡ ps → (p : Place) → IsIn p ps → IsIn p qs
same_places ps qs e p i = subst (λ (z : List Place). IsIn p z) (sym e) i

-- NO NODE is locked
pub locks_first : (v : Seen) (b : Book) (ls : List Lock) → ls ≡ [] → v.client.own ≡ [] → v.holds ≡ [] → HasLocks v b ls
locks_first v b ls none own holds = record { grips = []; noted = none; own = own; holds = holds; are = tt }

pub locks_none : (v : Seen) (b : Book) (ls : List Lock) → ls ≡ [] → HasLocks v b ls → (v.client.own ≡ []) × (v.holds ≡ [])
locks_none v b ls none h = of h.grips h.noted h.own h.holds
  where
    of : (gs : List Grip) → AreNoted gs ls → v.client.own ≡ own_of gs → v.holds ≡ holds_of gs → (v.client.own ≡ []) × (v.holds ≡ [])
    of [] noted own holds = (own, holds)
    of (g ∷ gs) noted own holds = absurd (not_none noted.0 g.lock (sym none ∙ noted.1))

-- ONE MORE is locked
pub locks_top : (v w : Seen) (b b' : Book) (name key height free : ℕ) (words : List Name) (ls : List Lock) → HasLocks v b ls → HasLocked v w name key height free → AreNamed b' name words → b' ≡ b → IsTop w b' words free ls
locks_top v w b b' name key height free words ls h l are same =
    let more = same_places v.places w.places l.alike.places in record {
      spot = l.names.spot;
      content = l.content;
      grips = h.grips;
      noted = h.noted;
      own = l.own ∙ ap (λ (os : List Own). locked l.names.spot l.content ∷ os) h.own;
      holds = l.holds ∙ ap (λ (hs : List Hold). hold l.names.spot.number (free + 2) l.content ∷ hs) h.holds;
      is = record {
        placed = more (place_at l.names.spot) l.names.placed;
        are = are l.names.spot l.names.named;
        even = l.even;
        small = l.small;
        apart = subst (Each (IsApart l.names.spot.number)) h.own l.apart;
      };
      are = grips_kept v.places w.places b b' h.grips more same h.are;
    }

pub locks_more : (v : Seen) (b : Book) (words : List Name) (free : ℕ) (ls : List Lock) (l : Lock) → IsTop v b words free ls → l.words.now ≡ words → l.free ≡ free → HasLocks v b (ls ++ l ∷ [])
locks_more v b words free ls l t w f = record {
  grips = record { lock = l; spot = t.spot; content = t.content } ∷ t.grips;
  noted = (ls, refl, t.noted);
  own = t.own;
  holds = t.holds ∙ ap (λ (z : ℕ). hold t.spot.number (z + 2) t.content ∷ holds_of t.grips) (sym f);
  are = (subst (λ (z : List Name × ℕ). IsGrip v.places b z.0 z.1 t.spot (own_of t.grips)) (λ i. (sym w i, sym f i)) t.is, t.are);
}

-- ONE LESS is
pub locks_less : (v w : Seen) (b b' : Book) (words : List Name) (free : ℕ) (ls : List Lock) → IsTop v b words free ls → w.client.own ≡ rest_of v.client.own → w.holds ≡ drop 1 v.holds → w.places ≡ v.places → b' ≡ b → HasLocks w b' ls
locks_less v w b b' words free ls t own holds places same = record {
  grips = t.grips;
  noted = t.noted;
  own = own ∙ ap rest_of t.own;
  holds = holds ∙ ap (λ (hs : List Hold). drop 1 hs) t.holds;
  are = grips_kept v.places w.places b b' t.grips (same_places v.places w.places places) same t.are;
}

pub locks_last : (v : Seen) (b : Book) (all ls : List Lock) (l : Lock) → HasLocks v b all → all ≡ ls ++ l ∷ [] → IsTop v b l.words.now l.free ls
locks_last v b all ls l h e = of h.grips h.noted h.own h.holds h.are
  where
    of : (gs : List Grip) → AreNoted gs all → v.client.own ≡ own_of gs → v.holds ≡ holds_of gs → AreGrips v.places b gs → IsTop v b l.words.now l.free ls
    of [] noted own holds are = absurd (not_none ls l (sym noted ∙ e))
    of (g ∷ gs) noted own holds are =
        let s = same_end noted.0 ls g.lock l (sym noted.1 ∙ e) in record {
          spot = g.spot;
          content = g.content;
          grips = gs;
          noted = subst (AreNoted gs) s.0 noted.2;
          own = own;
          holds = holds ∙ ap (λ (z : Lock). hold g.spot.number (z.free + 2) g.content ∷ holds_of gs) s.1;
          is = subst (λ (z : Lock). IsGrip v.places b z.words.now z.free g.spot (own_of gs)) s.1 are.0;
          are = are.1;
        }

-- WHAT THE SEAT KNOWS goes on
pub knows_same : (v : Seen) → Knows v v
knows_same v = record { places = λ p i. i; met = λ a i. i; room = refl }

pub knows_then : (u v w : Seen) → Knows u v → Knows v w → Knows u w
knows_then u v w a b = record { places = λ p i. b.places p (a.places p i); met = λ s i. b.met s (a.met s i); room = b.room ∙ a.room }

pub grows_same : (v : Seen) → Grows v v
grows_same v = record { knows = knows_same v; own = λ o i. i; seen = refl }

pub grows_then : (u v w : Seen) → Grows u v → Grows v w → Grows u w
grows_then u v w a b = record { knows = knows_then u v w a.knows b.knows; own = λ o i. b.own o (a.own o i); seen = b.seen ∙ a.seen }

pub alike_knows : (v w : Seen) → Alike v w → Knows v w
alike_knows v w a = record {
  places = λ p i. subst (λ (z : List Place). IsIn p z) (sym a.places) i;
  met = λ s i. subst (λ (z : List Spot). IsIn s z) (sym a.met) i;
  room = a.room;
}

pub alike_grows : (v w : Seen) → Alike v w → w.client.own ≡ v.client.own → w.client.seen ≡ v.client.seen → Grows v w
alike_grows v w a own seen = record { knows = alike_knows v w a; own = λ o i. subst (λ (z : List Own). IsIn o z) (sym own) i; seen = seen }

pub keeps_grows : (v w : Seen) → Keeps v w → w.client.seen ≡ v.client.seen → Grows v w
keeps_grows v w k seen = record {
  knows = record { places = k.places; met = k.met; room = k.room };
  own = λ o i. subst (λ (z : List Own). IsIn o z) (sym k.own) i;
  seen = seen;
}

-- ONE NODE was locked
pub locked_since : (u v w : Seen) (name key height free : ℕ) → Alike u v → v.client ≡ u.client → v.holds ≡ u.holds → HasLocked v w name key height free → HasLocked u w name key height free
locked_since u v w name key height free a client holds l = record {
  names = record {
    spot = l.names.spot;
    met = subst (λ (z : View). IsIn l.names.spot z.met) client l.names.met;
    placed = subst (λ (z : List Place). IsIn (place_at l.names.spot) z) a.places l.names.placed;
    named = l.names.named;
    high = l.names.high;
    covers = l.names.covers;
  };
  content = l.content;
  own = l.own ∙ ap (λ (z : View). locked l.names.spot l.content ∷ z.own) client;
  holds = l.holds ∙ ap (λ (z : List Hold). hold l.names.spot.number (free + 2) l.content ∷ z) holds;
  alike = record { places = l.alike.places ∙ a.places; met = l.alike.met ∙ a.met; room = l.alike.room ∙ a.room };
  seen = l.seen ∙ ap (λ (z : View). z.seen) client;
  its = l.its;
  encodes = l.encodes;
  in_form = l.in_form;
  deep = l.deep;
  long = l.long;
  even = l.even;
  small = l.small;
  apart = subst (λ (z : View). Each (IsApart l.names.spot.number) z.own) client l.apart;
}

pub locked_grows : (v w : Seen) (name key height free : ℕ) → HasLocked v w name key height free → Grows v w
locked_grows v w name key height free l = record {
  knows = alike_knows v w l.alike;
  own = λ o i. subst (λ (z : List Own). IsIn o z) (sym l.own) (inr i);
  seen = l.seen;
}

pub locked_taken : (v w : Seen) (b : Book) (name key height free : ℕ) (words : List Name) → HasLocked v w name key height free → AreNamed b name words → HasTaken w b name key height words
locked_taken v w b name key height free words l are = record {
  spot = l.names.spot;
  named = l.names.named;
  high = l.names.high;
  covers = l.names.covers;
  content = l.content;
  free = free;
  others = v.client.own;
  holds_before = v.holds;
  own = l.own;
  holds = l.holds;
  placed = subst (λ (z : List Place). IsIn (place_at l.names.spot) z) (sym l.alike.places) l.names.placed;
  are = are l.names.spot l.names.named;
  long = l.long;
  its = l.its;
  is = record { encodes = l.encodes; in_form = l.in_form; deep = ap (λ (z : ℕ). length l.its.prefix + z) l.names.high ∙ l.deep };
}

-- A NODE WAS UNLOCKED, which was locked then: it is as before
pub unlocked_grows : (u v w : Seen) (name key height free : ℕ) → HasLocked u v name key height free → Alike v w → w.client.own ≡ rest_of v.client.own → w.client.seen ≡ v.client.seen → Grows u w
unlocked_grows u v w name key height free l a own seen = record {
  knows = knows_then u v w (alike_knows u v l.alike) (alike_knows v w a);
  own = λ o i. subst (λ (z : List Own). IsIn o z) (sym (own ∙ ap rest_of l.own)) i;
  seen = seen ∙ l.seen;
}
