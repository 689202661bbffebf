-- The root word is locked, and names the root.
use Rattle.std.proofs.Common.{◌≡◌, ◌≢◌, ℕ, ◌+◌, ◌%◌, ◌<◌, ◌^◌, List, [], ◌∷◌, ◌++◌, sym, ap, ◌∙◌, subst, inr}
use Rattle.word_book.specs.Book.{Book, Name, compares, Joined}
use Rattle.live_nodes.specs.Nodes.{Content}
use Rattle.live_nodes.specs.Seats.{Place, place, Hold, hold, SeatView, seat_view, IsIn, Each}
use Rattle.live_nodes.specs.Plays as plays
use Rattle.live_nodes.specs.Plays.{Locks}
use Rattle.live_nodes.specs.Calls.{MayLock}
use Rattle.live_nodes.specs.Rows.{AreOf}
use Rattle.live_nodes.specs.Levels.{Spot}
use Rattle.live_nodes.specs.Views.{View, view_of, Own, root_word, detached, rest_of, Ask}
use Rattle.live_nodes.specs.Tree.{IsMap, LearnsRootWord, IsApart, again, leads_again, left_again}
use Rattle.live_nodes.proofs.Locks.{root_word_locks}
use Rattle.live_reads.specs.Paths.{KnowsRootWord, AreNamed}
use Rattle.live_growth.specs.Holds.{Alike, HasReclaimed, HasRootWord, HoldsRootWord}
use Rattle.live_growth.specs.Rooms.{HasGrown}
use Rattle.live_reads.proofs.Views.{reading}
use Rattle.live_growth.proofs.Locks.{alike_taken}
use Rattle.live_growth.proofs.Grips.{Grips}
use Rattle.live_growth.proofs.Pairs.{Pair}

abbrev Seen : Type 0
Seen = SeatView View

abbrev pub p : Place
p = place 0 1 1

module _ (v : Seen) (known : KnowsRootWord v) (v₁ : Seen) (t : ℕ) (taken : v₁ ≡ reading v 0 t []) (k : ℕ) (at_k : 1 ≡ k) where
  pub may_lock_root_word : (id : ℕ) → MayLock v₁ k IsMap id LearnsRootWord t (t + 2)
  may_lock_root_word id = subst (λ (z : Seen). MayLock z k IsMap id LearnsRootWord t (t + 2)) (sym taken) (p, (known, at_k), root_word_locks id v.client t)

  module _ (v₂ : Seen) (m : ℕ) (j : Joined) (told : Locks LearnsRootWord (compares k t (t + 2)) v₁ m j v₂) where
    tried : plays.Tried (LearnsRootWord v.client 0) 0 t (t + 2) 1 (reading v 0 t []) m v₂
    tried = subst (λ (z : Seen). Locks LearnsRootWord (compares k t (t + 2)) z m j v₂) taken told p known at_k

    pub root_word_not : m ≢ t → Alike v v₂ × (v₂.client ≡ v.client) × (v₂.holds ≡ v.holds)
    root_word_not ne = alike_taken v v₂ 0 t (tried.lost ne)

    pub root_word_held : m ≡ t → t % 4 ≡ 0 → t < 2 ^ 62 → HasRootWord v v₂ t
    root_word_held hit even small = let w = tried.won hit in record {
      content = w.0;
      long = w.2;
      client = ap (λ (z : Seen). z.client) w.3 ∙ w.4;
      holds = ap (λ (z : Seen). z.holds) w.3;
      alike = record {
        places = ap (λ (z : Seen). z.places) w.3;
        met = ap (λ (z : Seen). z.client.met) w.3 ∙ ap (λ (z : View). z.met) w.4;
        room = ap (λ (z : Seen). z.room) w.3;
      };
      even = even;
      small = small;
    }

-- The seat holds it alone.
pub holds_root_word : (v w : Seen) (free : ℕ) (h : HasRootWord v w free) (b : Book) (words : List Name) → AreOf p b words → KnowsRootWord v → v.client.own ≡ [] → v.holds ≡ [] → HoldsRootWord w b words free h.content
holds_root_word v w free h b words are known own none = record {
  own = ap (λ (z : View). z.own) h.client ∙ ap (λ (os : List Own). root_word h.content ∷ os) own;
  holds = h.holds ∙ ap (λ (hs : List Hold). hold 0 (free + 2) h.content ∷ hs) none;
  placed = subst (λ (ps : List Place). IsIn p ps) (sym h.alike.places) known;
  are = are;
}

pub root_word_grips : (w : Seen) (b : Book) (words : List Name) (free : ℕ) (c : Content) → HoldsRootWord w b words free c → Grips w b words free p c
root_word_grips w b words free c h = record { holds = h.holds; placed = h.placed; are = h.are }

-- A node that was obsolete is held, too.
pub pair_with_root_word : (w x : Seen) (b b' : Book) (words_r words : List Name) (free_r free name : ℕ) (h : HasReclaimed w x name free_r) (c : Content) → b' ≡ b → HoldsRootWord w b words free c → AreNamed b' name words_r → Pair x b' words_r words free_r free h.spot p h.content c
pair_with_root_word w x b b' words_r words free_r free name h c same one are = record {
  holds = h.holds ∙ ap (λ (hs : List Hold). hold h.spot.number (free_r + 2) h.content ∷ hs) one.holds;
  apart = (subst (Each (IsApart h.spot.number)) one.own h.apart).0;
  placed_x = h.placed;
  placed_p = subst (λ (ps : List Place). IsIn p ps) (sym h.alike.places) one.placed;
  are_x = are h.spot h.named;
  are_p = subst (λ (z : Book). AreOf p z words) (sym same) one.are;
}

-- what a seat knows once the root word names the root, and both are unlocked
pub root_grown : (v n z x : Seen) (e e2 : View) (q : Ask) (cy : Content) (r : Spot) (c : Content) (hs : List Hold) → n.places ≡ v.places → n.client.met ≡ v.client.met → n.client.seen ≡ v.client.seen → n.client.own ≡ detached r ∷ root_word c ∷ []
    → z ≡ seat_view e n.places n.reads hs n.room → e ≡ view_of n.client.seen (leads_again q n.client.own ++ n.client.met) (left_again q cy n.client.own)
    → x ≡ seat_view e2 z.places z.reads [] z.room → e2 ≡ view_of z.client.seen z.client.met (rest_of z.client.own) → HasGrown v x
root_grown v n z x e e2 q cy r c hs places met seen own z_is e_is x_is e2_is =
    let z_client = ap (λ (t : Seen). t.client) z_is ∙ e_is in
    let x_client = ap (λ (t : Seen). t.client) x_is ∙ e2_is in
    let x_places : x.places ≡ v.places = ap (λ (t : Seen). t.places) x_is ∙ (ap (λ (t : Seen). t.places) z_is ∙ places) in
    let x_met : x.client.met ≡ again q r ∷ v.client.met = ap (λ (t : View). t.met) x_client ∙ (ap (λ (t : View). t.met) z_client ∙ (ap (λ (os : List Own). leads_again q os ++ n.client.met) own ∙ ap (λ (l : List Spot). again q r ∷ l) met)) in record {
      own = ap (λ (t : View). t.own) x_client ∙ (ap (λ (t : View). rest_of t.own) z_client ∙ ap (λ (os : List Own). rest_of (left_again q cy os)) own);
      holds = ap (λ (t : Seen). t.holds) x_is;
      places = λ a h. subst (λ (ps : List Place). IsIn a ps) (sym x_places) h;
      met = λ a h. subst (λ (l : List Spot). IsIn a l) (sym x_met) (inr h);
      seen = ap (λ (t : View). t.seen) x_client ∙ (ap (λ (t : View). t.seen) z_client ∙ seen);
    }

-- nothing came of it
pub idle_grown : (v w : Seen) → v.client.own ≡ [] → v.holds ≡ [] → Alike v w → w.client ≡ v.client → w.holds ≡ v.holds → HasGrown v w
idle_grown v w own none alike client holds = record {
  own = ap (λ (z : View). z.own) client ∙ own;
  holds = holds ∙ none;
  places = λ q i. subst (λ (ps : List Place). IsIn q ps) (sym alike.places) i;
  met = λ s i. subst (λ (l : List Spot). IsIn s l) (sym alike.met) i;
  seen = ap (λ (z : View). z.seen) client;
}
