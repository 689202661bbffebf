-- A seat stays ready for the next call.
use Rattle.std.proofs.Common.{◌≡◌, ℕ, nat_eq, List, [], ◌∷◌, ◌++◌, refl, sym, ap, ◌∙◌, subst, inl, arith, Bool, true, false, Option, Some, None, IfSome, Result, Ok, Err, ◌≤◌}
use Rattle.std.specs.Result.{IsErr}
use Rattle.share_rule.specs.History.{Entry, entries_of, IsLegalHistory}
use Rattle.share_rule.proofs.Keeps.{entries-append}
use Rattle.word_book.specs.Book.{Book}
use Rattle.live_nodes.specs.Seats.{Place, place, no_room, SeatView, seat_view, IsIn}
use Rattle.live_nodes.specs.Plays.{given, met}
use Rattle.live_nodes.specs.Levels.{Spot, place_at}
use Rattle.live_nodes.specs.Views.{View, view_of, Ask, ask, inserted}
use Rattle.live_nodes.specs.Tree.{Answers}
use Rattle.live_nodes.specs.Known.{Known, MadeCall}
use Rattle.live_nodes.proofs.Histories.{its_own}
use Rattle.live_reads.specs.Paths.{Names, Sights, Leaves, Keeps}
use Rattle.live_reads.specs.Positions.{KnowsLast}
use Rattle.live_reads.specs.declared.last_leaf.LastLeaf.{LastLeaf}
use Rattle.live_reads.proofs.Stood.{last_known, last_kept}
use Rattle.live_growth.specs.Holds.{HasRest}
use Rattle.live_growth.specs.Rooms.{HasRoom, HasGrown}
use Rattle.live_growth.specs.FreeNodes.{slot_of, HasFreeNodes}
use Rattle.live_growth.specs.declared.link.Room.{Room}
use Rattle.live_growth.specs.declared.free_nodes.Forms.{Forms}
use Rattle.live_growth.specs.declared.free_nodes.FreeNodes.{FreeNodes}
use Rattle.live_growth.specs.declared.map.Refusal.{Refusal}
use Rattle.live_growth.specs.Calls.{IsReady, known_of, Inserts}

abbrev Seen : Type 0
Seen = SeatView View

room_same : (v w : Seen) (s l : ℕ) → w.room ≡ v.room → HasRoom v s l → HasRoom w s l
room_same v w s l e r = record { count = r.count; enough = r.enough; is = e ∙ r.is }

sights_kept : (v w : Seen) (n : ℕ) → ((p : Place) → IsIn p v.places → IsIn p w.places) → ((a : Spot) → IsIn a v.client.met → IsIn a w.client.met) → Sights v n → Sights w n
sights_kept v w n places met s = record { spot = s.spot; met = met s.spot s.met; placed = places (place_at s.spot) s.placed; named = s.named }

free_nodes_kept : (v w : Seen) (s : FreeNodes) → ((p : Place) → IsIn p v.places → IsIn p w.places) → ((a : Spot) → IsIn a v.client.met → IsIn a w.client.met) → HasFreeNodes v s → HasFreeNodes w s
unfolding sights_kept
free_nodes_kept v w s places met h = (
  (λ form some. let i = h.0 form some in record { sighted = sights_kept v w (slot_of s form) places met i.sighted; in_form = i.in_form }),
  (λ some. let i = h.1 some in record { sighted = sights_kept v w s.second places met i.sighted; in_form = i.in_form }),
  (λ some. sights_kept v w s.more places met (h.2 some)),
)

pub free_nodes_last : (v w : Seen) (s : FreeNodes) → Keeps v w → HasFreeNodes v s → HasFreeNodes w s
free_nodes_last v w s k h = free_nodes_kept v w s k.places k.met h

pub free_nodes_grown : (v w : Seen) (s : FreeNodes) → HasGrown v w → HasFreeNodes v s → HasFreeNodes w s
free_nodes_grown v w s g h = free_nodes_kept v w s g.places g.met h

pub sights_grown : (v w : Seen) (n key height : ℕ) → HasGrown v w → Names v n key height → Sights w n
sights_grown v w n key height g s = record { spot = s.spot; met = g.met s.spot s.met; placed = g.places (place_at s.spot) s.placed; named = s.named }

pub leaves_grown : (v w : Seen) (name key height byte : ℕ) → HasGrown v w → Leaves v name key height byte → Leaves w name key height byte
leaves_grown v w name key height byte g l = record {
  sighted = record { spot = l.sighted.spot; met = g.met l.sighted.spot l.sighted.met; placed = g.places (place_at l.sighted.spot) l.sighted.placed; named = l.sighted.named };
  some_height = l.some_height;
  lower = l.lower;
  level = l.level;
  top = l.top;
  low = l.low;
  byte_is = l.byte_is;
  other = l.other;
}

-- a new seat
pub ready_new : (v : Seen) (s : FreeNodes) (u : Forms) (l : LastLeaf) → v ≡ seat_view (view_of [] [] []) (place 0 1 1 ∷ []) [] [] no_room → ((u : Seen) → HasFreeNodes u s) → ((u : Seen) → KnowsLast u l) → IsReady v (record { start = 0; left = 0; spare = s; cleanup_due = None; is_last = false; is_changed = false; used = u; last = l })
ready_new v s u l e has knows = subst (λ (w : Seen). IsReady w (record { start = 0; left = 0; spare = s; cleanup_due = None; is_last = false; is_changed = false; used = u; last = l })) (sym e) record {
  root_word = inl refl;
  own = refl;
  holds = refl;
  words = record { count = 0; enough = omega arith; is = refl };
  spare = has (seat_view (view_of [] [] []) (place 0 1 1 ∷ []) [] [] no_room);
  last = knows (seat_view (view_of [] [] []) (place 0 1 1 ∷ []) [] [] no_room);
}

pub ready_kept : (v w : Seen) (m : Room) → IsReady v m → Keeps v w → IsReady w m
ready_kept v w m r k = record {
  root_word = k.places (place 0 1 1) r.root_word;
  own = k.own ∙ r.own;
  holds = k.holds ∙ r.holds;
  words = room_same v w m.start m.left k.room r.words;
  spare = free_nodes_kept v w m.spare k.places k.met r.spare;
  last = last_kept v w m.last k r.last;
}

-- and has other words, and other nodes to use again
pub ready_with : (v w : Seen) (m m' : Room) → IsReady v m → HasGrown v w → HasRoom w m'.start m'.left → HasFreeNodes w m'.spare → m'.last ≡ m.last → IsReady w m'
ready_with v w m m' r g words spare same = record {
  root_word = g.places (place 0 1 1) r.root_word;
  own = g.own;
  holds = g.holds;
  words = words;
  spare = spare;
  last = subst (KnowsLast w) (sym same) (last_known v w m.last g.places g.met r.last);
}

pub ready_grown : (v w : Seen) (m m' : Room) → IsReady v m → HasGrown v w → HasRoom w m'.start m'.left → m'.spare ≡ m.spare → m'.last ≡ m.last → IsReady w m'
ready_grown v w m m' r g words same same_last = ready_with v w m m' r g words (subst (HasFreeNodes w) (sym same) (free_nodes_grown v w m.spare g r.spare)) same_last

-- and another node may be used again
pub ready_spare : (v : Seen) (m : Room) (s : FreeNodes) → IsReady v m → HasFreeNodes v s → IsReady v (record m { spare = s })
ready_spare v m s r spare = record { root_word = r.root_word; own = r.own; holds = r.holds; words = r.words; spare = spare; last = r.last }

-- and the path of a key is still to be tidied
pub ready_cleanup_due : (v : Seen) (m : Room) (key : Option ℕ) → IsReady v m → IsReady v (record m { cleanup_due = key })
ready_cleanup_due v m key r = record { root_word = r.root_word; own = r.own; holds = r.holds; words = r.words; spare = r.spare; last = r.last }

pub ready_is_last : (v : Seen) (m : Room) (is : Bool) → IsReady v m → IsReady v (record m { is_last = is })
ready_is_last v m is r = record { root_word = r.root_word; own = r.own; holds = r.holds; words = r.words; spare = r.spare; last = r.last }

pub ready_changed : (v : Seen) (m : Room) (is : Bool) (forms : Forms) → IsReady v m → IsReady v (record m { is_changed = is; used = forms })
ready_changed v m is forms r = record { root_word = r.root_word; own = r.own; holds = r.holds; words = r.words; spare = r.spare; last = r.last }

-- and has come to another leaf
pub ready_last : (v : Seen) (m : Room) (l : LastLeaf) → IsReady v m → KnowsLast v l → IsReady v (record m { last = l })
ready_last v m l r known = record { root_word = r.root_word; own = r.own; holds = r.holds; words = r.words; spare = r.spare; last = known }

-- and another node is in use again
pub ready_again : (v w : Seen) (m : Room) (s : FreeNodes) → IsReady v m → HasGrown v w → w.room ≡ v.room → ((u : Seen) → HasFreeNodes u m.spare → HasFreeNodes u s) → IsReady w (record m { spare = s })
ready_again v w m s r g room left = ready_with v w m (record m { spare = s }) r g (room_same v w m.start m.left room r.words) (left w (free_nodes_grown v w m.spare g r.spare)) refl

pub ready_again_met : (v w : Seen) (m : Room) (s : FreeNodes) (n : ℕ) → IsReady v m → HasGrown v w → w.room ≡ v.room → Sights v n → ((u : Seen) → HasFreeNodes u m.spare → Sights u n → HasFreeNodes u s) → IsReady w (record m { spare = s })
ready_again_met v w m s n r g room met left = ready_with v w m (record m { spare = s }) r g (room_same v w m.start m.left room r.words) (left w (free_nodes_grown v w m.spare g r.spare) (sights_kept v w n g.places g.met met)) refl

pub ready_rest : (v w : Seen) (m : Room) → IsReady v m → HasRest v w → IsReady w m
ready_rest v w m r h =
    let places = λ (p : Place) (i : IsIn p v.places). subst (λ (ps : List Place). IsIn p ps) (sym h.alike.places) i in record {
      root_word = places (place 0 1 1) r.root_word;
      own = h.own;
      holds = h.holds;
      words = room_same v w m.start m.left h.alike.room r.words;
      spare = free_nodes_kept v w m.spare places (λ a i. subst (λ (l : List Spot). IsIn a l) (sym h.alike.met) i) r.spare;
      last = last_known v w m.last places (λ a i. subst (λ (l : List Spot). IsIn a l) (sym h.alike.met) i) r.last;
    }

pub some_by : {A : Type 0} (o : Option A) (x : A) → o ≡ Some x → (P : A → Type 0) → IfSome o P → P x
some_by {A} o x e P h = subst (λ (z : Option A). IfSome z P) e h

-- and is given words
pub ready_given : (v w : Seen) (m : Room) (start left count : ℕ) → left ≤ count → IsReady v m → w ≡ given v start count → IsReady w (record m { start = start; left = left })
ready_given v w m start left count few r e =
    let places = λ (p : Place) (i : IsIn p v.places). subst (λ (ps : List Place). IsIn p ps) (sym (ap (λ (z : Seen). z.places) e)) i in record {
      root_word = places (place 0 1 1) r.root_word;
      own = ap (λ (z : Seen). z.client.own) e ∙ r.own;
      holds = ap (λ (z : Seen). z.holds) e ∙ r.holds;
      words = record { count = count; enough = few; is = ap (λ (z : Seen). z.room) e };
      spare = free_nodes_kept v w m.spare places (λ a i. subst (λ (l : List Spot). IsIn a l) (sym (ap (λ (z : Seen). z.client.met) e)) i) r.spare;
      last = last_known v w m.last places (λ a i. subst (λ (l : List Spot). IsIn a l) (sym (ap (λ (z : Seen). z.client.met) e)) i) r.last;
    }

-- and another caller is met
pub ready_met : (v w : Seen) (e : View) (m : Room) → IsReady v m → {s : List (Entry ℕ)} → w ≡ met v e → e ≡ view_of s v.client.met v.client.own → IsReady w m
ready_met v w e m r {s} w_is e_is =
    let client = ap (λ (z : Seen). z.client) w_is ∙ e_is in
    let places = λ (p : Place) (i : IsIn p v.places). subst (λ (ps : List Place). IsIn p ps) (sym (ap (λ (z : Seen). z.places) w_is)) i in record {
      root_word = places (place 0 1 1) r.root_word;
      own = ap (λ (z : View). z.own) client ∙ r.own;
      holds = ap (λ (z : Seen). z.holds) w_is ∙ r.holds;
      words = room_same v w m.start m.left (ap (λ (z : Seen). z.room) w_is) r.words;
      spare = free_nodes_kept v w m.spare places (λ a i. subst (λ (l : List Spot). IsIn a l) (sym (ap (λ (z : View). z.met) client)) i) r.spare;
      last = last_known v w m.last places (λ a i. subst (λ (l : List Spot). IsIn a l) (sym (ap (λ (z : View). z.met) client)) i) r.last;
    }

-- a call that has its answer
pub made_call : (k : Known) (b : Book) (c : ℕ) (s : List (Entry ℕ)) (w : Seen) (f : ℕ → Entry ℕ) → ((x : ℕ) → (f x).caller ≡ x) → b ≡ k.book → c ≡ k.caller → s ≡ k.seen → Answers c (f c) s w.client.seen → MadeCall k (f k.caller) (known_of b c w)
made_call k b c s w f by book caller seen answers =
    let a : Answers k.caller (f k.caller) k.seen w.client.seen = subst (λ (z : ℕ × List (Entry ℕ)). Answers z.0 (f z.0) z.1 w.client.seen) (λ i. (caller i, seen i)) answers in
    let e : Entry ℕ = f k.caller in record {
      between = a.fits.begins.0;
      book = book;
      caller = caller;
      legal = subst (IsLegalHistory nat_eq) (sym a.is) a.legal;
      seen = a.is ∙ ap (λ (h : List (Entry ℕ)). h ++ e ∷ []) a.fits.begins.1;
      own = ap (λ (z : ℕ). entries_of z w.client.seen) caller ∙ (ap (entries_of k.caller) a.is ∙ (entries-append k.caller a.whole (e ∷ []) ∙ (λ i. a.fits.own i ++ (ap (λ (z : ℕ). entries_of z (e ∷ [])) (sym (by k.caller)) ∙ its_own e) i)));
    }

off_on : false ≡ true → ⊥
off_on e = cc

-- a call that was refused
pub inserts_not : (q : Ask) (o : Result (Option ℕ) Refusal) (v w : Seen) → IsErr o → w.client.seen ≡ v.client.seen → Inserts q o v w
inserts_not q (Ok found) v w is same = absurd (off_on is)
inserts_not q (Err why) v w is same = same

-- a call that goes on where its seat has seen no more
pub inserts_from : (c d key value : ℕ) (o : Result (Option ℕ) Refusal) (u v w : Seen) → d ≡ c → v.client.seen ≡ u.client.seen → Inserts (ask d key value 1) o v w → Inserts (ask c key value 1) o u w
inserts_from c d key value (Err why) u v w by same i = i ∙ same
inserts_from c d key value (Ok found) u v w by same i = subst (λ (z : ℕ × List (Entry ℕ)). Answers z.0 (inserted (ask z.0 key value 1) found) z.1 w.client.seen) (λ t. (by t, same t)) i
