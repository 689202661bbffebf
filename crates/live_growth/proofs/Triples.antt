-- Three nodes are held: one that is used again, the full one whose place it takes, and the node above.
use Rattle.std.proofs.Common.{◌≡◌, ◌≢◌, ℕ, ◌+◌, Bool, cond, nat_eq, List, [], ◌∷◌, ◌++◌, length, Some, refl, sym, ap, ◌∙◌, subst, inr, eq-eqb, ne_eqb}
use Rattle.word_book.specs.Book.{Book, Name, writes, none_joined}
use Rattle.live_nodes.specs.Nodes.{Content}
use Rattle.live_nodes.specs.Seats.{Place, Hold, hold, SeatView, seat_view, IsIn, Each, with_draft, without}
use Rattle.live_nodes.specs.Acts as acts
use Rattle.live_nodes.specs.Plays as plays
use Rattle.live_nodes.specs.Plays.{hold_of}
use Rattle.live_nodes.specs.Calls.{MayFree}
use Rattle.live_nodes.specs.Rows.{AreOf, nth, draft_of, undrafted, MayHold, without_draft}
use Rattle.live_layout.specs.Encodes.{words_of}
use Rattle.live_nodes.specs.Levels.{Spot, place_at}
use Rattle.live_nodes.specs.Views.{View, view_of, Own, locked, detached, rest_of, Ask}
use Rattle.live_nodes.specs.Tree.{IsMap, IsApart, again, leads_again, left_again}
use Rattle.live_reads.specs.Paths.{AreNamed}
use Rattle.live_growth.specs.Holds.{HasReclaimed, IsBeside}
use Rattle.live_growth.specs.Rooms.{HasGrown}
use Rattle.live_growth.proofs.Locks.{hold_head}
use Rattle.live_growth.proofs.Pairs.{Pair}
use Rattle.live_growth.proofs.Again.{hold_number, hold_word, rest_holds, first_hold, no_holds, first_drafted, undrafted_head}

abbrev Seen : Type 0
Seen = SeatView View

pub record Triple (v : Seen) (b : Book) (words_r words_x words_p : List Name) (free_r free_x free_p : ℕ) (r x p : Spot) (dr dx dp : Content) : Type 0 where
  pub holds : v.holds ≡ hold r.number (free_r + 2) dr ∷ hold x.number (free_x + 2) dx ∷ hold p.number (free_p + 2) dp ∷ []
  pub x_r : x.number ≢ r.number
  pub p_r : p.number ≢ r.number
  pub p_x : p.number ≢ x.number
  pub placed_r : IsIn (place_at r) v.places
  pub placed_x : IsIn (place_at x) v.places
  pub placed_p : IsIn (place_at p) v.places
  pub are_r : AreOf (place_at r) b words_r
  pub are_x : AreOf (place_at x) b words_x
  pub are_p : AreOf (place_at p) b words_p

no_rest : (a : Hold) (hs : List Hold) → [] ≡ a ∷ hs → ⊥
no_rest a hs e = no_holds a hs e

none_drafted : (k : ℕ) (hs : List Hold) → with_draft k [] hs ≡ [] → hs ≡ []
none_drafted k [] e = refl
none_drafted k (h ∷ hs) e = absurd (no_holds (cond (nat_eq k h.number) (hold k h.word []) h) (with_draft k [] hs) (sym e))

three_drafted : (xs : List Hold) (a b : Hold) (k m : ℕ) → a.number ≢ k → b.number ≢ k → undrafted (nth 2 xs) xs ≡ a ∷ b ∷ hold k m [] ∷ [] → xs ≡ a ∷ b ∷ hold k m (draft_of (nth 2 xs)) ∷ []
three_drafted [] a b k m na nb e = absurd (no_rest a (b ∷ hold k m [] ∷ []) e)
three_drafted (x ∷ []) a b k m na nb e = absurd (no_rest b (hold k m [] ∷ []) (ap rest_holds e))
three_drafted (x ∷ y ∷ []) a b k m na nb e = absurd (no_rest (hold k m []) [] (ap (λ (z : List Hold). rest_holds (rest_holds z)) e))
three_drafted (x ∷ y ∷ z ∷ zs) a b k m na nb e =
    let third : hold z.number z.word [] ∷ with_draft z.number [] zs ≡ hold k m [] ∷ [] =
    sym (ap (λ (t : Bool). cond t (hold z.number z.word []) z ∷ with_draft z.number [] zs) (eq-eqb z.number z.number refl)) ∙ ap (λ (h : List Hold). rest_holds (rest_holds h)) e in
    let z_is : z.number ≡ k = ap hold_number third in
    let x_is = undrafted_head z.number x a (λ s. na (s ∙ z_is)) (ap first_hold e) in
    let y_is = undrafted_head z.number y b (λ s. nb (s ∙ z_is)) (ap (λ (h : List Hold). first_hold (rest_holds h)) e) in
    let none : zs ≡ [] = none_drafted z.number zs (ap rest_holds third) in
    (λ i. x_is i ∷ y_is i ∷ hold (z_is i) (ap hold_word third i) z.draft ∷ none i)

pub triple_reclaimed : (v w : Seen) (b b' : Book) (words_r words_x words_p : List Name) (free_r free_x free_p name : ℕ) (h : HasReclaimed v w name free_r) (x p : Spot) (cx cp dx dp : Content) → b' ≡ b → Pair v b words_x words_p free_x free_p x (place_at p) dx dp → v.client.own ≡ locked x cx ∷ locked p cp ∷ [] → AreNamed b' name words_r
    → Triple w b' words_r words_x words_p free_r free_x free_p h.spot x p h.content dx dp
triple_reclaimed v w b b' words_r words_x words_p free_r free_x free_p name h x p cx cp dx dp same pair own are =
    let apart = subst (Each (IsApart h.spot.number)) own h.apart in record {
      holds = h.holds ∙ ap (λ (hs : List Hold). hold h.spot.number (free_r + 2) h.content ∷ hs) pair.holds;
      x_r = apart.0;
      p_r = apart.1.0;
      p_x = pair.apart;
      placed_r = h.placed;
      placed_x = subst (λ (ps : List Place). IsIn (place_at x) ps) (sym h.alike.places) pair.placed_x;
      placed_p = subst (λ (ps : List Place). IsIn (place_at p) ps) (sym h.alike.places) pair.placed_p;
      are_r = are h.spot h.named;
      are_x = subst (λ (z : Book). AreOf (place_at x) z words_x) (sym same) pair.are_x;
      are_p = subst (λ (z : Book). AreOf (place_at p) z words_p) (sym same) pair.are_p;
    }

module _ {v : Seen} {b : Book} {words_r words_x words_p : List Name} {free_r free_x free_p : ℕ} {r x p : Spot} {dr dx dp : Content} (h : Triple v b words_r words_x words_p free_r free_x free_p r x p dr dx dp) where
  abbrev hold_r : Hold
  hold_r = hold r.number (free_r + 2) dr

  abbrev hold_x : Hold
  hold_x = hold x.number (free_x + 2) dx

  abbrev hold_p : Hold
  hold_p = hold p.number (free_p + 2) dp

  found_x : hold_of x.number v.holds ≡ Some hold_x
  found_x = ap (hold_of x.number) h.holds ∙ (ap (λ (t : Bool). cond t (Some hold_r) (hold_of x.number (hold_x ∷ hold_p ∷ []))) (ne_eqb x.number r.number h.x_r) ∙ hold_head x.number (free_x + 2) dx (hold_p ∷ []))

  found_p : hold_of p.number v.holds ≡ Some hold_p
  found_p = ap (hold_of p.number) h.holds ∙ (ap (λ (t : Bool). cond t (Some hold_r) (hold_of p.number (hold_x ∷ hold_p ∷ []))) (ne_eqb p.number r.number h.p_r)
      ∙ (ap (λ (t : Bool). cond t (Some hold_x) (hold_of p.number (hold_p ∷ []))) (ne_eqb p.number x.number h.p_x) ∙ hold_head p.number (free_p + 2) dp []))

  pub triple_first : length dr ≡ words_of r.shape.form → MayHold 0 words_r b v
  triple_first long = (place_at r, hold_r, h.placed_r, h.are_r, ap (nth 0) h.holds, ap (hold_of r.number) h.holds ∙ hold_head r.number (free_r + 2) dr (hold_x ∷ hold_p ∷ []), long)

  pub triple_second : length dx ≡ words_of x.shape.form → MayHold 1 words_x b v × IsBeside v.holds
  triple_second long = ((place_at x, hold_x, h.placed_x, h.are_x, ap (nth 1) h.holds, found_x, long), subst (λ (hs : List Hold). IsBeside hs) (sym h.holds) h.x_r)

  pub triple_third : length dp ≡ words_of p.shape.form → MayHold 2 words_p b v
  triple_third long = (place_at p, hold_p, h.placed_p, h.are_p, ap (nth 2) h.holds, found_p, long)

  pub triple_drafts : (draft_of (nth 0 v.holds) ≡ dr) × (draft_of (nth 1 v.holds) ≡ dx) × (draft_of (nth 2 v.holds) ≡ dp)
  triple_drafts = (ap (λ (hs : List Hold). draft_of (nth 0 hs)) h.holds, ap (λ (hs : List Hold). draft_of (nth 1 hs)) h.holds, ap (λ (hs : List Hold). draft_of (nth 2 hs)) h.holds)

  module _ (w : Seen) (b' : Book) (same : b' ≡ b) where
    triple_kept : (dr' dp' : Content) → w.places ≡ v.places → w.holds ≡ hold r.number (free_r + 2) dr' ∷ hold_x ∷ hold p.number (free_p + 2) dp' ∷ [] → Triple w b' words_r words_x words_p free_r free_x free_p r x p dr' dx dp'
    triple_kept dr' dp' places holds = record {
      holds = holds;
      x_r = h.x_r;
      p_r = h.p_r;
      p_x = h.p_x;
      placed_r = subst (λ (ps : List Place). IsIn (place_at r) ps) (sym places) h.placed_r;
      placed_x = subst (λ (ps : List Place). IsIn (place_at x) ps) (sym places) h.placed_x;
      placed_p = subst (λ (ps : List Place). IsIn (place_at p) ps) (sym places) h.placed_p;
      are_r = subst (λ (z : Book). AreOf (place_at r) z words_r) (sym same) h.are_r;
      are_x = subst (λ (z : Book). AreOf (place_at x) z words_x) (sym same) h.are_x;
      are_p = subst (λ (z : Book). AreOf (place_at p) z words_p) (sym same) h.are_p;
    }

    pub triple_filled : without_draft 0 w ≡ without_draft 0 v → Triple w b' words_r words_x words_p free_r free_x free_p r x p (draft_of (nth 0 w.holds)) dx dp
    triple_filled e =
        let before : undrafted (nth 0 v.holds) v.holds ≡ hold r.number (free_r + 2) [] ∷ hold_x ∷ hold_p ∷ [] =
        ap (λ (hs : List Hold). undrafted (nth 0 hs) hs) h.holds
        ∙ (λ i. ap (λ (t : Bool). cond t (hold r.number (free_r + 2) []) hold_r) (eq-eqb r.number r.number refl) i
        ∷ ap (λ (t : Bool). cond t (hold r.number (free_x + 2) []) hold_x) (ne_eqb r.number x.number (λ s. h.x_r (sym s))) i
        ∷ ap (λ (t : Bool). cond t (hold r.number (free_p + 2) []) hold_p) (ne_eqb r.number p.number (λ s. h.p_r (sym s))) i ∷ []) in
        triple_kept (draft_of (nth 0 w.holds)) dp (ap (λ (z : Seen). z.places) e) (first_drafted w.holds r.number (free_r + 2) (hold_x ∷ hold_p ∷ []) (h.x_r, (h.p_r, tt)) (ap (λ (z : Seen). z.holds) e ∙ before))

    pub triple_wrote : without_draft 2 w ≡ without_draft 2 v → Triple w b' words_r words_x words_p free_r free_x free_p r x p dr dx (draft_of (nth 2 w.holds))
    triple_wrote e =
        let before : undrafted (nth 2 v.holds) v.holds ≡ hold_r ∷ hold_x ∷ hold p.number (free_p + 2) [] ∷ [] =
        ap (λ (hs : List Hold). undrafted (nth 2 hs) hs) h.holds
        ∙ (λ i. ap (λ (t : Bool). cond t (hold p.number (free_r + 2) []) hold_r) (ne_eqb p.number r.number h.p_r) i
        ∷ ap (λ (t : Bool). cond t (hold p.number (free_x + 2) []) hold_x) (ne_eqb p.number x.number h.p_x) i
        ∷ ap (λ (t : Bool). cond t (hold p.number (free_p + 2) []) hold_p) (eq-eqb p.number p.number refl) i ∷ []) in
        triple_kept dr (draft_of (nth 2 w.holds)) (ap (λ (z : Seen). z.places) e) (three_drafted w.holds hold_r hold_x p.number (free_p + 2) (λ s. h.p_r (sym s)) (λ s. h.p_x (sym s)) (ap (λ (z : Seen). z.holds) e ∙ before))

  module _ (k : ℕ) (at_k : p.shape.key ≡ k) (told : View → ℕ → Content → View → Type 0) where
    pub triple_frees : (id n : ℕ) → acts.Frees IsMap id v.client p.number n dp (told v.client p.number dp) → MayFree v k IsMap id told (free_p + 2) n
    triple_frees id n frees = (place_at p, hold_p, (h.placed_p, at_k), found_p, refl, frees)

    pub triple_freed : (w : Seen) (n : ℕ) → plays.Frees told (writes k n) v n none_joined w → (e : View) × (w ≡ seat_view e v.places v.reads (hold_r ∷ hold_x ∷ []) v.room) × told v.client p.number dp e
    triple_freed w n t =
        let s = t (place_at p) hold_p h.placed_p at_k found_p in
        let left : without p.number v.holds ≡ hold_r ∷ hold_x ∷ [] = ap (without p.number) h.holds
        ∙ (ap (λ (z : Bool). cond z (without p.number (hold_x ∷ hold_p ∷ [])) (hold_r ∷ without p.number (hold_x ∷ hold_p ∷ []))) (ne_eqb p.number r.number h.p_r)
        ∙ (ap (λ (z : Bool). hold_r ∷ cond z (without p.number (hold_p ∷ [])) (hold_x ∷ without p.number (hold_p ∷ []))) (ne_eqb p.number x.number h.p_x)
        ∙ ap (λ (z : Bool). hold_r ∷ hold_x ∷ cond z [] (hold_p ∷ [])) (eq-eqb p.number p.number refl))) in
        (s.0, s.1 ∙ ap (λ (hs : List Hold). seat_view s.0 v.places v.reads hs v.room) left, s.2)

-- what a seat knows once a node has grown into one that is used again
pub regrown : (v n z y t : Seen) (e e2 e3 : View) (q : Ask) (cy : Content) (r x p : Spot) (cx cp : Content) (hs gs : List Hold) → n.places ≡ v.places → n.client.met ≡ v.client.met → n.client.seen ≡ v.client.seen → n.client.own ≡ detached r ∷ locked x cx ∷ locked p cp ∷ []
    → z ≡ seat_view e n.places n.reads hs n.room → e ≡ view_of n.client.seen (leads_again q n.client.own ++ n.client.met) (left_again q cy n.client.own)
    → y ≡ seat_view e2 z.places z.reads gs z.room → e2 ≡ view_of z.client.seen z.client.met (rest_of z.client.own)
    → t ≡ seat_view e3 y.places y.reads [] y.room → e3 ≡ view_of y.client.seen y.client.met (rest_of y.client.own) → HasGrown v t
regrown v n z y t e e2 e3 q cy r x p cx cp hs gs places met seen own z_is e_is y_is e2_is t_is e3_is =
    let z_client = ap (λ (k : Seen). k.client) z_is ∙ e_is in
    let y_client = ap (λ (k : Seen). k.client) y_is ∙ e2_is in
    let t_client = ap (λ (k : Seen). k.client) t_is ∙ e3_is in
    let t_places : t.places ≡ v.places = ap (λ (k : Seen). k.places) t_is ∙ (ap (λ (k : Seen). k.places) y_is ∙ (ap (λ (k : Seen). k.places) z_is ∙ places)) in
    let t_met : t.client.met ≡ again q r ∷ v.client.met = ap (λ (k : View). k.met) t_client ∙ (ap (λ (k : View). k.met) y_client ∙ (ap (λ (k : View). k.met) z_client ∙ (ap (λ (os : List Own). leads_again q os ++ n.client.met) own ∙ ap (λ (l : List Spot). again q r ∷ l) met))) in record {
      own = ap (λ (k : View). k.own) t_client ∙ (ap (λ (k : View). rest_of k.own) y_client ∙ (ap (λ (k : View). rest_of (rest_of k.own)) z_client ∙ ap (λ (os : List Own). rest_of (rest_of (left_again q cy os))) own));
      holds = ap (λ (k : Seen). k.holds) t_is;
      places = λ a i. subst (λ (ps : List Place). IsIn a ps) (sym t_places) i;
      met = λ a i. subst (λ (l : List Spot). IsIn a l) (sym t_met) (inr i);
      seen = ap (λ (k : View). k.seen) t_client ∙ (ap (λ (k : View). k.seen) y_client ∙ (ap (λ (k : View). k.seen) z_client ∙ seen));
    }
