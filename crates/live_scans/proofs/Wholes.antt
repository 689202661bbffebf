-- At the check of a node a seat learns what the map has at all keys that begin like it.
use Rattle.std.proofs.Common.{◌≡◌, ◌≢◌, ℕ, zero, suc, ◌*◌, ◌<◌, ◌≤◌, List, [], ◌∷◌, length, Option, Some, None, refl, sym, ap, ◌∙◌, subst, arith}
use Rattle.spec_node.specs.TableNode.{Child}
use Rattle.spec_node.specs.declared.child.Child.TheVariants.{Payload, Node as Below}
use Rattle.spec_map.specs.Map.{lookup}
use Rattle.share_rule.specs.History.{entries_of}
use Rattle.word_book.specs.Book.{Book, Name, reads, none_joined}
use Rattle.live_nodes.specs.Nodes.{Content, Node, node}
use Rattle.live_nodes.specs.Seats.{Read, read, SeatView, IsIn, Agree}
use Rattle.live_nodes.specs.Acts as acts
use Rattle.live_nodes.specs.Plays as Plays
use Rattle.live_nodes.specs.Plays.{Checks}
use Rattle.live_nodes.specs.Calls.{MayCheck}
use Rattle.live_nodes.specs.Rows.{last_saw, unread, without_reads}
use Rattle.live_nodes.specs.Levels.{up, digit, Covers, bytes_above, Shape, Spot, place_at}
use Rattle.live_nodes.specs.Views.{Watch, View, view_of, ask}
use Rattle.live_nodes.specs.Tree.{IsMap, IsNow, IsUnder, LeadsDown}
use Rattle.live_nodes.proofs.Histories.{sees_all}
use Rattle.live_nodes.proofs.Looks.{with_view, met, is_now, is_current, same_watched, of_kind, at_leaf, at_inner}
use Rattle.live_nodes.proofs.Plans.{digit-low, none_there, missed, same_name}
use Rattle.live_reads.specs.Paths.{IsOpen, Keeps}
use Rattle.live_reads.specs.Mismatches.{IsMismatched}
use Rattle.live_reads.proofs.Views.{learned_keeps, may_check_open, open_checked, open_missed}
use Rattle.live_scans.specs.inner.Moments.{HasUnder, IsRead, LearnsAll}
use Rattle.live_scans.specs.inner.Nexts.{IsLeafOpen, IsReadOn}

abbrev Seen : Type 0
Seen = SeatView View

module _ (ns : List Node) (vs : List View) (v : View) (p : IsMap ns vs) (number word : ℕ) (down : (b : Watch) → IsIn b v.watched → b.above ≡ number → b.word ≡ Some word → LeadsDown p.plan number b.spot) where
  -- what is under a digit is what the map has
  has_under : (k height top : ℕ) (o : Option (Child ℕ)) → height < 9 → up height k ≡ top → IsUnder p.plan p.pairs height top (digit height k) o → HasUnder v number word p.pairs k o
  has_under k zero top o l is u = absurd u
  has_under k (suc zero) top None l is u = at_leaf p.plan ns p.contents p.pairs p.tree k top None is u
  has_under k (suc zero) top (Some (Payload x)) l is u = at_leaf p.plan ns p.contents p.pairs p.tree k top (Some (Payload x)) is u
  has_under k (suc zero) top (Some (Below s)) l is u = absurd u
  has_under k (suc (suc h)) top None l is u = none_there p.plan ns p.contents p.pairs p.tree h k (omega (arith, l)) (at_inner p.plan ns p.contents p.pairs p.tree k h top None is u)
  has_under k (suc (suc h)) top (Some (Payload x)) l is u = absurd u
  has_under k (suc (suc h)) top (Some (Below s)) l is u = λ b known above free_by named never.
      let leads = at_inner p.plan ns p.contents p.pairs p.tree k h top (Some (Below s)) is u in
      let j : ℕ = p.plan.home (suc h) (up (suc h) k) in
      let house = p.tree.housed (suc h) (up (suc h) k) leads.0 in
      let d = down b known above free_by in
      let low_b : b.spot.number < length ns = subst (λ (z : ℕ). z < length ns) d.here (p.tree.housed d.level (bytes_above b.spot.shape d.level) (subst (λ (z : ℕ). 1 ≤ z) (sym d.here) d.some_node)).low in
      let number_is : b.spot.number ≡ j = same_name p.plan ns p.nodes b.spot record { below_root_word = d.some_node; low = low_b; key = ap (λ (z : Shape). z.key) d.shaped; form = ap (λ (z : Shape). z.form) d.shaped } j leads.0 house.low (sym named ∙ leads.1) in
      missed p.plan ns p.contents p.pairs p.tree h k j (omega (arith, l)) leads.0 refl (λ covers. never (subst (λ (z : Shape). Covers z k) (sym (ap p.plan.shape number_is) ∙ d.shaped) covers))

pub node_whole : (caller id : ℕ) → caller ≡ id → (v : View) (a : Spot) → IsIn a v.met → (word : ℕ) (saw : List (ℕ × ℕ)) (m : ℕ) → word ≡ 4 * m → (others : List Read) → acts.Learns IsMap id v a.number word saw others (LearnsAll caller v a.number word saw)
node_whole caller id by v a mine word saw m even others ns vs p seat low is free agree fits =
    let there = met ns vs id v p seat a mine in
    let s : Shape = p.plan.shape a.number in
    let c = is_current ns vs id v p seat a mine (free, (m, is ∙ even)) in
    let k = p.each_view id v seat in
    let w : View = view_of p.history v.met v.own in
    let deep = c.deep in
    let down = λ (b : Watch) (known : IsIn b v.watched) (above : b.above ≡ a.number) (free_by : b.word ≡ Some word).
    same_watched (ask id 0 0 0) id refl v a mine word saw m even others ns vs p seat b known above free (free_by ∙ ap (λ (z : ℕ). Some z) (sym is)) in (
      [],
      tt,
      (
        w,
        with_view ns vs id p w record { seen = sees_all id p.history; met = k.met; own = k.own; watched = tt },
        λ e known same.
            let now = is_now ns vs id v p seat e known in
            let shape_is : p.plan.shape e.number ≡ s = ap p.plan.shape same in (
              s,
              record {
                node = record {
                  now = subst (IsNow e) shape_is now;
                  content = (node ns a.number).content;
                  its = c.its;
                  agrees = agree;
                  encodes = c.encodes;
                  in_form = c.in_form ∙ (ap (λ (z : Shape). z.form) (sym shape_is) ∙ now.form);
                  deep = c.deep;
                  prefixed = c.prefixed;
                };
                of_kind = λ x l. of_kind p.plan p.pairs s.height s.top x (lookup c.its.children x) (c.under x l);
                is = refl;
                fits = record { begins = k.seen.begins; own = subst (λ (z : ℕ). entries_of z p.history ≡ entries_of z v.seen) (sym by) k.seen.own; legal = λ _. (p.pairs, p.legal) };
                pairs = p.pairs;
                legal = p.legal;
                under = λ key covers. subst (λ (z : ℕ). HasUnder v z word p.pairs key (lookup c.its.children (digit s.height key))) (sym same)
                    (has_under ns vs v p a.number word down key s.height s.top (lookup c.its.children (digit s.height key)) (omega (arith, deep)) covers (c.under (digit s.height key) (digit-low s.height key)));
              },
            ),
      ),
    )

-- A look at a node that is open
module _ (v : Seen) (b : Book) (words : List Name) (t name key height : ℕ) (o : IsOpen v b words t name key height) (v₂ : Seen) (rest : without_reads v₂ ≡ without_reads v) (k : ℕ) (at_k : (place_at o.names.spot).key ≡ k) (caller : ℕ) where
  abbrev a : Spot
  a = o.names.spot

  abbrev saw : List (ℕ × ℕ)
  saw = last_saw v₂.reads

  pub may_whole : (id m : ℕ) → caller ≡ id → t ≡ 4 * m → MayCheck v₂ k IsMap id (LearnsAll caller) t
  may_whole id m by even = may_check_open v b words t a o.names.placed o.opened v₂ rest k at_k (LearnsAll caller) id
      (node_whole caller id by v.client a o.names.met t saw m even (read a.number t saw ∷ o.opened.before))

  module _ (w : Seen) (m : ℕ) (told : Checks (LearnsAll caller) (reads k) v₂ m none_joined w) where
    pub whole_missed : m ≢ t → Keeps v w × (w.client ≡ v.client)
    whole_missed ne = open_missed v b words t a o.names.placed o.opened v₂ rest k at_k (LearnsAll caller) w m told ne

    -- what was read before is so still
    pub whole_hit : m ≡ t → ((c : Content) → Agree c saw → Agree c o.opened.saw) → Keeps v w × IsRead caller v.client a a.shape t saw w.client
    whole_hit hit kept =
        let h = (open_checked v b words t a o.names.placed o.opened v₂ rest k at_k (LearnsAll caller) w m told).hit hit in
        let y = h.3 a o.names.met refl in
        let shape_is : y.0 ≡ a.shape = o.sure y.0 record {
          now = y.1.node.now;
          content = y.1.node.content;
          its = y.1.node.its;
          agrees = kept y.1.node.content y.1.node.agrees;
          encodes = y.1.node.encodes;
          in_form = y.1.node.in_form;
          deep = y.1.node.deep;
          prefixed = y.1.node.prefixed;
        } in
        let x = subst (λ (z : Shape). IsRead caller v.client a z t saw h.1) shape_is y.1 in (
          learned_keeps v w h.0 h.1 (read a.number t saw ∷ o.opened.before) h.2 (λ z in_it. subst (λ (u : View). IsIn z u.met) (sym x.is) in_it) (ap (λ (u : View). u.own) x.is),
          subst (λ (z : Seen). IsRead caller v.client a a.shape t saw z.client) (sym h.2) x,
        )

-- A LEAF that is open is checked.
pub record IsLeafRead (caller : ℕ) (v w : Seen) (a : Spot) (key word : ℕ) (saw : List (ℕ × ℕ)) : Type 0 where
  pub keeps : Keeps v w
  pub on : IsReadOn v.reads w.reads
  pub shape : Shape
  pub high : shape.height ≡ 1
  pub covers : Covers shape key
  pub read : IsRead caller v.client a shape word saw w.client

module _ (v : Seen) (b : Book) (words : List Name) (t name key : ℕ) (l : IsLeafOpen v b words t name key) (v₂ : Seen) (rest : without_reads v₂ ≡ without_reads v) (k : ℕ) (at_k : (place_at l.sighted.spot).key ≡ k) (caller : ℕ) where
  abbrev leaf : Spot
  leaf = l.sighted.spot

  abbrev saw_leaf : List (ℕ × ℕ)
  saw_leaf = last_saw v₂.reads

  pub may_leaf : (id m : ℕ) → caller ≡ id → t ≡ 4 * m → MayCheck v₂ k IsMap id (LearnsAll caller) t
  may_leaf id m by even = may_check_open v b words t leaf l.sighted.placed l.opened v₂ rest k at_k (LearnsAll caller) id
      (node_whole caller id by v.client leaf l.sighted.met t saw_leaf m even (read leaf.number t saw_leaf ∷ l.opened.before))

  module _ (w : Seen) (m : ℕ) (told : Checks (LearnsAll caller) (reads k) v₂ m none_joined w) where
    pub leaf_missed : m ≢ t → Keeps v w × (w.client ≡ v.client)
    leaf_missed ne = open_missed v b words t leaf l.sighted.placed l.opened v₂ rest k at_k (LearnsAll caller) w m told ne

    -- what was read before is so still
    pub leaf_hit : m ≡ t → ((c : Content) → Agree c saw_leaf → Agree c l.opened.saw) → IsLeafRead caller v w leaf key t saw_leaf
    leaf_hit hit kept =
        let h = (open_checked v b words t leaf l.sighted.placed l.opened v₂ rest k at_k (LearnsAll caller) w m told).hit hit in
        let y = h.3 leaf l.sighted.met refl in
        let by = l.leaf y.0 record {
          now = y.1.node.now;
          content = y.1.node.content;
          its = y.1.node.its;
          agrees = kept y.1.node.content y.1.node.agrees;
          encodes = y.1.node.encodes;
          in_form = y.1.node.in_form;
          deep = y.1.node.deep;
          prefixed = y.1.node.prefixed;
        } in
        let w_reads : w.reads ≡ read leaf.number t saw_leaf ∷ l.opened.before = ap (λ (z : Seen). z.reads) h.2 in record {
          keeps = learned_keeps v w h.0 h.1 (read leaf.number t saw_leaf ∷ l.opened.before) h.2 (λ z in_it. subst (λ (u : View). IsIn z u.met) (sym y.1.is) in_it) (ap (λ (u : View). u.own) y.1.is);
          on = (
            ap unread w_reads ∙ sym (ap unread l.opened.reads),
            λ c agrees. subst (Agree c) (sym (ap last_saw l.opened.reads)) (kept c (subst (Agree c) (ap last_saw w_reads) agrees)),
          );
          shape = y.0;
          high = by.0;
          covers = by.1;
          read = subst (λ (z : Seen). IsRead caller v.client leaf y.0 t saw_leaf z.client) (sym h.2) y.1;
        }

-- one that a reader has entered
pub leaf_entered : (v : Seen) (b : Book) (words : List Name) (t name key : ℕ) → IsOpen v b words t name key 1 → IsLeafOpen v b words t name key
leaf_entered v b words t name key o = record {
  sighted = record { spot = o.names.spot; met = o.names.met; placed = o.names.placed; named = o.names.named };
  opened = o.opened;
  even = o.free;
  leaf = λ s is. let e = o.sure s is in (ap (λ (z : Shape). z.height) e ∙ o.names.high, subst (λ (z : Shape). Covers z key) (sym e) o.names.covers);
}

-- The node above one that is watched is checked again.
module _ (v : Seen) (b : Book) (words : List Name) (t name key height : ℕ) (f : IsMismatched v b words t name key height) (k : ℕ) (at_k : (place_at f.names.spot).key ≡ k) (caller : ℕ) where
  abbrev e : Spot
  e = f.names.spot

  pub may_whole_above : (id m : ℕ) → caller ≡ id → t ≡ 4 * m → MayCheck v k IsMap id (LearnsAll caller) t
  may_whole_above id m by even = (place_at e, read e.number t f.saw, (f.names.placed, at_k), f.reads, refl, node_whole caller id by v.client e f.names.met t f.saw m even v.reads)

  module _ (w : Seen) (m : ℕ) (told : Checks (LearnsAll caller) (reads k) v m none_joined w) where
    above_checked : Plays.Checked (LearnsAll caller v.client e.number t f.saw) t v m w
    above_checked = told (place_at e) (read e.number t f.saw) f.names.placed at_k f.reads

    pub above_missed : m ≢ t → Keeps v w × (w.client ≡ v.client)
    above_missed ne = subst (λ (z : Seen). Keeps v z × (z.client ≡ v.client)) (sym (above_checked.miss ne))
        (record { places = λ p h. h; met = λ s h. h; own = refl; holds = refl; room = refl }, refl)

    pub above_hit : m ≡ t → Keeps v w × IsRead caller v.client e e.shape t f.saw w.client
    above_hit hit =
        let h = above_checked.hit hit in
        let y = h.3 e f.names.met refl in
        let x = subst (λ (z : Shape). IsRead caller v.client e z t f.saw h.1) (f.sure y.0 y.1.node) y.1 in (
          learned_keeps v w h.0 h.1 v.reads h.2 (λ z in_it. subst (λ (u : View). IsIn z u.met) (sym x.is) in_it) (ap (λ (u : View). u.own) x.is),
          subst (λ (z : Seen). IsRead caller v.client e e.shape t f.saw z.client) (sym h.2) x,
        )
