-- Below a node that the seat has locked, among others.
use Rattle.std.proofs.Common.{◌≡◌, ℕ, ◌+◌, ◌*◌, ◌<◌, ◌≤◌, List, [], Some, None, refl, sym, ap, ◌∙◌, subst}
use Rattle.node_base.specs.Form.{form_place}
use Rattle.spec_node.specs.TableNode.{TableNode}
use Rattle.spec_node.specs.declared.child.Child.TheVariants.{Node as Below}
use Rattle.spec_map.specs.Map.{lookup}
use Rattle.live_nodes.proofs.Frames.{each_in}
use Rattle.live_nodes.specs.Nodes.{Content, node}
use Rattle.live_nodes.specs.Seats.{Read, IsIn}
use Rattle.live_nodes.specs.Acts as acts
use Rattle.live_layout.specs.Encodes.{Encodes, IsBelow as HasBelow, IsWord}
use Rattle.live_nodes.specs.Levels.{Shape, name_of, Spot, spot}
use Rattle.live_nodes.specs.Views.{View, locked, Watch, watch, watching}
use Rattle.live_nodes.specs.Tree.{home_of, IsLocked, IsOwn, IsWatched, IsMap, IsNow, LearnsBelow}
use Rattle.live_nodes.proofs.Looks.{with_view, met, is_now, is_current, leads_down}

pub node_below_own : (id : ℕ) (v : View) (b : Spot) (mine : IsIn b v.met) (word : ℕ) (saw : List (ℕ × ℕ)) (m : ℕ) → word ≡ 4 * m → (reads : List Read)
    → (a : Spot) (c : Content) → IsIn (locked a c) v.own → 2 ≤ a.shape.height → (x : ℕ) → x < 256 → (w : ℕ)
    → ((n : TableNode ℕ) → Encodes c n → n.form ≡ a.shape.form → HasBelow (lookup n.children x) (Some w)) → ((s : ℕ) → IsWord w (Below s) → s ≡ name_of b.shape)
    → acts.Learns IsMap id v b.number word saw reads (LearnsBelow a.number None v b.number word saw)
node_below_own id v b mine word saw m even reads a c own tall x lo w had spells ns vs p seat low is free agree fits =
    let mb = met ns vs id v p seat b mine in
    let s : Shape = p.plan.shape b.number in
    let cur_b = is_current ns vs id v p seat b mine (free, (m, is ∙ even)) in
    let k = p.each_view id v seat in
    let l : IsLocked p.plan ns p.contents id a c = each_in (IsOwn p.plan ns p.contents id) v.own (locked a c) own k.own in
    let at_a : home_of p.plan (p.plan.shape a.number) ≡ a.number = ap (home_of p.plan) l.shaped ∙ l.current in
    let cur = p.tree.current a.number l.met.spot.below_root_word at_a in
    let new : Watch = watch a.number None (spot b.number s) in
    let below = had cur.its (subst (λ (z : Content). Encodes z cur.its) l.content cur.encodes) (cur.in_form ∙ l.met.spot.form) in
    let watched : IsWatched p.plan ns id new = record {
      below_root_word = l.met.spot.below_root_word;
      low = l.met.spot.low;
      later = tt;
      leads = λ _. leads_down p.plan ns p.contents p.pairs p.tree p.nodes a.number at_a x lo (lookup cur.its.children x) w below b mb.spot spells (p.plan.shape a.number).height refl (subst (λ (z : Shape). 2 ≤ z.height) (sym l.shaped) tall) (cur.under x lo);
    } in (
      [],
      tt,
      (
        watching v new,
        with_view ns vs id p (watching v new) record { seen = k.seen; met = k.met; own = k.own; watched = (watched, tt) },
        (λ e known_e same.
            let now = is_now ns vs id v p seat e known_e in
            let shape_is : p.plan.shape e.number ≡ s = ap p.plan.shape same in record {
              shape = s;
              is = record {
                now = subst (IsNow e) shape_is now;
                content = (node ns b.number).content;
                its = cur_b.its;
                agrees = agree;
                encodes = cur_b.encodes;
                in_form = cur_b.in_form ∙ (ap (λ (z : Shape). z.form) (sym shape_is) ∙ now.form);
                deep = cur_b.deep;
                prefixed = cur_b.prefixed;
              };
              watches = ap (λ (z : ℕ). watching v (watch a.number None (spot z s))) (sym same);
              one_name = λ f known_f as_e.
                  let of_f = met ns vs id v p seat f known_f in
                  let of_e = met ns vs id v p seat e known_e in
                  λ i. 256 * (sym of_f.spot.key ∙ (ap (λ (z : ℕ). (p.plan.shape z).key) as_e ∙ of_e.spot.key)) i + form_place ((sym of_f.spot.form ∙ (ap (λ (z : ℕ). (p.plan.shape z).form) as_e ∙ of_e.spot.form)) i);
            }),
      ),
    )
