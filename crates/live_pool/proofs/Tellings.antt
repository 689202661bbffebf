-- What a seat has met that was informed by another.
use Rattle.std.proofs.Common.{◌≡◌, ℕ, ⊎_elim, List, [], ◌∷◌, ◌++◌, inl, inr, refl, sym, subst, ◌∙◌}
use Rattle.live_nodes.specs.Seats.{place, SeatView, IsIn, Each}
use Rattle.live_nodes.proofs.Frames.{each_map}
use Rattle.live_nodes.specs.Levels.{place_at}
use Rattle.live_nodes.specs.Views.{View}
use Rattle.live_reads.specs.Paths.{Sights, Keeps}
use Rattle.live_reads.proofs.Stood.{last_known}
use Rattle.live_growth.specs.Calls.{IsReady}
use Rattle.live_growth.specs.declared.link.Room.{Room}
use Rattle.live_pool.specs.Successions.{with_room, informed}

abbrev Seen : Type 0
Seen = SeatView View

in_first : {A : Type 0} (x : A) (xs ys : List A) → IsIn x xs → IsIn x (xs ++ ys)
in_first x [] ys h = absurd h
in_first x (y ∷ xs) ys h = ⊎_elim (λ e. inl e) (λ t. inr (in_first x xs ys t)) h

in_last : {A : Type 0} (x : A) (xs ys : List A) → IsIn x ys → IsIn x (xs ++ ys)
in_last x [] ys h = h
in_last x (y ∷ xs) ys h = inr (in_last x xs ys h)

pub keeps_more : (v w u : Seen) → u ≡ informed v w → Keeps v u
keeps_more v w u is = subst (Keeps v) (sym is) record {
  places = λ p h. in_last p w.places v.places h;
  met = λ a h. in_last a w.client.met v.client.met h;
  own = refl;
  holds = refl;
  room = refl;
}

pub sights_own : (v w u : Seen) → u ≡ informed v w → (n : ℕ) → Sights v n → Sights u n
sights_own v w u is n s = subst (λ (z : Seen). Sights z n) (sym is) record {
  spot = s.spot;
  met = in_last s.spot w.client.met v.client.met s.met;
  placed = in_last (place_at s.spot) w.places v.places s.placed;
  named = s.named;
}

pub sights_others : (v w u : Seen) → u ≡ informed v w → (n : ℕ) → Sights w n → Sights u n
sights_others v w u is n s = subst (λ (z : Seen). Sights z n) (sym is) record {
  spot = s.spot;
  met = in_first s.spot w.client.met v.client.met s.met;
  placed = in_first (place_at s.spot) w.places v.places s.placed;
  named = s.named;
}

pub each_own : (v w u : Seen) → u ≡ informed v w → (ns : List ℕ) → Each (Sights v) ns → Each (Sights u) ns
each_own v w u is ns all = each_map (Sights v) (Sights u) ns (sights_own v w u is) all

-- a guard that has taken over what another had
pub ready_after : (v w a b t : Seen) (m n : Room) → IsReady v m → IsReady w n → a ≡ informed v w → b ≡ informed w v → t ≡ with_room b a.room → IsReady t m
ready_after v w a b t m n r s ea eb et =
    let u : Seen = with_room (informed w v) (informed v w).room in
    let sights : (x : ℕ) → Sights v x → Sights u x = λ x k. record {
      spot = k.spot;
      met = in_first k.spot v.client.met w.client.met k.met;
      placed = in_first (place_at k.spot) v.places w.places k.placed;
      named = k.named;
    } in
    subst (λ (z : Seen). IsReady z m) (sym (et ∙ (λ i. with_room (eb i) (ea i).room))) record {
      root_word = in_first (place 0 1 1) v.places w.places r.root_word;
      own = s.own;
      holds = s.holds;
      words = record { count = r.words.count; enough = r.words.enough; is = r.words.is };
      spare = (
        (λ form some. let k = r.spare.0 form some in record {
          sighted = record {
            spot = k.sighted.spot;
            met = in_first k.sighted.spot v.client.met w.client.met k.sighted.met;
            placed = in_first (place_at k.sighted.spot) v.places w.places k.sighted.placed;
            named = k.sighted.named;
          };
          in_form = k.in_form;
        }),
        (λ some. let k = r.spare.1 some in record {
          sighted = record {
            spot = k.sighted.spot;
            met = in_first k.sighted.spot v.client.met w.client.met k.sighted.met;
            placed = in_first (place_at k.sighted.spot) v.places w.places k.sighted.placed;
            named = k.sighted.named;
          };
          in_form = k.in_form;
        }),
        (λ some. sights m.spare.more (r.spare.2 some)),
      );
      last = last_known v u m.last (λ p h. in_first p v.places w.places h) (λ a h. in_first a v.client.met w.client.met h) r.last;
    }
