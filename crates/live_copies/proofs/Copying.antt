-- All nodes were locked, their pairs copied, and all unlocked again.
use Rattle.std.proofs.Common.{◌≡◌, ℕ, List, [], ◌++◌, nat_eq, Result, Err, IfOk, sym, ap, ◌∙◌, subst}
use Rattle.spec_map.specs.Map.{Pairs}
use Rattle.share_rule.specs.History.{entries_of, IsHistory}
use Rattle.live_nodes.specs.Seats.{Place, SeatView, IsIn}
use Rattle.live_nodes.specs.Levels.{up, Spot}
use Rattle.live_nodes.specs.Views.{View}
use Rattle.live_reads.specs.Paths.{Keeps}
use Rattle.live_growth.specs.Holds.{Alike}
use Rattle.live_scans.specs.inner.Moments.{SeesMore}
use Rattle.live_copies.specs.inner.Whole.{HasWhole}
use Rattle.live_copies.specs.inner.Locks.{Knows, Takes}
use Rattle.live_copies.proofs.Told.{whole_is}

abbrev Seen : Type 0
Seen = SeatView View

pub err_out : {A E : Type 0} (P : A → Type 0) (r : Result A E) (e : E) → r ≡ Err e → IfOk r P
err_out P r e is = subst (λ z. IfOk z P) (sym is) tt

pub keeps_knows : (v w : Seen) → Keeps v w → Knows v w
keeps_knows v w k = record { places = k.places; met = k.met; room = k.room }

-- ALL PAIRS: they are those that were copied
pub all_taken : (caller : ℕ) (v w : Seen) (name : ℕ) (old new : Pairs ℕ) → HasWhole caller v.client w.client → Takes v name 0 8 old new → old ≡ [] → IsHistory nat_eq w.client.seen new
all_taken caller v w name old new x t none =
    let its = t.2 in
    let top : its.its.shape.top ≡ 0 = sym its.covers ∙ ap (λ (z : ℕ). up z 0) its.high in
    subst (IsHistory nat_eq w.client.seen) (sym (t.1 ∙ ap (λ (ps : Pairs ℕ). ps ++ t.0) none)) (whole_is caller v.client w.client x its.its t.0 its.has its.high top)

-- UNLOCKED
pub unlocked_keeps : (u v w : Seen) → Knows u v → Alike v w → w.client.own ≡ [] → w.holds ≡ [] → u.client.own ≡ [] → u.holds ≡ [] → Keeps u w
unlocked_keeps u v w k a own holds own_before holds_before = record {
  places = λ p h. subst (λ (ps : List Place). IsIn p ps) (sym a.places) (k.places p h);
  met = λ s h. subst (λ (l : List Spot). IsIn s l) (sym a.met) (k.met s h);
  own = own ∙ sym own_before;
  holds = holds ∙ sym holds_before;
  room = a.room ∙ k.room;
}

-- THE WHOLE is seen
pub whole_more : (caller id : ℕ) (v w : View) → caller ≡ id → HasWhole caller v w → SeesMore w.seen id v.seen
whole_more caller id v w is x = record {
  begins = x.fits.begins;
  own = subst (λ (z : ℕ). entries_of z w.seen ≡ entries_of z v.seen) is x.fits.own;
  legal = λ _. (x.pairs, x.legal);
}
