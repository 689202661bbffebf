use Rattle.std.proofs.Common.{rules, ◌↔◌, ℕ, All, Option, None, Some, IsTrue, IfSome}
use Rattle.std.proofs.lemmas.Cmp.{eq_by_cmp_equiv, nat_cmp_total}
use Rattle.std.proofs.lemmas.Map.Keys.{IsDistinct-from_sorted}
use Rattle.std.proofs.lemmas.Map.Views.{All-values_from_lookup, IfSome-lookup_from_All}
use Rattle.std.specs.BTreeMap.{is_at}
use Rattle.std.specs.Map.{keys_of, values_of}
use Rattle.std.specs.Ordering.{eq_by_cmp, nat_cmp}
use Rattle.olc_words.specs.Epoch.{StartedAfter, entry_at, pin_in}
use Rattle.olc_words.specs.declared.epoch.Seat.{Seat}
use Rattle.olc_words.proofs.epoch.Pins.all_started_after.Goals as goal

-- the call of a seat that is found, and of one that isn't
of_seat : (stamp : ℕ) (x : Option Seat) → IfSome x (λ seat. StartedAfter stamp seat.pin) ↔ StartedAfter stamp (pin_in x)
of_seat stamp None = ((λ h. tt), (λ h. tt))
of_seat stamp (Some seat) = ((λ h. h), (λ h. h))

pub returns : goal.returns
returns c =
    let stamp = c.args.stamp in
    let seats = c.args.self.now.seats in
    let values : IsTrue c.all.result ↔ All (λ seat. StartedAfter stamp seat.pin) (values_of seats) = search rules in
    let sorted = IsDistinct-from_sorted nat_cmp (keys_of seats) (search rules) in (
      (λ t id. (of_seat stamp (entry_at seats id)).0 (IfSome-lookup_from_All (λ (seat : Seat). StartedAfter stamp seat.pin) (is_at (nat_cmp id)) seats (values.0 t))),
      (λ h. values.1 (All-values_from_lookup {eq = eq_by_cmp nat_cmp} (eq_by_cmp_equiv nat_cmp_total) (λ (seat : Seat). StartedAfter stamp seat.pin) seats sorted
          (λ id. (of_seat stamp (entry_at seats id)).1 (h id)))),
    )
