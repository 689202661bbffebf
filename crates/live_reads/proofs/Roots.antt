-- The root word is read, and the root met.
use Rattle.std.proofs.Common.{◌≡◌, ◌≢◌, ℕ, ◌<◌, ◌^◌, [], ◌∷◌, ◌++◌, List, Option, Some, None, refl, sym, ap, ◌∙◌, subst, inl, inr}
use Rattle.word_book.specs.Book.{reads, none_joined}
use Rattle.live_nodes.specs.Seats.{Place, place, read, SeatView, IsIn}
use Rattle.live_nodes.specs.Plays as Plays
use Rattle.live_nodes.specs.Plays.{Checks}
use Rattle.live_nodes.specs.Calls.{MayCheck}
use Rattle.live_nodes.specs.Levels.{up, Spot, place_at}
use Rattle.live_nodes.specs.Views.{View}
use Rattle.live_nodes.specs.Tree.{IsMap}
use Rattle.live_nodes.specs.Roots.{History, IsRoot, LearnsRoot, MayLearnRoot}
use Rattle.live_nodes.proofs.Plans.{root-top}
use Rattle.live_reads.specs.Paths.{KnowsRootWord, Names, Keeps}
use Rattle.live_reads.specs.Roots.{SeesRoot}
use Rattle.live_reads.proofs.Views.{head_read, reading, reading_keeps, learned_keeps}

abbrev Seen : Type 0
Seen = SeatView View

-- THE ROOT WORD was taken, and then the name of the root was read
module _ (sees : History → History → Type 0) {v v₂ : Seen} {n x : ℕ} (known : KnowsRootWord v) (was_read : v₂ ≡ reading v 0 n ((0, x) ∷ [])) (k₃ : ℕ) (at₃ : 1 ≡ k₃) where
  pub may_check_root : (id : ℕ) → MayLearnRoot sees id v.client → MayCheck v₂ k₃ IsMap id (LearnsRoot sees) n
  may_check_root id may = subst (λ (z : Seen). MayCheck z k₃ IsMap id (LearnsRoot sees) n) (sym was_read)
      (place 0 1 1, read 0 n ((0, x) ∷ []), (known, at₃), head_read 0 n ((0, x) ∷ []) v.reads, refl, may n x (read 0 n ((0, x) ∷ []) ∷ v.reads))

  module _ (w : Seen) (m : ℕ) (told : Checks (LearnsRoot sees) (reads k₃) v₂ m none_joined w) where
    checked : Plays.Checked (LearnsRoot sees v.client 0 n ((0, x) ∷ [])) n (reading v 0 n ((0, x) ∷ [])) m w
    checked = subst (λ (z : Seen). Checks (LearnsRoot sees) (reads k₃) z m none_joined w) was_read told (place 0 1 1) (read 0 n ((0, x) ∷ [])) known at₃ (head_read 0 n ((0, x) ∷ []) v.reads)

    pub root_missed : m ≢ n → Keeps v w × (w.client ≡ v.client)
    root_missed ne = reading_keeps v w 0 n ((0, x) ∷ []) (checked.miss ne)

    pub root_none : m ≡ n → x ≡ 0 → Keeps v w × (w.client ≡ v.client)
    root_none hit zero_is =
        let h = checked.hit hit in
        let e = (h.3 x refl).1 zero_is in
        (learned_keeps v w h.0 h.1 (read 0 n ((0, x) ∷ []) ∷ v.reads) h.2 (λ b in_it. subst (λ (z : View). IsIn b z.met) (sym e.1) in_it) (ap (λ (z : View). z.own) e.1), ap (λ (z : Seen). z.client) h.2 ∙ e.1)

    pub root_names : m ≡ n → 0 < x → (key : ℕ) → key < 2 ^ 64 → Keeps v w × sees v.client.seen w.client.seen × Names w x key 8
    root_names hit some_root key l =
        let h = checked.hit hit in
        let r : IsRoot sees v.client x h.0 h.1 = (h.3 x refl).0 some_root in
        let a : Spot = r.spot in (
          learned_keeps v w h.0 h.1 (read 0 n ((0, x) ∷ []) ∷ v.reads) h.2 (λ b in_it. subst (λ (z : View). IsIn b z.met) (sym r.is) (inr in_it)) (ap (λ (z : View). z.own) r.is),
          subst (λ (z : Seen). sees v.client.seen z.client.seen) (sym h.2) r.seen,
          record {
            spot = a;
            met = subst (λ (z : Seen). IsIn a z.client.met) (sym h.2) (subst (λ (z : View). IsIn a z.met) (sym r.is) (inl refl));
            placed = subst (λ (z : Seen). IsIn (place_at a) z.places) (sym h.2) (subst (λ (ps : List Place). IsIn (place_at a) (ps ++ v.places)) (sym r.place) (inl refl));
            named = r.named;
            high = r.height;
            covers = ap (λ (z : ℕ). up z key) r.height ∙ (root-top key l ∙ sym r.top);
          },
        )

pub same_seen : (v w : Seen) (o : Option ℕ) → SeesRoot (λ old new. new ≡ old) v w o → w.client.seen ≡ v.client.seen
same_seen v w None e = e
same_seen v w (Some name) e = e
