-- Slots keep the rule: they are claimed and filled, and tickets are issued and retired.
use Rattle.std.proofs.Common.{◌≡◌, ◌≢◌, inl, inr, ℕ, ◌+◌, ◌%◌, ◌<◌, ◌≤◌, Some, None, Option, List, ◌∷◌, set, refl, sym, ap, ◌∙◌, subst, arith, append-nil}
use mathlib.Core.Option.{some}
use mathlib.Core.Logic.{dite}
use native.Mathlib.Decide.{dec_lt, ℕ_discrete}
use lib.ListN.{get_elem?}
use Rattle.atomic_table.proofs.Lists.{set_here, set_else}
use Rattle.word_book.specs.Book.{State, Loads, Stores, Exchanges}
use Rattle.word_hazards.specs.Views.{slot_of, generation_of, ticket, In, Claim, View, HasIssued}
use Rattle.word_hazards.specs.Steps.{state_key, owner_key, slot_at, free_in, claimed_in, present_in, retired_in, generation_in, claiming, filled, filling, issuing, retiring, Claims, Fills, Issues, Retires}
use Rattle.word_hazards.specs.inner.Rule.{IsRetired, IsOwned, IsClaim, AreSlots, IsSeat, AreApart, AreHazards}
use Rattle.word_hazards.proofs.Moves.{within, moved, moves, pair, stays}
use Rattle.word_hazards.proofs.Words.{grown_by, here, elsewhere, owner_stays, number_is, stepped, state_stays, put}

pub slot_of_ticket : (g i : ℕ) → i < 4294967296 → slot_of (ticket g i) ≡ i
slot_of_ticket g i small = omega (arith, small)

pub generation_of_ticket : (g i : ℕ) → i < 4294967296 → generation_of (ticket g i) ≡ g
generation_of_ticket g i small = omega (arith, small)

-- A SLOT is claimed
module _ (id k a : ℕ) (v : View) (key : k ≡ state_key (slot_at k)) (state : a ≡ free_in (generation_in a)) where
  abbrev mine_now : Claim
  mine_now = record { slot = slot_at k; generation = generation_in a; owner = None }

  abbrev v' : View
  v' = claiming v (slot_at k) (generation_in a)

  module _ (s : State View) (n : ℕ) (r : AreHazards s) (at : get_elem? s.views id ≡ some v) (there : get_elem? s.words k ≡ some n) (is : n ≡ a) where
    abbrev cs : List ℕ
    cs = set s.words k (n + 1)

    -- nobody has claimed it
    unclaimed : (w : View) → IsSeat s.words w → (c : Claim) → w.claim ≡ Some c → c.slot ≢ slot_at k
    unclaimed w q c e z = let x = number_is s.words k (slot_at k) n key there c.slot (claimed_in c.generation) z (q.slots.claim c e).0 in omega (arith, x, is, state)

    slots : (w : View) → IsSeat s.words w → AreSlots cs w
    slots w q = stepped s.words k (slot_at k) n key there w q.slots (λ t has same low high. absurd (omega (arith, low, high, is, state))) (unclaimed w q)

    others : (w : View) → IsSeat s.words w → IsSeat cs w
    others w q = record {
      hazard = λ h p. let x = q.hazard h p in let low = x.0 in (x.0, elsewhere s.words k (slot_at k) n key there h w.announced (λ z. omega (arith, z, key, low)) x.1, x.2);
      settled = q.settled;
      slots = slots w q;
      scanned = q.scanned;
      agree = q.agree;
    }

    mine : (c : Claim) → v'.claim ≡ Some c → IsClaim cs c
    mine c e = let x : mine_now ≡ c = cc (e) in let none : Option ℕ = None in subst (IsClaim cs) x
        (moved cs k (state_key (slot_at k)) (claimed_in (generation_in a)) key (set_here s.words k (n + 1) (within s.words k n there) ∙ ap some (let y : n + 1 ≡ claimed_in (generation_in a) = omega (arith, is, state) in y)), λ o f. absurd cc)

    pub claimed : AreHazards record { words = cs; views = set s.views id v' }
    claimed =
        let q = others v (r.seats id v at) in let own : IsSeat cs v' = record {
          hazard = q.hazard;
          settled = q.settled;
          slots = record { lent = q.slots.lent; issued = q.slots.issued; claim = mine; retired = q.slots.retired; peeked = q.slots.peeked; reclaimed = q.slots.reclaimed };
          scanned = q.scanned;
          agree = q.agree;
        } in
        moves s r id v v' cs at (grown_by s.words k (n + 1) n (λ z. omega (arith, z, key)) there r.grown) (λ j w e ne. others w (r.seats j w e)) own (λ j w e ne. let p = pair s r id v at j w e ne in (
          record {
            hazards = p.0.hazards;
            scanned = p.0.scanned;
            agree = p.0.agree;
            claims = λ c d x y z. let f : mine_now ≡ c = cc (x) in unclaimed w (r.seats j w e) d y (sym z ∙ ap (λ (b : Claim). b.slot) (sym f));
            reclaimed = p.0.reclaimed;
          },
          record {
            hazards = p.1.hazards;
            scanned = p.1.scanned;
            agree = p.1.agree;
            claims = λ c d x y z. let f : mine_now ≡ d = cc (y) in unclaimed w (r.seats j w e) c x (z ∙ ap (λ (b : Claim). b.slot) (sym f));
            reclaimed = p.1.reclaimed;
          },
        ))

  pub claims : Exchanges AreHazards Claims id v k a (a + 1)
  claims s n r at there = (
    (λ is. (
      v',
      0,
      subst (λ (ns : List ℕ). AreHazards record { words = ns; views = set s.views id v' })
          (sym (append-nil (set s.words k (a + 1))) ∙ refl)
          (subst (λ (m : ℕ). AreHazards record { words = set s.words k (m + 1); views = set s.views id v' }) is (claimed s n r at there is)),
      ((λ e. refl), (λ ne. absurd (ne refl))),
    )),
    (λ ne. (v, stays s id v r at, ((λ e. absurd (ne e)), (λ e. refl)))),
  )

-- AN OWNER is put there
module _ (id k x : ℕ) (v : View) (c : Claim) (has : v.claim ≡ Some c) (key : k ≡ owner_key c.slot) where
  abbrev then : Claim
  then = record c { owner = Some x }

  has_then : filled v.claim x ≡ Some then
  has_then = ap (λ (d : Option Claim). filled d x) has

  module _ (s : State View) (n : ℕ) (r : AreHazards s) (at : get_elem? s.views id ≡ some v) (there : get_elem? s.words k ≡ some n) where
    abbrev os : List ℕ
    os = set s.words k x

    state : get_elem? s.words (state_key c.slot) ≡ some (claimed_in c.generation)
    state = ((r.seats id v at).slots.claim c has).0

    slots_else : (w : View) → AreSlots s.words w → ((d : Claim) → w.claim ≡ Some d → d.slot ≢ c.slot) → AreSlots os w
    slots_else w q apart = put s.words k c.slot c.generation x key state w q apart

    hazard_stays : (h y : ℕ) → h < 64 → get_elem? s.words h ≡ some y → get_elem? os h ≡ some y
    hazard_stays h y low e = set_else s.words k h x (λ z. omega (arith, z, key, low)) ∙ e

    pub is_filled : AreHazards record { words = os; views = set s.views id (filling v x) }
    is_filled =
        let a = r.seats id v at in
        let b : AreSlots s.words (record v { claim = None }) =
        record { lent = a.slots.lent; issued = a.slots.issued; claim = λ d e. absurd cc; retired = a.slots.retired; peeked = a.slots.peeked; reclaimed = a.slots.reclaimed } in
        let q = slots_else (record v { claim = None }) b (λ d e z. absurd cc) in
        let own : IsSeat os (filling v x) = record {
          hazard = λ h p. let y = a.hazard h p in (y.0, hazard_stays h v.announced y.0 y.1, y.2);
          settled = a.settled;
          slots = record {
            lent = q.lent;
            issued = q.issued;
            claim = λ d e. let f : Some then ≡ Some d = sym has_then ∙ e in let g : then ≡ d = cc (f) in subst (IsClaim os) g (
              state_stays s.words k c.slot c.generation x key state c.slot (claimed_in c.generation) state,
              λ o h. let y : x ≡ o = cc (h) in moved os k (owner_key c.slot) o key (set_here s.words k x (within s.words k n there) ∙ ap some y),
            );
            retired = q.retired;
            peeked = q.peeked;
            reclaimed = q.reclaimed;
          };
          scanned = a.scanned;
          agree = a.agree;
        } in
        moves s r id v (filling v x) os at (grown_by s.words k x n (λ z. omega (arith, z, key)) there r.grown) (λ j w e ne. let b = r.seats j w e in let p = pair s r id v at j w e ne in record {
          hazard = λ h f. let y = b.hazard h f in (y.0, hazard_stays h w.announced y.0 y.1, y.2);
          settled = b.settled;
          slots = slots_else w b.slots (λ d f z. p.0.claims c d has f (sym z));
          scanned = b.scanned;
          agree = b.agree;
        }) own (λ j w e ne. let p = pair s r id v at j w e ne in (
          record {
            hazards = p.0.hazards;
            scanned = p.0.scanned;
            agree = p.0.agree;
            claims = λ d f y z same. let g : Some then ≡ Some d = sym has_then ∙ y in let h : then ≡ d = cc (g) in p.0.claims c f has z (ap (λ (b : Claim). b.slot) h ∙ same);
            reclaimed = p.0.reclaimed;
          },
          record {
            hazards = p.1.hazards;
            scanned = p.1.scanned;
            agree = p.1.agree;
            claims = λ f d z y same. let g : Some then ≡ Some d = sym has_then ∙ y in let h : then ≡ d = cc (g) in p.1.claims f c z has (same ∙ ap (λ (b : Claim). b.slot) (sym h));
            reclaimed = p.1.reclaimed;
          },
        ))

  pub fills : Stores AreHazards Fills id v k x
  fills s n r at there = (filling v x, is_filled s n r at there, refl)

-- two lists of tickets agree where the first has one more
pub agree_more : (xs ys : List (ℕ × ℕ)) (t o : ℕ) → ((u p q : ℕ) → In (u, p) xs → In (u, q) ys → p ≡ q) → ((q : ℕ) → In (t, q) ys → o ≡ q) → (u p q : ℕ) → In (u, p) ((t, o) ∷ xs) → In (u, q) ys → p ≡ q
agree_more xs ys t o a fresh u p q (inl e) y =
    let same : t ≡ u = ap (λ (z : ℕ × ℕ). z.0) e in let owner : o ≡ p = ap (λ (z : ℕ × ℕ). z.1) e in sym owner ∙ fresh q (subst (λ (z : ℕ). In (z, q) ys) (sym same) y)
agree_more xs ys t o a fresh u p q (inr x) y = a u p q x y

-- and the other way round
pub agree_less : (xs ys : List (ℕ × ℕ)) (t o : ℕ) → ((u p q : ℕ) → In (u, p) ys → In (u, q) xs → p ≡ q) → ((q : ℕ) → In (t, q) ys → o ≡ q) → (u p q : ℕ) → In (u, p) ys → In (u, q) ((t, o) ∷ xs) → p ≡ q
agree_less xs ys t o a fresh u p q y x = sym (agree_more xs ys t o (λ b c d z w. sym (a b d c w z)) fresh u q p x y)

fresh_too : (xs : List (ℕ × ℕ)) (t o : ℕ) → ((q : ℕ) → In (t, q) xs → o ≡ q) → (q : ℕ) → In (t, q) ((t, o) ∷ xs) → o ≡ q
fresh_too xs t o fresh q (inl e) = ap (λ (z : ℕ × ℕ). z.1) e
fresh_too xs t o fresh q (inr x) = fresh q x

pub agree_self : (xs : List (ℕ × ℕ)) (t o : ℕ) → ((u p q : ℕ) → In (u, p) xs → In (u, q) xs → p ≡ q) → ((q : ℕ) → In (t, q) xs → o ≡ q) → (u p q : ℕ) → In (u, p) ((t, o) ∷ xs) → In (u, q) ((t, o) ∷ xs) → p ≡ q
agree_self xs t o a fresh = agree_more xs ((t, o) ∷ xs) t o (agree_less xs xs t o a fresh) (fresh_too xs t o fresh)

-- what holds of one more ticket
pub issued_more : (least : ℕ → ℕ) (ws : List ℕ) (xs : List (ℕ × ℕ)) (t o : ℕ) → IsOwned least ws t o → ((u p : ℕ) → In (u, p) xs → IsOwned least ws u p) → (u p : ℕ) → In (u, p) ((t, o) ∷ xs) → IsOwned least ws u p
issued_more least ws xs t o new old u p (inl e) = subst (λ (z : ℕ × ℕ). IsOwned least ws z.0 z.1) e new
issued_more least ws xs t o new old u p (inr x) = old u p x

-- A TICKET is issued
module _ (id k o : ℕ) (v : View) (c : Claim) (has : v.claim ≡ Some c) (owner : c.owner ≡ Some o) (key : k ≡ state_key c.slot) (small : c.slot < 4294967296) where
  abbrev its : ℕ
  its = ticket c.generation c.slot

  module _ (s : State View) (n : ℕ) (r : AreHazards s) (at : get_elem? s.views id ≡ some v) (there : get_elem? s.words k ≡ some n) where
    is : n ≡ claimed_in c.generation
    is = sym (number_is s.words k c.slot n key there c.slot (claimed_in c.generation) refl ((r.seats id v at).slots.claim c has).0)

    -- nobody knew of it
    pub is_new : (w : View) → IsSeat s.words w → (q : ℕ) → HasIssued w its q → ⊥
    is_new w a q x =
        let y = a.slots.issued its q x in let same = number_is s.words k c.slot n key there (slot_of its) y.number (slot_of_ticket c.generation c.slot small) y.is in let low = y.so.0 in let g = generation_of_ticket c.generation c.slot small in
        omega (arith, low, same, is, g)

    abbrev ns : List ℕ
    ns = set s.words k (n + 1)

    slots_then : (w : View) → AreSlots s.words w → ((d : Claim) → w.claim ≡ Some d → d.slot ≢ c.slot) → AreSlots ns w
    slots_then w a apart = stepped s.words k c.slot n key there w a (λ u l same low high. absurd (omega (arith, low, high, is))) apart

    hazards_then : (w : View) → IsSeat s.words w → (h : ℕ) → w.hazard ≡ Some h → (h < 64) × (get_elem? ns h ≡ some w.announced) × (1 ≤ w.announced)
    hazards_then w a h p = let x = a.hazard h p in let low = x.0 in (x.0, elsewhere s.words k c.slot n key there h w.announced (λ z. omega (arith, z, key, low)) x.1, x.2)

    mine_then : IsOwned present_in ns its o
    mine_then = let i = slot_of_ticket c.generation c.slot small in let g = generation_of_ticket c.generation c.slot small in record {
      number = n + 1;
      is = moved ns (state_key c.slot) (state_key (slot_of its)) (n + 1) (ap state_key (sym i)) (here s.words k c.slot n key there);
      so = (
        omega (arith, is, g),
        λ few. moved ns (owner_key c.slot) (owner_key (slot_of its)) o (ap owner_key (sym i)) (owner_stays s.words k c.slot n key there c.slot o (((r.seats id v at).slots.claim c has).1 o owner)),
      );
    }

    pub is_issued : AreHazards record { words = ns; views = set s.views id (issuing v its o) }
    is_issued =
        let a = r.seats id v at in
        let b : AreSlots s.words (record v { claim = None }) =
        record { lent = a.slots.lent; issued = a.slots.issued; claim = λ d e. absurd cc; retired = a.slots.retired; peeked = a.slots.peeked; reclaimed = a.slots.reclaimed } in
        let q = slots_then (record v { claim = None }) b (λ d e z. absurd cc) in
        let own : IsSeat ns (issuing v its o) = record {
          hazard = hazards_then v a;
          settled = a.settled;
          slots = record { lent = q.lent; issued = issued_more present_in ns v.issued its o mine_then q.issued; claim = q.claim; retired = q.retired; peeked = q.peeked; reclaimed = q.reclaimed };
          scanned = a.scanned;
          agree = agree_self v.issued its o a.agree (λ p x. absurd (is_new v a p x));
        } in
        moves s r id v (issuing v its o) ns at (grown_by s.words k (n + 1) n (λ z. omega (arith, z, key)) there r.grown) (λ j w e ne. let b = r.seats j w e in let p = pair s r id v at j w e ne in record {
          hazard = hazards_then w b;
          settled = b.settled;
          slots = slots_then w b.slots (λ d f z. p.0.claims c d has f (sym z));
          scanned = b.scanned;
          agree = b.agree;
        }) own (λ j w e ne. let p = pair s r id v at j w e ne in (
          record {
            hazards = p.0.hazards;
            scanned = p.0.scanned;
            agree = agree_more v.issued w.issued its o p.0.agree (λ q x. absurd (is_new w (r.seats j w e) q x));
            claims = λ d f y z same. absurd cc;
            reclaimed = p.0.reclaimed;
          },
          record {
            hazards = p.1.hazards;
            scanned = p.1.scanned;
            agree = agree_less v.issued w.issued its o p.1.agree (λ q x. absurd (is_new w (r.seats j w e) q x));
            claims = λ f d z y same. absurd cc;
            reclaimed = p.1.reclaimed;
          },
        ))

    pub effect : (d : Claim) (p : ℕ) → v.claim ≡ Some d → d.owner ≡ Some p → let u = ticket d.generation d.slot in (issuing v its o ≡ issuing v u p) × ((q : ℕ) → HasIssued v u q → ⊥)
    effect d p e f =
        let x : Some c ≡ Some d = sym has ∙ e in let y : c ≡ d = cc (x) in let z : Some o ≡ Some p = sym owner ∙ (ap (λ (b : Claim). b.owner) y ∙ f) in let same : o ≡ p = cc (z) in let u : its ≡ ticket d.generation d.slot = ap (λ (b : Claim). ticket b.generation b.slot) y in (
          ap (λ (b : ℕ × ℕ). issuing v b.0 b.1) (let both : (its, o) ≡ (ticket d.generation d.slot, p) = λ i. (u i, same i) in both),
          λ q h. is_new v (r.seats id v at) q (subst (λ (b : ℕ). HasIssued v b q) (sym u) h),
        )

  issues_next : Stores AreHazards Issues id v k (claimed_in c.generation + 1)
  issues_next s n r at there = (
    issuing v its o,
    subst (λ (m : ℕ). AreHazards record { words = set s.words k (m + 1); views = set s.views id (issuing v its o) }) (is s n r at there) (is_issued s n r at there),
    effect s n r at there,
  )

  pub issues : (x : ℕ) → x ≡ present_in c.generation → Stores AreHazards Issues id v k x
  issues x e = subst (Stores AreHazards Issues id v k) (let f : claimed_in c.generation + 1 ≡ x = omega (arith, e) in f) issues_next

retired_more : (ws : List ℕ) (xs : List ℕ) (t : ℕ) → IsRetired ws t → ((u : ℕ) → In u xs → IsRetired ws u) → (u : ℕ) → In u (t ∷ xs) → IsRetired ws u
retired_more ws xs t new old u (inl e) = subst (IsRetired ws) e new
retired_more ws xs t new old u (inr x) = old u x

-- a seat knows one more ticket that is retired
more_retired : (ws : List ℕ) (v : View) (t : ℕ) → IsSeat ws v → IsRetired ws t → IsSeat ws (retiring v t)
more_retired ws v t q new = record {
  hazard = q.hazard;
  settled = q.settled;
  slots = record {
    lent = q.slots.lent;
    issued = q.slots.issued;
    claim = q.slots.claim;
    retired = retired_more ws v.retired t new q.slots.retired;
    peeked = λ slot o u e x z. absurd cc;
    reclaimed = q.slots.reclaimed;
  };
  scanned = λ u h x p less has. absurd (omega (arith, less));
  agree = q.agree;
}

still_apart : (v w : View) (t : ℕ) → AreApart v w × AreApart w v → AreApart (retiring v t) w × AreApart w (retiring v t)
still_apart v w t p = (
  record { hazards = p.0.hazards; scanned = λ u h x q less has. absurd (omega (arith, less)); agree = p.0.agree; claims = p.0.claims; reclaimed = p.0.reclaimed },
  record { hazards = p.1.hazards; scanned = p.1.scanned; agree = p.1.agree; claims = p.1.claims; reclaimed = p.1.reclaimed },
)

both : {A B : Type 0} → Dec A → Dec B → Dec (A × B)
both (yes a) (yes b) = yes (a, b)
both (yes a) (no b) = no (λ x. b x.1)
both (no a) b = no (λ x. a x.0)

-- A TICKET is retired, or is found so
module _ (id k : ℕ) (v : View) (key : k ≡ state_key (slot_at k)) (small : slot_at k < 4294967296) where
  is_retired : (ws : List ℕ) (g n : ℕ) → get_elem? ws k ≡ some n → retired_in g ≤ n → IsRetired ws (ticket g (slot_at k))
  is_retired ws g n there high = let i = slot_of_ticket g (slot_at k) small in let same = generation_of_ticket g (slot_at k) small in record {
    number = n;
    is = moved ws k (state_key (slot_of (ticket g (slot_at k)))) n (key ∙ ap state_key (sym i)) there;
    so = omega (arith, high, same);
  }

  module _ (a : ℕ) (state : a ≡ present_in (generation_in a)) where
    abbrev gone : ℕ
    gone = ticket (generation_in a) (slot_at k)

    module _ (s : State View) (n : ℕ) (r : AreHazards s) (at : get_elem? s.views id ≡ some v) (there : get_elem? s.words k ≡ some n) (is : n ≡ a) where
      abbrev rs : List ℕ
      rs = set s.words k (n + 1)

      after : (w : View) → IsSeat s.words w → IsSeat rs w
      after w q = record {
        hazard = λ h p. let x = q.hazard h p in let low = x.0 in (x.0, elsewhere s.words k (slot_at k) n key there h w.announced (λ z. omega (arith, z, key, low)) x.1, x.2);
        settled = q.settled;
        slots = stepped s.words k (slot_at k) n key there w q.slots (λ t has same low high. omega (arith, low, high, is, state)) (λ c e z.
            let x = number_is s.words k (slot_at k) n key there c.slot (claimed_in c.generation) z (q.slots.claim c e).0 in omega (arith, x, is, state));
        scanned = q.scanned;
        agree = q.agree;
      }

      pub is_gone : AreHazards record { words = rs; views = set s.views id (retiring v gone) }
      is_gone =
          let new : IsRetired rs gone = is_retired rs (generation_in a) (n + 1) (set_here s.words k (n + 1) (within s.words k n there)) (omega (arith, is, state)) in
          moves s r id v (retiring v gone) rs at (grown_by s.words k (n + 1) n (λ z. omega (arith, z, key)) there r.grown)
          (λ j w e ne. after w (r.seats j w e))
          (more_retired rs v gone (after v (r.seats id v at)) new)
          (λ j w e ne. still_apart v w gone (pair s r id v at j w e ne))

    pub retires : Exchanges AreHazards Retires id v k a (a + 1)
    retires s n r at there = (
      (λ is. (
        retiring v gone,
        0,
        subst (λ (ns : List ℕ). AreHazards record { words = ns; views = set s.views id (retiring v gone) })
            (sym (append-nil (set s.words k (a + 1))))
            (subst (λ (m : ℕ). AreHazards record { words = set s.words k (m + 1); views = set s.views id (retiring v gone) }) is (is_gone s n r at there is)),
        ((λ e. refl), (λ ne. absurd (ne refl))),
      )),
      (λ ne. (v, stays s id v r at, ((λ e. absurd (ne e)), (λ e. refl)))),
    )

  pub adopts : Loads AreHazards Retires id v k
  adopts s n r at there = dite (both (ℕ_discrete (n % 4) 3) (dec_lt n 17179869184))
      (λ is.
      let t : ℕ = ticket (generation_in n) (slot_at k) in let three = is.0 in
      let new : IsRetired s.words t = is_retired s.words (generation_in n) n there (omega (arith, three)) in (
        retiring v t,
        moves s r id v (retiring v t) s.words at r.grown (λ j w e ne. r.seats j w e) (more_retired s.words v t (r.seats id v at) new) (λ j w e ne. still_apart v w t (pair s r id v at j w e ne)),
        ((λ e. refl), (λ ne. absurd (ne is))),
      ))
      (λ ne. (v, stays s id v r at, ((λ e. absurd (ne e)), (λ e. refl))))
