-- Pairs that are moved one by one, key by key.
use Rattle.std.proofs.Common.{◌≡◌, ◌≢◌, ℕ, zero, suc, ◌+◌, ◌<◌, ◌≤◌, true, false, List, [], ◌∷◌, ◌++◌, length, take, map, get_or, is_none, is_err, Option, Some, None, Result, Ok, Err, OnOk, OnErr, refl, sym, ap, subst, ◌∙◌, inl, inr, arith}
use Rattle.std.proofs.lemmas.Bool.{eq-eqb, ne_eqb, cases_eq}
use Rattle.std.proofs.lemmas.List.{length-map, take_more}
use Rattle.std.proofs.lemmas.List.Sums.{fold-append}
use mathlib.Core.List.{IsPrefix}
use Rattle.spec_map.specs.Map.{Pairs, Rises, lookup, put}
use Rattle.spec_map.proofs.MapLaws.{lookup-first, lookup-next, lookup-put_same, lookup-put_other}
use Rattle.live_nodes.specs.Known.{Known}
use Rattle.live_scans.specs.Scans.{Waits}
use Rattle.live_copies.specs.Copies.{HasCopied}
use Rattle.live_copies.proofs.Inserted.{put_into_none}
use Rattle.word_slots.specs.declared.log.LogEntry.{LogEntry}
use Rattle.word_slots.specs.Tickets.{HasIssued}
use Rattle.live_payloads.specs.Payloads.{IsPayloadOf}
use Rattle.live_payloads.specs.Moves.{IsTicketFor}
use Rattle.live_payloads.specs.inner.Moves.{map_of, HaveSameKeys, ArePlaced, AreIssuedFor}
use Rattle.live_payloads.proofs.Looked.{issued_on}

-- one more insertion
pub map_more : (ts : Pairs ℕ) (t : ℕ × ℕ) → map_of (ts ++ t ∷ []) ≡ put (map_of ts) t.0 t.1
map_more ts t = fold-append (λ (es : Pairs ℕ) (pair : ℕ × ℕ). put es pair.0 pair.1) [] ts (t ∷ [])

none_is : {A : Type 0} (o : Option A) → is_none o ≡ true → o ≡ None
none_is None e = refl
none_is (Some a) e = absurd (cc)

-- what holds of a result that is no error, or that is one
pub if_ok : {A E : Type 0} (r : Result A E) (X : Type 0) → false ≡ is_err r → OnOk r X → X
if_ok (Ok a) X fine h = h
if_ok (Err e) X fine h = absurd (cc)

pub if_err : {A E : Type 0} (r : Result A E) (X : Type 0) → true ≡ is_err r → OnErr r X → X
if_err (Ok a) X fails h = absurd (cc)
if_err (Err e) X fails h = h

module _ {A : Type 0} where
  -- the keys of a list with one more pair
  none_last : (ts : List (ℕ × A)) (t : ℕ × A) → is_none (lookup (ts ++ t ∷ []) t.0) ≡ false
  none_last [] t = rw (eq-eqb t.0 t.0 refl) refl
  none_last (u ∷ us) t =
      elim (cases_eq u.0 t.0) [
        | inl same ↦ rw (eq-eqb u.0 t.0 same) refl
        | inr other ↦ rw (ne_eqb u.0 t.0 other) (none_last us t)
      ]

  none_other : (ts : List (ℕ × A)) (t : ℕ × A) (key : ℕ) → t.0 ≢ key → lookup (ts ++ t ∷ []) key ≡ lookup ts key
  none_other [] t key d = rw (ne_eqb t.0 key d) refl
  none_other (u ∷ us) t key d =
      elim (cases_eq u.0 key) [
        | inl same ↦ rw (eq-eqb u.0 key same) refl
        | inr other ↦ rw (ne_eqb u.0 key other) (none_other us t key d)
      ]

  -- the key of a pair is there
  pub has_key : (ts : List (ℕ × A)) (i : ℕ) (d : ℕ × A) → i < length ts → is_none (lookup ts (get_or ts i d).0) ≡ false
  has_key [] i d less = absurd (omega (arith, less))
  has_key (u ∷ us) zero d less = rw (eq-eqb u.0 u.0 refl) refl
  has_key (u ∷ us) (suc i) d less =
      let key = (get_or us i d).0 in
      elim (cases_eq u.0 key) [
        | inl same ↦ rw (eq-eqb u.0 key same) refl
        | inr other ↦ rw (ne_eqb u.0 key other) (has_key us i d (omega (arith, less)))
      ]

  -- the keys, one by one
  key_from : (a b : ℕ) (ps : List (ℕ × A)) (i : ℕ) → Rises a b ps → i < length ps → a ≤ get_or (map (λ (p : ℕ × A). p.0) ps) i 0
  key_from a b [] i h less = absurd (omega (arith, less))
  key_from a b (p ∷ ps) zero h less = h.0
  key_from a b (p ∷ ps) (suc i) h less = let far = key_from (p.0 + 1) b ps i h.2 (omega (arith, less)) in omega (arith, far, h.0)

  pub key_there : (ps : List (ℕ × A)) (i : ℕ) → i < length ps → is_none (lookup ps (get_or (map (λ (p : ℕ × A). p.0) ps) i 0)) ≡ false
  key_there [] i less = absurd (omega (arith, less))
  key_there (p ∷ ps) zero less = rw (eq-eqb p.0 p.0 refl) refl
  key_there (p ∷ ps) (suc i) less =
      let key = get_or (map (λ (p : ℕ × A). p.0) ps) i 0 in
      elim (cases_eq p.0 key) [
        | inl same ↦ rw (eq-eqb p.0 key same) refl
        | inr other ↦ rw (ne_eqb p.0 key other) (key_there ps i (omega (arith, less)))
      ]

  pair_at : (a b : ℕ) (ps : List (ℕ × A)) (i : ℕ) (x : A) → Rises a b ps → i < length ps → lookup ps (get_or (map (λ (p : ℕ × A). p.0) ps) i 0) ≡ Some x
      → take (suc i) ps ≡ take i ps ++ (get_or (map (λ (p : ℕ × A). p.0) ps) i 0, x) ∷ []
  pair_at a b [] i x h less is = absurd (omega (arith, less))
  pair_at a b ((k, v) ∷ ps) zero x h less is =
      let found : Some v ≡ Some x = sym (lookup-first (k, v) ps) ∙ is in
      let same : v ≡ x = cc in ap (λ (y : A). (k, y) ∷ []) same
  pair_at a b (p ∷ ps) (suc i) x h less is =
      let inside : i < length ps = omega (arith, less) in
      let key = get_or (map (λ (p : ℕ × A). p.0) ps) i 0 in
      let far : p.0 + 1 ≤ key = key_from (p.0 + 1) b ps i h.2 inside in
      let is' = sym (lookup-next p ps key (omega (arith, far))) ∙ is in
      ap (λ (xs : List (ℕ × A)). p ∷ xs) (pair_at (p.0 + 1) b ps i x h.2 inside is')

  pub next_pair : (b : ℕ) (ps : List (ℕ × A)) (i : ℕ) (x : A) → Rises 0 b ps → i < length ps → lookup ps (get_or (map (λ (p : ℕ × A). p.0) ps) i 0) ≡ Some x
      → take (i + 1) ps ≡ take i ps ++ (get_or (map (λ (p : ℕ × A). p.0) ps) i 0, x) ∷ []
  next_pair b ps i x h less is =
      let next : suc i ≡ i + 1 = omega arith in
      subst (λ (n : ℕ). take n ps ≡ take i ps ++ (get_or (map (λ (p : ℕ × A). p.0) ps) i 0, x) ∷ []) next (pair_at 0 b ps i x h less is)

  pub not_there : (ps : List (ℕ × A)) (numbers : List ℕ) (i : ℕ) → numbers ≡ map (λ (p : ℕ × A). p.0) ps → i < length numbers → None ≡ lookup ps (get_or numbers i 0) → ⊥
  not_there ps numbers i are less none =
      let inside : i < length ps = omega (arith, less, ap length are ∙ length-map ps (λ (p : ℕ × A). p.0)) in
      let there = key_there ps i inside in
      let absent : None ≡ lookup ps (get_or (map (λ (p : ℕ × A). p.0) ps) i 0) = none ∙ ap (λ (ns : List ℕ). lookup ps (get_or ns i 0)) are in
      let both : true ≡ false = ap is_none absent ∙ there in cc

module _ {V : Type 0} where
  -- one more key, and a payload at a key that is there
  pub keys_more : (ts : Pairs ℕ) (ps : List (ℕ × V)) (t : ℕ × ℕ) (x : V) → HaveSameKeys ts ps → HaveSameKeys (ts ++ t ∷ []) (put ps t.0 x)
  keys_more ts ps t x h key =
      elim (cases_eq t.0 key) [
        | inl same ↦ subst (λ (k : ℕ). is_none (lookup (put ps t.0 x) k) ≡ is_none (lookup (ts ++ t ∷ []) k)) same (ap is_none (lookup-put_same ps t.0 x) ∙ sym (none_last ts t))
        | inr other ↦ ap is_none (lookup-put_other ps t.0 x key (λ e. other (sym e))) ∙ h key ∙ ap is_none (sym (none_other ts t key other))
      ]

  pub keys_stay : (ts : Pairs ℕ) (ps : List (ℕ × V)) (k : ℕ) (x : V) → is_none (lookup ts k) ≡ false → HaveSameKeys ts ps → HaveSameKeys ts (put ps k x)
  keys_stay ts ps k x there h key =
      elim (cases_eq k key) [
        | inl same ↦ subst (λ (j : ℕ). is_none (lookup (put ps k x) j) ≡ is_none (lookup ts j)) same (ap is_none (lookup-put_same ps k x) ∙ sym there)
        | inr other ↦ ap is_none (lookup-put_other ps k x key (λ e. other (sym e))) ∙ h key
      ]

  pub keys_next : (ts : Pairs ℕ) (ps qs : List (ℕ × V)) (i : ℕ) (x : V) → i < length ts → qs ≡ put ps (get_or ts i (0, 0)).0 x → HaveSameKeys (take i ts) ps → HaveSameKeys (take (i + 1) ts) qs
  keys_next ts ps qs i x less is h =
      let t = get_or ts i (0, 0) in
      let keys = keys_more (take i ts) ps t x h in
      subst (λ (rs : List (ℕ × V)). HaveSameKeys (take (i + 1) ts) rs) (sym is) (subst (λ (us : Pairs ℕ). HaveSameKeys us (put ps t.0 x)) (sym (take_more ts i (0, 0) less)) keys)

  -- a key that is there is never refused
  pub is_there : (ts : Pairs ℕ) (ps : List (ℕ × V)) (i : ℕ) → i < length ts → HaveSameKeys ts ps → lookup ps (get_or ts i (0, 0)).0 ≡ None → ⊥
  is_there ts ps i less h absent =
      let key = (get_or ts i (0, 0)).0 in
      let both : true ≡ false = sym (ap is_none absent) ∙ (h key ∙ has_key ts i (0, 0) less) in cc

  -- one more payload in its place
  pub placed_more : (log log' : List (LogEntry V)) (m : Pairs ℕ) (ps : List (ℕ × V)) (t : ℕ × ℕ) (x : V) → IsPrefix log log' → ArePlaced log m ps → HasIssued log' t.1 x → ArePlaced log' (put m t.0 t.1) (put ps t.0 x)
  placed_more log log' m ps t x more h issued key ticket is =
      elim (cases_eq t.0 key) [
        | inl same ↦
            let found : Some t.1 ≡ Some ticket = sym (lookup-put_same m t.0 t.1) ∙ ap (λ (k : ℕ). lookup (put m t.0 t.1) k) same ∙ is in
            let its : t.1 ≡ ticket = cc in
            (x, ap (λ (k : ℕ). lookup (put ps t.0 x) k) (sym same) ∙ lookup-put_same ps t.0 x, subst (λ (n : ℕ). HasIssued log' n x) its issued)
        | inr other ↦
            let apart : key ≢ t.0 = λ e. other (sym e) in
            let old = h key ticket (sym (lookup-put_other m t.0 t.1 key apart) ∙ is) in
            (old.0, lookup-put_other ps t.0 x key apart ∙ old.1, issued_on log log' ticket old.0 more old.2)
      ]

  pub placed_next : (log log' : List (LogEntry V)) (ts : Pairs ℕ) (ps qs : List (ℕ × V)) (i : ℕ) (x : V) → i < length ts → IsPrefix log log' → qs ≡ put ps (get_or ts i (0, 0)).0 x
      → HasIssued log' (get_or ts i (0, 0)).1 x → ArePlaced log (map_of (take i ts)) ps → ArePlaced log' (map_of (take (i + 1) ts)) qs
  placed_next log log' ts ps qs i x less more is issued h =
      let t = get_or ts i (0, 0) in
      let m = map_of (take i ts) in
      let next : map_of (take (i + 1) ts) ≡ put m t.0 t.1 = ap map_of (take_more ts i (0, 0) less) ∙ map_more (take i ts) t in
      let placed = placed_more log log' m ps t x more h issued in
      subst (λ (rs : List (ℕ × V)). ArePlaced log' (map_of (take (i + 1) ts)) rs) (sym is) (subst (λ (n : Pairs ℕ). ArePlaced log' n (put ps t.0 x)) (sym next) placed)

  -- all payloads are in their places
  placed_at : (log : List (LogEntry V)) (ts : Pairs ℕ) (ps : List (ℕ × V)) (key : ℕ) (o : Option ℕ) → HaveSameKeys ts ps → ArePlaced log ts ps → lookup ts key ≡ o → IsPayloadOf log o (lookup ps key)
  placed_at log ts ps key None same h is = none_is (lookup ps key) (same key ∙ ap is_none is)
  placed_at log ts ps key (Some ticket) same h is = h key ticket is

  pub all_placed : (log : List (LogEntry V)) (ts : Pairs ℕ) (ps : List (ℕ × V)) → HaveSameKeys ts ps → ArePlaced log ts ps → (key : ℕ) → IsPayloadOf log (lookup ts key) (lookup ps key)
  all_placed log ts ps same h key = placed_at log ts ps key (lookup ts key) same h refl

  pub all_moved : (k n : Known) (log : List (LogEntry V)) (ts us : Pairs ℕ) (ps : List (ℕ × V)) → Waits k (λ m. HasCopied m ts n) → us ≡ ts → HaveSameKeys us ps → ArePlaced log (map_of us) ps
      → Waits k (λ m. (tickets : Pairs ℕ) × HasCopied m tickets n × ((key : ℕ) → IsPayloadOf log (lookup tickets key) (lookup ps key)))
  all_moved k n log ts us ps copied are keys placed =
      let whole : map_of ts ≡ ts = put_into_none n.seen ts copied.2.whole in
      let same = subst (λ (ws : Pairs ℕ). HaveSameKeys ws ps) are keys in
      let at = subst (λ (ws : Pairs ℕ). ArePlaced log ws ps) (ap map_of are ∙ whole) placed in
      (copied.0, copied.1, (ts, copied.2, all_placed log ts ps same at))

  module _ (alike : V → V → Type 0) where
    -- one more ticket
    pub issued_more : (log log' : List (LogEntry V)) (ps : List (ℕ × V)) (ts : Pairs ℕ) (p : ℕ × V) (t : ℕ × ℕ) → IsPrefix log log' → AreIssuedFor alike log ps ts → t.0 ≡ p.0 → ((y : V) × HasIssued log' t.1 y × alike p.1 y) → AreIssuedFor alike log' (ps ++ p ∷ []) (ts ++ t ∷ [])
    issued_more log log' [] [] p t more h key its = (key, its, tt)
    issued_more log log' [] (u ∷ us) p t more h key its = absurd h
    issued_more log log' (q ∷ qs) [] p t more h key its = absurd h
    issued_more log log' (q ∷ qs) (u ∷ us) p t more h key its = (h.0, (h.1.0, issued_on log log' u.1 h.1.0 more h.1.1, h.1.2), issued_more log log' qs us p t more h.2 key its)

    pub issued_next : (b : ℕ) (log log' : List (LogEntry V)) (ps : List (ℕ × V)) (numbers : List ℕ) (ts us : Pairs ℕ) (i ticket : ℕ) (x y : V) → Rises 0 b ps → numbers ≡ map (λ (p : ℕ × V). p.0) ps → i < length numbers
        → Some x ≡ lookup ps (get_or numbers i 0) → IsPrefix log log' → HasIssued log' ticket y → alike x y → us ≡ ts ++ (get_or numbers i 0, ticket) ∷ [] → AreIssuedFor alike log (take i ps) ts → AreIssuedFor alike log' (take (i + 1) ps) us
    issued_next b log log' ps numbers ts us i ticket x y rises are less found more issued like is h =
        let inside : i < length ps = omega (arith, less, ap length are ∙ length-map ps (λ (p : ℕ × V). p.0)) in
        let key = get_or (map (λ (p : ℕ × V). p.0) ps) i 0 in
        let same : get_or numbers i 0 ≡ key = ap (λ (ns : List ℕ). get_or ns i 0) are in
        let there : lookup ps key ≡ Some x = sym (found ∙ ap (λ (k : ℕ). lookup ps k) same) in
        let next = next_pair b ps i x rises inside there in
        let last = issued_more log log' (take i ps) ts (key, x) (get_or numbers i 0, ticket) more h same (y, issued, like) in
        subst (λ (vs : Pairs ℕ). AreIssuedFor alike log' (take (i + 1) ps) vs) (sym is) (subst (λ (qs : List (ℕ × V)). AreIssuedFor alike log' qs (ts ++ (get_or numbers i 0, ticket) ∷ [])) (sym next) last)

    -- the ticket at a key
    pub all_issued : (log : List (LogEntry V)) (ps : List (ℕ × V)) (ts : Pairs ℕ) → AreIssuedFor alike log ps ts → (key : ℕ) → IsTicketFor alike log (lookup ps key) (lookup ts key)
    all_issued log [] [] h key = refl
    all_issued log [] (t ∷ ts) h key = absurd h
    all_issued log (p ∷ ps) [] h key = absurd h
    all_issued log (p ∷ ps) (t ∷ ts) h key =
        elim (cases_eq p.0 key) [
          | inl same ↦ rw (eq-eqb p.0 key same, eq-eqb t.0 key (h.0 ∙ same)) (t.1, h.1.0, refl, h.1.1, h.1.2)
          | inr other ↦ rw (ne_eqb p.0 key other, ne_eqb t.0 key (λ e. other (sym h.0 ∙ e))) (all_issued log ps ts h.2 key)
        ]
