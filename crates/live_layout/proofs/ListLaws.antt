-- Lists: where their parts are, and what a writer's steps do to them.
use Rattle.std.proofs.Common.{◌≡◌, ◌≢◌, ℕ, ◌+◌, ◌-◌, ◌/◌, ◌%◌, ◌<◌, ◌≤◌, List, [], ◌∷◌, length, Option, Some, None, refl, ap, sym, ◌∙◌, subst, arith, inl, inr}
use Rattle.std.proofs.lemmas.Bool.{cases_eq, cases_lt, cases_order, ne_eqb}
use Rattle.spec_map.specs.Map.{lookup, put, without, Rises}
use Rattle.spec_map.proofs.MapLaws as maps
use Rattle.spec_map.proofs.ByteMapLaws.{length-put_new, length-put_some, length-without_present}
use Rattle.live_layout.specs.Words.{at, lane}
use Rattle.live_layout.specs.ListCells.{count, key, child, first, HasList, IsFound, word_found}
use Rattle.live_layout.specs.inner.Stores.{PutsLast, ChangesAt, TakesAt, Moves}

-- a key by its word and its lane there
pub key-at : (c : List ℕ) (i w j : ℕ) → (i + 1) / 8 ≡ w → (i + 1) % 8 ≡ j → key c i ≡ lane (at c (1 + w)) j
key-at c i w j q r = ap (λ x. lane (at c (1 + x)) ((i + 1) % 8)) q ∙ ap (lane (at c (1 + w))) r

record Origin (room : ℕ) (c c' : List ℕ) (p i : ℕ) : Type 0 where
  from : ℕ
  inside : from < count c
  other : from ≢ p
  byte : key c' i ≡ key c from
  word : child room c' i ≡ child room c from
  moved : i ≡ p → from ≡ count c'
  stayed : i ≢ p → from ≡ i

-- what was found is what the node has
pub found-lookup : {room : ℕ} {c : List ℕ} {es : List (ℕ × ℕ)} (b : ℕ) (r : Option (ℕ × ℕ)) → HasList room c es → IsFound room c b r → lookup es b ≡ word_found r
found-lookup b None h f = h.free b f
found-lookup {room} {c} {es} b (Some e) h f = subst (λ x. lookup es x ≡ Some e.1) f.1 (h.each e.0 f.0 ∙ ap (λ x. Some x) f.2)

module _ {room : ℕ} {c : List ℕ} {es : List (ℕ × ℕ)} (h : HasList room c es) where
  -- the place of a byte that the node lacks isn't there
  differs : (b i : ℕ) → lookup es b ≡ None → i < count c → key c i ≢ b
  differs b i n l same = let e = h.each i l in let f : lookup es (key c i) ≡ None = subst (λ x. lookup es x ≡ None) (sym same) n in cc

  -- two places have two bytes
  pub two : (i j : ℕ) → i < count c → j < count c → i ≢ j → key c i ≢ key c j
  two i j l m other same =
      elim (cases_order i j) [
        | inl e ↦ other e
        | inr (inl less) ↦ h.apart i j less m same
        | inr (inr more) ↦ h.apart j i more l (sym same)
      ]

  pub put-list : (c' : List ℕ) (b w : ℕ) → b < 256 → lookup es b ≡ None → count c < room → PutsLast room c c' b w → HasList room c' (put es b w)
  put-list c' b w small none room-left p = record {
    long = p.long ∙ h.long;
    few = omega (arith, p.counts);
    apart = λ i j less inside.
        let k = (p.others i (omega (arith, p.counts))).0 in
        elim (cases_lt j (count c)) [
          | inl before ↦ λ same. h.apart i j less before (sym k ∙ same ∙ (p.others j before).0)
          | inr from ↦ (let e : j ≡ count c = omega (arith, p.counts) in λ same. differs b i none (omega (arith, p.counts)) (sym k ∙ same ∙ ap (key c') e ∙ p.here.0))
        ];
    each = λ i inside.
        elim (cases_lt i (count c)) [
          | inl before ↦
              subst (λ x. lookup (put es b w) x ≡ Some (child room c' i)) (sym (p.others i before).0) (maps.lookup-put_other es b w (key c i) (differs b i none before) ∙ h.each i before ∙ ap (λ x. Some x) (sym (p.others i before).1))
          | inr from ↦
              let e : count c ≡ i = omega (arith, p.counts) in
              subst (λ k. lookup (put es b w) (key c' k) ≡ Some (child room c' k)) e (subst (λ x. lookup (put es b w) x ≡ Some (child room c' (count c))) (sym p.here.0) (maps.lookup-put_same es b w ∙ ap (λ x. Some x) (sym p.here.1)))
        ];
    free = λ b' away.
        (let other : b' ≢ b = (λ same. away (count c) (omega (arith, p.counts)) (p.here.0 ∙ sym same)) in
        maps.lookup-put_other es b w b' other ∙ h.free b' (λ i l same. away i (omega (arith, p.counts)) ((p.others i l).0 ∙ same)));
    counted = length-put_new 0 256 es b w h.ordered none ∙ ap (λ n. n + 1) h.counted ∙ sym p.counts;
    ordered = maps.Rises-put 0 256 es b w h.ordered (omega arith) small;
  }

  pub key-small : (i : ℕ) → i < count c → key c i < 256
  key-small i l =
      elim (cases_lt (key c i) 256) [
        | inl small ↦ small
        | inr large ↦ absurd (let e = h.each i l in let n : lookup es (key c i) ≡ None = above 0 256 es (key c i) h.ordered large in cc)
      ]
    where
      above : (a b : ℕ) (xs : List (ℕ × ℕ)) (k : ℕ) → Rises a b xs → b ≤ k → lookup xs k ≡ None
      above a b [] k r l = refl
      above a b (x ∷ xs) k r l = rw (ne_eqb x.0 k (omega (arith, r.1))) (above (x.0 + 1) b xs k r.2 l)

  pub change-list : (c' : List ℕ) (p w : ℕ) → p < count c → ChangesAt room c c' p w → HasList room c' (put es (key c p) w)
  change-list c' p w inside s =
      let was = h.each p inside in record {
        long = s.long ∙ h.long;
        few = omega (arith, s.counts, h.few);
        apart = λ i j less in' same. h.apart i j less (omega (arith, s.counts)) (sym (s.keys i (omega (arith, s.counts))) ∙ same ∙ s.keys j (omega (arith, s.counts)));
        each = λ i in'.
            let l : i < count c = omega (arith, s.counts) in
            subst (λ x. lookup (put es (key c p) w) x ≡ Some (child room c' i)) (sym (s.keys i l)) (elim (cases_eq i p) [
              | inl e ↦ subst (λ x. lookup (put es (key c p) w) (key c x) ≡ Some (child room c' x)) (sym e) (maps.lookup-put_same es (key c p) w ∙ ap (λ x. Some x) (sym s.here))
              | inr other ↦ maps.lookup-put_other es (key c p) w (key c i) (two i p l inside other) ∙ h.each i l ∙ ap (λ x. Some x) (sym (s.others i l other))
            ]);
        free = λ b away.
            (let other : b ≢ key c p = (λ same. away p (omega (arith, s.counts)) (s.keys p inside ∙ sym same)) in
            maps.lookup-put_other es (key c p) w b other ∙ h.free b (λ i l same. away i (omega (arith, s.counts)) (s.keys i l ∙ same)));
        counted = length-put_some 0 256 es (key c p) w h.ordered (rw was refl) ∙ h.counted ∙ sym s.counts;
        ordered = maps.Rises-put 0 256 es (key c p) w h.ordered (omega arith) (key-small p inside);
      }

  module _ (c' : List ℕ) (p : ℕ) (inside : p < count c) (s : TakesAt room c c' p) where
    -- the place from which the child at a place came
    origin : (i : ℕ) → i < count c' → Origin room c c' p i
    origin i l =
        elim (cases_eq i p) [
          | inl e ↦
              let m : p < count c' = omega arith in
              let last : count c - 1 ≡ count c' = omega (arith, s.counts) in
              let k = (s.here m).0 in
              let w = (s.here m).1 in
              record { from = count c - 1; inside = omega (arith, s.counts); other = λ same. omega (arith, s.counts); byte = ap (key c') e ∙ k; word = ap (child room c') e ∙ w; moved = λ _. last; stayed = λ other. absurd (other e) }
          | inr other ↦ record { from = i; inside = omega (arith, s.counts); other = other; byte = (s.others i l other).0; word = (s.others i l other).1; moved = λ e. absurd (other e); stayed = λ _. refl }
        ]

    pub take-list : HasList room c' (without es (key c p))
    take-list =
        let was = h.each p inside in record {
          long = s.long ∙ h.long;
          few = omega (arith, s.counts, h.few);
          apart = λ i j less in' same.
              (let a = origin i (omega arith) in
              let b = origin j in' in
              let differ : a.from ≢ b.from = elim (cases_eq i p) [
                | inl e ↦ (let x = a.moved e in let y = b.stayed (λ f. omega arith) in λ z. omega arith)
                | inr n ↦ (let x = a.stayed n in elim (cases_eq j p) [
                  | inl e ↦ (let y = b.moved e in λ z. omega arith)
                  | inr m ↦ (let y = b.stayed m in λ z. omega arith)
                ])
              ] in
              two a.from b.from a.inside b.inside differ (sym a.byte ∙ same ∙ b.byte));
          each = λ i in'.
              (let a = origin i in' in
              subst (λ x. lookup (without es (key c p)) x ≡ Some (child room c' i)) (sym a.byte) (maps.lookup-without_other es (key c p) (key c a.from) (two a.from p a.inside inside a.other) ∙ h.each a.from a.inside ∙ ap (λ x. Some x) (sym a.word)));
          free = λ b away.
              elim (cases_eq b (key c p)) [
                | inl e ↦ subst (λ x. lookup (without es (key c p)) x ≡ None) (sym e) (maps.lookup-without_same 0 256 es (key c p) h.ordered)
                | inr other ↦
                    maps.lookup-without_other es (key c p) b other ∙ h.free b (λ i l same. elim (cases_eq i p) [
                      | inl e ↦ other (sym same ∙ ap (key c) e)
                      | inr ne ↦ elim (cases_lt i (count c')) [
                        | inl kept ↦ away i kept ((s.others i kept ne).0 ∙ same)
                        | inr last ↦
                            (let m : p < count c' = omega (arith, s.counts) in
                            let q : count c - 1 ≡ i = omega (arith, s.counts) in
                            away p m ((s.here m).0 ∙ ap (key c) q ∙ same))
                      ]
                    ])
              ];
          counted = (let e = length-without_present 0 256 es (key c p) h.ordered (rw was refl) in omega (arith, e, h.counted, s.counts));
          ordered = maps.Rises-without 0 256 es (key c p) h.ordered;
        }

  pub move-list : (room' : ℕ) (c' : List ℕ) → length c' ≡ first room' + room' → count c ≤ room' → Moves room room' c c' → HasList room' c' es
  move-list room' c' long few m = record {
    long = long;
    few = omega (arith, m.counts);
    apart = λ i j less inside same. h.apart i j less (omega (arith, m.counts)) (sym (m.each i (omega (arith, m.counts))).0 ∙ same ∙ (m.each j (omega (arith, m.counts))).0);
    each = λ i inside.
        (let l : i < count c = omega (arith, m.counts) in
        subst (λ x. lookup es x ≡ Some (child room' c' i)) (sym (m.each i l).0) (h.each i l ∙ ap (λ x. Some x) (sym (m.each i l).1)));
    free = λ b away. h.free b (λ i l same. away i (omega (arith, m.counts)) ((m.each i l).0 ∙ same));
    counted = h.counted ∙ sym m.counts;
    ordered = h.ordered;
  }
