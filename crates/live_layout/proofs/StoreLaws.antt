-- The stores of a writer of a list.
use Rattle.std.proofs.Common.{◌≡◌, ◌≢◌, ℕ, ◌+◌, ◌-◌, ◌/◌, ◌%◌, ◌<◌, ◌≤◌, List, length, set, None, refl, ap, sym, ◌∙◌, subst, arith, inl, inr}
use Rattle.std.proofs.lemmas.Bool.{cases_eq}
use Rattle.std.proofs.lemmas.List.{get_or-set_same, get_or-set_other, length-set}
use Rattle.spec_map.specs.Map.{lookup, put, without}
use Rattle.live_layout.specs.Words.{at, lane}
use Rattle.live_layout.specs.ListCells.{count, key, child, first, HasList}
use Rattle.live_layout.specs.inner.Stores.{StoresKey, Stores, ChangesAt, Moves}
use Rattle.live_layout.proofs.ListLaws.{key-at, put-list, change-list, take-list}

-- a key in a word that was set, and one in another word
here-key : (c : List ℕ) (w v i j : ℕ) → 1 + w < length c → (i + 1) / 8 ≡ w → (i + 1) % 8 ≡ j → key (set c (1 + w) v) i ≡ lane v j
here-key c w v i j l q r = key-at (set c (1 + w) v) i w j q r ∙ ap (λ x. lane x j) (get_or-set_same c (1 + w) v 0 l)

far-key : (c : List ℕ) (w v i : ℕ) → (i + 1) / 8 ≢ w → key (set c (1 + w) v) i ≡ key c i
far-key c w v i other = ap (λ x. lane x ((i + 1) % 8)) (get_or-set_other c (1 + w) (1 + (i + 1) / 8) v 0 (omega arith))

-- one store of a key and the count
pub key-and-count : (c : List ℕ) (v p b n : ℕ) → 1 < length c → (p + 1) / 8 ≡ 0 → lane v 0 ≡ n → lane v (p + 1) ≡ b → ((j : ℕ) → j ≢ 0 → j ≢ p + 1 → lane v j ≡ lane (at c 1) j) → StoresKey c (set c 1 v) p b n
key-and-count c v p b n long near counts laned kept = record {
  long = length-set c 1 v;
  others = λ j a _. get_or-set_other c 1 j v 0 a;
  counts = ap (λ x. lane x 0) (get_or-set_same c 1 v 0 long) ∙ counts;
  here = here-key c 0 v p (p + 1) long near (omega (arith, near)) ∙ laned;
  keys = λ i other.
      elim (cases_eq ((i + 1) / 8) 0) [
        | inl e ↦
            let r : (i + 1) % 8 ≡ i + 1 = omega (arith, e) in
            here-key c 0 v i (i + 1) long e r ∙ kept (i + 1) (omega arith) (omega (arith, other)) ∙ sym (key-at c i 0 (i + 1) e r)
        | inr ne ↦ far-key c 0 v i ne
      ];
}

-- two stores, of a key and then of the count
pub key-then-count : (c : List ℕ) (v f p b n : ℕ) → 1 + (p + 1) / 8 < length c → (p + 1) / 8 ≢ 0 → lane f 0 ≡ n → ((j : ℕ) → j ≢ 0 → lane f j ≡ lane (at c 1) j)
    → lane v ((p + 1) % 8) ≡ b → ((j : ℕ) → j ≢ (p + 1) % 8 → lane v j ≡ lane (at c (1 + (p + 1) / 8)) j) → StoresKey c (set (set c (1 + (p + 1) / 8) v) 1 f) p b n
key-then-count c v f p b n long far counts first-kept laned kept =
    let w = (p + 1) / 8 in
    let s = set c (1 + w) v in
    let l : length s ≡ length c = length-set c (1 + w) v in
    let some : 1 < length c = omega arith in
    record {
      long = length-set s 1 f ∙ l;
      others = λ j a b'. get_or-set_other s 1 j f 0 a ∙ get_or-set_other c (1 + w) j v 0 b';
      counts = ap (λ x. lane x 0) (get_or-set_same s 1 f 0 (omega (arith, l, some))) ∙ counts;
      here = far-key s 0 f p far ∙ here-key c w v p ((p + 1) % 8) long refl refl ∙ laned;
      keys = λ i other.
          elim (cases_eq ((i + 1) / 8) 0) [
            | inl e ↦
                let r : (i + 1) % 8 ≡ i + 1 = omega (arith, e) in
                here-key s 0 f i (i + 1) (omega (arith, l, some)) e r ∙ first-kept (i + 1) (omega arith) ∙ sym (key-at c i 0 (i + 1) e r)
            | inr ne ↦
                far-key s 0 f i ne ∙ elim (cases_eq ((i + 1) / 8) w) [
                  | inl e ↦ here-key c w v i ((i + 1) % 8) long e refl ∙ kept ((i + 1) % 8) (omega (arith, e, other)) ∙ sym (key-at c i w ((i + 1) % 8) e refl)
                  | inr ne' ↦ far-key c w v i ne'
                ]
          ];
    }

-- and a store of the child's word
pub stored : (room : ℕ) (c c' : List ℕ) (p b w n : ℕ) → p < room → length c ≡ first room + room → StoresKey c c' p b n → Stores room c (set c' (first room + p) w) p b w n
stored room c c' p b w n inside long s = record {
  long = length-set c' (first room + p) w ∙ s.long;
  head = get_or-set_other c' (first room + p) 0 w 0 (omega arith) ∙ s.others 0 (omega arith) (omega arith);
  counts = ap (λ x. lane x 0) (get_or-set_other c' (first room + p) 1 w 0 (omega arith)) ∙ s.counts;
  here = (
    ap (λ x. lane x ((p + 1) % 8)) (get_or-set_other c' (first room + p) (1 + (p + 1) / 8) w 0 (omega arith)) ∙ s.here,
    get_or-set_same c' (first room + p) w 0 (omega (arith, s.long, long)),
  );
  others = λ i l other. (
    ap (λ x. lane x ((i + 1) % 8)) (get_or-set_other c' (first room + p) (1 + (i + 1) / 8) w 0 (omega arith)) ∙ s.keys i other,
    get_or-set_other c' (first room + p) (first room + i) w 0 (omega arith) ∙ s.others (first room + i) (omega arith) (omega arith),
  );
}

pub put-stored : (room : ℕ) (c c' : List ℕ) (es : List (ℕ × ℕ)) (b w n : ℕ) → b < 256 → n ≡ count c → n < room → Stores room c c' n b w (n + 1) → HasList room c es → lookup es b ≡ None → HasList room c' (put es b w)
put-stored room c c' es b w n small is left s h none =
    let s' = subst (λ x. Stores room c c' x b w (x + 1)) is s in
    put-list h c' b w small none (omega arith) (record {
      long = s'.long;
      counts = s'.counts;
      here = s'.here;
      others = λ i l. s'.others i (omega (arith, l, is, left)) (omega (arith, l));
    })

pub take-stored : (room : ℕ) (c c' : List ℕ) (es : List (ℕ × ℕ)) (p n : ℕ) → n + 1 ≡ count c → p < count c → Stores room c c' p (key c n) (child room c n) n → HasList room c es → HasList room c' (without es (key c p))
take-stored room c c' es p n is inside s h =
    let last : n ≡ count c - 1 = omega arith in
    take-list h c' p inside (record {
      long = s.long;
      counts = omega (arith, s.counts, is);
      here = λ _. (s.here.0 ∙ ap (key c) last, s.here.1 ∙ ap (child room c) last);
      others = λ i l other. s.others i (omega (arith, l, s.counts, is, h.few)) other;
    })

pub change-stored : (room : ℕ) (c : List ℕ) (p w : ℕ) → p < room → length c ≡ first room + room → count c ≤ room → ChangesAt room c (set c (first room + p) w) p w
change-stored room c p w inside long few = record {
  long = length-set c (first room + p) w;
  counts = ap (λ x. lane x 0) (get_or-set_other c (first room + p) 1 w 0 (omega arith));
  keys = λ i l. ap (λ x. lane x ((i + 1) % 8)) (get_or-set_other c (first room + p) (1 + (i + 1) / 8) w 0 (omega (arith, l, few)));
  here = get_or-set_same c (first room + p) w 0 (omega (arith, long));
  others = λ i l other. get_or-set_other c (first room + p) (first room + i) w 0 (omega arith);
}

pub change-encodes : (room : ℕ) (c : List ℕ) (es : List (ℕ × ℕ)) (p w : ℕ) → p < count c → HasList room c es → HasList room (set c (first room + p) w) (put es (key c p) w)
change-encodes room c es p w inside h = change-list h (set c (first room + p) w) p w inside (change-stored room c p w (omega (arith, h.few)) h.long h.few)

-- the words of keys, with the count, and those of children came over
pub moves-copied : (room room' : ℕ) (c c' : List ℕ) → count c ≤ room → ((j : ℕ) → j < (count c + 8) / 8 → at c' (1 + j) ≡ at c (1 + j)) → ((i : ℕ) → i < count c → child room' c' i ≡ child room c i) → Moves room room' c c'
moves-copied room room' c c' few keys children = record {
  counts = ap (λ x. lane x 0) (keys 0 (omega arith));
  each = λ i l. (ap (λ x. lane x ((i + 1) % 8)) (keys ((i + 1) / 8) (omega arith)), children i l);
}

pub zero-lane : lane 0 0 ≡ 0
unfolding lane
zero-lane = refl
