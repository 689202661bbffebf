-- Eight bytes as one word, most significant first, and what a shift leaves of it.
use Rattle.std.proofs.Common.{◌≡◌, ℕ, suc, zero, ◌+◌, ◌-◌, ◌*◌, ◌/◌, ◌%◌, ◌^◌, ◌<◌, ◌≤◌, List, [], ◌∷◌, length, ◌++◌, get_or, take, drop, replicate, refl, ap, sym, ◌∙◌, arith, w64, IsTrue, nat_eq, ◌↔◌, length-drop, length-append}
use Rattle.std.specs.Int.{from_be_bytes, to_be_bytes}
use Rattle.std.proofs.Math.Nat.{mod-eq_of_lt}
use Rattle.std.proofs.lemmas.Nat.{div-mul-add, shr-shr, shr_split, pow-add, from_be_bytes-to_be_bytes_8}
use Rattle.std.proofs.lemmas.List.{length-take-le, length-replicate}
use Rattle.std.proofs.lemmas.Bool.{eqb-true, eq-eqb}

-- the number that goes on from n by these bytes
abbrev number : ℕ → List ℕ → ℕ
number n [] = n
number n (b ∷ p) = number (n * 256 + b) p

-- no item is more than a byte
abbrev pub Bytes : List ℕ → Type 0
Bytes p = (k : ℕ) → get_or p k 0 < 256

number_split : (n l : ℕ) (p : List ℕ) → number (number n (take l p)) (drop l p) ≡ number n p
number_split n zero p = refl
number_split n (suc l) [] = refl
number_split n (suc l) (b ∷ p) = number_split (n * 256 + b) l p

-- a shift by the bytes after n leaves n
number-shr : (n : ℕ) (p : List ℕ) → Bytes p → number n p / 2 ^ (8 * length p) ≡ n
number-shr n [] h = omega arith
number-shr n (b ∷ p) h =
    let rest : number (n * 256 + b) p / 2 ^ (8 * length p) ≡ n * 256 + b = number-shr (n * 256 + b) p (λ k. h (suc k)) in
    let e : 8 * length (b ∷ p) ≡ 8 * length p + 8 = omega arith in
    ap (λ k. number (n * 256 + b) p / 2 ^ k) e ∙ sym (shr-shr (number (n * 256 + b) p) (8 * length p) 8) ∙ ap (λ x. x / 256) rest ∙ div-mul-add n 256 b (h 0)

-- as many bytes with the same number are the same
same_numbers : (n m : ℕ) (p q : List ℕ) → Bytes p → Bytes q → length p ≡ length q → number n p ≡ number m q → (n ≡ m) × (p ≡ q)
same_numbers n m [] [] hp hq l e = (e, refl)
same_numbers n m [] (c ∷ q) hp hq l e = absurd (omega arith)
same_numbers n m (b ∷ p) [] hp hq l e = absurd (omega arith)
same_numbers n m (b ∷ p) (c ∷ q) hp hq l e =
    let r = same_numbers (n * 256 + b) (m * 256 + c) p q (λ k. hp (suc k)) (λ k. hq (suc k)) (omega arith) e in
    let b' : b < 256 = hp 0 in
    let c' : c < 256 = hq 0 in
    let front : n * 256 + b ≡ m * 256 + c = r.0 in
    let byte : b ≡ c = omega arith in
    (omega arith, ap (λ x. x ∷ p) byte ∙ ap (λ x. c ∷ x) r.1)

word-number : (p : List ℕ) → length p ≡ 8 → from_be_bytes w64 p ≡ number 0 p
word-number (a ∷ b ∷ c ∷ d ∷ e ∷ f ∷ g ∷ h ∷ []) l = omega arith
word-number _ l = absurd (omega arith)

Bytes-take : (l : ℕ) (p : List ℕ) → Bytes p → Bytes (take l p)
Bytes-take zero p h k = omega arith
Bytes-take (suc l) [] h k = h k
Bytes-take (suc l) (b ∷ p) h zero = h 0
Bytes-take (suc l) (b ∷ p) h (suc k) = Bytes-take l p (λ j. h (suc j)) k

Bytes-drop : (l : ℕ) (p : List ℕ) → Bytes p → Bytes (drop l p)
Bytes-drop zero p h k = h k
Bytes-drop (suc l) [] h k = h k
Bytes-drop (suc l) (b ∷ p) h k = Bytes-drop l p (λ j. h (suc j)) k

-- what shifts leave of a word is the number of its first bytes
word-shr : (l : ℕ) (p : List ℕ) → length p ≡ 8 → Bytes p → l ≤ 7 → from_be_bytes w64 p / 256 / 2 ^ (56 - 8 * l) ≡ number 0 (take l p)
word-shr l p full h short =
    let n = from_be_bytes w64 p in
    let rest : length (drop l p) ≡ 8 - l = omega (arith, length-drop l p) in
    let e : 8 + (56 - 8 * l) ≡ 8 * length (drop l p) = omega arith in
    shr-shr n 8 (56 - 8 * l) ∙ ap (λ k. n / 2 ^ k) e ∙ ap (λ x. x / 2 ^ (8 * length (drop l p))) (word-number p full ∙ sym (number_split 0 l p)) ∙ number-shr (number 0 (take l p)) (drop l p) (Bytes-drop l p h)

-- two words agree in their first bytes where the shifts leave the same
words_begin : (l : ℕ) (p q : List ℕ) → length p ≡ 8 → length q ≡ 8 → Bytes p → Bytes q → l ≤ 7 → from_be_bytes w64 p / 256 / 2 ^ (56 - 8 * l) ≡ from_be_bytes w64 q / 256 / 2 ^ (56 - 8 * l) → take l p ≡ take l q
words_begin l p q fp fq hp hq short e =
    let lp : length (take l p) ≡ l = length-take-le l p (omega arith) in
    let lq : length (take l q) ≡ l = length-take-le l q (omega arith) in
    (same_numbers 0 0 (take l p) (take l q) (Bytes-take l p hp) (Bytes-take l q hq) (omega arith) (sym (word-shr l p fp hp short) ∙ e ∙ word-shr l q fq hq short)).1

-- the remainders that `to_be_bytes` writes
abbrev remainders : List ℕ → List ℕ
remainders [] = []
remainders (n ∷ ns) = n % 256 ∷ remainders ns

Bytes-remainders : (ns : List ℕ) → Bytes (remainders ns)
Bytes-remainders [] k = omega arith
Bytes-remainders (n ∷ ns) zero = omega arith
Bytes-remainders (n ∷ ns) (suc k) = Bytes-remainders ns k

Bytes-word : (n : ℕ) → Bytes (to_be_bytes w64 n)
Bytes-word n = Bytes-remainders (n / 72057594037927936 ∷ n / 281474976710656 ∷ n / 1099511627776 ∷ n / 4294967296 ∷ n / 16777216 ∷ n / 65536 ∷ n / 256 ∷ n ∷ [])

-- what `begin_alike` compares decides whether the first bytes are the same
pub shifts_alike : (l key word : ℕ) (bytes : List ℕ) → length bytes ≡ 8 → Bytes bytes → l ≤ 7 → key < 2 ^ 64 → word ≡ from_be_bytes w64 bytes
    → IsTrue (nat_eq (word / 256 / 2 ^ (56 - 8 * l)) (key / 256 / 2 ^ (56 - 8 * l))) ↔ (take l bytes ≡ take l (to_be_bytes w64 key))
shifts_alike l key word bytes full h short fits is =
    let ks = to_be_bytes w64 key in
    let shift = λ (n : ℕ). n / 256 / 2 ^ (56 - 8 * l) in
    let key-is = ap shift (from_be_bytes-to_be_bytes_8 key fits) in (
      λ t. words_begin l bytes ks full refl h (Bytes-word key) short (ap shift (sym is) ∙ eqb-true (shift word) (shift key) t ∙ sym key-is),
      λ e. eq-eqb (shift word) (shift key) (ap shift is ∙ word-shr l bytes full h short ∙ ap (number 0) e ∙ sym (word-shr l ks refl (Bytes-word key) short) ∙ key-is),
    )

-- as a prefix of that length
pub alike_begins : {R : Type 0} (l : ℕ) (bytes ks prefix : List ℕ) → length bytes ≡ 8 → l ≤ 7 → take l bytes ≡ prefix → R ↔ (take l bytes ≡ take l ks) → R ↔ (take (length prefix) ks ≡ prefix)
alike_begins l bytes ks prefix full short is h =
    let long : length prefix ≡ l = ap length (sym is) ∙ length-take-le l bytes (omega arith) in
    let same = ap (λ n. take n ks) long in
    ((λ r. same ∙ sym (h.0 r) ∙ is), λ e. h.1 (is ∙ sym e ∙ same))

-- the number of the first bytes, and zeros after them
number-append : (n : ℕ) (p q : List ℕ) → number n (p ++ q) ≡ number (number n p) q
number-append n [] q = refl
number-append n (b ∷ p) q = number-append (n * 256 + b) p q

number-zeros : (n k : ℕ) → number n (replicate k 0) ≡ n * 2 ^ (8 * k)
number-zeros n zero = omega arith
number-zeros n (suc k) =
    let e : 8 * suc k ≡ 8 + 8 * k = omega arith in
    let rest = number-zeros (n * 256 + 0) k in
    rest ∙ rw (e, pow-add 2 8 (8 * k)) (omega arith)

pub word-cleared : (l word : ℕ) (bytes : List ℕ) → length bytes ≡ 8 → Bytes bytes → l ≤ 7 → word ≡ from_be_bytes w64 bytes → word < 2 ^ 64
    → word / 256 / 2 ^ (56 - 8 * l) * 2 ^ (56 - 8 * l) % 2 ^ 64 * 256 % 2 ^ 64 ≡ from_be_bytes w64 (take l bytes ++ replicate (8 - l) 0)
word-cleared l word bytes full h short is fits =
    let k = 56 - 8 * l in
    let first = number 0 (take l bytes) in
    let begin : word / 256 / 2 ^ k ≡ first = ap (λ n. n / 256 / 2 ^ k) is ∙ word-shr l bytes full h short in
    let split = shr_split (word / 256) k in
    let small : first * 2 ^ k < 2 ^ 56 = omega (arith, ap (λ n. n * 2 ^ k) (sym begin), split) in
    let long : length (take l bytes ++ replicate (8 - l) 0) ≡ 8 = simp (length-append, length-replicate) (omega (arith, length-take-le l bytes (omega arith))) in
    let e : 8 * (8 - l) ≡ 8 + k = omega arith in
    let value : from_be_bytes w64 (take l bytes ++ replicate (8 - l) 0) ≡ first * 2 ^ k * 256 =
    word-number (take l bytes ++ replicate (8 - l) 0) long ∙ number-append 0 (take l bytes) (replicate (8 - l) 0) ∙ number-zeros first (8 - l) ∙ rw (e, pow-add 2 8 k) (omega arith) in
    let inner : word / 256 / 2 ^ k * 2 ^ k % 2 ^ 64 ≡ first * 2 ^ k = ap (λ n. n * 2 ^ k % 2 ^ 64) begin ∙ mod-eq_of_lt (omega (arith, small)) in
    ap (λ n. n * 256 % 2 ^ 64) inner ∙ mod-eq_of_lt (omega (arith, small)) ∙ sym value

pub cleared_prefix : (l : ℕ) (bytes prefix : List ℕ) → length bytes ≡ 8 → l ≤ 7 → take l bytes ≡ prefix → from_be_bytes w64 (take l bytes ++ replicate (8 - l) 0) ≡ from_be_bytes w64 (prefix ++ replicate (8 - length prefix) 0)
cleared_prefix l bytes prefix full short is =
    let long : length prefix ≡ l = ap length (sym is) ∙ length-take-le l bytes (omega arith) in
    ap (λ p. from_be_bytes w64 (p ++ replicate (8 - l) 0)) is ∙ ap (λ n. from_be_bytes w64 (prefix ++ replicate (8 - n) 0)) (sym long)
