-- Lists of bytes that begin with others, and the bytes of keys.
use Rattle.std.proofs.Common.{◌≡◌, ℕ, ◌+◌, ◌^◌, ◌<◌, ◌≤◌, Bool, true, false, List, [], ◌∷◌, ◌++◌, length, get_or, ◌⊎◌, inl, inr, sym, refl, ap, ◌∙◌, subst, arith, length-append, append-nil}
use Rattle.spec_node.specs.Key.{begins, Begins, next_byte, key_number}
use Rattle.node_table.proofs.BeginLaws.{after, begins_append}
use Rattle.node_table.proofs.KeyLaws.{goes_on, key_number_at, Begins-snoc}
use Rattle.spec_olc.specs.Calls.{bytes_of}
use Rattle.olc_state.proofs.Ways.{length-begins, Begins-both, Begins-trans, get_or-begins}
use Rattle.olc_state.proofs.Reaching.{bytes-of_key, key-of_bytes, last-byte}

byte-here : (p : List ℕ) (b : ℕ) (r : List ℕ) → get_or (p ++ b ∷ r) (length p) 0 ≡ b
byte-here [] b r = refl
byte-here (x ∷ p) b r = byte-here p b r

begins-rest : (p r k : List ℕ) → k ≡ p ++ r → length p < length k → Begins (p ++ next_byte p k ∷ []) k
begins-rest p [] k e h =
    let same : length k ≡ length p = ap length (e ∙ append-nil p) in absurd (omega arith)
begins-rest p (b ∷ r) k e h =
    let at : next_byte p k ≡ b = ap (λ z. get_or z (length p) 0) e ∙ byte-here p b r in
    subst (λ z. Begins (p ++ z ∷ []) k) (sym at) (Begins-snoc p b r k e)

-- a longer list goes on by its next byte, and by no other
pub begins_on : (p k : List ℕ) → Begins p k → length p < length k → Begins (p ++ next_byte p k ∷ []) k
begins_on p k b h = let a = after b in begins-rest p a.rest k a.is h

pub byte_after : (p : List ℕ) (b : ℕ) (k : List ℕ) → Begins (p ++ b ∷ []) k → next_byte p k ≡ b
byte_after p b k h =
    let grown : length (p ++ b ∷ []) ≡ length p + 1 = length-append p (b ∷ []) in
    sym (get_or-begins (p ++ b ∷ []) k (length p) h (omega arith)) ∙ last-byte p b

-- and begins with what comes before that byte
pub begins_before : (p : List ℕ) (b : ℕ) (k : List ℕ) → Begins (p ++ b ∷ []) k → Begins p k
begins_before p b k h = Begins-trans p (p ++ b ∷ []) k (begins_append p (b ∷ [])) h

-- two beginnings of one list: the longer goes on as the list does
pub begins_next : (p q k : List ℕ) → Begins p k → Begins q k → length p < length q → Begins (p ++ next_byte p k ∷ []) q
begins_next p q k b c h =
    let within : length q ≤ length k = length-begins q k c in
    let grown : length (p ++ next_byte p k ∷ []) ≡ length p + 1 = length-append p (next_byte p k ∷ []) in
    Begins-both (p ++ next_byte p k ∷ []) q k (begins_on p k b (omega arith)) c (omega arith)

pub snoc_length : (p : List ℕ) (b : ℕ) → length (p ++ b ∷ []) ≡ length p + 1
snoc_length p b = length-append p (b ∷ [])

-- a list begins with another, or it doesn't
begins-or : (p q : List ℕ) (b : Bool) → begins p q ≡ b → Begins p q ⊎ (Begins p q → ⊥)
begins-or p q true e = inl (record { holds = e })
begins-or p q false e = inr (λ h. let holds : begins p q ≡ true = h.holds in cc)

pub begins_or : (p q : List ℕ) → Begins p q ⊎ (Begins p q → ⊥)
begins_or p q = begins-or p q (begins p q) refl

-- two beginnings of one length are one
same-front : (p q x y : List ℕ) → p ++ x ≡ q ++ y → length p ≡ length q → p ≡ q
same-front [] [] x y e l = refl
same-front [] (b ∷ q) x y e l = absurd (omega (arith, l))
same-front (a ∷ p) [] x y e l = absurd (omega (arith, l))
same-front (a ∷ p) (b ∷ q) x y e l =
    let head : a ≡ b = cc in
    let tail : p ++ x ≡ q ++ y = cc in
    let rest : p ≡ q = same-front p q x y tail (omega (arith, l)) in cc

pub same_beginning : (p q k : List ℕ) → Begins p k → Begins q k → length p ≡ length q → p ≡ q
same_beginning p q k b c l =
    let x = after b in
    let y = after c in
    same-front p q x.rest y.rest (sym x.is ∙ y.is) l

-- the byte of a key is a byte
pub key_byte : (p : List ℕ) (key : ℕ) → Begins p (bytes_of key) → length p ≤ 7 → next_byte p (bytes_of key) < 256
key_byte p key b h = (goes_on p (bytes_of key) b (bytes-of_key key) h refl).byte

-- two keys that go the same way at a leaf are one
pub same_key : (p : List ℕ) (key other : ℕ) → length p ≡ 7 → Begins p (bytes_of key) → Begins p (bytes_of other) → next_byte p (bytes_of other) ≡ next_byte p (bytes_of key)
    → key < 2 ^ 64 → other < 2 ^ 64 → other ≡ key
same_key p key other full begins also byte small little =
    let on = goes_on p (bytes_of key) begins (bytes-of_key key) (omega (arith, full)) refl in
    let off = goes_on p (bytes_of other) also (bytes-of_key other) (omega (arith, full)) refl in
    let split : bytes_of key ≡ p ++ next_byte p (bytes_of key) ∷ [] = key_number_at p (bytes_of key) (next_byte p (bytes_of key)) on.begins full refl in
    let apart : bytes_of other ≡ p ++ next_byte p (bytes_of other) ∷ [] = key_number_at p (bytes_of other) (next_byte p (bytes_of other)) off.begins full refl in
    let same : bytes_of other ≡ bytes_of key = apart ∙ (ap (λ b. p ++ b ∷ []) byte ∙ sym split) in
    sym (key-of_bytes other little) ∙ (ap key_number same ∙ key-of_bytes key small)
