-- Bytes that go out, or come in, one part after another.
use Rattle.std.proofs.Common.{◌≡◌, ℕ, ◌+◌, ◌<◌, List, [], ◌∷◌, ◌++◌, Option, Some, None, length, take, drop, get_or, refl, sym, ap, ◌∙◌, append_assoc, append-nil}
use Rattle.std.specs.List.{flat_map}
use Rattle.std.proofs.lemmas.List.{take-append-drop, take_more, flat_map_more}
use Rattle.std.proofs.lemmas.List.Concat.{flat_map-append}
use Rattle.std.specs.Io.KnownBytes.{Appends, Keeps, Consumes}
use Rattle.spec_text.specs.Bytes.{Sends}
use Rattle.spec_text.specs.Lines.{ended}

pub appends_none : (o : Option (List ℕ)) → Appends o o []
appends_none None = tt
appends_none (Some xs) = sym (append-nil xs)

pub appends_kept : (o p : Option (List ℕ)) → Keeps o p → Appends o p []
appends_kept None p k = tt
appends_kept (Some xs) None k = absurd k
appends_kept (Some xs) (Some ys) k = k ∙ sym (append-nil xs)

pub appends_more : (o p q : Option (List ℕ)) (a b : List ℕ) → Appends o p a → Appends p q b → Appends o q (a ++ b)
appends_more None p q a b h k = tt
appends_more (Some xs) None q a b h k = absurd h
appends_more (Some xs) (Some ys) None a b h k = absurd k
appends_more (Some xs) (Some ys) (Some zs) a b h k = k ∙ ap (λ ws. ws ++ b) h ∙ append_assoc xs a b

pub consumes_kept : (o p : Option (List ℕ)) → Keeps o p → Consumes o p []
consumes_kept None p k = tt
consumes_kept (Some xs) None k = absurd k
consumes_kept (Some xs) (Some ys) k = sym k

pub consumes_more : (o p q : Option (List ℕ)) (a b : List ℕ) → Consumes o p a → Consumes p q b → Consumes o q (a ++ b)
consumes_more None p q a b h k = tt
consumes_more (Some xs) None q a b h k = absurd h
consumes_more (Some xs) (Some ys) None a b h k = absurd k
consumes_more (Some xs) (Some ys) (Some zs) a b h k = h ∙ ap (λ ws. a ++ ws) k ∙ sym (append_assoc a b zs)

-- what was left of a first part goes out with a second one
pub sends_more : {o p q : Option (List ℕ)} {all left rest : List ℕ} (more : List ℕ) → Sends o p all left → Sends p q (left ++ more) rest → Sends o q (all ++ more) rest
sends_more {o} {p} {q} {all} {left} {rest} more h k = record {
  sent = h.sent ++ k.sent;
  grows = appends_more o p q h.sent k.sent h.grows k.grows;
  splits = ap (λ ws. ws ++ more) h.splits ∙ append_assoc h.sent left more ∙ ap (λ ws. h.sent ++ ws) k.splits ∙ sym (append_assoc h.sent k.sent rest);
}

-- of what was left a part goes out
pub sends_on : {o p q : Option (List ℕ)} {all left rest : List ℕ} → Sends o p all left → Sends p q left rest → Sends o q all rest
sends_on {o} {p} {q} {all} {left} {rest} h k = record {
  sent = h.sent ++ k.sent;
  grows = appends_more o p q h.sent k.sent h.grows k.grows;
  splits = h.splits ∙ ap (λ ws. h.sent ++ ws) k.splits ∙ sym (append_assoc h.sent k.sent rest);
}

-- more that is left
pub sends_with : {o p : Option (List ℕ)} {all left : List ℕ} (more : List ℕ) → Sends o p all left → Sends o p (all ++ more) (left ++ more)
sends_with {o} {p} {all} {left} more h = record {
  sent = h.sent;
  grows = h.grows;
  splits = ap (λ ws. ws ++ more) h.splits ∙ append_assoc h.sent left more;
}

pub sends_kept : {o p q : Option (List ℕ)} {all left : List ℕ} → Sends o p all left → Keeps p q → Sends o q all left
sends_kept {o} {p} {q} {all} {left} h k = record {
  sent = h.sent;
  grows = rw (← append-nil h.sent) (appends_more o p q h.sent [] h.grows (appends_kept p q k));
  splits = h.splits;
}

pub sends_nothing : (o : Option (List ℕ)) (all : List ℕ) → Sends o o all all
sends_nothing o all = record { sent = []; grows = appends_none o; splits = refl }

-- the same bytes in other groups
pub sends_regrouped : {o p : Option (List ℕ)} {all all' left : List ℕ} → all ≡ all' → Sends o p all left → Sends o p all' left
sends_regrouped same h = record { sent = h.sent; grows = h.grows; splits = sym same ∙ h.splits }

-- a text of two parts and a line feed, behind what is sent
pub sends_line : {o p q : Option (List ℕ)} {left rest : List ℕ} (before head items text : List ℕ) → head ++ items ≡ text
    → Sends o p before left → Sends p q ((left ++ head) ++ items) rest → Sends o q (before ++ ended text) (rest ++ 10 ∷ [])
sends_line {o} {p} {q} {left} before head items text parts sent more =
    let both = sends_more (head ++ items) sent (sends_regrouped (append_assoc left head items) more) in
    sends_regrouped (append_assoc before (head ++ items) (10 ∷ []) ∙ ap (λ ws. before ++ ended ws) parts) (sends_with (10 ∷ []) both)

-- items behind one another: one more of them, and all that are left
module _ {X : Type 0} (text : X → List ℕ) where
  pub sends_item : {o p q : Option (List ℕ)} {left left' : List ℕ} (before : List ℕ) (xs : List X) (i : ℕ) (d : X) → i < length xs
      → Sends o p (before ++ flat_map text (take i xs)) left → Sends p q left left'
      → Sends o q (before ++ flat_map text (take (i + 1) xs)) (left' ++ text (get_or xs i d))
  sends_item before xs i d lt sent more =
      sends_regrouped (flat_map_more text before (take i xs) (get_or xs i d) ∙ ap (λ (ys : List X). before ++ flat_map text ys) (sym (take_more xs i d lt)))
      (sends_with (text (get_or xs i d)) (sends_on sent more))

  pub sends_items : {o p q : Option (List ℕ)} {left rest : List ℕ} (before : List ℕ) (xs : List X) (i : ℕ)
      → Sends o p (before ++ flat_map text (take i xs)) left → Sends p q left rest → Sends o q (before ++ flat_map text xs) (rest ++ flat_map text (drop i xs))
  sends_items before xs i sent more =
      let all : flat_map text (take i xs) ++ flat_map text (drop i xs) ≡ flat_map text xs =
      sym (flat_map-append text (take i xs) (drop i xs)) ∙ ap (flat_map text) (take-append-drop i xs) in
      sends_regrouped (append_assoc before (flat_map text (take i xs)) (flat_map text (drop i xs)) ∙ ap (λ ws. before ++ ws) all)
      (sends_with (flat_map text (drop i xs)) (sends_on sent more))
