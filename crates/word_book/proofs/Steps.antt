-- The ghost side of a step, of a new seat and of a new book. Assumes `Logic`.
use Rattle.std.proofs.Common.{◌≡◌, ◌≢◌, ℕ, ◌+◌, ◌<◌, ◌≤◌, List, [], ◌∷◌, ◌++◌, length, set, sym, refl, arith, length-set}
use mathlib.Core.Option as maybe
use lib.ListN.{get_elem?, replicate}
use seplogic.Ra.Ura.{Ura}
use base.Fraction.{full_share}
use base.Share.{quarter, three_quarters}
use base.Stored.{Coded, coded_ℕ}
use base.Logic.{SProp, ent, sep, ex, all, upd, emp, id⊢, via, all_e, upd_i}
use base.Fml.{Lft, Share, Fml, ftrue, fsep, fex, flft, fbor, finv, fnamed}
use types.Logic.{Logic, sem}
use types.Owned.{basic, named_past}
use types.Keyed.{entries_new, entries_take}
use types.Kit.{‵, raw, ◌⊛◌, some, given, later, mean, ◌$◌, ◌∵◌, !, qed, by, move, drop, split, fsplit, fsplit3, fjoin, fjoin3, fpick, fpack, pick, learn, show, frame, each, assume, suffices, settle, done, use0, use1, use2, rewrite, updating, await, now}
use denote.RawPtr.{block_ptr}
use denote.Steps.{nothing}
use Rattle.core.specs.Sync.RawAtomic.{word, asks, always}
use Rattle.core.proofs.raw_atomic.Asked.{borrowed_with, LiesWith, AgainWith}
use Rattle.atomic_table.specs.Seated.{halved, seen, unused, roster, seal}
use Rattle.atomic_table.proofs.Lists.{set_again}
use Rattle.atomic_table.proofs.Roster.{resets, apart, Moved, moves, Joined, joins}
use Rattle.word_book.specs.Book as book
use Rattle.word_book.specs.Book.{Book, Name, name, State, joined, grown, Enters, Meets}
use Rattle.word_book.specs.inner.Owned.{part, numbers, pens_own, standing, contents, view_at, stands, seat_owns, seat_shows, lies, reading}
use Rattle.word_book.proofs.Asks.{Moves}
use Rattle.word_book.proofs.Cells.{first_words, more_words, rights_at}

module _ {M : Type 1} {𝓤 : Ura M} (𝓛 : Logic 𝓤) {V : Type 0} (cv : Coded V) (holds : State V → Type 0) where
  open 𝓛 use {H, A as At}

  abbrev pub Room : ℕ → ℕ → Fml
  Room γ δ = contents cv.code holds γ δ

  module _ (b : Book) where
    abbrev γ : ℕ
    γ = b.views_name

    abbrev δ : ℕ
    δ = b.words_name

    abbrev J : Fml
    J = Room γ δ

    -- the book stands
    abbrev pub N : Fml
    N = stands cv.code holds b

    -- a seat
    abbrev pub K : ℕ → V → Fml
    K id v = seat_owns cv.code holds b id v

    abbrev view : ℕ → V → Fml
    view id v = view_at cv.code b id v

    pub parted : (id : ℕ) (v : V) → ent 𝓤 (sem 𝓛 (K id v)) (sep 𝓤 (sem 𝓛 N) (sem 𝓛 (view id v)))
    unfolding Rattle.atomic_table.specs.Seated.seal
    parted id v = id⊢ 𝓤 _

    pub seated : (id : ℕ) (v : V) → ent 𝓤 (sep 𝓤 (sem 𝓛 N) (sem 𝓛 (view id v))) (sem 𝓛 (K id v))
    unfolding Rattle.atomic_table.specs.Seated.seal
    seated id v = id⊢ 𝓤 _

    pub shown_stands : (κ : Lft) → ent 𝓤 (sem 𝓛 (seat_shows cv.code holds b κ)) (sem 𝓛 N)
    unfolding Rattle.atomic_table.specs.Seated.seal
    shown_stands κ = id⊢ 𝓤 _

    abbrev pub Come : V → ℕ → SProp 𝓤
    Come v id = sem 𝓛 (K id v)

    pub enters : (v : V) → Enters holds v → ent 𝓤 (sem 𝓛 N) (H.⇛ (ex 𝓤 (Come v)))
    enters v law =
        let Z : SProp 𝓤 = ex 𝓤 (Come v) in
        qed 𝓛 (‵ N ∷ []) ∵ use1 𝓛 (‵ N ⊛ ‵ N) (𝓛.invs.named_dup b.number J) $ split ! $ use1 𝓛 (‵ (finv J)) (𝓛.invs.named_inv b.number J) $
        suffices ! _ (𝓛.invs.inv_acc J Z) $ frame ! $ assume ! (‵ J) $ fpick ! (λ s. fsplit3 ! $ move ! (2 ∷ []) $ fpick ! (λ so. drop ! $ move ! (1 ∷ []) $
        use1 𝓛 (raw (upd 𝓤 (ex 𝓤 (Joined 𝓛 cv γ 0 s.views v)))) (joins 𝓛 cv γ s.views 0 v) $ settle 𝓛 (sep 𝓤 (sem 𝓛 J) Z) (some (λ (j : ℕ). ‵ (roster cv.code γ 0 (s.views ++ v ∷ [])) ⊛ ‵ (view j v))) $
        pick ! (λ j. split ! $
        -- [all views; the new one; the numbers; that the book stands]
        let t : State V = record { words = s.words; views = s.views ++ v ∷ [] } in
        suffices ! _ (upd_i 𝓤 (sep 𝓤 (sem 𝓛 J) Z)) $ nothing ! $ fpack ! (holds t) (λ _. ftrue) (law s so) $ move ! (3 ∷ 1 ∷ 0 ∷ []) $ fjoin3 ! $
        fpack ! (State V) (standing cv.code holds γ δ) t $ frame ! $ show ! (Come v) j $ move ! (1 ∷ 0 ∷ []) $ by ! (seated j v))))

    -- two seats, by what each knows now
    abbrev both : ℕ → ℕ → (V → V → Type 0) → V × V → Fml
    both i j told t = fsep (Rattle.atomic_table.specs.Seated.fact (told t.0 t.1)) (fsep (K i t.0) (K j t.1))

    abbrev pub Both : ℕ → ℕ → (V → V → Type 0) → Fml
    Both i j told = fex (V × V) (both i j told)

    abbrev pub met : ℕ → ℕ → V → V → (V → V → V → V → Type 0) → V → V → Type 0
    met i j v w then v' w' = (i ≢ j) × then v w v' w'

    module _ (i j : ℕ) (v w : V) (then : V → V → V → V → Type 0) where
      abbrev views_of : List V → ℕ → SProp 𝓤
      views_of vs k = all 𝓤 (Moved 𝓛 cv γ 0 vs k k)

      pub meets : Meets holds then i v j w → ent 𝓤 (sep 𝓤 (sem 𝓛 (K i v)) (sem 𝓛 (K j w))) (H.⇛ (sem 𝓛 (Both i j (met i j v w then))))
      meets law =
          let Z : SProp 𝓤 = sem 𝓛 (Both i j (met i j v w then)) in let Y : SProp 𝓤 = sep 𝓤 (sem 𝓛 J) Z in
          qed 𝓛 (‵ (K i v) ∷ ‵ (K j w) ∷ []) ∵ use1 𝓛 (‵ N ⊛ ‵ (view i v)) (parted i v) $ split ! $ move ! (2 ∷ []) $ use1 𝓛 (‵ N ⊛ ‵ (view j w)) (parted j w) $ split ! $
          use1 𝓛 (‵ N ⊛ ‵ N) (𝓛.invs.named_dup b.number J) $ split ! $ use1 𝓛 (‵ (finv J)) (𝓛.invs.named_inv b.number J) $
          suffices ! _ (𝓛.invs.inv_acc J Z) $ frame ! $ assume ! (‵ J) $ fpick ! (λ s. fsplit3 ! $ move ! (2 ∷ []) $ fpick ! (λ so. drop ! $
          -- [the numbers; the views; that the book stands; the second view; that it stands; the first view]
          move ! (5 ∷ 3 ∷ []) $ use2 𝓛 (given (¬ (j ≡ i)) (‵ (view i v) ⊛ ‵ (view j w))) (apart 𝓛 cv γ i j v w) $ learn ! (λ ne. split ! $
          move ! (3 ∷ 0 ∷ []) $ use2 𝓛 (given (get_elem? s.views i ≡ maybe.some v) (raw (views_of s.views i))) (moves 𝓛 cv γ s.views 0 i i v (omega arith)) $ learn ! (λ first.
          use1 𝓛 (raw (Moved 𝓛 cv γ 0 s.views i i v)) (all_e 𝓤 (Moved 𝓛 cv γ 0 s.views i i) v) $ settle 𝓛 Y (‵ (roster cv.code γ 0 (set s.views i v)) ⊛ ‵ (view i v)) $ split ! $
          rewrite ! 0 (λ (l : List V). ‵ (roster cv.code γ 0 l)) (set_again s.views i v first) refl $
          -- [the views; the first view; the second; the numbers; that the book stands, twice]
          move ! (0 ∷ 2 ∷ []) $ use2 𝓛 (given (get_elem? s.views j ≡ maybe.some w) (raw (views_of s.views j))) (moves 𝓛 cv γ s.views 0 j j w (omega arith)) $ learn ! (λ second.
          let r = law s so first second (λ e. ne (sym e)) in let v' : V = r.0 in let w' : V = r.1 in let vs : List V = set s.views j w' in
          let t : State V = record { words = s.words; views = set vs i v' } in
          use1 𝓛 (raw (Moved 𝓛 cv γ 0 s.views j j w')) (all_e 𝓤 (Moved 𝓛 cv γ 0 s.views j j) w') $ settle 𝓛 Y (‵ (roster cv.code γ 0 vs) ⊛ ‵ (view j w')) $ split ! $
          move ! (0 ∷ 2 ∷ []) $ use2 𝓛 (given (get_elem? vs i ≡ maybe.some v) (raw (views_of vs i))) (moves 𝓛 cv γ vs 0 i i v (omega arith)) $ learn ! (λ _.
          use1 𝓛 (raw (Moved 𝓛 cv γ 0 vs i i v')) (all_e 𝓤 (Moved 𝓛 cv γ 0 vs i i) v') $ settle 𝓛 Y (‵ (roster cv.code γ 0 (set vs i v')) ⊛ ‵ (view i v')) $ split ! $
          -- [the views; the first view; the second; the numbers; that the book stands, twice]
          suffices ! _ (upd_i 𝓤 Y) $ nothing ! $ fpack ! (holds t) (λ _. ftrue) r.2 $ move ! (4 ∷ 1 ∷ 0 ∷ []) $ fjoin3 ! $ fpack ! (State V) (standing cv.code holds γ δ) t $ frame ! $
          move ! (2 ∷ 0 ∷ []) $ use2 𝓛 (‵ (K i v')) (seated i v') $ move ! (2 ∷ 1 ∷ []) $ use2 𝓛 (‵ (K j w')) (seated j w') $ move ! (1 ∷ 0 ∷ []) $
          nothing ! $ fpack ! (met i j v w then v' w') (λ _. ftrue) ((λ e. ne (sym e)), r.3) $ fjoin3 ! $ fpack ! (V × V) (both i j (met i j v w then)) (v', w') $ done !))))))

    module _ (k bl of : ℕ) (κ : Lft) (q : Share) (i : ℕ) (id : ℕ) (v : V) (f : ℕ → ℕ) (then : ℕ → book.Joined → V → Type 0) where
      abbrev I : Fml
      I = reading (name k b) bl of

      abbrev pub next : ℕ → V × book.Joined → Fml
      next n t = fsep (Rattle.atomic_table.specs.Seated.fact (then n t.1 t.0)) (fsep (K id t.0) (pens_own δ t.1.first t.1.count))

      abbrev pub after : ℕ → Fml
      after n = fex (V × book.Joined) (next n)

      abbrev views_move : State V → ℕ → SProp 𝓤
      views_move s j = all 𝓤 (Moved 𝓛 cv γ 0 s.views j j)

      abbrev words_move : State V → ℕ → SProp 𝓤
      words_move s j = all 𝓤 (Moved 𝓛 coded_ℕ δ 0 s.words j j)

      -- all that is there once the number n was found
      abbrev Found : ℕ → SProp 𝓤
      Found n = LiesWith 𝓛 κ q I bl of f always after J n

      found : Moves holds id v k f then → ent 𝓤 (sep 𝓤 (sem 𝓛 I) (sep 𝓤 (sem 𝓛 J) (sep 𝓤 (sem 𝓛 N) (sem 𝓛 (view id v))))) (upd 𝓤 (ex 𝓤 Found))
      found law =
          qed 𝓛 (‵ I ∷ ‵ J ∷ ‵ N ∷ ‵ (view id v) ∷ []) ∵ suffices ! _ (upd_i 𝓤 (ex 𝓤 Found)) $ fpick ! (λ n. fsplit ! $
          move ! (2 ∷ []) $ fpick ! (λ s. fsplit3 ! $ move ! (2 ∷ []) $ fpick ! (λ so. drop ! $
          -- [the numbers; the views; the word; its part; that the book stands; the view]
          move ! (1 ∷ 5 ∷ []) $ use2 𝓛 (given (get_elem? s.views id ≡ maybe.some v) (raw (views_move s id))) (moves 𝓛 cv γ s.views 0 id id v (omega arith)) $ learn ! (λ seat.
          move ! (1 ∷ 3 ∷ []) $ use2 𝓛 (given (get_elem? s.words k ≡ maybe.some n) (raw (words_move s k))) (moves 𝓛 coded_ℕ δ s.words 0 k k n (omega arith)) $ learn ! (λ there.
          let r = law s n so seat there in let w : V = r.0 in let m : ℕ = r.1 in let x : ℕ = f n in let l : ℕ = length s.words in
          let ws : List ℕ = set s.words k x in let t : State V = grown s k x id w m in let Z : SProp 𝓤 = sep 𝓤 (sem 𝓛 I) (sep 𝓤 (sem 𝓛 J) (sem 𝓛 (after n))) in
          let long : l ≡ 0 + length ws = (let e : length ws ≡ l = length-set s.words k x in omega arith) in
          move ! (2 ∷ []) $ show ! Found n $ frame ! $ each ! (λ (_ : Unit {0}). AgainWith 𝓛 κ q I bl of f always after J n) (λ _.
          -- [how the numbers move; how the views do; that the book stands]
          use1 𝓛 (raw (Moved 𝓛 coded_ℕ δ 0 s.words k k x)) (all_e 𝓤 (Moved 𝓛 coded_ℕ δ 0 s.words k k) x) $ assume ! (‵ (word bl of x)) $ move ! (1 ∷ []) $
          settle 𝓛 Z (‵ (numbers δ 0 ws) ⊛ ‵ (part δ k x)) $ split ! $
          use1 𝓛 (raw (upd 𝓤 (sep 𝓤 (sem 𝓛 (numbers δ 0 t.words)) (sem 𝓛 (pens_own δ l m))))) (more_words 𝓛 δ ws m 0 l long) $ settle 𝓛 Z (‵ (numbers δ 0 t.words) ⊛ ‵ (pens_own δ l m)) $ split ! $
          move ! (4 ∷ []) $ use1 𝓛 (raw (Moved 𝓛 cv γ 0 s.views id id w)) (all_e 𝓤 (Moved 𝓛 cv γ 0 s.views id id) w) $ settle 𝓛 Z (‵ (roster cv.code γ 0 t.views) ⊛ ‵ (view id w)) $ split ! $
          -- [the views; the view; the numbers; the rights; the word's part; the word; that the book stands]
          suffices ! _ (upd_i 𝓤 Z) $ move ! (5 ∷ 4 ∷ []) $ fjoin ! $ fpack ! ℕ (lies (name k b) bl of) x $ frame ! $
          nothing ! $ fpack ! (holds t) (λ _. ftrue) r.2 $ move ! (3 ∷ 1 ∷ 0 ∷ []) $ fjoin3 ! $ fpack ! (State V) (standing cv.code holds γ δ) t $ frame ! $
          move ! (1 ∷ []) $ use1 𝓛 (‵ (pens_own δ r.3.0 m)) (rights_at 𝓛 δ m l r.3.0 r.3.1) $ move ! (2 ∷ 1 ∷ []) $ use2 𝓛 (‵ (K id w)) (seated id w) $
          nothing ! $ fpack ! (then n (joined r.3.0 m) w) (λ _. ftrue) r.3.2 $ fjoin3 ! $ fpack ! (V × book.Joined) (next n) (w, joined r.3.0 m) $ done !))))))

      pub steps : b.number < i → Moves holds id v k f then → ent 𝓤 (sep 𝓤 (At.named i (fbor κ I)) (sep 𝓤 (At.lft κ q) (sem 𝓛 (K id v)))) (asks 𝓛 (block_ptr bl of) f always (λ n. fsep (flft κ q) (after n)))
      steps past law =
          qed 𝓛 (‵ (fnamed i (fbor κ I)) ∷ ‵ (flft κ q) ∷ ‵ (K id v) ∷ []) ∵ move ! (2 ∷ []) $ use1 𝓛 (‵ N ⊛ ‵ (view id v)) (parted id v) $ split ! $
          use1 𝓛 (‵ N ⊛ ‵ N) (𝓛.invs.named_dup b.number J) $ split ! $ move ! (3 ∷ 0 ∷ 4 ∷ []) $
          by ! (borrowed_with 𝓛 κ q I bl of f always after i b.number J (λ (e : b.number ≡ i). omega arith) (mean 𝓛 (‵ N ⊛ ‵ (view id v))) (found law))

  -- the book of these names, with this limit: what seats and rights own doesn't go by it
  abbrev pub limited : Book → ℕ → Book
  limited b limit = record { number = b.number; views_name = b.views_name; words_name = b.words_name; limit = limit }

  module _ (v : V) (n : ℕ) where
    abbrev pub Begun : Book → SProp 𝓤
    Begun b = sep 𝓤 (sem 𝓛 (seat_owns cv.code holds b 0 v)) (sem 𝓛 (pens_own b.words_name 0 n))

    pub begins : holds record { words = replicate n 0; views = v ∷ [] } → ent 𝓤 (emp 𝓤) (H.⇛ (ex 𝓤 Begun))
    begins so =
        let s : State V = record { words = replicate n 0; views = v ∷ [] } in
        qed 𝓛 [] ∵ updating ! $
        use0 𝓛 (later (some (λ (δ : ℕ). ‵ (unused coded_ℕ.code δ 0 0)))) (via 𝓤 _ (entries_new halved 𝓛 0 (λ _. (full_share, coded_ℕ.code 0))) (basic 𝓛 _)) $ await ! tt $ pick ! (λ δ.
        fpack ! ℕ (unused coded_ℕ.code δ 0) 0 $ use1 𝓛 (later (‵ (numbers δ 0 s.words) ⊛ ‵ (pens_own δ 0 n))) (via 𝓤 _ (first_words 𝓛 δ n 0) (basic 𝓛 _)) $ await ! tt $ split ! $
        use0 𝓛 (later (some (λ (γ : ℕ). ‵ (unused cv.code γ 0 v)))) (via 𝓤 _ (entries_new halved 𝓛 0 (λ _. (full_share, cv.code v))) (basic 𝓛 _)) $ await ! tt $ pick ! (λ γ.
        use1 𝓛 (‵ (seen cv.code γ 0 full_share v) ⊛ ‵ (unused cv.code γ 1 v)) (entries_take halved 𝓛 γ 0 (λ _. (full_share, cv.code v))) $ split ! $
        use1 𝓛 (later (‵ (seen cv.code γ 0 quarter v) ⊛ ‵ (seen cv.code γ 0 three_quarters v))) (via 𝓤 _ (resets 𝓛 cv γ 0 v v) (basic 𝓛 _)) $ await ! tt $ split ! $
        -- [the book's part of the view; the seat's; no other views; the numbers; the rights]
        move ! (2 ∷ []) $ fpack ! V (unused cv.code γ 1) v $ move ! (1 ∷ 0 ∷ []) $ fjoin ! $ nothing ! $ fpack ! (holds s) (λ _. ftrue) so $ move ! (3 ∷ 1 ∷ 0 ∷ []) $ fjoin3 ! $
        fpack ! (State V) (standing cv.code holds γ δ) s $
        use1 𝓛 (later (some (λ (j : ℕ). given (0 ≤ j) (‵ (fnamed j (Room γ δ)))))) (named_past 𝓛 0 (Room γ δ)) $ await ! tt $ pick ! (λ j. learn ! (λ _.
        let b : Book = record { number = j; views_name = γ; words_name = δ; limit = 0 } in
        use2 𝓛 (‵ (seat_owns cv.code holds b 0 v)) (seated b 0 v) $ now ! $ show ! Begun b $ done !))))
