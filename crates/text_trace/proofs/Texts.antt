-- The lines of the events, written one after another.
use Rattle.std.proofs.Common.{◌≡◌, ℕ, ◌+◌, ◌<◌, List, [], ◌∷◌, ◌++◌, Option, length, drop, slice_index_or, refl, sym, ap, subst, ◌∙◌, append_assoc, append-nil}
use Rattle.std.specs.List.{flat_map}
use Rattle.std.proofs.lemmas.List.{drop_more}
use Rattle.std.proofs.lemmas.List.Concat.{flat_map-append}
use Rattle.spec_map.specs.Map.{Pairs}
use Rattle.spec_text.specs.Bytes.{Sends}
use Rattle.spec_text.specs.Lines.{ended}
use Rattle.text_lines.proofs.Sending.{sends_on, sends_with}
use Rattle.spec_olc.specs.declared.trace.Decision.{Decision}
use Rattle.spec_olc.specs.declared.trace.Line.{Line}
use Rattle.spec_olc.specs.declared.types.Event.{Event}
use Rattle.spec_text.specs.Texts.{event_texts, decided_after, texts_of, content_text}
use Rattle.text_trace.specs.Detail.{map_after, event_lines, content_lines, lines_from, detailed_text}
use Rattle.text_trace.specs.declared.detail.Detail.{Detail}
use Rattle.text_trace.specs.declared.detail.Detail.TheVariants.{Outcomes, Events, Contents}
use Rattle.text_trace.specs.inner.Kept.{kept_after, text_after}

-- outcomes alone don't depend on numbers and maps
pub outcomes_are : (n : ℕ) (m : Pairs ℕ) (events : List (Event ℕ)) (lines : List Line) (ds : List Decision)
    → lines_from Outcomes n m events lines ds ≡ texts_of events lines ds
outcomes_are n m [] lines ds = refl
outcomes_are n m (event ∷ events) [] ds = refl
outcomes_are n m (event ∷ events) (line ∷ lines) ds =
    ap (λ (ts : List (List ℕ)). ts ++ lines_from Outcomes (n + 1) (map_after line ds m) events lines (decided_after line ds)) (append-nil (event_texts event line ds))
    ∙ ap (λ (ts : List (List ℕ)). event_texts event line ds ++ ts) (outcomes_are (n + 1) (map_after line ds m) events lines (decided_after line ds))

-- and lines of events don't depend on maps
without_maps : (n : ℕ) (m m' : Pairs ℕ) (events : List (Event ℕ)) (lines : List Line) (ds : List Decision)
    → lines_from Events n m events lines ds ≡ lines_from Events n m' events lines ds
without_maps n m m' [] lines ds = refl
without_maps n m m' (event ∷ events) [] ds = refl
without_maps n m m' (event ∷ events) (line ∷ lines) ds =
    ap (λ (ts : List (List ℕ)). event_lines Events n event line ds ++ ts) (without_maps (n + 1) (map_after line ds m) (map_after line ds m') events lines (decided_after line ds))

kept_is : (detail : Detail) (n : ℕ) (line : Line) (past : List Decision) (m : Pairs ℕ) (events : List (Event ℕ)) (lines : List Line) (ds : List Decision)
    → lines_from detail n (map_after line past m) events lines ds ≡ lines_from detail n (kept_after detail line past m) events lines ds
kept_is Outcomes n line past m events lines ds = outcomes_are n (map_after line past m) events lines ds ∙ sym (outcomes_are n m events lines ds)
kept_is Events n line past m events lines ds = without_maps n (map_after line past m) m events lines ds
kept_is Contents n line past m events lines ds = refl

-- from the empty map on
pub text_is : (detail : Detail) (events : List (Event ℕ)) (lines : List Line) (ds : List Decision) (content : Pairs ℕ)
    → text_after detail [] events lines ds content ≡ detailed_text detail events lines ds content
text_is Outcomes events lines ds content = ap (λ ts. flat_map ended ts ++ ended (content_text content)) (outcomes_are 1 [] events lines ds)
text_is Events events lines ds content = refl
text_is Contents events lines ds content = refl

-- the lines from an event on
abbrev pub told_from : Detail → ℕ → Pairs ℕ → List (Event ℕ) → List Line → List Decision → List ℕ
told_from detail i m events lines later = flat_map ended (lines_from detail (i + 1) m (drop i events) (drop i lines) later)

module _ (detail : Detail) (events : List (Event ℕ)) (lines : List Line) (i : ℕ) (some : i < length events) (more : i < length lines)
    (m : Pairs ℕ) (later : List Decision) (e : Event ℕ) (l : Line) where
  abbrev event : Event ℕ
  event = slice_index_or events i e

  abbrev line : Line
  line = slice_index_or lines i l

  abbrev pub told_event : List ℕ
  told_event = flat_map ended (event_lines detail (i + 1) event line later)

  abbrev pub told_content : List ℕ
  told_content = flat_map ended (content_lines detail line (map_after line later m))

  abbrev pub told_rest : List ℕ
  told_rest = told_from detail (i + 1) (kept_after detail line later m) events lines (decided_after line later)

  pub told_next : told_from detail i m events lines later ≡ (told_event ++ told_content) ++ told_rest
  told_next =
      let own = event_lines detail (i + 1) event line later in
      let content = content_lines detail line (map_after line later m) in
      let rest = lines_from detail (i + 1 + 1) (map_after line later m) (drop (i + 1) events) (drop (i + 1) lines) (decided_after line later) in
      ap (λ es. flat_map ended (lines_from detail (i + 1) m es (drop i lines) later)) (drop_more events i e some)
      ∙ ap (λ ls. flat_map ended (lines_from detail (i + 1) m (event ∷ drop (i + 1) events) ls later)) (drop_more lines i l more)
      ∙ flat_map-append ended (own ++ content) rest
      ∙ ap (λ ws. ws ++ flat_map ended rest) (flat_map-append ended own content)
      ∙ ap (λ ts. (told_event ++ told_content) ++ flat_map ended ts) (kept_is detail (i + 1 + 1) line later m (drop (i + 1) events) (drop (i + 1) lines) (decided_after line later))

  -- the lines of one more event are written, and then the content
  pub tells_event : {o p q : Option (List ℕ)} {all left left' new : List ℕ}
      → Sends o p all (left ++ told_from detail i m events lines later) → Sends p q left left'
      → new ≡ left' ++ told_event → Sends o q all ((new ++ told_content) ++ told_rest)
  tells_event {o} {p} {q} {all} {left} {left'} {new} sent made added =
      rw added (subst (λ (ws : List ℕ). Sends o q all ws)
      (ap (λ ws. left' ++ ws) told_next ∙ sym (append_assoc left' (told_event ++ told_content) told_rest) ∙ ap (λ ws. ws ++ told_rest) (sym (append_assoc left' told_event told_content)))
      (sends_on sent (sends_with (told_from detail i m events lines later) made)))

  pub tells_content : {o p q : Option (List ℕ)} {all new : List ℕ} {m' : Pairs ℕ} {later' : List Decision} (left : List ℕ)
      → Sends o p all ((left ++ told_content) ++ told_rest) → Sends p q (left ++ told_content) new
      → m' ≡ kept_after detail line later m → later' ≡ decided_after line later
      → Sends o q all (new ++ told_from detail (i + 1) m' events lines later')
  tells_content {o} {p} {q} {all} {new} {m'} {later'} left sent made map_is after_is =
      rw (map_is, after_is) (sends_on sent (sends_with told_rest made))
