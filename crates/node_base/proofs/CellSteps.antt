-- A `&mut` to the cells is opened and closed, and shown are the parts that a block of cells has.
use Rattle.std.specs.Prelude.{List, [], ◌∷◌, length}
use Rattle.std.proofs.Common.{◌≡◌, refl, sym, ap, ◌∙◌, ℕ, ◌+◌, ◌*◌, ◌^◌, ◌<◌, arith}
use Rattle.std.specs.Global.{Global}
use seplogic.Ra.Ura.{Ura}
use base.Fraction.{full_share}
use base.Logic.{ent, sep, never, fst∗}
use base.Stored.{Gv}
use base.Fml.{Lft, GName, Share, Fml, fsep, flft, fobs, fauth, fbor, fobor, fhide}
use mir.Raw.{raw as bare}
use mir.Syntax.{ty_array}
use mir.Val.{Val, vstruct, vcons, vnil, of_list}
use types.Logic.{Logic, sem}
use types.Kit.{Goal, Soaks, Step, step, Seq, Item, ‵, ◌⊛◌, ◌$◌, ◌∵◌, !, qed, done, keep, use1, split, move, rewrite, fsplit, fjoin, flt_l, flt_i}
use types.SemTy.{Body}
use denote.RattleType.{RattleType}
use denote.Laws.{Is, shows}
use denote.Memory.{cell_at, mem, hidden_shr}
use denote.Opens.{unhide}
use denote.Param.Laws.{param_laws}
use denote.RawPtr.{Ptr, RawPtr, block_ptr, null_ptr, ptr_val, in_block, in_a_block}
use denote.Steps.{opens, closes, peeks}
use denote.Struct.Struct.{Struct}
use denote.Struct.Owning.{shape, to}
use denote.Struct.Laws.{lows_tell}
use denote.Struct.Lending.{lent_out}
use Rattle.core.proofs.mem.Param.{El, R, el_x, elτ}
use Rattle.core.proofs.ptr.Rows.{times_below, one_below}
use Rattle.std_heap.specs.contracts.Global as Heap
use Rattle.std_heap.specs.contracts.GlobalAllocator.TheImpl.{ghosts}
use Rattle.std_heap.proofs.Global.TheLaws as heap
use Rattle.node_base.specs.declared.cells.Cells.{Cells}
use Rattle.node_base.specs.inner.Cells.{cells, cells_lent, bound}
use Rattle.node_base.specs.contracts.cells.Cells as C
use Rattle.node_base.proofs.cells.Cells.TheLaws.{the_laws}
use Rattle.node_base.proofs.CellRows.{step_size, Slots, all}

module _ (E : El) where
  abbrev pub Row : RattleType
  Row = C.the_row (R E)

  abbrev pub Block : Type 0
  Block = Cells (el_x E)

  -- pointer and allocator, as a plain struct
  abbrev pub Words : RattleType
  Words = Struct (shape (C.the_type (R E)))

  abbrev pub words : Block → List Val → Fml
  words d vs = (Words).own_val (to (C.the_type (R E)) d) vs

  abbrev pub word : Ptr → Global → Val
  word p a = vstruct (vcons (ptr_val p) (vcons (heap.lowered a) vnil))

  -- the two words of a block are its pointer's and its allocator's
  pub words_tell : (d : Block) (vs : List Val) → Is Words (to (C.the_type (R E)) d) vs → vs ≡ word d.ptr d.alloc ∷ []
  words_tell d vs is =
      let T = C.the_type (R E) in
      is.1.0 ∙ ap (λ (us : List Val). vstruct (of_list us) ∷ []) (lows_tell T.parts (the_laws (R E) (param_laws 0 E.row E.laws)) (T.as_values d) is.0 is.1.1)

  -- the right to free the block at p
  abbrev pub right : Global → Ptr → Fml
  right a p = ghosts.dealloc_token a (bare (ty_array (elτ E) 256)) p

  abbrev pub filled : Block → Ptr → Fml
  filled d p = fsep (in_block p (cells (R E) d.slots p)) (right d.alloc p)

  -- the block with other values in its cells
  abbrev pub with_slots : (d : Block) (cs : Slots E) → length cs ≡ length d.slots → Block
  with_slots d cs e = record { ptr = d.ptr; alloc = d.alloc; slots = cs; full = e ∙ d.full }

module _ (E : El) {M : Type 1} {𝓤 : Ura M} {𝓛 : Logic 𝓤} {K : Type 0} {Γ : List (Item 𝓤)} {G : Goal 𝓤 𝓛.H} where
  -- what a block owns: [its cells; the right to free it; its two words]
  pub taken : K → (d : Block E) (vs : List Val)
      → ((b o : ℕ) → d.ptr ≡ block_ptr b o → vs ≡ word E (block_ptr b o) d.alloc ∷ [] → 256 * step_size E < 2 ^ 63
      → Seq K 𝓛 (‵ (all E b d.slots o) ∷ ‵ (right E d.alloc (block_ptr b o)) ∷ ‵ (words E d (word E (block_ptr b o) d.alloc ∷ [])) ∷ Γ) G)
      → Seq K 𝓛 (‵ ((Row E).own_val d vs) ∷ Γ) G
  taken t d vs k =
      fsplit t $ peeks t (Words E) (Is (Words E)) (shows 𝓛 (Words E)) (to (C.the_type (R E)) d) vs (λ is. move t (1 ∷ []) $ fsplit t $ flt_l t (λ fit.
      in_a_block t d.ptr (filled E d) (fst∗ 𝓤 (never 𝓤) (sem 𝓛 (right E d.alloc null_ptr))) (λ b o e. fsplit t $
      let at = words_tell E d vs is ∙ ap (λ (p : Ptr). word E p d.alloc ∷ []) e in
      rewrite t 2 (λ (ws : List Val). ‵ (words E d ws)) at refl $ k b o e at fit)))

  pub made : K → (d : Block E) (vs : List Val) (b o : ℕ) → d.ptr ≡ block_ptr b o → 256 * step_size E < 2 ^ 63
      → Step K 𝓛 (‵ ((Row E).own_val d vs) ∷ Γ) G (‵ (all E b d.slots o) ∷ ‵ (right E d.alloc (block_ptr b o)) ∷ ‵ (words E d vs) ∷ Γ) G
  made t d vs b o e fit = step (λ s.
      fjoin t $ rewrite t 0 (λ (p : Ptr). ‵ (filled E d p)) (sym e) refl $
      flt_i t (256 * step_size E) (2 ^ 63) fit $ fjoin t $ move t (1 ∷ []) $ fjoin t $ s)

module _ (E : El) {M : Type 1} {𝓤 : Ura M} {𝓛 : Logic 𝓤} {K : Type 0} {Γ : List (Item 𝓤)} {G : Goal 𝓤 𝓛.H} where
  -- behind a `&mut`: [cells; right; words; the place of the two words; the open borrow; obs; auth]
  pub opened : K → Soaks G → {κ : Lft} {q : Share} {γ : GName} (d : Block E) (rb ro : ℕ)
      → ((b o : ℕ) → d.ptr ≡ block_ptr b o → 256 * step_size E < 2 ^ 63
      → Seq K 𝓛 (‵ (all E b d.slots o) ∷ ‵ (right E d.alloc (block_ptr b o)) ∷ ‵ (words E d (word E (block_ptr b o) d.alloc ∷ [])) ∷ ‵ (cell_at full_share (Row E).mir (word E (block_ptr b o) d.alloc ∷ []) rb ro)
      ∷ ‵ (fobor κ q (Body (mem (Row E)) rb ro γ)) ∷ ‵ (fobs γ ((Row E).coded.code d)) ∷ ‵ (fauth γ ((Row E).coded.code d)) ∷ Γ) G)
      → Seq K 𝓛 (‵ (fobs γ ((Row E).coded.code d)) ∷ ‵ (fbor κ (Body (mem (Row E)) rb ro γ)) ∷ ‵ (flft κ q) ∷ Γ) G
  opened t z d rb ro k =
      opens t z (Row E) {h = d} rb ro (λ vs. move t (1 ∷ []) $ taken E t d vs (λ b o e at fit.
      rewrite t 3 (λ (ws : List Val). ‵ (cell_at full_share (Row E).mir ws rb ro)) at refl $ k b o e fit))

  pub closed : K → Soaks G → {κ : Lft} {q : Share} {u v : Gv} {γ : GName} (d : Block E) (b o rb ro : ℕ) → d.ptr ≡ block_ptr b o → 256 * step_size E < 2 ^ 63
      → Step K 𝓛 (‵ (fobs γ ((Row E).coded.code d)) ∷ ‵ (fbor κ (Body (mem (Row E)) rb ro γ)) ∷ ‵ (flft κ q) ∷ Γ) G
      (‵ (all E b d.slots o) ∷ ‵ (right E d.alloc (block_ptr b o)) ∷ ‵ (words E d (word E (block_ptr b o) d.alloc ∷ [])) ∷ ‵ (cell_at full_share (Row E).mir (word E (block_ptr b o) d.alloc ∷ []) rb ro)
      ∷ ‵ (fobor κ q (Body (mem (Row E)) rb ro γ)) ∷ ‵ (fobs γ u) ∷ ‵ (fauth γ v) ∷ Γ) G
  closed t z d b o rb ro e fit = step (λ s.
      made E t d (word E (block_ptr b o) d.alloc ∷ []) b o e fit $ move t (1 ∷ 0 ∷ []) $ closes t z (Row E) d (word E (block_ptr b o) d.alloc ∷ []) rb ro $ s)

-- behind a `&`: its pointer, the bound on the size, and each child
module _ (E : El) {M : Type 1} {𝓤 : Ura M} (𝓛 : Logic 𝓤) (κ : Lft) where
  pub shown : (d : Block E) (b o : ℕ)
      → ent 𝓤 (sem 𝓛 (hidden_shr (Row E) κ d b o)) (sep 𝓤 (sem 𝓛 (hidden_shr RawPtr κ d.ptr b (o + 0))) (sep 𝓤 (sem 𝓛 (bound (R E))) (sem 𝓛 (cells_lent (R E) d.slots d.ptr κ))))
  shown d b o =
      qed 𝓛 (‵ (hidden_shr (Row E) κ d b o) ∷ []) ∵
      use1 𝓛 (‵ (hidden_shr (Words E) κ (to (C.the_type (R E)) d) b o) ⊛ ‵ (fhide (C.the_lent (R E) d d.ptr κ)))
      (lent_out 𝓛 (C.struct (R E)) (C.the_codes (el_x E) (R E).coded Heap.the_row.coded) (C.the_heap (R E)) (C.the_lent (R E)) κ d b o) $ split ! $
      unhide ! $ fsplit ! $ fsplit ! $ keep ! (0 ∷ 3 ∷ []) $ done !

-- a child's size and a cell's offset fit into words
pub small_steps : (i s : ℕ) → i < 256 → 256 * s < 2 ^ 63 → (s < 2 ^ 64) × (i * s < 2 ^ 64)
small_steps i s l fit =
    let one_fits = one_below 256 s (2 ^ 63) (omega arith) fit in
    let part_fits = times_below i 256 s (2 ^ 63) (omega arith) fit in
    (omega arith, omega arith)
