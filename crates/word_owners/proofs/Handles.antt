-- A handle stays one where its row is left alone.
use Rattle.std.proofs.Common.{◌≡◌, ◌⊎◌, inl, inr, ◌≤◌, ◌+◌, ℕ, zero, suc, Bool, Option, Some, None, IfSome, IfNone, List, [], ◌∷◌, ◌++◌, sym, ap, ◌∙◌, subst, refl, arith}
use Rattle.word_owners.proofs.Lists.{in_left, in_last, of_longer}
use Rattle.word_hazards.specs.Views.{In, View, HasReclaimed}
use Rattle.word_hazards.specs.Steps.{announcing, lending, learning, issuing, retiring, found_before, scanning, peeking, reclaiming, IsUnlent}
use Rattle.word_owners.specs.Known.{Keeps, Reclaims, ReclaimsNone}
use Rattle.word_owners.specs.inner.Handles.{AreRetired, AreFound, HasScanned, IsHandle, LeavesRow, Looks}

pub still_scanned : (v w : View) (numbers : List ℕ) → LeavesRow v w → HasScanned v numbers → HasScanned w numbers
still_scanned v w numbers r s = (subst (λ (n : ℕ). 64 ≤ n) (sym r.scanned) s.0, λ x low has. s.1 x low (subst (In x) r.found has))

pub still : (v w : View) (hazard : ℕ) (row : List ℕ) (current : Bool) (numbers : List ℕ) → LeavesRow v w → IsHandle v hazard row current numbers → IsHandle w hazard row current numbers
still v w hazard row current numbers r h = (
  r.hazard ∙ h.0,
  h.1,
  λ t has. subst (In t) (sym r.retired) (h.2 t has),
  λ now. still_scanned v w numbers r (h.3 now),
)

pub left : (v w : View) → w ≡ v → LeavesRow v w
left v w e = subst (LeavesRow v) (sym e) (record { hazard = refl; retired = refl; scanned = refl; found = refl })

pub left_announcing : (v w : View) (x : ℕ) → w ≡ announcing v x → LeavesRow v w
left_announcing v w x e = subst (LeavesRow v) (sym e) (record { hazard = refl; retired = refl; scanned = refl; found = refl })

pub left_learning : (v w : View) (x t o : ℕ) → w ≡ learning (lending (announcing v x)) t o → LeavesRow v w
left_learning v w x t o e = subst (LeavesRow v) (sym e) (record { hazard = refl; retired = refl; scanned = refl; found = refl })

pub left_issuing : (v w : View) (t o : ℕ) → w ≡ issuing v t o → LeavesRow v w
left_issuing v w t o e = subst (LeavesRow v) (sym e) (record { hazard = refl; retired = refl; scanned = refl; found = refl })

pub left_peeking : (v w : View) (i o : ℕ) → w ≡ peeking v i o → LeavesRow v w
left_peeking v w i o e = subst (LeavesRow v) (sym e) (record { hazard = refl; retired = refl; scanned = refl; found = refl })

pub looks_same : (v w : View) → w ≡ v → Looks v w
looks_same v w e = subst (Looks v) (sym e) refl

pub looks_scanning : (v w : View) (k n : ℕ) → w ≡ scanning v k n → Looks v w
looks_scanning v w k n e = subst (Looks v) (sym e) refl

pub looks_retiring : (v w : View) (t : ℕ) → w ≡ retiring v t → Looks v w
looks_retiring v w t e = subst (Looks v) (sym e) refl

-- w as it was before, but for these
abbrev looked_at : View → List ℕ → ℕ → List ℕ → Option (ℕ × ℕ) → View
looked_at v r s f p = record v { retired = r; scanned = s; found = f; peeked = p }

pub looks_twice : (v w u : View) → Looks v w → Looks w u → Looks v u
looks_twice v w u a b = b ∙ ap (λ (x : View). looked_at x u.retired u.scanned u.found u.peeked) a

pub looked_hazard : (v w : View) → Looks v w → w.hazard ≡ v.hazard
looked_hazard v w a = ap (λ (x : View). x.hazard) a

pub keeps : (v w : View) → Looks v w → Keeps v w
keeps v w a = record { hazard = ap (λ (x : View). x.hazard) a; lent = ap (λ (x : View). x.lent) a; announced = ap (λ (x : View). x.announced) a; claim = ap (λ (x : View). x.claim) a }

-- one ticket after others that aren't
pub reclaims : (v w u : View) (i t o : ℕ) → Looks v w → u ≡ reclaiming (peeking w i o) t o → (HasReclaimed w t → ⊥) → Reclaims v u t o
reclaims v w u i t o a e first = subst (λ (x : View). Reclaims v x t o) (sym e) (record {
  keeps = record { hazard = ap (λ (x : View). x.hazard) a; lent = ap (λ (x : View). x.lent) a; announced = ap (λ (x : View). x.announced) a; claim = ap (λ (x : View). x.claim) a };
  issued = ap (λ (x : View). (t, o) ∷ x.issued) a;
  reclaimed = ap (λ (x : View). t ∷ x.reclaimed) a;
  first = λ h. first (subst (In t) (sym (ap (λ (x : View). x.reclaimed) a)) h);
})

-- a ticket that wasn't found
pub unlent : (v w : View) (t : ℕ) (numbers : List ℕ) → LeavesRow v w → In t v.retired → HasScanned v numbers → (In (t + 2) numbers → ⊥) → IsUnlent w t
unlent v w t numbers r has s none = record {
  retired = subst (In t) (sym r.retired) has;
  scanned = subst (λ (n : ℕ). 64 ≤ n) (sym r.scanned) s.0;
  found = λ x. none (s.1 (t + 2) (omega arith) (subst (In (t + 2)) r.found x));
}

-- what is found then
pub found_then : (v w : View) (k n : ℕ) (before numbers : List ℕ) → w ≡ scanning v k n → (k ≡ 0) ⊎ ((k ≡ v.scanned) × AreFound v before) → ((x : ℕ) → In x before → In x numbers) → (2 ≤ n → In n numbers) → AreFound w numbers
found_then v w k n before numbers e at more new = subst (λ (x : View). AreFound x numbers) (sym e) (found k at) where
  found : (j : ℕ) → (j ≡ 0) ⊎ ((j ≡ v.scanned) × AreFound v before) → (x : ℕ) → 2 ≤ x → In x (n ∷ found_before j v.found) → In x numbers
  found j so x low (inl is) = subst (λ (y : ℕ). In y numbers) is (new (omega (arith, low, is)))
  found zero so x low (inr has) = absurd has
  found (suc j) (inl z) x low (inr has) = absurd (omega (arith, z))
  found (suc j) (inr a) x low (inr has) = more x (a.1 x low has)

-- one more ticket
pub retired_then : (v w : View) (t : ℕ) (row more : List ℕ) → w ≡ retiring v t → AreRetired v row → ((u : ℕ) → In u more → (t ≡ u) ⊎ In u row) → AreRetired w more
retired_then v w t row more e all_ from u has = subst (λ (x : View). In u x.retired) (sym e) (here (from u has)) where
  here : (t ≡ u) ⊎ In u row → (t ≡ u) ⊎ In u v.retired
  here (inl is) = inl is
  here (inr has) = inr (all_ u has)

pub retired_still : (v w : View) (row : List ℕ) → LeavesRow v w → AreRetired v row → AreRetired w row
retired_still v w row r all_ u has = subst (In u) (sym r.retired) (all_ u has)

-- a scan has ended
pub scanned_all : (v : View) (h : ℕ) (numbers : List ℕ) → 64 ≤ h → (h ≡ 0) ⊎ ((h ≡ v.scanned) × AreFound v numbers) → HasScanned v numbers
scanned_all v h numbers all_ (inl z) = absurd (omega (arith, all_, z))
scanned_all v h numbers all_ (inr a) = let e = a.0 in (omega (arith, all_, e), a.1)

-- the last of a row was taken
pub popped : (v : View) (row less : List ℕ) (t : ℕ) → row ≡ less ++ t ∷ [] → AreRetired v row → In t v.retired × AreRetired v less
popped v row less t e all_ = (all_ t (subst (In t) (sym e) (in_last t t less refl)), λ u has. all_ u (subst (In u) (sym e) (in_left u less (t ∷ []) has)))

-- one was put to it
pub pushed : (v w : View) (t : ℕ) (row more : List ℕ) → w ≡ retiring v t → AreRetired v row → more ≡ row ++ t ∷ [] → AreRetired w more
pushed v w t row more e all_ is = retired_then v w t row more e all_ (λ u has. of_longer u t row (subst (In u) is has))

pub retired_same : (v w : View) (row : List ℕ) → w.retired ≡ v.retired → AreRetired v row → AreRetired w row
retired_same v w row e all_ u has = subst (In u) (sym e) (all_ u has)

pub none_after : (v w u : View) → Looks v w → ReclaimsNone w u → ReclaimsNone v u
none_after v w u a r = let k = keeps v w a in record {
  keeps = record { hazard = r.keeps.hazard ∙ k.hazard; lent = r.keeps.lent ∙ k.lent; announced = r.keeps.announced ∙ k.announced; claim = r.keeps.claim ∙ k.claim };
  issued = r.issued ∙ ap (λ (x : View). x.issued) a;
  reclaimed = r.reclaimed ∙ ap (λ (x : View). x.reclaimed) a;
}

pub none_if : (r : Option (ℕ × ℕ)) (v w u : View) → Looks v w → IfNone r (ReclaimsNone w u) → IfNone r (ReclaimsNone v u)
none_if (Some g) v w u a x = tt
none_if None v w u a x = none_after v w u a x
