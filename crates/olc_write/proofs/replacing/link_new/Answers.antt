use Rattle.std.proofs.Common.{ℕ, [], ◌∷◌, Option, inl, inr, refl, sym, subst}
use Rattle.olc_state.specs.inner.Tables.{IsIn}
use Rattle.olc_state.specs.inner.Tails.{one_more}
use Rattle.olc_write.proofs.Publishing.{AreThere, one_others, one_root, still_there, two_linked, two_others, two_root}
use Rattle.olc_write.proofs.replacing.link_new.Goals as goal

pub publish-requires : goal.publish-requires
publish-requires g c = record { at = c.requires c.args.node (inl refl) }

pub publish-requires-in-Some : goal.publish-requires-in-Some
publish-requires-in-Some g c =
    let there : AreThere g.P.HasMeaning.meaning c.args.store.now (c.args.node ∷ c.in-Some.leaf ∷ []) = subst (λ (l : Option ℕ). AreThere g.P.HasMeaning.meaning c.args.store.now (c.args.node ∷ one_more l)) c.in-Some.is c.requires in
    record { at = still_there g.P.HasMeaning.meaning c.args.store.now c.publish.new.self c.args.node (there c.args.node (inl refl)) c.publish.ensures.sets c.in-Some.leaf (there c.in-Some.leaf (inr (inl refl))) }

pub returns-in-Some-clause-linked : goal.returns-in-Some-clause-linked
returns-in-Some-clause-linked g c =
    let there : AreThere g.P.HasMeaning.meaning c.args.store.now (c.args.node ∷ c.in-Some.leaf ∷ []) = subst (λ (l : Option ℕ). AreThere g.P.HasMeaning.meaning c.args.store.now (c.args.node ∷ one_more l)) c.in-Some.is c.requires in
    λ s a h here.
    two_linked g.P.HasMeaning.meaning c.args.store.now c.publish.new.self c.publish-in-Some.new.self c.args.node c.in-Some.leaf there c.publish.ensures.sets c.publish-in-Some.ensures.sets s a
    (subst (λ (l : Option ℕ). IsIn s (c.args.node ∷ one_more l)) c.in-Some.is h) here

pub returns-in-Some-clause-others : goal.returns-in-Some-clause-others
returns-in-Some-clause-others g c =
    let there : AreThere g.P.HasMeaning.meaning c.args.store.now (c.args.node ∷ c.in-Some.leaf ∷ []) = subst (λ (l : Option ℕ). AreThere g.P.HasMeaning.meaning c.args.store.now (c.args.node ∷ one_more l)) c.in-Some.is c.requires in
    λ s out.
    two_others g.P.HasMeaning.meaning c.args.store.now c.publish.new.self c.publish-in-Some.new.self c.args.node c.in-Some.leaf there c.publish.ensures.sets c.publish-in-Some.ensures.sets s
    (λ h. out (subst (λ (l : Option ℕ). IsIn s (c.args.node ∷ one_more l)) (sym c.in-Some.is) h))

pub returns-in-Some-clause-root : goal.returns-in-Some-clause-root
returns-in-Some-clause-root g c =
    let there : AreThere g.P.HasMeaning.meaning c.args.store.now (c.args.node ∷ c.in-Some.leaf ∷ []) = subst (λ (l : Option ℕ). AreThere g.P.HasMeaning.meaning c.args.store.now (c.args.node ∷ one_more l)) c.in-Some.is c.requires in
    two_root g.P.HasMeaning.meaning c.args.store.now c.publish.new.self c.publish-in-Some.new.self c.args.node c.in-Some.leaf there c.publish.ensures.sets c.publish-in-Some.ensures.sets

pub returns-in_default-clause-others : goal.returns-in_default-clause-others
returns-in_default-clause-others g c =
    λ s out. one_others g.P.HasMeaning.meaning c.args.store.now c.publish.new.self c.args.node (c.requires c.args.node (inl refl)) c.publish.ensures.sets s (λ e. out (inl (sym e)))

pub returns-in_default-clause-root : goal.returns-in_default-clause-root
returns-in_default-clause-root g c = one_root g.P.HasMeaning.meaning c.args.store.now c.publish.new.self c.args.node (c.requires c.args.node (inl refl)) c.publish.ensures.sets
