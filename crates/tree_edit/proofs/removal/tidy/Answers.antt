use Rattle.std.proofs.Common.{◌≡◌, suc, ◌+◌, ◌-◌, ◌<◌, length, get_or, map, refl, ap, sym, subst, ◌∙◌, arith, inl}
use Rattle.std.proofs.lemmas.Bool.{iff_false}
use Rattle.node_table.specs.Table.{node_at}
use Rattle.tree_links.specs.SeenTable.{name_of}
use Rattle.tree_path.specs.inner.Supply.{count, with_form}
use Rattle.tree_edit.specs.inner.Takes.{KeepsBut, TakesOnPath, IsChildOnPath}
use Rattle.tree_edit.specs.inner.Rise.{HasRisen}
use Rattle.tree_edit.proofs.TidyLaws.{moves_trans, is_child, up_one, counted_here, few_here, ends_top, ends_thin}
use Rattle.tree_edit.proofs.RemovalLaws.{inner_above, parent_named}
use Rattle.tree_edit.proofs.removal.tidy.Goals as goal

pub is_due-requires : goal.is_due-requires
is_due-requires g c =
    let b = c.requires.begins in
    let r = c.up.invariant.1 b.0 b.1 b.2 b.3 in
    rw r.risen.there refl

pub returns-then-not-is_due-clause-ends : goal.returns-then-not-is_due-clause-ends
returns-then-not-is_due-clause-ends g c = λ s forms w r0.
    let root = name_of (get_or c.args.trail.now 0 0) in
    let slot = name_of (get_or c.args.trail.now c.up.at 0) in
    let at_is : c.up.at ≡ suc (c.up.at - 1) = omega (arith, c.up-test.true) in
    let r = subst (λ a. HasRisen s root c.args.key.now c.up.nodes.table slot a forms c.up.supply.forms) at_is (c.up.invariant.1 s forms w r0) in
    let some : 0 < length r.left.children =
    let more = iff_false (c.is_due.ensures r.left r.risen.there) c.if-not-is_due.true in omega (arith, more) in
    ends_thin s root c.args.key.now c.up.nodes.table slot forms c.up.supply.forms (c.up.at - 1) r (map name_of c.args.trail.now) c.args.above w some
    c.up.nodes.table c.up.supply.forms (λ i apart. refl) c.args.shrinks (λ n here. inl (here, refl))

pub returns-then-not-is_due-clause-alike : goal.returns-then-not-is_due-clause-alike
returns-then-not-is_due-clause-alike g c = c.up.invariant.2

pub is_empty-requires : goal.is_empty-requires
is_empty-requires g c =
    let b = c.requires.begins in
    let r = c.up.invariant.1 b.0 b.1 b.2 b.3 in
    rw r.risen.there refl

pub shrink_if_due-requires-clause-counted : goal.shrink_if_due-requires-clause-counted
shrink_if_due-requires-clause-counted g c =
    let b = c.requires.begins in
    let r = c.up.invariant.1 b.0 b.1 b.2 b.3 in
    record { node = r.left; here = r.risen.there; counted = counted_here _ _ _ _ _ _ _ _ r _ _ b.2 }

pub shrink_if_due-requires-clause-few : goal.shrink_if_due-requires-clause-few
shrink_if_due-requires-clause-few g c =
    let b = c.requires.begins in
    let r = c.up.invariant.1 b.0 b.1 b.2 b.3 in
    few_here _ _ _ _ _ _ _ _ r _ _ b.2

pub returns-then-not-is_empty-clause-ends : goal.returns-then-not-is_empty-clause-ends
returns-then-not-is_empty-clause-ends g c = λ s forms w r0.
    let root = name_of (get_or c.args.trail.now 0 0) in
    let slot = name_of (get_or c.args.trail.now c.up.at 0) in
    let at_is : c.up.at ≡ suc (c.up.at - 1) = omega (arith, c.up-test.true) in
    let r = subst (λ a. HasRisen s root c.args.key.now c.up.nodes.table slot a forms c.up.supply.forms) at_is (c.up.invariant.1 s forms w r0) in
    let some : 0 < length r.left.children =
    let none = iff_false (c.is_empty.ensures r.left r.risen.there) c.if-not-is_empty.true in omega (arith, none) in
    ends_thin s root c.args.key.now c.up.nodes.table slot forms c.up.supply.forms (c.up.at - 1) r (map name_of c.args.trail.now) c.args.above w some
    c.shrink_if_due.new.nodes.table c.shrink_if_due.new.supply.forms c.shrink_if_due.ensures.keeps c.args.shrinks c.shrink_if_due.ensures.thins

pub returns-then-not-is_empty-clause-alike : goal.returns-then-not-is_empty-clause-alike
returns-then-not-is_empty-clause-alike g c = moves_trans _ _ _ _ _ _ c.up.invariant.2 c.shrink_if_due.ensures.alike

pub detach-form-requires-clause-child : goal.detach-form-requires-clause-child
detach-form-requires-clause-child g c =
    let b = c.requires.begins in
    let s = b.0 in
    let root = name_of (get_or c.args.trail.now 0 0) in
    let slot = name_of (get_or c.args.trail.now c.up.at 0) in
    let at_is : c.up.at ≡ suc (c.up.at - 1) = omega (arith, c.up-test.true) in
    let r = subst (λ a. HasRisen s root c.args.key.now c.up.nodes.table slot a b.1 c.up.supply.forms) at_is (c.up.invariant.1 s b.1 b.2 b.3) in
    let less : c.up.at - 1 < c.args.above + 1 = omega (arith, c.up.invariant.0, c.up-test.true) in
    let is = parent_named s root c.args.key.now c.up.nodes.table slot (c.up.at - 1) b.1 c.up.supply.forms r c.args.trail.now (c.args.above + 1) b.2.on_trail less in
    subst (λ p. IsChildOnPath c.up.nodes.table p slot c.args.key.now) is (is_child s root c.args.key.now c.up.nodes.table slot b.1 c.up.supply.forms (c.up.at - 1) r)

pub detach-form-requires-clause-inner : goal.detach-form-requires-clause-inner
detach-form-requires-clause-inner g c = λ n here.
    let b = c.requires.begins in
    let s = b.0 in
    let root = name_of (get_or c.args.trail.now 0 0) in
    let slot = name_of (get_or c.args.trail.now c.up.at 0) in
    let at_is : c.up.at ≡ suc (c.up.at - 1) = omega (arith, c.up-test.true) in
    let r = subst (λ a. HasRisen s root c.args.key.now c.up.nodes.table slot a b.1 c.up.supply.forms) at_is (c.up.invariant.1 s b.1 b.2 b.3) in
    let less : c.up.at - 1 < c.args.above + 1 = omega (arith, c.up.invariant.0, c.up-test.true) in
    let is = parent_named s root c.args.key.now c.up.nodes.table slot (c.up.at - 1) b.1 c.up.supply.forms r c.args.trail.now (c.args.above + 1) b.2.on_trail less in
    inner_above s root c.args.key.now c.up.nodes.table slot (c.up.at - 1) b.1 c.up.supply.forms r n (ap (λ p. node_at c.up.nodes.table p) is ∙ here)

pub detach-form-requires-clause-empty : goal.detach-form-requires-clause-empty
detach-form-requires-clause-empty g c = λ n here. (c.is_empty.ensures n here).0 c.if-not-is_empty.false

pub give_back-requires : goal.give_back-requires
give_back-requires g c =
    let b = c.requires.begins in
    let r = c.up.invariant.1 b.0 b.1 b.2 b.3 in
    let form = c.detach-form.ensures.form r.left r.risen.there in
    subst (λ f. 0 < count f c.up.supply.forms) (sym form) (counted_here _ _ _ _ _ _ _ _ r _ _ b.2)

pub up-preserved : goal.up-preserved
up-preserved g c = (
  omega (arith, c.up.invariant.0),
  λ s forms w r0.
      let root = name_of (get_or c.args.trail.now 0 0) in
      let key = c.args.key.now in
      let slot = name_of (get_or c.args.trail.now c.up.at 0) in
      let a = c.up.at - 1 in
      let t = c.up.nodes.table in
      let t' = c.detach-form.new.nodes.table in
      let at_is : c.up.at ≡ suc a = omega (arith, c.up-test.true) in
      let r = subst (λ i. HasRisen s root key t slot i forms c.up.supply.forms) at_is (c.up.invariant.1 s forms w r0) in
      let less : a < c.args.above + 1 = omega (arith, c.up.invariant.0, c.up-test.true) in
      let is = parent_named s root key t slot a forms c.up.supply.forms r c.args.trail.now (c.args.above + 1) w.on_trail less in
      let none : length r.left.children ≡ 0 = (c.is_empty.ensures r.left r.risen.there).0 c.if-not-is_empty.false in
      let form = c.detach-form.ensures.form r.left r.risen.there in
      subst (λ p. HasRisen s root key t' p a forms c.give_back.new.self.forms) is
      (up_one s root key t slot forms c.up.supply.forms a r none t' c.give_back.new.self.forms
      (subst (λ p. KeepsBut p slot t t') (sym is) c.detach-form.ensures.keeps)
      (subst (λ p. TakesOnPath t t' p key) (sym is) c.detach-form.ensures.taken)
      (c.give_back.ensures.forms ∙ ap (λ f. with_form f c.give_back.new.self.forms) form)),
  moves_trans _ _ _ _ _ _ c.up.invariant.2 c.give_back.ensures.alike,
)

pub returns-clause-ends : goal.returns-clause-ends
returns-clause-ends g c = λ s forms w r0.
    let top : c.up.at ≡ 0 = omega (arith, c.up-test.false) in
    ends_top s (name_of (get_or c.args.trail.now 0 0)) c.args.key.now c.up.nodes.table (name_of (get_or c.args.trail.now c.up.at 0)) forms c.up.supply.forms c.up.at (c.up.invariant.1 s forms w r0) (map name_of c.args.trail.now) c.args.above w top c.args.shrinks

pub returns-clause-alike : goal.returns-clause-alike
returns-clause-alike g c = c.up.invariant.2
