use Rattle.std.proofs.Common.{◌≡◌, ◌∙◌, get_or, ap, arith, subst, sym}
use Rattle.tree_path.specs.inner.Root.{HasTree}
use Rattle.tree_links.specs.Places.{as_linked}
use Rattle.tree_links.specs.SameTree.{MovesTree}
use Rattle.tree_links.specs.SeenTable.{links_of, name_of, seen_table}
use Rattle.tree_links.specs.inner.Compact.{GoesAllOver}
use Rattle.tree_links.proofs.CallLaws.{table_is}
use Rattle.tree_links.proofs.CompactLaws.{moves_tree, pairs-all_redirected}
use Rattle.tree_links.proofs.links.Links.move_nodes.Goals as goal

pub take_all_over-requires-clause-room : goal.take_all_over-requires-clause-room
take_all_over-requires-clause-room g c = omega (arith, c.in-Ok.ensures.room, c.len.ensures)

pub invariant_of-self : goal.invariant_of-self
invariant_of-self g c =
    let r = c.redirect_all.ensures in
    let x = c.take_all_over.ensures in
    let i = c.self.invariant in (
      i.0 ∙ sym x.pairs ∙ sym (pairs-all_redirected c.as_slice.result.now _ _ r.redirects),
      omega (arith, r.len, x.len, r.capacity, x.capacity, c.in-Ok.ensures.room, c.len.ensures),
      omega (arith, r.capacity, x.capacity),
    )

pub returns : goal.returns
returns g c =
    let f = as_linked in
    let slots = c.as_slice.result.now in
    let root = c.args.root in
    let t = links_of f c.self.inside.nodes.slots in
    let m = links_of f c.take_all_over.new.others.slots in
    let u = links_of f c.redirect_all.new.nodes.slots in
    let e = table_is t _ _ _ c.self.view_is in
    let goes = subst (λ l. GoesAllOver l t m) (sym c.as_slice.ensures.value) c.take_all_over.ensures.goes in
    let is : c.new_slot.result ≡ get_or slots root 0 = c.new_slot.ensures ∙ ap (λ l. get_or l root 0) (c.as_slice-2.ensures.value ∙ sym c.as_slice.ensures.value) in
    let moves = moves_tree slots t m u goes c.redirect_all.ensures.redirects root (subst (λ s. HasTree s (name_of root)) (sym e) c.requires) in
    subst (λ j. MovesTree c.args.self.now.table (seen_table u) (name_of root) (name_of j)) (sym is)
    (subst (λ s. MovesTree s (seen_table u) (name_of root) (name_of (get_or slots root 0))) e moves)
