use Rattle.std.proofs.Common.{◌∙◌, ap, sym, arith, length}
use Rattle.tree_edit.specs.Tree.{TreeView}
use Rattle.tree_walk.proofs.WalkLaws.{root_room, root_keys}
use Rattle.congee_tree.proofs.tree.RawCongee.keys.Goals as goal

pub push_keys-requires : goal.push_keys-requires
push_keys-requires g c =
    let e = c.in_ok-keys.ensures in
    let t = c.table-root.ensures in
    rw e.len (root_room _ _ t.tree _ _ (c.value_count.ensures ∙ ap length (sym t.pairs)) (omega (arith, e.exact, c.in-Ok.ensures)))

pub returns : goal.returns
returns g c =
    let t = c.table-root.ensures in
    root_keys _ _ t.tree g.K.Word.of_number c.args.self.now.pairs c.in_ok-keys.keys.items c.push_keys.new.keys.items (t.pairs ∙ ap (λ (u : TreeView g.row.P.Denot g.row.A.Denot). u.pairs) c.self.view_is)
    c.in_ok-keys.ensures.items c.push_keys.ensures.keys
