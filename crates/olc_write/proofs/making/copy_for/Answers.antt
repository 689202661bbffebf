use Rattle.std.proofs.Common.{◌≡◌, ℕ, None, ap, refl, subst, sym, ◌∙◌}
use Rattle.spec_map.specs.Map.{lookup, put}
use Rattle.node_base.specs.Form.{next_form}
use Rattle.spec_node.specs.Key.{next_byte}
use Rattle.spec_olc.specs.Calls.{bytes_of, key_of}
use Rattle.spec_olc.specs.Meaning.{child_of}
use Rattle.olc_state.specs.inner.Meant.{meant_node}
use Rattle.olc_write.proofs.CopyLaws.{copied_absent, copy_grown, own_kind}
use Rattle.olc_write.proofs.making.copy_for.Goals as goal

pub put_in-requires-clause-absent : goal.put_in-requires-clause-absent
put_in-requires-clause-absent g c =
    let byte : c.byte_below-byte.result ≡ next_byte c.args.node.now.prefix (bytes_of (key_of c.args.task.now.outline)) = c.byte_below-byte.ensures.byte ∙ ap (λ (k : ℕ). next_byte c.args.node.now.prefix (bytes_of k)) c.key.ensures in
    copied_absent g.P.HasMeaning.meaning c.args.node.now c.byte_below-byte.ensures.ascending c.in_ok-copy.copy c.in_ok-copy.ensures c.byte_below-byte.result
    (subst (λ (b : ℕ). lookup c.args.node.now.children b ≡ None) (sym byte) c.requires.absent)

pub put_in-requires-clause-kind : goal.put_in-requires-clause-kind
put_in-requires-clause-kind g c =
    rw (c.in_ok-copy.ensures.prefix)
    (own_kind g.P.HasMeaning.meaning c.args.node.now.prefix c.args.task.now c.args.leaf c.in_ok-child.child c.in_ok-child.ensures c.requires.kind c.byte_below-byte.ensures.short)

pub returns-then-put_in : goal.returns-then-put_in
returns-then-put_in g c =
    let byte : c.byte_below-byte.result ≡ next_byte c.args.node.now.prefix (bytes_of (key_of c.args.task.now.outline)) = c.byte_below-byte.ensures.byte ∙ ap (λ (k : ℕ). next_byte c.args.node.now.prefix (bytes_of k)) c.key.ensures in
    record {
      child = c.in_ok-child.child;
      own = c.in_ok-child.ensures;
      fits = c.byte_below-byte.ensures.within;
      rises = c.byte_below-byte.ensures.ascending;
      is = subst (λ (b : ℕ). meant_node g.P.HasMeaning.meaning c.put_in.new.node ≡ record {
        form = next_form c.args.node.now.form;
        prefix = c.args.node.now.prefix;
        children = put (meant_node g.P.HasMeaning.meaning c.args.node.now).children b (child_of g.P.HasMeaning.meaning c.in_ok-child.child);
      }) byte
          (copy_grown g.P.HasMeaning.meaning c.args.node.now c.byte_below-byte.ensures.ascending c.in_ok-copy.copy c.put_in.new.node c.byte_below-byte.result c.in_ok-child.child c.in_ok-copy.ensures c.byte_below-byte.ensures.within c.requires.full
          (c.if-put_in.ensures.prefix refl) (c.if-put_in.ensures.children refl) (c.if-put_in.ensures.least refl));
    }
