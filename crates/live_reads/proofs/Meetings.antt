-- Two callers meet, and the map stays.
use Rattle.std.proofs.Common.{⊎_elim, ℕ, List, length-set, set, refl, sym, subst, arith}
use Rattle.atomic_table.proofs.Lists.{at_set}
use Rattle.live_nodes.specs.Acts as acts
use Rattle.live_nodes.specs.Views.{View, view_of}
use Rattle.live_nodes.specs.Tree.{Knows, IsMap}
use Rattle.live_nodes.proofs.Histories.{sees_all}
use Rattle.live_reads.specs.Meetings.{HaveMet}

pub both_meet : (i j : ℕ) (v w : View) → acts.Meets IsMap i v j w (HaveMet i j v w)
both_meet i j v w ns vs p first second ne =
    let a = p.each_view i v first in
    let b = p.each_view j w second in
    let c : View = view_of p.history v.met v.own in
    let d : View = view_of p.history w.met w.own in
    let us : List View = set vs j d in (
      c,
      d,
      record {
        plan = p.plan;
        contents = p.contents;
        history = p.history;
        pairs = p.pairs;
        legal = p.legal;
        nodes = p.nodes;
        settled = p.settled;
        alive = p.alive;
        tree = p.tree;
        each_view = λ k u e. ⊎_elim
            (λ t. subst (λ (x : ℕ × View). Knows p.plan ns p.contents p.history x.0 x.1) (λ z. (sym t.0 z, t.1 z)) record { seen = sees_all i p.history; met = a.met; own = a.own; watched = tt })
            (λ t. ⊎_elim
            (λ q. subst (λ (x : ℕ × View). Knows p.plan ns p.contents p.history x.0 x.1) (λ z. (sym q.0 z, q.1 z)) record { seen = sees_all j p.history; met = b.met; own = b.own; watched = tt })
            (λ q. p.each_view k u q.1)
            (at_set vs j k d u t.1))
            (at_set us i k c u e);
        unborn = λ k l. p.unborn k (let m = length-set us i c in let n = length-set vs j d in omega (arith, l, m, n));
      },
      record {
        whole = p.history;
        legal = (p.pairs, p.legal);
        first = record { is = refl; fits = a.seen };
        second = record { is = refl; fits = b.seen };
      },
    )
