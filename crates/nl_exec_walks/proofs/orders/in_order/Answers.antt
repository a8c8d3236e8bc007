-- The agents of the pairs, sorted twice.
use Rattle.std.proofs.Common.{◌<◌, List, map, ap, sym, subst, ◌∙◌}
use Rattle.std.specs.Prelude.{All}
use Rattle.std.proofs.lemmas.Result.{IfOk-weaker}
use Rattle.nl_exec_meaning.specs.Walks.{Answer, members_kept}
use Rattle.nl_exec_walks.specs.inner.Passes.{paired, placed}
use Rattle.nl_exec_walks.proofs.Ranking.{agents_in_order}
use Rattle.nl_exec_walks.proofs.orders.in_order.Goals as goal

pub paired-requires : goal.paired-requires
paired-requires g c = λ patch.
    subst (λ (xs : List Answer). All (λ n. n < 4294967296) (members_kept xs)) (sym c.into_vec.ensures) (c.requires patch)

pub returns : goal.returns
returns g c =
    let w = g.L.Life.living c.args.life.now in
    IfOk-weaker c.agents_of.result _ _
    (λ agents is. agents_in_order w c.args.which c.args.answers (map placed c.in_ok-pairs.pairs.items) (map placed c.in_ok-first.first.items) (map placed c.in_ok-last.last.items) agents
    (c.in_ok-pairs.ensures ∙ ap (map (paired c.args.which)) c.into_vec.ensures) c.in_ok-first.ensures c.in_ok-last.ensures is)
    c.agents_of.ensures
