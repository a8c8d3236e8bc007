-- The members of the first so many, in ascending order.
use Rattle.std.proofs.Common.{List, ℕ, map, ap, ◌∙◌}
use Rattle.nl_agents.specs.Members.{is_listed}
use Rattle.nl_exec_meaning.specs.inner.Seen.{answered}
use Rattle.nl_exec_walks.proofs.Ranking.{first_ranked}
use Rattle.nl_exec_walks.proofs.several.first_members.Goals as goal

pub returns : goal.returns
returns c = λ z.
    c.in_order.ensures.same z
    ∙ ap (λ (ms : List ℕ). is_listed ms z)
    (first_ranked c.args.up c.args.count (map answered c.args.answers.now) c.in_ok-ranks.ranks.items c.in_ok-first.first.items c.truncate.new.self.items c.in_ok-members.members.items
    c.in_ok-ranks.ensures c.in_ok-first.ensures c.truncate.ensures.items (c.in_ok-members.ensures ∙ ap (map (λ r. r.member)) c.deref.ensures.value))
