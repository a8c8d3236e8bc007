-- A stable sort by numbers.
use Rattle.std.proofs.Common.{rules, of_calls, ◌∙◌}
use Rattle.std.proofs.lemmas.Fn.{always_returns_same}
use Rattle.nl_value.proofs.StableSorts.{sorted_is}
use Rattle.nl_exec_walks.proofs.Ranking.{more, more_order, more_is}
use Rattle.nl_exec_walks.proofs.several.greatest_first.Goals as goal

pub returns : goal.returns
returns c =
    let up = c.in_ok-sort_by.ensures.sorted more more_order (always_returns_same _ _ _ (λ a r f called. search (rules, of_calls))) in
    let stable = c.in_ok-sort_by.ensures.stable more more_order (always_returns_same _ _ _ (λ a r f called. search (rules, of_calls))) in
    sorted_is more more_order c.args.ranks.items c.sort_by.new.self.items up stable ∙ more_is c.args.ranks.items
