use Rattle.std.proofs.Common.{ap, sym, ◌∙◌}
use Rattle.nl_links.specs.declared.sides.Side.TheVariants.{First, Second}
use Rattle.nl_links.specs.Sides.{border_in}
use Rattle.nl_links.proofs.Holding.{first-key}
use Rattle.nl_links.proofs.ends.Ends.firsts.Goals as goal

pub returns-clause-first : goal.returns-clause-first
returns-clause-first c at filed lists d = c.first.ensures ∙ sym (ap (λ o. (border_in First o).first) c.sides-sides.ensures) ∙ first-key 3 _ at _ lists.first c.args.turtle d.first

pub returns-clause-second : goal.returns-clause-second
returns-clause-second c at filed lists d = c.first-2.ensures ∙ sym (ap (λ o. (border_in Second o).first) c.sides-sides.ensures) ∙ first-key 4 _ at _ lists.second c.args.turtle d.second
