-- The list fits where its values do.
use Rattle.std.proofs.Common.{ap, ◌∙◌}
use Rattle.nl_exec_meaning.specs.Ground.{fits}
use Rattle.nl_exec_meaning.specs.Seen.{ground}
use Rattle.nl_exec_meaning.proofs.Grounds.{items_fit}
use Rattle.nl_exec_arrows.proofs.finishing.kept_list.Goals as goal

pub returns-clause-fits : goal.returns-clause-fits
returns-clause-fits g c = λ all. let now = ground c.args.hands.now in ap (fits now) c.in_ok-items.ensures ∙ items_fit now c.args.rounds.made all
