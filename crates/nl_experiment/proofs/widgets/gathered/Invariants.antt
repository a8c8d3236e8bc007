use Rattle.std.proofs.Common.{◌≡◌, [], drop}
use Rattle.nl_experiment.specs.Widgets.{gathered}
use Rattle.nl_experiment.proofs.widgets.gathered.Given as goal

-- the widgets so far are known, and those that are left come behind them
abbrev pub invariant-names : goal.invariant-names
invariant-names l = (l.widgets ≡ l.known) × (gathered l.known (drop l.name-index l.names) ≡ gathered [] l.names)
