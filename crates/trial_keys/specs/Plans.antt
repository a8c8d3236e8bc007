-- What planned runs come to.
use Rattle.nl_lanes.specs.Runs.{LoneRun}
use Rattle.trial_keys.specs.declared.lanes_plan.Planned.{Planned}

-- what a run that is planned comes to where it runs alone
abbrev pub lone : Planned → LoneRun
lone p = record { text = p.text; units = p.units }
