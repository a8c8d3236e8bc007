use Rattle.nl_lanes.proofs.Ends.{rounds_are_turns, rounds_end_all}
use Rattle.nl_lanes.proofs.Progress.{rounds-any}
use Rattle.nl_lanes.proofs.laws.rounds_end_all_runs.Goals as goal

pub returns : goal.returns
returns c = record { turns = rounds_are_turns; ended = rounds_end_all; most = rounds-any }
