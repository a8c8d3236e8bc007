use Rattle.nl_grid.proofs.LawLemmas.{neighbors_are_others}
use Rattle.nl_grid.proofs.StepLemmas.{neighbor_is_step, step_is_neighbor}
use Rattle.nl_grid.proofs.laws.neighbors_are_steps.Goals as goal

pub returns : goal.returns
returns c plane patch other limits below = (
  λ held. ((neighbors_are_others plane patch other held).0, neighbor_is_step plane patch other limits below held),
  λ steps. step_is_neighbor plane patch other limits below steps.0 steps.1,
)
