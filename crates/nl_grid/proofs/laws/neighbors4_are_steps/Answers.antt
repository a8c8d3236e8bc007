use Rattle.nl_grid.proofs.LawLemmas.{from_neighbors4, neighbors_are_others}
use Rattle.nl_grid.proofs.StepLemmas.{neighbor4_is_step, step_is_neighbor4}
use Rattle.nl_grid.proofs.laws.neighbors4_are_steps.Goals as goal

pub returns : goal.returns
returns c plane patch other limits below = (
  λ held. ((neighbors_are_others plane patch other (from_neighbors4 plane patch other held).0).0, neighbor4_is_step plane patch other limits below held),
  λ steps. step_is_neighbor4 plane patch other limits below steps.0 steps.1,
)
