use Rattle.std.proofs.Common.{All, subst, ◌∙◌, arith}
use Rattle.std.proofs.lemmas.List.{take_all}
use Rattle.nl_agents.specs.Changes.{TurtleLives}
use Rattle.trial_birth.proofs.making.all_live.Goals as goal

pub returns : goal.returns
returns g c =
    let w = g.S.Store.world c.args.store.now in
    let all = take_all c.loop-target.target-index c.as_slice-numbers.result.now (omega arith) ∙ c.as_slice-numbers.ensures.value in
    λ _. subst (All (λ target. TurtleLives target w)) all c.loop-target.invariant
