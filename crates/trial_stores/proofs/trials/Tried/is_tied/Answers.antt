use Rattle.std.proofs.Common.{◌≡◌, ℕ, List, false, length, ap, sym, ◌∙◌, arith}
use Rattle.std.specs.List.{list_any}
use Rattle.std.proofs.lemmas.List.{take_all}
use Rattle.nl_agents.specs.Changes.{link_of}
use Rattle.trial_stores.specs.Trials.{joined}
use Rattle.trial_stores.proofs.Joining.{any_joined}
use Rattle.trial_stores.proofs.trials.Tried.is_tied.Goals as goal

pub returns : goal.returns
returns g c =
    let w = g.S.Store.world c.args.self.now.store in
    let test : ℕ → _ = λ z. joined c.args.breed c.args.directed c.args.end1 c.args.end2 (link_of z w.rest) in
    let all = take_all c.loop-number.number-index c.as_slice-numbers.result.now (omega arith) ∙ c.as_slice-numbers.ensures.value ∙ c.in-Some.ensures in
    λ _. sym (any_joined w c.args.breed c.args.directed c.args.end1 c.args.end2 c.shape-stands.ensures.stands) ∙ ap (list_any test) (sym all) ∙ c.loop-number.invariant
