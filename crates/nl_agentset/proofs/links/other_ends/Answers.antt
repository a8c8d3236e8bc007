use Rattle.std.proofs.Common.{ap, ◌∙◌, arith}
use Rattle.std.specs.Prelude.{filter_map, option_map}
use Rattle.std.proofs.lemmas.List.{take_all}
use Rattle.nl_agents.specs.Changes.{link_of}
use Rattle.nl_agentset.specs.Links.{other_end_of}
use Rattle.nl_agentset.proofs.Neighboring.{given_more}
use Rattle.nl_agentset.proofs.links.other_ends.Goals as goal

pub loop-link-preserved : goal.loop-link-preserved
loop-link-preserved g c =
    let r = (g.S.Store.world c.args.store.now).rest in
    given_more (λ link. option_map (other_end_of c.args.turtle) (link_of link r)) _ c.loop-link.link-index c.other_end.result _ _ c.loop-link-test.true c.other_end.ensures c.loop-link.invariant c.in_ok-push.ensures.items

pub returns : goal.returns
returns g c =
    let r = (g.S.Store.world c.args.store.now).rest in
    let all = take_all c.loop-link.link-index c.as_slice-numbers.result.now (omega arith) ∙ c.as_slice-numbers.ensures.value in
    c.loop-link.invariant ∙ ap (filter_map (λ link. option_map (other_end_of c.args.turtle) (link_of link r))) all
