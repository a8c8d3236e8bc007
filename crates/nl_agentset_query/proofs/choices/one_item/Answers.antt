use Rattle.std.proofs.Common.{ap}
use Rattle.nl_value.specs.Views.{plain}
use Rattle.nl_agentset_query.proofs.Chosen.{none_stays, no_item, one_item}
use Rattle.nl_agentset_query.proofs.choices.one_item.Goals as goal

pub returns-in_default-clause-answer : goal.returns-in_default-clause-answer
returns-in_default-clause-answer c =
    λ other. no_item c.args.items.now c.as_slice-values.result.now c.args.stream.now c.choose_index.result c.as_slice-values.ensures c.in_default.is c.choose_index.ensures.index

pub returns-in_default-clause-stays : goal.returns-in_default-clause-stays
returns-in_default-clause-stays c =
    none_stays _ c.args.stream.now c.choose_index.new.self c.choose_index.result c.in_default.is c.choose_index.ensures.index c.choose_index.ensures.state

pub returns-in-Ok-clause-answer : goal.returns-in-Ok-clause-answer
returns-in-Ok-clause-answer c =
    one_item c.args.items.now c.as_slice-values.result.now c.args.stream.now c.in-Some.index c.choose_index.new.self c.choose_index.result c.index-values-index.result c.in-Ok.value
    c.as_slice-values.ensures c.in-Some.is c.choose_index.ensures.index c.choose_index.ensures.state c.in-Some.ensures.below c.index-values-index.is c.in-Ok.ensures.value
