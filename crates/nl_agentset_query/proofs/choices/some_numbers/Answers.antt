use Rattle.std.proofs.Common.{◌∙◌}
use Rattle.nl_agentset_query.proofs.Chosen.{some_is}
use Rattle.nl_agentset_query.proofs.choices.some_numbers.Goals as goal

pub returns-in-Ok-clause-kept : goal.returns-in-Ok-clause-kept
returns-in-Ok-clause-kept c =
    c.in-Ok.ensures ∙ some_is c.args.wanted c.args.list.now c.args.stream.now c.len.result c.in_ok-places.places c.len.ensures c.in_ok-places.ensures.places
