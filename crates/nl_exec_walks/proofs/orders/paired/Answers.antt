-- Each member's number is small.
use Rattle.std.proofs.Common.{rules, length}
use Rattle.std.proofs.lemmas.Iterator.Consumers.{YieldsList-turn}
use Rattle.std.proofs.lemmas.Iterator.Adapters.{YieldsList-from_vec}
use Rattle.nl_exec_walks.proofs.Ranking.{small_at}
use Rattle.nl_exec_walks.proofs.orders.paired.Goals as goal

pub agent_value-agent-requires : goal.agent_value-agent-requires
agent_value-agent-requires c = λ patch.
    let turn = YieldsList-turn (YieldsList-from_vec {s = c.into_iter-answer-iterator.result} c.args.answers.items (search rules) (search rules)) c.loop-answer.yielded _ c.loop-answer.yielded_by _ c.next.new.self c.in-Some.answer c.in-Some.is c.next.ensures.steps in
    small_at c.args.answers.items (length c.loop-answer.yielded) c.in-Some.answer (c.requires patch) turn.0 turn.1
