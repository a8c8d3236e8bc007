use Rattle.std.proofs.Common.{◌++◌, codes, ◌∙◌, arith}
use Rattle.nl_agents.proofs.Naming.{name_more}
use Rattle.nl_agents.proofs.view.agent_name.Goals as goal

pub loop-number-preserved : goal.loop-number-preserved
loop-number-preserved c =
    name_more (codes "(" ++ c.args.word.now) c.args.numbers.now c.loop-number.number-index c.number-item.result _ _ _ _
    (omega arith) c.number-item.is (c.as_bytes.ensures ∙ c.in_ok-text.ensures) c.loop-number.invariant c.in_ok-append-2.ensures.ok c.in_ok-append-3.ensures.ok
