-- A condition comes, or the last block.
use Rattle.std.proofs.Common.{◌≡◌, List, drop, ap, ◌∙◌, sym}
use Rattle.nl_tree.specs.Tree.{Node, parts}
use Rattle.nl_exec_meaning.specs.Code.{node_at}
use Rattle.nl_exec_meaning.specs.Frames.{choices_left}
use Rattle.nl_exec_meaning.specs.Seen.{state_of}
use Rattle.nl_exec_cases.proofs.Choosing.{condition_comes, last_comes}
use Rattle.nl_exec_cases.proofs.choices.next_choice.Goals as goal

pub returns-in-Some-part-clause-meaning : goal.returns-in-Some-part-clause-meaning
returns-in-Some-part-clause-meaning g c = λ prev units thrifty.
    let code = c.args.code.now in
    let s = state_of code.names c.args.hands.now units in
    condition_comes code prev c.args.node c.args.at c.args.valued s _ _ c.in-Some.ensures.rest c.in-Some-part.ensures.rest c.in-Some-part.ensures.value

pub returns-in-None-clause-meaning : goal.returns-in-None-clause-meaning
returns-in-None-clause-meaning g c = λ prev units thrifty.
    let code = c.args.code.now in
    let s = state_of code.names c.args.hands.now units in
    last_comes code prev c.args.node c.args.at c.args.valued s _ c.in-Some.ensures.rest c.in-None.ensures.rest
