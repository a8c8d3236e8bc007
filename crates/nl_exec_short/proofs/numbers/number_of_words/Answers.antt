-- A word of what its two parts give, or parentheses, of words of such nodes.
use Rattle.nl_value.specs.Plain.{PlainNumber}
use Rattle.nl_exec_meaning.specs.Code.{node_at}
use Rattle.nl_exec_meaning.specs.Seen.{state_of}
use Rattle.nl_exec_short.proofs.Words.{both_had}
use Rattle.nl_exec_short.proofs.Inside.{had_inside}
use Rattle.nl_exec_short.proofs.numbers.number_of_words.Goals as goal

pub returns-in-Some : goal.returns-in-Some
returns-in-Some g c =
    let code = c.args.code.now in
    let word = c.in-Some.word in
    both_had code.program (node_at code c.args.node) (node_at code word.left) (node_at code word.right) (λ n. state_of code.names c.args.hands.now n) 3 word.which
    c.number_of_leaves.result c.number_of_leaves-in-Some.result c.of_both.result c.in-Some.ensures c.number_of_leaves.ensures c.number_of_leaves-in-Some.ensures c.of_both.ensures.made c.of_both.ensures.both

pub returns-in-Some-inside_of : goal.returns-in-Some-inside_of
returns-in-Some-inside_of g c =
    let code = c.args.code.now in
    let inner = c.number_of_leaves-in-Some-inside_of in
    had_inside code.program (node_at code c.args.node) (node_at code c.in-Some-inside_of.part) (λ n. state_of code.names c.args.hands.now n) 3 (λ x. PlainNumber x)
    inner.result c.in-Some-inside_of.ensures inner.ensures
