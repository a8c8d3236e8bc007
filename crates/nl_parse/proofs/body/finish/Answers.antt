use Rattle.nl_parse_reading.specs.inner.Reading.{mode_of, mode_names}
use Rattle.nl_parse_stack.specs.inner.State.{state_of, names_of, stack_of}
use Rattle.nl_parse_grammar.proofs.Over.{ends_over, tree_over}
use Rattle.nl_parse.proofs.body.finish.Goals as goal

pub unreachable-requires : goal.unreachable-requires
unreachable-requires c =
    let n = c.step.new.reader in
    let over = ends_over (state_of c.args.reader.now) c.args.end (mode_of (names_of n) n.mode) (mode_names n.mode (names_of n)) (stack_of n) c.in_default.ensures.ok in
    let (t, q) = tree_over (mode_of (names_of n) n.mode) over in
    c.in-None.ensures.none t q
