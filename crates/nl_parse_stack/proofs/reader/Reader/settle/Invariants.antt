use Rattle.std.proofs.Common.{◌≡◌, length}
use Rattle.nl_parse_grammar.specs.Machine.{settle}
use Rattle.nl_parse_stack.specs.inner.State.{stack_of, names_of}
use Rattle.nl_parse_stack.proofs.reader.Reader.settle.Given as goal

abbrev pub invariant-frames : goal.invariant-frames
invariant-frames l =
    (settle l.level l.held.0 l.held.1 (stack_of l.self) ≡ settle l.level l.initial.held.0 l.initial.held.1 (stack_of l.initial.self))
    × (names_of l.self ≡ names_of l.initial.self)

abbrev pub decreases-frames : goal.decreases-frames
decreases-frames l = length l.self.stack.items
