-- The state of the machine that a reader has.
use Rattle.std.specs.Prelude.{◌-◌, ◌<◌, List, [], take, length}
use Rattle.std.specs.Vec.{vec_len, vec_capacity}
use Rattle.nl_fixed.specs.Nouns.{Names}
use Rattle.nl_parse_grammar.specs.Machine as M
use Rattle.nl_parse_reading.specs.inner.Reading.{mode_of, mode_names, frames_onto, names_onto}
use Rattle.nl_parse_stack.specs.declared.reader.Reader.{Reader}

abbrev pub stack_of : Reader → List M.Frame
stack_of r = frames_onto r.stack.items r.inputs.now []

-- the names known in its newest frame
abbrev pub names_of : Reader → Names
names_of r = names_onto r.stack.items r.inputs.now

abbrev pub state_of : Reader → M.State
state_of r = M.st (mode_of (names_of r) r.mode) (mode_names r.mode (names_of r)) (stack_of r)

-- what lies under its newest frame, and the names known there
abbrev pub outer_stack_of : Reader → List M.Frame
outer_stack_of r = frames_onto (take (length r.stack.items - 1) r.stack.items) r.inputs.now []

abbrev pub outer_names_of : Reader → Names
outer_names_of r = names_onto (take (length r.stack.items - 1) r.stack.items) r.inputs.now

-- one more frame takes no memory
abbrev pub HasRoom : Reader → Type 0
HasRoom r = vec_len r.stack < vec_capacity r.stack
