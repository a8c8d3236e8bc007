use Rattle.std.proofs.Common.{◌≡◌, ◌≤◌, take}
use Rattle.nl_tree.specs.Vocabulary.{terms}
use Rattle.nl_tree.specs.BodyFault.{deepest}
use Rattle.nl_parse_grammar.specs.Machine.{go, run_from}
use Rattle.nl_parse_grammar.specs.Depth.{least_depth}
use Rattle.nl_parse_stack.specs.inner.State.{state_of}
use Rattle.nl_parse.proofs.Run.{toks_of}
use Rattle.nl_parse.proofs.body.read_tokens.Given as goal

abbrev pub invariant-loop-place : goal.invariant-loop-place
invariant-loop-place l = record {
  so_far : run_from (go (state_of l.initial.reader)) (take l.place (toks_of (terms l.declared) l.text l.tokens)) ≡ go (state_of l.reader);
  allowed : least_depth (state_of l.reader) ≤ deepest;
}
