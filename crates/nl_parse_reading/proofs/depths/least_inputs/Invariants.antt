use Rattle.std.proofs.Common.{◌≡◌, ◌≤◌, ◌++◌, map, max, length}
use Rattle.nl_tree.specs.Tokens.{repeated}
use Rattle.nl_parse_grammar.specs.Depth.{least_inputs}
use Rattle.nl_parse_reading.specs.inner.View.{need_by}
use Rattle.nl_parse_reading.proofs.depths.least_inputs.Given as goal

abbrev pub invariant-listed : goal.invariant-listed
invariant-listed l = record {
  least : least_inputs (map (need_by l.fn.inputs.whole l.fn.inputs.names) (repeated l.fn.inputs.values)) l.fn.last ≤ l.least;
  same : max l.least (least_inputs (map (need_by l.fn.inputs.whole l.fn.inputs.names) (l.rest ++ repeated l.fn.inputs.values)) l.fn.last) ≡ least_inputs (map (need_by l.fn.inputs.whole l.fn.inputs.names) (l.fn.inputs.listed.now ++ repeated l.fn.inputs.values)) l.fn.last;
}

abbrev pub decreases-listed : goal.decreases-listed
decreases-listed l = length l.rest
