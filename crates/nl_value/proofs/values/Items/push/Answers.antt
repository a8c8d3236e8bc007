-- What is kept of one more item.
use Rattle.std.proofs.Common.{List, map, arith, ap, ◌∙◌}
use Rattle.nl_value.specs.declared.values.Value.{Value}
use Rattle.nl_value.specs.Plain.{plains}
use Rattle.nl_value.specs.Measures.{sizes_of, deepest_of}
use Rattle.nl_value.specs.Views.{plain}
use Rattle.nl_value.proofs.MeasureLemmas.{sizes_end, deepest_end}
use Rattle.nl_value.proofs.values.Items.push.Goals as goal

pub invariant_of-self-2 : goal.invariant_of-self-2
invariant_of-self-2 c =
    let size = ap (λ (vs : List Value). sizes_of (plains (map plain vs))) c.in_ok-push.ensures.items ∙ sizes_end c.self.inside.list.items c.args.value in
    let depth = ap (λ (vs : List Value). deepest_of (plains (map plain vs))) c.in_ok-push.ensures.items ∙ deepest_end c.self.inside.list.items c.args.value in
    (omega (arith, size, c.self.invariant.0, c.size.ensures, c.saturating_add-size.ensures), omega (arith, depth, c.self.invariant.1, c.depth.ensures, c.max-depth.ensures))
