use Rattle.std.proofs.Common.{◌≡◌, ap, ◌∙◌, arith, length}
use Rattle.std.specs.List.{count_by}
use Rattle.std.specs.List.Sorted.{IsPermutation}
use Rattle.std.proofs.lemmas.List.Sorted.{IsPermutation-trans}
use Rattle.nl_tree.specs.Slots.{is_global}
use Rattle.nl_tree.specs.Vocabulary.{whats, global_names}
use Rattle.nl_tree.proofs.Counting.{count_rows, few_globals}
use Rattle.nl_tree.proofs.program.Program.new.Goals as goal

moved : (c : goal.After-count_globals-globals) → IsPermutation (whats c.args.declared) c.sorted-rows.result.items
moved c = IsPermutation-trans (whats c.args.declared) c.args.rows _ c.requires.rows c.sorted-rows.ensures.moved

counted : (c : goal.After-count_globals-globals) → c.count_globals-globals.result ≡ length (global_names c.args.declared)
counted c = c.count_globals-globals.ensures ∙ ap (count_by is_global) c.as_slice.ensures.value ∙ count_rows c.args.declared c.sorted-rows.result.items (moved c)

pub overflow_cast-globals : goal.overflow_cast-globals
overflow_cast-globals c = omega (arith, counted c, few_globals c.args.declared c.requires.names)

pub invariant_of-result : goal.invariant_of-result
invariant_of-result c = (
  (c.requires.names, c.requires.many, c.requires.fit, c.requires.right, c.requires.left),
  moved c,
  c.sorted-rows.ensures.sorted,
  counted c,
)
