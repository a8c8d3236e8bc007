use Rattle.std.proofs.lemmas.List.Sorted.{IsPermutation-refl}
use Rattle.nl_words.specs.Rows.{rows}
use Rattle.nl_tree.specs.inner.Samples.{base_whats}
use Rattle.nl_tree.proofs.SampleRows.{bare_names, bare_rows}
use Rattle.nl_tree.proofs.tests.bare_program.Goals as goal

pub new-requires-clause-names : goal.new-requires-clause-names
new-requires-clause-names c = rw (c.declared-declared.ensures, c.empty.ensures) bare_names

pub new-requires-clause-rows : goal.new-requires-clause-rows
new-requires-clause-rows c = rw (c.declared-declared.ensures, c.empty.ensures, c.in_ok-rows.ensures, bare_rows) (IsPermutation-refl (base_whats rows))
