use Rattle.std.proofs.Common.{[], ◌∷◌}
use Rattle.std.proofs.lemmas.List.Sorted.{IsPermutation-refl}
use Rattle.nl_tree.specs.Vocabulary.{whats}
use Rattle.nl_tree.specs.inner.Samples.{declaring, going}
use Rattle.nl_tree.proofs.SampleRows.{going_names, going_fits, going_right, going_left}
use Rattle.nl_tree.proofs.tests.going_program.Goals as goal

pub new-requires-clause-names : goal.new-requires-clause-names
new-requires-clause-names c = rw (c.declared-declared.ensures, c.in_ok-procedures.ensures) going_names

pub new-requires-clause-fit : goal.new-requires-clause-fit
new-requires-clause-fit c = rw (c.declared-declared.ensures, c.in_ok-procedures.ensures, c.in_ok-bodies.ensures) going_fits

pub new-requires-clause-right : goal.new-requires-clause-right
new-requires-clause-right c = rw (c.declared-declared.ensures, c.in_ok-procedures.ensures, c.in_ok-bodies.ensures) going_right

pub new-requires-clause-left : goal.new-requires-clause-left
new-requires-clause-left c = rw (c.declared-declared.ensures, c.in_ok-procedures.ensures, c.in_ok-bodies.ensures, c.in_ok-kinds.ensures) going_left

pub new-requires-clause-rows : goal.new-requires-clause-rows
new-requires-clause-rows c = rw (c.declared-declared.ensures, c.in_ok-procedures.ensures, c.in_ok-rows.ensures) (IsPermutation-refl (whats (declaring (going ∷ []))))
