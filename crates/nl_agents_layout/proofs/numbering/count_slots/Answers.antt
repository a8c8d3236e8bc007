use Rattle.std.proofs.Common.{◌≡◌, ◌+◌, length, arith, ap, ◌∙◌}
use Rattle.nl_tree.specs.declared.declared.Declared.{Declared}
use Rattle.nl_tree.specs.Vocabulary.{owned_names}
use Rattle.nl_agents_layout.proofs.OwnedRows.{count_index, few_owned}
use Rattle.nl_agents_layout.proofs.numbering.count_slots.Goals as goal

counted : (c : goal.After-count_owned-owned) → c.count_owned-owned.result ≡ length (owned_names c.args.program.now.declared)
counted c =
    let fit = c.declared.ensures.checked.0 in
    let index = c.as_slice.ensures ∙ ap (λ (d : Declared). d.index) c.declared.ensures.value in
    c.count_owned-owned.ensures ∙ count_index c.args.program.now.declared c.as_slice.result.now fit index

pub overflow_cast-result : goal.overflow_cast-result
overflow_cast-result c = omega (arith, counted c, few_owned c.args.program.now.declared c.declared.ensures.checked.0)

pub overflow_add-result : goal.overflow_add-result
overflow_add-result c = omega (arith, counted c, few_owned c.args.program.now.declared c.declared.ensures.checked.0)

pub returns : goal.returns
returns c = ap (λ n. 14 + n) (counted c)
