-- The bodies stand first.
use Rattle.std.proofs.Common.{◌∙◌, sym, arith}
use Rattle.nl_exec_meaning.specs.inner.Arena.{trees_seen}
use Rattle.nl_exec_meaning.proofs.Heads.{no_heads}
use Rattle.nl_exec_meaning.proofs.Lists.{grows_on, grows_same}
use Rattle.nl_exec_meaning.proofs.Numbering.{no_names}
use Rattle.nl_exec_meaning.proofs.Inputs.{inputs_grown}
use Rattle.nl_exec_meaning.proofs.Resolved.{items_grown, trees_length}
use Rattle.nl_exec_meaning.proofs.Kept.{code_first}
use Rattle.nl_exec_meaning.proofs.arena.Code.new.Goals as goal

pub invariant_of-result : goal.invariant_of-result
invariant_of-result c =
    let p = c.args.program.now in
    let before = c.resolve_all.new.names in
    let names = c.number_heads.new.names in
    let ts = trees_seen c.resolve_all.new.trees.items in
    let full = c.in_ok-resolve_all.ensures.full ∙ sym (trees_length c.resolve_all.new.trees.items) in
    let first = rw c.new-trees.ensures.items at c.in_ok-push_bodies.ensures in
    let numbers = rw c.procedures_of.ensures.value at c.in_ok-inputs.ensures.numbers in
    code_first p names (trees_seen c.push_bodies.new.trees.items) ts c.resolve_all.new.items.items c.in_ok-inputs.inputs.items c.number_heads.new.heads.items c.len-kept.result
    (items_grown p.declared before names ts ts c.resolve_all.new.items.items c.number_heads.ensures.grows (grows_same ts) (omega (arith, full)) c.in_ok-resolve_all.ensures.right) full (omega (arith, c.len-kept.ensures, c.resolve_all.new.items.ok.0)) first c.procedures_of.ensures.many c.resolve_all.ensures.trees
    (c.number_heads.ensures.apart (c.resolve_all.ensures.apart (c.number_inputs.ensures.apart (no_names c.empty-names.result c.empty-names.ensures))))
    (inputs_grown c.number_inputs.new.names names (grows_on c.number_inputs.new.names before names c.resolve_all.ensures.names c.number_heads.ensures.grows) c.in_ok-inputs.inputs.items p.declared.procedures numbers)
    (rw c.as_slice.ensures.value at c.in_ok-number_heads.ensures.heads)

pub returns-clause-kept : goal.returns-clause-kept
returns-clause-kept c =
    trees_length c.resolve_all.new.trees.items ∙ sym c.in_ok-resolve_all.ensures.full ∙ omega (arith, c.len-kept.ensures, c.resolve_all.new.items.ok.0)

pub number_heads-requires : goal.number_heads-requires
number_heads-requires c = record { heads = rw c.new-heads.ensures.items (no_heads c.resolve_all.new.names (trees_seen c.as_slice.result.now)) }
