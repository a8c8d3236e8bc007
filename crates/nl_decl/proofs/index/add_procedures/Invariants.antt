use Rattle.std.proofs.Common.{◌≡◌, ◌++◌, ◌<◌, ◌^◌, length, map, drop}
use Rattle.nl_tree.specs.Index.{term_of}
use Rattle.nl_tree.specs.Names.{procedures_names}
use Rattle.nl_tree.specs.Vocabulary.{counted, procedure_term}
use Rattle.nl_decl.proofs.index.add_procedures.Given as goal

-- the procedures so far have rows, and the rest follows
abbrev pub invariant-procedures : goal.invariant-procedures
invariant-procedures l =
    (l.place ≡ l.procedure-index)
    × (length (procedures_names (drop l.procedure-index l.procedures)) < 2 ^ 31)
    × (map term_of l.list.items ++ counted procedure_term l.place (drop l.procedure-index l.procedures) ≡ map term_of l.fn.list.items ++ counted procedure_term 0 l.procedures)
