use Rattle.std.proofs.Common.{List, ℕ, ap, ◌∙◌}
use Rattle.nl_tree.specs.Vocabulary.{joined}
use Rattle.nl_decl.proofs.Joining.{begun}
use Rattle.nl_decl.proofs.variables.global_names.Goals as goal

pub returns : goal.returns
returns c =
    let globals = c.as_slice-2.result.now in
    c.in_ok-append_new.ensures
    ∙ begun c.none-all.result c.join.new.self c.as_slice.result.now globals c.none-all.ensures.names c.none-all.ensures.seen c.in_ok-join.ensures
    ∙ ap (λ (xs : List (List ℕ)). joined xs globals) c.as_slice.ensures
    ∙ ap (λ (xs : List (List ℕ)). joined c.args.declared.now.widgets xs) c.as_slice-2.ensures
