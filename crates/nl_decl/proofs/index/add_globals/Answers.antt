use Rattle.std.proofs.Common.{◌≡◌, ◌+◌, ◌∷◌, drop, ap, sym, ◌∙◌}
use Rattle.nl_words.specs.Kinds.{everyone}
use Rattle.nl_tree.specs.declared.declared.What.TheVariants as what
use Rattle.nl_tree.specs.Vocabulary.{global_term, variable_term}
use Rattle.nl_tree.specs.Index.{named}
use Rattle.nl_decl.proofs.Rows.{next_of}
use Rattle.nl_decl.proofs.Rows.{counted_more}
use Rattle.nl_decl.proofs.index.add_globals.Goals as goal

pub names-preserved : goal.names-preserved
names-preserved c =
    let i = c.names.name-index in
    let it = c.name-item.result in
    let split : drop i c.args.names.now ≡ it ∷ drop (i + 1) c.args.names.now = next_of c.args.names.now i it c.names-test.true ∙ ap (λ x. x ∷ drop (i + 1) c.args.names.now) (sym c.name-item.is) in
    let row : named c.in_ok-name.name c.variable.result ≡ global_term c.names.place it = c.variable.ensures c.in_ok-name.name ∙ ap (λ n. variable_term n everyone (what.Global c.names.place)) c.in_ok-name.ensures.ok in
    (ap (λ n. n + 1) c.names.invariant.0, counted_more global_term c.names.place i c.args.names.now it _ _ _ _ split row c.in_ok-add.ensures c.names.invariant.1)
