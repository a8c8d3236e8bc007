use Rattle.std.proofs.Common.{◌≡◌, ◌+◌, ◌∷◌, drop, ap, sym, ◌∙◌}
use Rattle.nl_tree.specs.declared.declared.What.TheVariants as what
use Rattle.nl_tree.specs.Vocabulary.{owned_term, variable_term}
use Rattle.nl_decl.specs.inner.Index.{users}
use Rattle.nl_tree.specs.Index.{named}
use Rattle.nl_decl.proofs.Rows.{next_of}
use Rattle.nl_decl.proofs.Rows.{counted_more}
use Rattle.nl_decl.proofs.index.add_owned.Goals as goal

pub names-preserved : goal.names-preserved
names-preserved c =
    let i = c.names.name-index in
    let it = c.name-item.result in
    let split : drop i c.args.names.now ≡ it ∷ drop (i + 1) c.args.names.now = next_of c.args.names.now i it c.names-test.true ∙ ap (λ x. x ∷ drop (i + 1) c.args.names.now) (sym c.name-item.is) in (
      ap (λ n. n + 1) c.names.invariant.0,
      λ d known.
          let row : named c.in_ok-name.name c.variable.result ≡ owned_term d c.names.place it =
          c.variable.ensures c.in_ok-name.name ∙ ap (λ n. variable_term n c.users-users.result (what.Own c.names.place)) c.in_ok-name.ensures.ok
          ∙ ap (λ k. variable_term it k (what.Own c.names.place)) (c.users-users.ensures d known ∙ ap (users d) c.as_bytes.ensures) in
          counted_more (owned_term d) c.names.place i c.args.names.now it _ _ _ _ split row c.in_ok-add.ensures (c.names.invariant.1 d known),
    )
