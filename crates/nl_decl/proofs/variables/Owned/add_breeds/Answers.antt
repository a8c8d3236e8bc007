use Rattle.std.proofs.Common.{◌≡◌, ◌+◌, ◌∷◌, List, drop, ap, sym, subst, ◌∙◌}
use Rattle.nl_tree.specs.declared.declared.Breed.{Breed}
use Rattle.nl_decl.specs.inner.Index.{AddsOwn}
use Rattle.nl_decl.proofs.Rows.{next_of}
use Rattle.nl_decl.proofs.Joining.{adds_more}
use Rattle.nl_decl.proofs.variables.Owned.add_breeds.Goals as goal

pub breeds-preserved : goal.breeds-preserved
breeds-preserved c = λ later rest.
    let i = c.breeds.breed-index in
    let it = c.breed-item.result in
    let split : drop i c.args.breeds.now ≡ it ∷ drop (i + 1) c.args.breeds.now = next_of c.args.breeds.now i it c.breeds-test.true ∙ ap (λ x. x ∷ drop (i + 1) c.args.breeds.now) (sym c.breed-item.is) in
    c.breeds.invariant later
    (subst (λ (bs : List Breed). AddsOwn c.breeds.self bs later) (sym split) (adds_more c.breeds.self c.add_breed.new.self later it (drop (i + 1) c.args.breeds.now) c.in_ok-add_breed.ensures rest))
