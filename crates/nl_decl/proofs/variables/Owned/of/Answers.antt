use Rattle.std.proofs.Common.{List, ap, ◌∙◌, subst}
use Rattle.nl_tree.specs.declared.declared.Breed.{Breed}
use Rattle.nl_tree.specs.Vocabulary.{among}
use Rattle.nl_decl.specs.declared.variables.Owned.{Owned}
use Rattle.nl_decl.specs.inner.Index.{AddsOwn}
use Rattle.nl_decl.proofs.Joining.{filled, owns}
use Rattle.nl_decl.proofs.variables.Owned.of.Goals as goal

pub returns : goal.returns
returns c =
    let own : Owned = record { turtles = c.add_all.new.self; patches = c.add_all-2.new.self; links = c.add_all-3.new.self } in
    owns c.args.declared.now own c.add_breeds.new.self
    (λ q. filled c.none.result c.add_all.new.self c.as_slice.result.now c.none.ensures c.in_ok-add_all.ensures q ∙ ap (among q) c.as_slice.ensures)
    (λ q. filled c.none-2.result c.add_all-2.new.self c.as_slice-2.result.now c.none-2.ensures c.in_ok-add_all-2.ensures q ∙ ap (among q) c.as_slice-2.ensures)
    (λ q. filled c.none-3.result c.add_all-3.new.self c.as_slice-3.result.now c.none-3.ensures c.in_ok-add_all-3.ensures q ∙ ap (among q) c.as_slice-3.ensures)
    (subst (λ (bs : List Breed). AddsOwn own bs c.add_breeds.new.self) c.as_slice-4.ensures c.in_ok-add_breeds.ensures)
