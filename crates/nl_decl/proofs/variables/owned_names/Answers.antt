use Rattle.std.proofs.Common.{List, ℕ, ap, ◌∙◌}
use Rattle.nl_tree.specs.declared.declared.Breed.{Breed}
use Rattle.nl_tree.specs.Vocabulary.{breed_names, joined}
use Rattle.nl_decl.proofs.Joining.{begun}
use Rattle.nl_decl.proofs.variables.owned_names.Goals as goal

pub returns : goal.returns
returns c =
    let d = c.args.declared.now in
    let patches = c.as_slice-2.result.now in
    let links = c.as_slice-3.result.now in
    let breeds = c.as_slice-4.result.now in
    let last = joined links (breed_names breeds) in
    c.in_ok-join_breeds.ensures ∙ c.in_ok-join-3.ensures (breed_names breeds) ∙ c.in_ok-join-2.ensures last
    ∙ begun c.none-all.result c.join.new.self c.as_slice.result.now (joined patches last) c.none-all.ensures.names c.none-all.ensures.seen c.in_ok-join.ensures
    ∙ ap (λ (xs : List (List ℕ)). joined xs (joined patches last)) c.as_slice.ensures
    ∙ ap (λ (xs : List (List ℕ)). joined d.turtles_own (joined xs last)) c.as_slice-2.ensures
    ∙ ap (λ (xs : List (List ℕ)). joined d.turtles_own (joined d.patches_own (joined xs (breed_names breeds)))) c.as_slice-3.ensures
    ∙ ap (λ (bs : List Breed). joined d.turtles_own (joined d.patches_own (joined d.links_own (breed_names bs)))) c.as_slice-4.ensures
