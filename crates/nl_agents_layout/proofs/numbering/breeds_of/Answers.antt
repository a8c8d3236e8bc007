use Rattle.std.proofs.Common.{◌++◌, [], ◌∷◌, List, map, take, ap, sym, ◌∙◌, arith}
use Rattle.std.proofs.lemmas.List.{map_more}
use Rattle.nl_agents_layout.specs.Layouts.{breed_layout}
use Rattle.nl_agents_layout.specs.declared.layout.BreedLayout.{BreedLayout}
use Rattle.nl_agents_layout.proofs.Collected.{bred}
use Rattle.nl_agents_layout.proofs.numbering.breeds_of.Goals as goal

pub loop-breed-preserved : goal.loop-breed-preserved
loop-breed-preserved c =
    let d = c.args.program.now.declared in
    let b = c.breed-item.result in
    let again = bred d b c.in_ok-plural.plural c.in_ok-singular.singular c.in_ok-own.own c.in_ok-plural.ensures.ok c.in_ok-singular.ensures.ok c.in_ok-own.ensures in
    let done = map (breed_layout d) (take c.loop-breed.breed-index c.as_slice-breeds.result.now) in
    let kept : BreedLayout = record { plural = c.in_ok-plural.plural; singular = c.in_ok-singular.singular; link = b.link; directed = b.directed; own = c.in_ok-own.own } in
    c.in_ok-push.ensures.ok
    ∙ ap (λ (l : List BreedLayout). l ++ kept ∷ []) c.loop-breed.invariant
    ∙ ap (λ (x : BreedLayout). done ++ x ∷ []) (again ∙ ap (breed_layout d) c.breed-item.is)
    ∙ sym (map_more (breed_layout d) c.as_slice-breeds.result.now c.loop-breed.breed-index b (omega arith))
