use Rattle.std.proofs.Common.{◌≡◌, ◌<◌, List, ℕ, Some, None, All, filter, ap, sym, subst, ◌∙◌}
use Rattle.std.proofs.lemmas.Result.{IfOk-weaker}
use Rattle.nl_value.specs.Nouns.{Serials}
use Rattle.nl_value.specs.declared.sets.AgentSet.{AgentSet}
use Rattle.nl_value.specs.declared.sets.AgentSet.TheVariants.{LinkBreed, SomeLinks}
use Rattle.nl_grid.specs.Geometry.{patches_of}
use Rattle.nl_agents.specs.Members.{members_of, all_links}
use Rattle.nl_agentset_query.specs.Near.{members_where}
use Rattle.nl_agentset_query.specs.inner.Regions.{holds, is_kept}
use Rattle.nl_agentset_query.proofs.Regional.{turtles_kept, breed_kept, none_kept, patches_inside, all_inside}
use Rattle.nl_agentset_query.proofs.near.Region.members.Goals as goal

pub patches_of-requires-clause-inside : goal.patches_of-requires-clause-inside
patches_of-requires-clause-inside g c =
    let r = (g.S.Store.world c.args.store.now).rest in
    let Inside : List ℕ → Type 0 = λ l. All (λ patch. patch < patches_of r.shape) l in
    subst Inside (sym (c.in_ok-all-in-Patches.ensures.list ∙ ap (members_of r) c.in-Patches.is)) (all_inside r)

pub patches_of-requires-in-SomePatches-clause-inside : goal.patches_of-requires-in-SomePatches-clause-inside
patches_of-requires-in-SomePatches-clause-inside g c =
    let r = (g.S.Store.world c.args.store.now).rest in
    let Inside : List ℕ → Type 0 = λ l. All (λ patch. patch < patches_of r.shape) l in
    subst Inside (sym (c.in_ok-all-in-SomePatches.ensures.list ∙ ap (members_of r) c.in-SomePatches.is)) (patches_inside r _)

pub returns-in_ok-around-in-Turtles-clause-list : goal.returns-in_ok-around-in-Turtles-clause-list
returns-in_ok-around-in-Turtles-clause-list g c =
    let w = g.S.Store.world c.args.store.now in
    let region = c.args.self.now in
    let kept = is_kept w.rest region None in
    let where_ : AgentSet → Serials = λ set. members_where (holds w.rest.shape region) w.rest set in
    IfOk-weaker c.turtles_of.result (λ (members : Serials). members ≡ filter kept c.in_ok-around-in-Turtles.around) (λ (members : Serials). members ≡ where_ c.args.set.now)
    (λ members is. is ∙ ap (filter kept) c.in_ok-around-in-Turtles.ensures.list ∙ turtles_kept w region c.shape-stands.ensures.stands c.requires.at ∙ ap where_ (sym c.in-Turtles.is))
    c.turtles_of.ensures

pub returns-in_ok-around-in-Breed-clause-list : goal.returns-in_ok-around-in-Breed-clause-list
returns-in_ok-around-in-Breed-clause-list g c =
    let w = g.S.Store.world c.args.store.now in
    let region = c.args.self.now in
    let kept = is_kept w.rest region (Some c.in-Breed.breed) in
    let where_ : AgentSet → Serials = λ set. members_where (holds w.rest.shape region) w.rest set in
    IfOk-weaker c.turtles_of-in-Breed.result (λ (members : Serials). members ≡ filter kept c.in_ok-around-in-Breed.around) (λ (members : Serials). members ≡ where_ c.args.set.now)
    (λ members is. is ∙ ap (filter kept) c.in_ok-around-in-Breed.ensures.list ∙ breed_kept w region c.in-Breed.breed c.shape-stands.ensures.stands c.requires.at ∙ ap where_ (sym c.in-Breed.is))
    c.turtles_of-in-Breed.ensures

pub returns-in-Links-clause-list : goal.returns-in-Links-clause-list
returns-in-Links-clause-list g c =
    let r = (g.S.Store.world c.args.store.now).rest in
    let where_ : AgentSet → Serials = λ set. members_where (holds r.shape c.args.self.now) r set in
    c.empty.ensures ∙ none_kept (all_links r) ∙ ap where_ (sym c.in-Links.is)

pub returns-in-LinkBreed-clause-list : goal.returns-in-LinkBreed-clause-list
returns-in-LinkBreed-clause-list g c =
    let r = (g.S.Store.world c.args.store.now).rest in
    let where_ : AgentSet → Serials = λ set. members_where (holds r.shape c.args.self.now) r set in
    c.empty-in-LinkBreed.ensures ∙ none_kept (members_of r (LinkBreed c.in-LinkBreed.field-0)) ∙ ap where_ (sym c.in-LinkBreed.is)

pub returns-in-SomeLinks-clause-list : goal.returns-in-SomeLinks-clause-list
returns-in-SomeLinks-clause-list g c =
    let r = (g.S.Store.world c.args.store.now).rest in
    let where_ : AgentSet → Serials = λ set. members_where (holds r.shape c.args.self.now) r set in
    c.empty-in-SomeLinks.ensures ∙ none_kept (members_of r (SomeLinks c.in-SomeLinks.field-0)) ∙ ap where_ (sym c.in-SomeLinks.is)
