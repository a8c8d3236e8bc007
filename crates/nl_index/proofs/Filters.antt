-- Chains are filters.
use Rattle.std.proofs.Common.{◌≡◌, ℕ, Bool, true, false, Option, Some, None, cond, ◌&&◌, refl, sym, ap, ◌∙◌}
use Rattle.nl_grid.specs.Geometry.{Plane}
use Rattle.nl_store_lists.specs.Chained.{is_in}
use Rattle.nl_store_lists.proofs.Threaded.{lists_are_one}
use Rattle.nl_store_records.specs.Records.{fields_at}
use Rattle.nl_store_records.specs.declared.fields.Body.{Body}
use Rattle.nl_store_records.specs.declared.fields.Body.TheVariants.{Turtle, Link}
use Rattle.nl_store_records.specs.declared.fields.Fields.{Fields}
use Rattle.nl_store_records.specs.declared.record.Record.{Record}
use Rattle.nl_index.specs.Index.{IsIndex, Lists, birth_chain, breed_chain, by_birth, by_breed, by_patch, chain_of, keys_of, patch_chain}
use Rattle.nl_index.specs.Laws.{IsFilter, belongs, is_member}
use Rattle.nl_index.specs.declared.chains.Chain.{Chain}
use Rattle.nl_index.specs.declared.chains.Chain.TheVariants as chain
use Rattle.nl_index.specs.declared.chains.Chains.{Chains}

-- the number of its chain in the kind of this chain
abbrev number_of : Plane → Chain → Fields → Option ℕ
number_of shape chain.Turtles f = by_birth f
number_of shape chain.Links f = by_birth f
number_of shape (chain.Patch patch) f = by_patch shape f
number_of shape (chain.Breed breed) f = by_breed f

abbrev place_of : Chain → ℕ
place_of chain.Turtles = 0
place_of chain.Links = 1
place_of (chain.Patch patch) = patch
place_of (chain.Breed breed) = breed

by-body : (shape : Plane) (c : Chain) (f : Fields) (body : Body) → f.body ≡ body → is_in (number_of shape c f) (place_of c) ≡ belongs shape f.breed c f.body
by-body shape chain.Turtles f (Turtle at) e = ap (λ b. is_in (Some (birth_chain b)) 0) e ∙ sym (ap (belongs shape f.breed chain.Turtles) e)
by-body shape chain.Turtles f (Link directed end1 end2) e = ap (λ b. is_in (Some (birth_chain b)) 0) e ∙ sym (ap (belongs shape f.breed chain.Turtles) e)
by-body shape chain.Links f (Turtle at) e = ap (λ b. is_in (Some (birth_chain b)) 1) e ∙ sym (ap (belongs shape f.breed chain.Links) e)
by-body shape chain.Links f (Link directed end1 end2) e = ap (λ b. is_in (Some (birth_chain b)) 1) e ∙ sym (ap (belongs shape f.breed chain.Links) e)
by-body shape (chain.Patch patch) f (Turtle at) e = ap (λ b. is_in (patch_chain shape b) patch) e ∙ sym (ap (belongs shape f.breed (chain.Patch patch)) e)
by-body shape (chain.Patch patch) f (Link directed end1 end2) e = ap (λ b. is_in (patch_chain shape b) patch) e ∙ sym (ap (belongs shape f.breed (chain.Patch patch)) e)
by-body shape (chain.Breed breed) f (Turtle at) e = ap (λ b. is_in (breed_chain f.breed b) breed) e ∙ sym (ap (belongs shape f.breed (chain.Breed breed)) e)
by-body shape (chain.Breed breed) f (Link directed end1 end2) e = ap (λ b. is_in (breed_chain f.breed b) breed) e ∙ sym (ap (belongs shape f.breed (chain.Breed breed)) e)

by-fields : (shape : Plane) (c : Chain) (o : Option Fields) (b : Bool) → is_in (cond b (chain_of (number_of shape c) o) None) (place_of c) ≡ (b && is_member shape c o)
by-fields shape c o false = refl
by-fields shape c None true = refl
by-fields shape c (Some f) true = by-body shape c f f.body refl

pub chains_are_filters : (chains : Chains) (at : ℕ → Option Record) (filed : ℕ → Bool) (lists : Lists) → IsIndex chains at filed lists → (c : Chain) → IsFilter chains at filed c (keys_of c lists)
chains_are_filters chains at filed lists x chain.Turtles = record { members = λ key. x.births.threaded.members 0 key ∙ by-fields chains.shape chain.Turtles (fields_at at key) (filed key); once = x.births.threaded.once 0 }
chains_are_filters chains at filed lists x chain.Links = record { members = λ key. x.births.threaded.members 1 key ∙ by-fields chains.shape chain.Links (fields_at at key) (filed key); once = x.births.threaded.once 1 }
chains_are_filters chains at filed lists x (chain.Patch patch) = record { members = λ key. x.patches.threaded.members patch key ∙ by-fields chains.shape (chain.Patch patch) (fields_at at key) (filed key); once = x.patches.threaded.once patch }
chains_are_filters chains at filed lists x (chain.Breed breed) = record { members = λ key. x.breeds.threaded.members breed key ∙ by-fields chains.shape (chain.Breed breed) (fields_at at key) (filed key); once = x.breeds.threaded.once breed }

pub lists_are_told : (chains : Chains) (at : ℕ → Option Record) (filed filed' : ℕ → Bool) (xs ys : Lists) → IsIndex chains at filed xs → IsIndex chains at filed' ys → (c : Chain) → keys_of c xs ≡ keys_of c ys
lists_are_told chains at filed filed' xs ys x y chain.Turtles = lists_are_one _ _ _ _ _ xs.births ys.births x.births.threaded y.births.threaded 0
lists_are_told chains at filed filed' xs ys x y chain.Links = lists_are_one _ _ _ _ _ xs.births ys.births x.births.threaded y.births.threaded 1
lists_are_told chains at filed filed' xs ys x y (chain.Patch patch) = lists_are_one _ _ _ _ _ xs.patches ys.patches x.patches.threaded y.patches.threaded patch
lists_are_told chains at filed filed' xs ys x y (chain.Breed breed) = lists_are_one _ _ _ _ _ xs.breeds ys.breeds x.breeds.threaded y.breeds.threaded breed
