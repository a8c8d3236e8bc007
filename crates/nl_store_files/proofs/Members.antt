-- Which keys chains have, in the words of turtles and links.
use Rattle.std.proofs.Common.{◌≡◌, ℕ, zero, suc, Bool, true, false, List, [], ◌∷◌, ◌++◌, find, Option, Some, None, is_some, eqb, cond, ◌&&◌, ◌||◌, refl, sym, ap, ◌∙◌}
use Rattle.std.specs.List.{list_any}
use Rattle.nl_grid.specs.Geometry.{Plane, patch_at}
use Rattle.nl_agents.specs.declared.agents.Turtle as living
use Rattle.nl_agents.specs.declared.agents.Link as tie
use Rattle.nl_store_lists.specs.Chained.{has, IsOnce}
use Rattle.nl_store_lists.specs.Rising.{collect}
use Rattle.nl_store_lists.proofs.Members.{has-first}
use Rattle.nl_store_records.specs.declared.fields.Body.{Body}
use Rattle.nl_store_records.specs.declared.fields.Body.TheVariants.{Turtle, Link}
use Rattle.nl_store_records.specs.declared.record.Record.{Record}
use Rattle.nl_index.specs.Laws.{belongs, is_member}
use Rattle.nl_index.specs.declared.chains.Chain.{Chain}
use Rattle.nl_index.specs.declared.chains.Chain.TheVariants as chain
use Rattle.nl_index.specs.declared.chains.Chains.{Chains}
use Rattle.nl_index.specs.Index.{keys_of}
use Rattle.nl_index.proofs.Filters.{chains_are_filters}
use Rattle.nl_links.specs.Laws.{begins_at, ends_at, in_body}
use Rattle.nl_links.specs.declared.ends.Ends.{Ends}
use Rattle.nl_links.proofs.Filters.{ends_are_filters}
use Rattle.nl_store_lists.specs.Rolls.{numbered, passes, roll, under, IsRoll}
use Rattle.nl_store_lists.proofs.Collecting.{is_at, collect-none, collect-some}
use Rattle.nl_store_lists.proofs.Rolls.{item-found}
use Rattle.nl_store_files.specs.Agents.{link_at, link_in, turtle_at, turtle_in}
use Rattle.nl_store_files.specs.Standing.{held, is_link, IsFiles}
use Rattle.nl_store_files.proofs.Parts.{fields_in}

-- ---- tests of turtles and links

-- the turtle belongs in the chain
abbrev pub turtle_of_chain : Plane → Chain → living.Turtle → Bool
turtle_of_chain shape chain.Turtles t = true
turtle_of_chain shape chain.Links t = false
turtle_of_chain shape (chain.Patch patch) t = eqb (patch_at shape t.at) patch
turtle_of_chain shape (chain.Breed breed) t = eqb t.breed breed

-- the chain is one of turtles
abbrev pub IsOfTurtles : Chain → Type 0
IsOfTurtles chain.Turtles = Unit {0}
IsOfTurtles chain.Links = ⊥
IsOfTurtles (chain.Patch patch) = Unit {0}
IsOfTurtles (chain.Breed breed) = Unit {0}

by-chain : (shape : Plane) (c : Chain) (r : Option Record) → IsOfTurtles c → (is_some r && is_member shape c (fields_in r)) ≡ passes (turtle_of_chain shape c) (turtle_in (fields_in r))
by-chain shape c None h = refl
by-chain shape c (Some r) h = go c h r.fields.body refl
  where
    told : (c : Chain) (b : Body) → IsOfTurtles c → belongs shape r.fields.breed c b ≡ passes (turtle_of_chain shape c) (turtle_in (Some (record r.fields { body = b })))
    told chain.Turtles (Turtle at) h = refl
    told chain.Turtles (Link directed end1 end2) h = refl
    told chain.Links b h = absurd h
    told (chain.Patch patch) (Turtle at) h = refl
    told (chain.Patch patch) (Link directed end1 end2) h = refl
    told (chain.Breed breed) (Turtle at) h = refl
    told (chain.Breed breed) (Link directed end1 end2) h = refl

    go : (c : Chain) → IsOfTurtles c → (b : Body) → r.fields.body ≡ b → (is_some (Some r) && is_member shape c (Some r.fields)) ≡ passes (turtle_of_chain shape c) (turtle_in (Some r.fields))
    go c h b q = told c r.fields.body h

by-links : (shape : Plane) (r : Option Record) → (is_some r && is_member shape chain.Links (fields_in r)) ≡ passes (λ (l : tie.Link). true) (link_in (fields_in r))
by-links shape None = refl
by-links shape (Some r) = go r.fields.body
  where
    go : (b : Body) → belongs shape r.fields.breed chain.Links b ≡ passes (λ (l : tie.Link). true) (link_in (Some (record r.fields { body = b })))
    go (Turtle at) = refl
    go (Link directed end1 end2) = refl

abbrev pub begins_with : ℕ → tie.Link → Bool
begins_with turtle l = eqb l.end1 turtle

abbrev pub ends_with : ℕ → tie.Link → Bool
ends_with turtle l = eqb l.end2 turtle

by-first : (turtle : ℕ) (r : Option Record) → (is_some (link_in (fields_in r)) && in_body (begins_at turtle) (fields_in r)) ≡ passes (begins_with turtle) (link_in (fields_in r))
by-first turtle None = refl
by-first turtle (Some r) = go r.fields.body
  where
    go : (b : Body) → (is_some (link_in (Some (record r.fields { body = b }))) && begins_at turtle b) ≡ passes (begins_with turtle) (link_in (Some (record r.fields { body = b })))
    go (Turtle at) = refl
    go (Link directed end1 end2) = refl

by-second : (turtle : ℕ) (r : Option Record) → (is_some (link_in (fields_in r)) && in_body (ends_at turtle) (fields_in r)) ≡ passes (ends_with turtle) (link_in (fields_in r))
by-second turtle None = refl
by-second turtle (Some r) = go r.fields.body
  where
    go : (b : Body) → (is_some (link_in (Some (record r.fields { body = b }))) && ends_at turtle b) ≡ passes (ends_with turtle) (link_in (Some (record r.fields { body = b })))
    go (Turtle at) = refl
    go (Link directed end1 end2) = refl

module _ (chains : Chains) (ends : Ends) (at : ℕ → Option Record) (tkey lkey : ℕ → Option ℕ) (tg lg : ℕ) (d : IsFiles chains ends at tkey lkey tg lg) where
  pub turtle-members : (c : Chain) → IsOfTurtles c → (k : ℕ) → has (keys_of c d.lists) k ≡ passes (turtle_of_chain chains.shape c) (turtle_at at k)
  turtle-members c h k = (chains_are_filters chains at (held at) d.lists d.index c).members k ∙ by-chain chains.shape c (at k) h

  pub link-members : (k : ℕ) → has (keys_of chain.Links d.lists) k ≡ passes (λ (l : tie.Link). true) (link_at at k)
  link-members k = (chains_are_filters chains at (held at) d.lists d.index chain.Links).members k ∙ by-links chains.shape (at k)

  pub chain-once : (c : Chain) → IsOnce (keys_of c d.lists)
  chain-once c = (chains_are_filters chains at (held at) d.lists d.index c).once

  pub first-members : (turtle k : ℕ) → has (d.joined.first turtle) k ≡ passes (begins_with turtle) (link_at at k)
  first-members turtle k = (ends_are_filters ends at (is_link at) d.joined d.ended turtle).first.members k ∙ by-first turtle (at k)

  pub second-members : (turtle k : ℕ) → has (d.joined.second turtle) k ≡ passes (ends_with turtle) (link_at at k)
  second-members turtle k = (ends_are_filters ends at (is_link at) d.joined d.ended turtle).second.members k ∙ by-second turtle (at k)

  pub first-once : (turtle : ℕ) → IsOnce (d.joined.first turtle)
  first-once turtle = (ends_are_filters ends at (is_link at) d.joined d.ended turtle).first.once

  pub second-once : (turtle : ℕ) → IsOnce (d.joined.second turtle)
  second-once turtle = (ends_are_filters ends at (is_link at) d.joined d.ended turtle).second.once

-- ---- lists that have none

pub has-none : (xs : List ℕ) → ((k : ℕ) → has xs k ≡ true → ⊥) → xs ≡ []
has-none [] h = refl
has-none (x ∷ xs) h = absurd (h x (has-first x xs))

module _ {X : Type 0} (p : X → Bool) where
  found-any : (q : X → Bool) (xs : List X) (x : X) → find q xs ≡ Some x → p x ≡ true → list_any p xs ≡ true
  found-any q [] x e h = absurd (cc)
  found-any q (y ∷ ys) x e h = go (q y) refl (found-any q ys x)
    where
      or-true : (b : Bool) → (b || true) ≡ true
      or-true true = refl
      or-true false = refl

      go : (b : Bool) → q y ≡ b → (find q ys ≡ Some x → p x ≡ true → list_any p ys ≡ true) → list_any p (y ∷ ys) ≡ true
      go true s rest =
          let z : find q (y ∷ ys) ≡ Some y = ap (λ b. cond b (Some y) (find q ys)) s in
          let same : y ≡ x = cc in
          ap (λ b. b || list_any p ys) (ap p same ∙ h)
      go false s rest =
          let z : find q (y ∷ ys) ≡ find q ys = ap (λ b. cond b (Some y) (find q ys)) s in
          ap (λ b. p y || b) (rest (sym z ∙ e) h) ∙ or-true (p y)

  -- an item that passes the test is in the roll
  pub roll-any : (number_of : X → ℕ) (item : ℕ → Option X) (key_of : ℕ → Option ℕ) (n : ℕ) → IsRoll number_of item key_of n → (k : ℕ) (x : X) → item k ≡ Some x → p x ≡ true → list_any p (roll item key_of n) ≡ true
  roll-any number_of item key_of n d k x e h = found-any (is_at number_of (number_of x)) (roll item key_of n) x (item-found number_of item key_of n d k x e) h

  any-append : (xs : List X) (x : X) → list_any p xs ≡ false → p x ≡ false → list_any p (xs ++ x ∷ []) ≡ false
  any-append [] x a b = ap (λ c. c || false) b
  any-append (y ∷ ys) x a b = go (p y) refl (any-append ys x)
    where
      go : (c : Bool) → p y ≡ c → (list_any p ys ≡ false → p x ≡ false → list_any p (ys ++ x ∷ []) ≡ false) → list_any p (y ∷ (ys ++ x ∷ [])) ≡ false
      go true s rest = absurd (let z : list_any p (y ∷ ys) ≡ true = ap (λ c. c || list_any p ys) s in cc)
      go false s rest =
          let z : list_any p ys ≡ false = sym (ap (λ c. c || list_any p ys) s) ∙ a in
          ap (λ c. c || list_any p (ys ++ x ∷ [])) s ∙ rest z b

  collect-any : (f : ℕ → Option X) (n : ℕ) → ((m : ℕ) (x : X) → f m ≡ Some x → p x ≡ false) → list_any p (collect f n) ≡ false
  collect-any f zero none = refl
  collect-any f (suc n) none = go (f n) refl (collect-any f n none)
    where
      go : (o : Option X) → f n ≡ o → list_any p (collect f n) ≡ false → list_any p (collect f (suc n)) ≡ false
      go None e rest = ap (list_any p) (collect-none f n e) ∙ rest
      go (Some x) e rest = ap (list_any p) (collect-some f n x e) ∙ any-append (collect f n) x rest (none n x e)

  -- where no item passes the test none in the roll does
  pub roll-none : (item : ℕ → Option X) (key_of : ℕ → Option ℕ) (n : ℕ) → ((k : ℕ) (x : X) → item k ≡ Some x → p x ≡ false) → list_any p (roll item key_of n) ≡ false
  roll-none item key_of n none = collect-any (numbered item key_of) n (λ m x e. go (key_of m) x e)
    where
      go : (o : Option ℕ) (x : X) → under item o ≡ Some x → p x ≡ false
      go None x e = absurd (cc)
      go (Some k) x e = none k x e
