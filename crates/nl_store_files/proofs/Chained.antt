-- The chain of a patch and those of a turtle's links: paths of as many keys as there are turtles and links.
use Rattle.std.proofs.Common.{◌≡◌, ℕ, ◌≤◌, ◌+◌, List, ◌++◌, length, filter, Option, sym, subst, ◌∙◌}
use Rattle.std.proofs.lemmas.List.{length-append}
use Rattle.nl_agents.specs.Changes.{has_end}
use Rattle.nl_agents.specs.declared.agents.Turtle as living
use Rattle.nl_agents.specs.declared.agents.Link as tie
use Rattle.nl_store_records.specs.Records.{fields_at}
use Rattle.nl_store_records.specs.declared.record.Record.{Record}
use Rattle.nl_index.specs.Index.{first_of}
use Rattle.nl_index.specs.declared.chains.Chain.TheVariants as chain
use Rattle.nl_index.specs.declared.chains.Chains.{Chains}
use Rattle.nl_links.specs.declared.ends.Ends.{Ends}
use Rattle.nl_store_lists.specs.Rolls.{roll}
use Rattle.nl_store_files.specs.Agents.{link_at, link_serial, turtle_at, turtle_serial}
use Rattle.nl_store_files.specs.Standing.{IsFiles}
use Rattle.nl_store_files.specs.Walks.{IsPath}
use Rattle.nl_store_files.proofs.Joined.{both-members, both-once}
use Rattle.nl_store_files.proofs.Listed.{chain-path, filter-short, listed-long, listed-short}
use Rattle.nl_store_files.proofs.Looked.{link-number, turtle-number}
use Rattle.nl_store_files.proofs.Members.{begins_with, chain-once, ends_with, first-members, first-once, second-members, second-once, turtle-members, turtle_of_chain}

module _ (chains : Chains) (ends : Ends) (at : ℕ → Option Record) (tkey lkey : ℕ → Option ℕ) (tg lg : ℕ) (d : IsFiles chains ends at tkey lkey tg lg) where
  abbrev turtles : List living.Turtle
  turtles = roll (turtle_at at) tkey tg

  abbrev links : List tie.Link
  links = roll (link_at at) lkey lg

  module _ (patch : ℕ) where
    pub patch-long : length (d.lists.patches patch) ≡ length (filter (turtle_of_chain chains.shape (chain.Patch patch)) turtles)
    patch-long = listed-long turtle_serial (turtle_at at) tkey tg d.turtles (turtle_of_chain chains.shape (chain.Patch patch)) at (λ k x e. turtle-number (fields_at at k) x e)
        (d.lists.patches patch) (chain-once chains ends at tkey lkey tg lg d (chain.Patch patch)) (turtle-members chains ends at tkey lkey tg lg d (chain.Patch patch) tt)

    patch-short : length (d.lists.patches patch) ≤ length turtles
    patch-short = listed-short turtle_serial (turtle_at at) tkey tg d.turtles (turtle_of_chain chains.shape (chain.Patch patch)) at (λ k x e. turtle-number (fields_at at k) x e)
        (d.lists.patches patch) (chain-once chains ends at tkey lkey tg lg d (chain.Patch patch)) (turtle-members chains ends at tkey lkey tg lg d (chain.Patch patch) tt)

    pub patch-path : (first : Option ℕ) → first ≡ first_of (d.lists.patches patch) → IsPath 1 at first (d.lists.patches patch)
    patch-path first is = subst (λ x. IsPath 1 at x (d.lists.patches patch)) (sym is) (chain-path 1 _ at _ d.lists.patches patch d.index.patches)

    pub patch-few : (most : ℕ) → most ≡ length turtles → length (d.lists.patches patch) ≤ most
    patch-few most many = subst (λ m. length (d.lists.patches patch) ≤ m) (sym many) patch-short

  module _ (turtle : ℕ) where
    first-short : length (d.joined.first turtle) ≤ length links
    first-short = listed-short link_serial (link_at at) lkey lg d.links (begins_with turtle) at (λ k x e. link-number (fields_at at k) x e)
        (d.joined.first turtle) (first-once chains ends at tkey lkey tg lg d turtle) (first-members chains ends at tkey lkey tg lg d turtle)

    second-short : length (d.joined.second turtle) ≤ length links
    second-short = listed-short link_serial (link_at at) lkey lg d.links (ends_with turtle) at (λ k x e. link-number (fields_at at k) x e)
        (d.joined.second turtle) (second-once chains ends at tkey lkey tg lg d turtle) (second-members chains ends at tkey lkey tg lg d turtle)

    pub first-path : (first : Option ℕ) → first ≡ first_of (d.joined.first turtle) → IsPath 3 at first (d.joined.first turtle)
    first-path first is = subst (λ x. IsPath 3 at x (d.joined.first turtle)) (sym is) (chain-path 3 _ at _ d.joined.first turtle d.ended.first)

    pub first-few : (most : ℕ) → most ≡ length links → length (d.joined.first turtle) ≤ most
    first-few most many = subst (λ m. length (d.joined.first turtle) ≤ m) (sym many) first-short

    pub second-path : (first : Option ℕ) → first ≡ first_of (d.joined.second turtle) → IsPath 4 at first (d.joined.second turtle)
    second-path first is = subst (λ x. IsPath 4 at x (d.joined.second turtle)) (sym is) (chain-path 4 _ at _ d.joined.second turtle d.ended.second)

    pub second-few : (most : ℕ) → most ≡ length links → length (d.joined.second turtle) ≤ most
    second-few most many = subst (λ m. length (d.joined.second turtle) ≤ m) (sym many) second-short

    -- the links that begin at the turtle and those that end there are those with it as an end
    pub both-long : length (d.joined.first turtle) + length (d.joined.second turtle) ≡ length (filter (has_end turtle) links)
    both-long = sym (length-append (d.joined.first turtle) (d.joined.second turtle))
        ∙ listed-long link_serial (link_at at) lkey lg d.links (has_end turtle) at (λ k x e. link-number (fields_at at k) x e)
        (d.joined.first turtle ++ d.joined.second turtle) (both-once chains ends at tkey lkey tg lg d turtle) (both-members chains ends at tkey lkey tg lg d turtle)

    pub both-short : length (filter (has_end turtle) links) ≤ length links
    both-short = filter-short (has_end turtle) links
