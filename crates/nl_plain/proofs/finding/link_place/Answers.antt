use Rattle.std.proofs.Common.{rules, of_calls, subst, sym}
use Rattle.std.specs.Prelude.{◌≡◌, ℕ, Option, None, MatchOption, find}
use Rattle.std.specs.Ordering.{nat_cmp}
use Rattle.std.proofs.lemmas.Fn.{always_returns_same}
use Rattle.nl_agents.specs.Changes.{is_link}
use Rattle.nl_agents.specs.declared.agents.Link.{Link}
use Rattle.nl_plain.specs.Lists.{StandsAt}
use Rattle.nl_plain.proofs.Found.{place_found}
use Rattle.nl_plain.proofs.finding.link_place.Goals as goal

pub returns : goal.returns
returns c =
    let by_key = c.binary_search_by.ensures.position (λ (t : Link). nat_cmp t.serial c.args.serial) (always_returns_same _ _ _ (λ a r f called. search (rules, of_calls))) in
    let Found : Option ℕ → Type 0 = λ o. MatchOption o (find (is_link c.args.serial) c.args.links.now ≡ None) (StandsAt (is_link c.args.serial) c.args.links.now) in
    subst Found (sym c.ok.ensures.value) (place_found (λ (t : Link). t.serial) c.args.links.now c.args.serial c.binary_search_by.result c.requires c.binary_search_by.ensures.bound by_key)
