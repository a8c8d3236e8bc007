use Rattle.std.specs.Prelude.{◌≡◌, find, true, false, IfSome, IsSome}
use Rattle.std.specs.List.{list_any}
use Rattle.std.proofs.Common.{subst, sym}
use Rattle.nl_agents.specs.Changes.{has_end, is_link, is_turtle}
use Rattle.nl_store_files.specs.Agents.{Agents}
use Rattle.nl_store.proofs.Cutting.{all-cut, cut-one, fewer-links, lives-still, uncut}
use Rattle.nl_store.proofs.roster.Roster.cut_all_of.Goals as goal

pub loop-link-init : goal.loop-link-init
loop-link-init c = uncut c.args.turtle c.args.self.now c.requires.order

pub some_link_of-requires : goal.some_link_of-requires
some_link_of-requires c =
    subst (λ (a : Agents). IsSome (find (is_turtle c.args.turtle) a.turtles)) (sym c.files.ensures)
    (lives-still c.args.turtle c.args.self.now c.loop-link.self c.loop-link.invariant c.requires.lives)

pub loop-link-preserved : goal.loop-link-preserved
loop-link-preserved c =
    cut-one c.args.turtle c.in-Some.link c.args.self.now c.loop-link.self c.cut.new.self c.cut.ensures c.loop-link.invariant
    (subst (λ (a : Agents). IsSome (find (is_link c.in-Some.link) a.links)) c.files.ensures c.in-Some.ensures.lives)
    (subst (λ (a : Agents). IfSome (find (is_link c.in-Some.link) a.links) (λ l. has_end c.args.turtle l ≡ true)) c.files.ensures c.in-Some.ensures.touches)

pub loop-link-smaller : goal.loop-link-smaller
loop-link-smaller c =
    fewer-links c.args.turtle c.in-Some.link c.args.self.now c.loop-link.self c.cut.new.self c.cut.ensures
    (subst (λ (a : Agents). IsSome (find (is_link c.in-Some.link) a.links)) c.files.ensures c.in-Some.ensures.lives)

pub returns : goal.returns
returns c =
    all-cut c.args.turtle c.args.self.now c.loop-link.self c.loop-link.invariant
    (subst (λ (a : Agents). list_any (has_end c.args.turtle) a.links ≡ false) c.files.ensures c.in_default.ensures.none)
