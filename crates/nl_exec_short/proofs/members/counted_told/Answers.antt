-- The set that the query gives lists living agents.
use Rattle.std.proofs.Common.{◌∷◌, [], None, ap, ◌∙◌, sym, length, filter, not}
use Rattle.nl_value.specs.declared.sets.AgentKind.TheVariants as kind
use Rattle.nl_agentset_query.specs.Agents.{own_patch}
use Rattle.nl_agentset_query.specs.declared.words.QueryWord.TheVariants as query
use Rattle.nl_agentset_query.specs.declared.words.Side.TheVariants as side
use Rattle.nl_agentset.specs.Links.{links_at}
use Rattle.nl_agentset.specs.Places.{turtles_on}
use Rattle.nl_agentset.specs.Sets.{is_caller}
use Rattle.nl_agentset.specs.Queries.{query_answer}
use Rattle.nl_exec_short.proofs.Counting.{whole}
use Rattle.nl_exec_short.proofs.Listing.{turtles_on_again, links_at_again}
use Rattle.nl_exec_short.proofs.members.counted_told.Goals as goal

pub returns-in-Here-clause-told : goal.returns-in-Here-clause-told
returns-in-Here-clause-told g c =
    let h = c.args.hands.now in
    let w = g.S.Store.world h.stage.store in
    record {
      kind_of = kind.Turtle;
      numbers = turtles_on w.rest None (own_patch w.rest h.site.agent ∷ []);
      answers = λ stream. ap (λ which. query_answer w.rest None h.site.agent which [] stream) (c.in-Standing.is ∙ ap query.Standing c.in-Here.is);
      members = turtles_on_again w (own_patch w.rest h.site.agent ∷ []) c.shape-stands.ensures.stands;
      so_many = sym c.counted_here.ensures.all;
      apart = sym c.counted_here.ensures.but_own;
    }

pub returns-in-Turtle-clause-told : goal.returns-in-Turtle-clause-told
returns-in-Turtle-clause-told g c =
    let h = c.args.hands.now in
    let w = g.S.Store.world h.stage.store in
    let links = links_at w.rest side.Any None c.in-Turtle.turtle in
    record {
      kind_of = kind.Link;
      numbers = links;
      answers = λ stream.
          ap (λ which. query_answer w.rest None h.site.agent which [] stream) (c.in-MyLinks.is ∙ ap query.MyLinks c.in-Any.is)
          ∙ ap (λ who. query_answer w.rest None who (query.MyLinks side.Any) [] stream) c.in-Turtle.is;
      members = links_at_again w c.in-Turtle.turtle c.shape-stands.ensures.stands;
      so_many = sym c.links_of_own-all.ensures;
      apart = ap (λ who. length (filter (λ n. not (is_caller who kind.Link n)) links)) c.in-Turtle.is ∙ ap (λ l. length l) (whole links) ∙ sym c.links_of_own-all.ensures;
    }
