-- Who asked runs again, and then the next turn comes.
use Rattle.std.proofs.Common.{ap, ◌∙◌, sym, subst}
use Rattle.nl_exec_meaning.specs.Code.{node_at}
use Rattle.nl_exec_meaning.specs.State.{State, at_site}
use Rattle.nl_exec_meaning.specs.Frames.{walked_on}
use Rattle.nl_exec_meaning.specs.Ground.{SiteFits}
use Rattle.nl_exec_meaning.specs.Seen.{ground, state_of}
use Rattle.nl_exec_meaning.specs.declared.turns.Turns.{Turns}
use Rattle.nl_exec_walks.proofs.Through.{stands_through, turns_stay}
use Rattle.nl_exec_walks.proofs.walking.turn_after.Goals as goal

pub run_as-requires-clause-site : goal.run_as-requires-clause-site
run_as-requires-clause-site g c = subst (λ (x : Turns). SiteFits (ground c.args.hands.now) x.site) (sym c.get.ensures) c.requires.turns.site

pub next_turn-requires-clause-turns : goal.next_turn-requires-clause-turns
next_turn-requires-clause-turns g c = turns_stay c.run_as.new.hands c.args.hands.now c.args.turns c.run_as.ensures.stands c.requires.turns

pub returns-clause-meaning : goal.returns-clause-meaning
returns-clause-meaning g c = λ prev units thrifty.
    let code = c.args.code.now in
    c.next_turn.ensures.meaning prev units thrifty
    ∙ ap (λ (x : State). walked_on prev (node_at code c.args.node) c.args.index c.args.turns x) (c.run_as.ensures.state code.names units)
    ∙ ap (λ (x : Turns). walked_on prev (node_at code c.args.node) c.args.index c.args.turns (at_site x.site (state_of code.names c.args.hands.now units))) c.get.ensures

pub returns-clause-stands : goal.returns-clause-stands
returns-clause-stands g c = stands_through c.next_turn.new.hands c.run_as.new.hands c.args.hands.now c.next_turn.ensures.stands c.run_as.ensures.stands
