-- The new ones run the block in random order.
use Rattle.std.proofs.Common.{List, ℕ, Option, ap, ◌∙◌}
use Rattle.nl_draw.specs.Stream.{shuffled}
use Rattle.nl_tree.specs.Tree.{Node}
use Rattle.nl_exec_meaning.specs.Code.{node_at}
use Rattle.nl_exec_meaning.specs.State.{State}
use Rattle.nl_exec_meaning.specs.Walks.{at_stream, walk, walk_group}
use Rattle.nl_exec_meaning.specs.Makings.{run_by_new}
use Rattle.nl_exec_meaning.specs.Frames.{walked_on}
use Rattle.nl_exec_meaning.specs.Seen.{state_of}
use Rattle.nl_exec_meaning.specs.declared.turns.Turns.{Turns}
use Rattle.nl_exec_walks.proofs.making.run_by_new.Goals as goal

pub returns-clause-meaning : goal.returns-clause-meaning
returns-clause-meaning g c = λ prev units thrifty.
    let code = c.args.code.now in
    let hands = c.args.hands.now in
    let t = node_at code c.args.node in
    let which = c.args.which in
    let s = state_of code.names hands units in
    let stream = hands.stage.stream in
    let items = c.into_vec-list.result.items in
    c.next_turn.ensures.meaning prev units thrifty
    ∙ ap (λ (x : Turns). walked_on prev t 1 x (state_of code.names c.mixed-members.new.hands units)) c.in_ok-turns.ensures
    ∙ ap (λ (x : State). walk prev t 1 x.site which c.mixed-members.result x) (c.mixed-members.ensures.state code.names units)
    ∙ ap (λ (ms : List ℕ). walk prev t 1 hands.site which ms (at_stream (shuffled items stream).1 s)) c.mixed-members.ensures.walk
    ∙ ap (λ (l : List ℕ). walk_group prev t 1 (record { which = which; numbers = (shuffled l stream).0 }) (at_stream (shuffled l stream).1 s)) c.into_vec-list.ensures.value
    ∙ ap (λ (o : Option Node). run_by_new prev t 1 which c.args.made o s) c.in-Some.ensures.value
