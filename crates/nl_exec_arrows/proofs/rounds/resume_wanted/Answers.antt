-- The block runs with its values behind the other locals.
use Rattle.std.proofs.Common.{◌≡◌, length, ap, ◌∙◌, sym}
use Rattle.std.proofs.lemmas.List.{length-map}
use Rattle.nl_exec_meaning.specs.Arrows.{head_of, with_values}
use Rattle.nl_exec_meaning.specs.Code.{node_at}
use Rattle.nl_exec_meaning.specs.Frames.{resumed}
use Rattle.nl_exec_meaning.specs.Kept.{held}
use Rattle.nl_exec_meaning.specs.Rounds.{given}
use Rattle.nl_exec_meaning.specs.Seen.{ended, state_of}
use Rattle.nl_exec_meaning.specs.declared.exits.Exit.{Exit}
use Rattle.nl_exec_meaning.specs.declared.frames.Frame.TheVariants as frame
use Rattle.nl_exec_meaning.specs.declared.rounds.Rounds.{Rounds}
use Rattle.nl_exec_arrows.proofs.Running.{block_runs}
use Rattle.nl_exec_arrows.proofs.rounds.resume_wanted.Goals as goal

pub returns-clause-meaning : goal.returns-clause-meaning
returns-clause-meaning g c = λ prev units thrifty.
    let code = c.args.code.now in
    let r = c.args.rounds in
    let s = state_of code.names c.args.hands.now units in
    let block = c.in-Some.block in
    let many : c.len-kept.result ≡ length s.locals = c.len-kept.ensures ∙ sym (length-map c.args.hands.now.locals (held code.names)) in
    let now = c.in_ok-name_all.ensures.state units ∙ ap (λ (x : Rounds). with_values (head_of (node_at code block)) (given c.args.word x) s) c.get.ensures in
    block_runs code prev c.args.node c.args.index c.args.word r s (state_of code.names c.name_all.new.hands units) block c.len-kept.result c.in-Some.ensures.value many now
    ∙ sym (ap (λ (e : Exit). resumed code prev (frame.RoundWanted c.args.node c.args.index c.args.word r) (ended e s)) c.in-Gives.is)
