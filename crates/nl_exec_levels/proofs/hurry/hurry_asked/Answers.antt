-- Turns were taken.
use Rattle.std.proofs.Common.{◌<◌, ◌+◌, ◌-◌, suc, List, length, ap, ◌∙◌, arith}
use Rattle.nl_exec_meaning.specs.Seen.{state_of}
use Rattle.nl_exec_meaning.specs.declared.turns.Turns.{Turns}
use Rattle.nl_exec_meaning.specs.declared.frames.Frame.TheVariants as frame
use Rattle.nl_exec_at_once.specs.declared.statements.TheConstants.{MOST_NESTED}
use Rattle.nl_exec_levels.specs.declared.levels.Level.{Level}
use Rattle.nl_exec_at_once.specs.AtOnce.{block_left}
use Rattle.nl_exec_levels.specs.Rest.{through}
use Rattle.nl_exec_levels.proofs.Hurrying.{asked_hurried}
use Rattle.nl_exec_levels.proofs.Steadying.{steady_again, steady_top}
use Rattle.nl_exec_levels.proofs.hurry.hurry_asked.Goals as goal

pub do_turns-midway-requires-clause-turns : goal.do_turns-midway-requires-clause-turns
do_turns-midway-requires-clause-turns g c =
    steady_top c.args.code.now c.args.hands.now c.args.levels.now.items
    (record { node = c.args.top; frame = frame.Asked c.args.ask c.args.index c.args.turns }) c.requires.steady

pub after_block-requires-clause-steady : goal.after_block-requires-clause-steady
after_block-requires-clause-steady g c =
    let level : (Turns → Level) = λ turns. record { node = c.args.top; frame = frame.Asked c.args.ask c.args.index turns } in
    steady_again c.args.code.now c.do_turns-midway.new.hands c.args.hands.now c.args.levels.now.items c.push.new.self.items
    (level c.args.turns) (level c.do_turns-midway.new.turns) c.requires.steady c.do_turns-midway.ensures.stands c.do_turns-midway.ensures.turns
    c.in_ok-push.ensures.items

pub returns-clause-rest : goal.returns-clause-rest
returns-clause-rest g c = λ n.
    let code = c.args.code.now in
    let limit = c.args.limit in
    let ls = c.args.levels.now.items in
    let room = limit - suc (length ls) in
    let enough : suc MOST_NESTED < room = omega (arith, c.requires.room, c.args.levels.now.ok.0) in
    let midway = c.do_turns-midway.result in
    let units = c.do_turns-midway.new.units + n in
    let last = state_of code.names c.do_turns-midway.new.hands units in
    c.in_ok-focus.ensures.rest units
    ∙ ap (λ (all : List Level). through code limit all (block_left code (limit - length all) c.args.node midway last)) c.in_ok-push.ensures.items
    ∙ asked_hurried code limit ls c.args.top c.args.ask c.args.index c.args.node c.args.turns c.do_turns-midway.new.turns midway
    (state_of code.names c.args.hands.now (c.args.units.now + n)) last (c.do_turns-midway.ensures.done room n enough)
