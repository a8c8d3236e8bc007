-- Turns were taken.
use Rattle.std.proofs.Common.{◌<◌, ◌+◌, ◌-◌, ℕ, suc, List, length, ap, ◌∙◌, arith}
use Rattle.nl_exec_meaning.specs.Seen.{state_of}
use Rattle.nl_exec_meaning.specs.declared.frames.Frame.TheVariants as frame
use Rattle.nl_exec_at_once.specs.declared.statements.TheConstants.{MOST_NESTED}
use Rattle.nl_exec_levels.specs.declared.levels.Level.{Level}
use Rattle.nl_exec_at_once.specs.AtOnce.{block_left}
use Rattle.nl_exec_levels.specs.Rest.{through}
use Rattle.nl_exec_levels.proofs.Hurrying.{repeat_hurried}
use Rattle.nl_exec_levels.proofs.Steadying.{steady_again}
use Rattle.nl_exec_levels.proofs.hurry.hurry_repeat.Goals as goal

pub after_block-requires-clause-steady : goal.after_block-requires-clause-steady
after_block-requires-clause-steady g c =
    let level : (ℕ → Level) = λ left. record { node = c.args.top; frame = frame.RepeatTurn c.args.word left } in
    steady_again c.args.code.now c.do_repeats-midway.new.hands c.args.hands.now c.args.levels.now.items c.push.new.self.items
    (level c.args.left) (level c.do_repeats-midway.new.left) c.requires.steady c.do_repeats-midway.ensures.stands tt c.in_ok-push.ensures.items

pub returns-clause-rest : goal.returns-clause-rest
returns-clause-rest g c = λ n.
    let code = c.args.code.now in
    let limit = c.args.limit in
    let ls = c.args.levels.now.items in
    let room = limit - suc (length ls) in
    let enough : suc MOST_NESTED < room = omega (arith, c.requires.room, c.args.levels.now.ok.0) in
    let midway = c.do_repeats-midway.result in
    let units = c.do_repeats-midway.new.units + n in
    let last = state_of code.names c.do_repeats-midway.new.hands units in
    c.in_ok-focus.ensures.rest units
    ∙ ap (λ (all : List Level). through code limit all (block_left code (limit - length all) c.args.node midway last)) c.in_ok-push.ensures.items
    ∙ repeat_hurried code limit ls c.args.top c.args.word c.args.node c.args.left c.do_repeats-midway.new.left midway
    (state_of code.names c.args.hands.now (c.args.units.now + n)) last (c.do_repeats-midway.ensures.done room n enough)
