-- What is left of the word goes on through the level of the block.
use Rattle.std.proofs.Common.{◌<◌, ◌-◌, ◌∷◌, [], suc, List, length, ap, ◌∙◌, sym, subst, arith, length-append}
use Rattle.nl_exec_meaning.specs.Seen.{state_of}
use Rattle.nl_exec_meaning.specs.declared.frames.Frame.TheVariants as frame
use Rattle.nl_exec_at_once.specs.AtOnce.{inside_left}
use Rattle.nl_exec_levels.specs.declared.levels.Level.{Level}
use Rattle.nl_exec_levels.specs.Rest.{through}
use Rattle.nl_exec_levels.proofs.Hurrying.{far_above}
use Rattle.nl_exec_levels.proofs.hurry.from_inner.Goals as goal

pub returns-clause-rest : goal.returns-clause-rest
returns-clause-rest g c = λ room n enough.
    let code = c.args.code.now in
    let ls = c.args.levels.now.items in
    let s = state_of code.names c.args.hands.now n in
    let level : Level = record { node = c.args.block; frame = frame.Statement c.args.block c.args.at c.args.kept } in
    let e = c.in_ok-push.ensures.items in
    let deep = subst (λ (all : List Level). suc (length all) < room) (sym e) (omega (arith, length-append ls (level ∷ []), enough)) in
    c.in_ok-focus.ensures.rest room n deep
    ∙ ap (λ (all : List Level). through code room all (inside_left code (room - length all) c.args.inside s)) e
    ∙ far_above code room ls c.args.block c.args.block c.args.at c.args.kept c.args.inside s
