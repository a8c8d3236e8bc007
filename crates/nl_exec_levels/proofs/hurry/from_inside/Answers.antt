-- The block goes on through the level of the word that chose it.
use Rattle.std.proofs.Common.{◌<◌, ◌-◌, ◌∷◌, [], suc, List, drop, length, ap, ◌∙◌, sym, subst, arith, length-append}
use Rattle.nl_tree.specs.Tree.{parts, span}
use Rattle.nl_exec_meaning.specs.Code.{node_at}
use Rattle.nl_exec_meaning.specs.Blocks.{statements}
use Rattle.nl_exec_meaning.specs.Meaning.{evaluator, limited}
use Rattle.nl_exec_meaning.specs.Seen.{state_of}
use Rattle.nl_exec_meaning.specs.declared.frames.Frame.TheVariants as frame
use Rattle.nl_exec_levels.specs.declared.levels.Level.{Level}
use Rattle.nl_exec_levels.specs.Rest.{through}
use Rattle.nl_exec_levels.proofs.Hurrying.{inside_above}
use Rattle.nl_exec_levels.proofs.hurry.from_inside.Goals as goal

pub returns-clause-rest : goal.returns-clause-rest
returns-clause-rest g c = λ room n enough.
    let code = c.args.code.now in
    let ls = c.args.levels.now.items in
    let inside = c.args.inside in
    let s = state_of code.names c.args.hands.now n in
    let level : Level = record { node = inside.word; frame = frame.Inside inside.word } in
    let e = c.in_ok-push.ensures.items in
    let deep = subst (λ (all : List Level). length all < room) (sym e) (omega (arith, length-append ls (level ∷ []), enough)) in
    c.in_ok-focus.ensures.rest room n deep
    ∙ ap (λ (all : List Level). through code room all (limited (span (node_at code inside.block))
    (statements (evaluator code.program (room - suc (length all))) inside.kept (drop inside.at (parts (node_at code inside.block))) s))) e
    ∙ inside_above code room ls inside s
