-- Those that reach the best are the extremes.
use Rattle.std.proofs.Common.{List, map, filter, ap, ◌∙◌, sym, arith}
use Rattle.std.proofs.lemmas.List.{take_all}
use Rattle.nl_exec_meaning.specs.Walks.{members_kept}
use Rattle.nl_exec_walks.specs.inner.Passes.{reaches}
use Rattle.nl_exec_meaning.specs.inner.Seen.{answered}
use Rattle.nl_exec_meaning.specs.declared.turns.Answered.{Answered}
use Rattle.nl_exec_walks.proofs.Best.{extremes_are}
use Rattle.nl_exec_walks.proofs.extremes.extremes.Goals as goal

pub returns : goal.returns
returns c =
    let all = take_all c.loop-answer.answer-index c.args.answers.now (omega arith) in
    c.loop-answer.invariant
    ∙ ap (λ (xs : List Answered). members_kept (filter (reaches c.args.up c.in-Some.best) (map answered xs))) all
    ∙ sym (extremes_are c.args.up c.in-Some.best (map answered c.args.answers.now) c.in-Some.ensures)
