-- What comes next is what the case means, and so the rest is what the case comes to.
use Rattle.std.proofs.Common.{suc, ◌-◌, ℕ, List, length, ap, ◌∙◌}
use Rattle.nl_tree.specs.Tree.{span}
use Rattle.nl_agents.specs.declared.store.Store.{Ghosts}
use Rattle.nl_exec_meaning.specs.Code.{Code, node_at}
use Rattle.nl_exec_meaning.specs.State.{State, Outcome, Eval}
use Rattle.nl_exec_meaning.specs.Meaning.{evaluator, limited}
use Rattle.nl_exec_meaning.proofs.Thrift.{thrifty}
use Rattle.nl_exec_meaning.specs.Frames.{going}
use Rattle.nl_exec_meaning.specs.Means.{Means}
use Rattle.nl_exec_meaning.specs.declared.frames.Next.{Next}
use Rattle.nl_exec_meaning.specs.declared.hands.Hands.{Hands}
use Rattle.nl_exec_levels.specs.Rest.{through}
use Rattle.nl_exec_levels.specs.declared.levels.Level.{Level}
use Rattle.nl_exec_levels.specs.declared.focus.Focus.{Focus}
use Rattle.nl_exec_levels.specs.inner.Steps.{ComesTo}

pub comes_to : {S : Type 0} {G : Ghosts S} (c : Code) (below : List Level) (node : ℕ) (meaning : Eval → State → Outcome)
    (levels : List Level) (focus : Focus) (next : Next) (after before : Hands S G) →
    ComesTo c below node (λ prev s. going c prev next s) levels focus after after → Means c next after before meaning →
    ComesTo c below node meaning levels focus after before
comes_to c below node meaning levels focus next after before follows means = λ room n lt.
    let prev = evaluator c.program (room - suc (length below)) in
    follows room n lt
    ∙ ap (λ o. through c room below (limited (span (node_at c node)) o)) (means prev n (thrifty c.program (room - suc (length below))))
