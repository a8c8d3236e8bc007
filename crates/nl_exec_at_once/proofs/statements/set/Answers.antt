-- What was drawn is undone where the variable isn't set.
use Rattle.std.proofs.Common.{◌∙◌, sym, subst}
use Rattle.nl_exec_meaning.specs.declared.hands.Hands.{Hands}
use Rattle.nl_exec_short.specs.Had.{OnlyDraws}
use Rattle.nl_exec_at_once.proofs.Drawing.{draws_through, put_back}
use Rattle.nl_exec_at_once.proofs.statements.set.Goals as goal
use Rattle.nl_exec_at_once.proofs.statements.set.Goals.{in-Some-drawn, in-None}

pub returns-then-not-done-clause-not : goal.returns-then-not-done-clause-not
returns-then-not-done-clause-not g c = λ _.
    let before = c.args.hands.now in
    let drawn = c.drawn.new.hands in
    let draws : OnlyDraws c.match-drawn.hands before = elim c.match-drawn.branch [
      | in-Some-drawn w ↦ subst (λ (h : Hands g.row.S.Denot g.S.Store). OnlyDraws h before) (sym w.hands-is)
          (draws_through w.set_number-done.new.hands drawn before (w.set_number-done.ensures.not (sym w.done-is ∙ c.if-not-done.true)) c.drawn.ensures.draws)
      | in-None w ↦ subst (λ (h : Hands g.row.S.Denot g.S.Store). OnlyDraws h before) (sym w.hands-is) c.drawn.ensures.draws
    ] in
    put_back c.match-drawn.hands before c.restore.new.self draws (c.restore.ensures ∙ c.save-mark.ensures)
