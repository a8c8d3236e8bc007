use Rattle.std.proofs.Common.{rules, ◌≡◌, refl, IfOk, inl, inr, sym, ap, subst, ◌∙◌}
use Rattle.nl_cli.specs.Answer.{cannot_read, line_of}
use Rattle.nl_cli.specs.Outcome.{Gets, given}
use Rattle.nl_cli.specs.Words.{paths_in, path_of}
use Rattle.nl_cli.specs.inner.Stages.{IsLineMade}
use Rattle.nl_cli.proofs.told.tell.Goals.{in-Model, in-Plan, in-Read}
use Rattle.nl_cli.proofs.told.tell.Goals as goal

-- whatever the end is, the line that was made is its line
pub returns-in-Ok : goal.returns-in-Ok
returns-in-Ok g c = elim c.match-end.branch [
  | in-Model w ↦ search rules
  | in-Plan w ↦ search rules
  | in-Read w ↦
      let made = subst (λ r. IfOk r (λ line. line ≡ cannot_read (path_of (paths_in c.args.paths.now) w.in-Read.role))) (sym w.line-is ∙ c.in-Ok.is) w.read_line-line.ensures in
      let line = c.as_bytes.ensures ∙ made ∙ ap (line_of (paths_in c.args.paths.now)) (sym w.in-Read.is) in
      inl (c.status.ensures, subst (λ text. Gets text (given g.E.Sink.faults g.E.Sink.written c.args.err.now c.say-in-Ok.new.err)) line c.say-in-Ok.ensures)
]

-- and it was made, as memory was refused for it
pub returns-in-Err : goal.returns-in-Err
returns-in-Err g c =
    let made : IsLineMade c.args.end.now = elim c.match-end.branch [
      | in-Model w ↦ subst IsLineMade (sym w.in-Model.is) tt
      | in-Plan w ↦ subst IsLineMade (sym w.in-Plan.is) tt
      | in-Read w ↦ subst IsLineMade (sym w.in-Read.is) tt
    ] in
    inr (made, refl, c.say-in-Err.ensures)
