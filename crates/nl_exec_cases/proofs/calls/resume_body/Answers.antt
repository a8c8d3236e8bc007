-- The caller goes on with what the body gave.
use Rattle.std.proofs.Common.{Bool, ap, ◌∙◌, sym, subst}
use Rattle.nl_fixed.specs.declared.span.Span.{Span}
use Rattle.nl_tree.specs.Tree.{span}
use Rattle.nl_exec_meaning.specs.Code.{node_at}
use Rattle.nl_exec_meaning.specs.State.{State}
use Rattle.nl_exec_meaning.specs.Calls.{returned_by}
use Rattle.nl_exec_meaning.specs.declared.sites.Site.{Site}
use Rattle.nl_exec_meaning.specs.Ground.{Ground}
use Rattle.nl_exec_meaning.specs.Kept.{all_held}
use Rattle.nl_exec_meaning.specs.Seen.{ended, ground, state_of}
use Rattle.nl_exec_meaning.specs.Standing.{ExitFits}
use Rattle.nl_exec_cases.specs.Calling.{back_by}
use Rattle.nl_exec_cases.proofs.calls.resume_body.Goals as goal

pub returns-clause-meaning : goal.returns-clause-meaning
returns-clause-meaning g c = λ prev units thrifty.
    let code = c.args.code.now in
    let s = state_of code.names c.args.hands.now units in
    let saved = all_held code.names c.args.saved in
    ap (λ (x : State). ended c.returned.result x)
    (c.back.ensures.state code units ∙ ap (λ (b : Bool). back_by b saved c.get-site.result s) c.ends_text.ensures)
    ∙ c.returned.ensures.meaning saved s
    ∙ ap (λ (p : Span). returned_by c.args.reporter p saved c.get-site.result (ended c.args.exit s)) c.span.ensures
    ∙ ap (λ (x : Site). returned_by c.args.reporter (span (node_at code c.args.node)) saved x (ended c.args.exit s)) c.get-site.ensures

pub returns-clause-fits : goal.returns-clause-fits
returns-clause-fits g c =
    c.returned.ensures.fits (ground c.back.new.hands) (subst (λ (now : Ground). ExitFits now c.args.exit) (sym c.back.ensures.stands.same) c.requires.value)
