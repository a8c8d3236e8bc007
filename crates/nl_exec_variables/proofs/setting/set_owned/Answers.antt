-- What a variable keeps of a value may stand there.
use Rattle.std.proofs.Common.{ap, ◌∙◌, sym}
use Rattle.nl_value.specs.Views.{plain}
use Rattle.nl_agents_layout.specs.declared.rule.Rule.{Rule}
use Rattle.nl_exec_meaning.specs.Variables.{kept_as}
use Rattle.nl_exec_meaning.specs.Seen.{ground}
use Rattle.nl_exec_meaning.proofs.Grounds.{fits_is}
use Rattle.nl_exec_variables.proofs.Assigning.{kept_may_stand}
use Rattle.nl_exec_variables.proofs.setting.set_owned.Goals as goal

pub set_var-requires-clause-holds : goal.set_var-requires-clause-holds
set_var-requires-clause-holds g c =
    let r = (g.S.Store.world c.args.hands.now.stage.store).rest in
    let kept = plain c.in-Some-kept_as.kept in
    kept_may_stand r c.owner_of-owner.result c.args.slot (plain c.args.value) kept
    (sym (fits_is r kept) ∙ c.in-Some-kept_as.ensures.fits (ground c.args.hands.now) c.requires.value)
    (c.in-Some-kept_as.ensures.value ∙ ap (λ (x : Rule). kept_as x (plain c.args.value)) c.rule_of.ensures)
