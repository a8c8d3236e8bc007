-- The newest local of the number is that of the name.
use Rattle.std.proofs.Common.{ap, ◌∙◌, sym}
use Rattle.std.specs.Option.{option_and_then}
use Rattle.nl_value.specs.Views.{plain}
use Rattle.nl_exec_meaning.specs.Seen.{ground}
use Rattle.nl_exec_variables.proofs.LocalValues.{value_at, local_value_is, local_fits}
use Rattle.nl_exec_variables.proofs.variables.local.Goals as goal

pub returns-in-Some-value-clause-value : goal.returns-in-Some-value-clause-value
returns-in-Some-value-clause-value g c =
    let ks = c.args.hands.now.locals in
    c.in-Some-value.ensures ∙ ap (option_and_then (value_at ks)) (sym c.in-Some.is ∙ c.find.ensures)
    ∙ sym (local_value_is c.args.code.now.names ks c.args.id c.requires.apart)

pub returns-in-Some-value-clause-fits : goal.returns-in-Some-value-clause-fits
returns-in-Some-value-clause-fits g c =
    local_fits (ground c.args.hands.now) c.args.hands.now.locals c.in-Some.at (plain c.in-Some-value.value.now) c.requires.fit.locals c.in-Some-value.ensures

pub returns-in-None-value-clause-value : goal.returns-in-None-value-clause-value
returns-in-None-value-clause-value g c =
    let ks = c.args.hands.now.locals in
    c.in-None-value.ensures ∙ ap (option_and_then (value_at ks)) (sym c.in-Some.is ∙ c.find.ensures)
    ∙ sym (local_value_is c.args.code.now.names ks c.args.id c.requires.apart)

pub returns-in-None-clause-value : goal.returns-in-None-clause-value
returns-in-None-clause-value g c =
    let ks = c.args.hands.now.locals in
    ap (option_and_then (value_at ks)) (sym c.in-None.is ∙ c.find.ensures)
    ∙ sym (local_value_is c.args.code.now.names ks c.args.id c.requires.apart)
