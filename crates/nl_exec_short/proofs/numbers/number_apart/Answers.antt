-- The number is what the agent has under the variable, who lives and may run the word.
use Rattle.std.proofs.Common.{Some, refl, ap, ◌∙◌, sym}
use Rattle.std.proofs.lemmas.Option.{IfSome_then}
use Rattle.nl_exec_acts.specs.declared.fail.ErrorKind.TheVariants.{NoVariable}
use Rattle.nl_exec_meaning.specs.State.{found, gives}
use Rattle.nl_exec_meaning.specs.Seen.{state_of}
use Rattle.nl_exec_short.proofs.numbers.number_apart.Goals as goal

pub returns-in-Some : goal.returns-in-Some
returns-in-Some g c = IfSome_then c.number_of_fact.result c.number_of_fact.ensures (λ number is code n place.
    let s = state_of code.names c.args.hands.now n in
    c.if-not-lives_and_may_run.ensures.allowed refl code n place _
    ∙ ap (λ o. found o NoVariable place s (λ v. gives v s)) (sym c.in-Some.ensures ∙ ap Some is))
