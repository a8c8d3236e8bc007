-- The variable is the one that the agent has, who lives and may run the word.
use Rattle.std.proofs.Common.{refl, ap, ◌∙◌, sym}
use Rattle.std.proofs.lemmas.Option.{IfSome_then}
use Rattle.nl_value.specs.Plain.{PlainNumber}
use Rattle.nl_agents.specs.Changes.{value_of}
use Rattle.nl_exec_meaning.specs.Seen.{state_of}
use Rattle.nl_exec_short.proofs.Words.{owned_read}
use Rattle.nl_exec_short.proofs.numbers.number_owned.Goals as goal

pub returns : goal.returns
returns g c = IfSome_then c.number_in.result c.number_in.ensures (λ number is code n place.
    let s = state_of code.names c.args.hands.now n in
    let w = g.S.Store.world c.args.hands.now.stage.store in
    owned_read c.args.runs c.args.slot place s w (PlainNumber number) refl c.if-runs.false (c.if-not-lives_and_may_run.ensures.allowed refl code n place)
    (ap (λ o. value_of o c.args.slot w) (sym c.owner_of.ensures.owner) ∙ sym c.var.ensures.value ∙ is))
