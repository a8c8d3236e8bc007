-- A word that takes a number.
use Rattle.std.proofs.Common.{ℤ, Option, ap, ◌∙◌}
use Rattle.nl_value.specs.Nouns.{Serials}
use Rattle.nl_value.specs.Views.{plain}
use Rattle.nl_exec_acts.specs.declared.fail.ErrorKind.TheVariants.{WrongType}
use Rattle.nl_exec_meaning.specs.State.{found}
use Rattle.nl_exec_meaning.specs.Makings.{born_of, made_of}
use Rattle.nl_exec_walks.proofs.Asking.{tells_too}
use Rattle.nl_exec_walks.proofs.Births.{counted}
use Rattle.nl_exec_walks.proofs.making.made_of.Goals as goal

pub returns-in-Some-clause-told : goal.returns-in-Some-clause-told
returns-in-Some-clause-told g c =
    let word = c.args.word in
    let breed = c.args.breed in
    let value = plain c.args.value in
    tells_too {X = Serials} {Y = Serials} (λ made. made) c.born.result c.born.new.hands c.args.hands.now (born_of word breed c.in-Some.number) (made_of word breed value)
    (λ place s next.
    counted word (λ way one is. c.in_default.not-Link way one is) breed value place s next
    ∙ c.number_of.ensures place s (λ number. born_of word breed number place s next)
    ∙ ap (λ (o : Option ℤ). found o WrongType place s (λ number. born_of word breed number place s next)) c.in-Some.is)
    c.born.ensures.told

pub returns-in-Some-clause-stands : goal.returns-in-Some-clause-stands
returns-in-Some-clause-stands g c = c.born.ensures.stands
