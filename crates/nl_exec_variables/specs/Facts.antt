-- What an agent is, as a value.
use Rattle.nl_value.specs.Plain.{Plain, PlainNumber, PlainTurtle}
use Rattle.nl_exec_meaning.specs.Variables.{breed_set, link_breed_set}
use Rattle.nl_exec_variables.specs.declared.apart.Fact.{Fact}
use Rattle.nl_exec_variables.specs.declared.apart.Fact.TheVariants as fact

abbrev pub value_of_fact : Fact → Plain
value_of_fact (fact.Number number) = PlainNumber number
value_of_fact (fact.Turtle turtle) = PlainTurtle turtle
value_of_fact (fact.Breed breed) = breed_set breed
value_of_fact (fact.LinkBreed breed) = link_breed_set breed
