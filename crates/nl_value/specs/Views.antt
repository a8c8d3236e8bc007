-- A value as plain data.
use Rattle.std.specs.Prelude.{[]}
use Rattle.nl_value.specs.declared.values.Value.{Value}
use Rattle.nl_value.specs.declared.values.Value.TheVariants.{Number, Truth, Words, Blank, Items, Turtle, Patch, Link, Nobody, Set}
use Rattle.nl_value.specs.Plain.{Plain, PlainNumber, PlainTruth, PlainWords, PlainItems, PlainTurtle, PlainPatch, PlainLink, PlainNobody, PlainSet, plains}

abbrev pub plain : Value → Plain
plain (Number count) = PlainNumber count
plain (Truth truth) = PlainTruth truth
plain (Words words) = PlainWords words.value
plain Blank = PlainWords []
plain (Items items) = PlainItems (plains items.value)
plain (Turtle turtle) = PlainTurtle turtle
plain (Patch patch) = PlainPatch patch
plain (Link link) = PlainLink link
plain Nobody = PlainNobody
plain (Set set) = PlainSet set.value
