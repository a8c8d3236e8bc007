-- Tests of a value's kind. A dead agent is of no kind.
use Rattle.std.specs.Prelude.{Bool, true, false}
use Rattle.nl_value.specs.declared.sets.AgentKind.{AgentKind}
use Rattle.nl_value.specs.declared.sets.AgentKind.TheVariants as agents
use Rattle.nl_value.specs.Plain.{Plain, PlainNumber, PlainTruth, PlainWords, PlainItems, PlainTurtle, PlainPatch, PlainLink, PlainSet}
use Rattle.nl_value.specs.Living.{Living, same_kind}
use Rattle.nl_value.specs.Sets.{set_kind}
use Rattle.nl_listops.specs.declared.words.KindTest.{KindTest}
use Rattle.nl_listops.specs.declared.words.KindTest.TheVariants.{Number, Boolean, Text, List, Agent, Patch, Agentset, TurtleSet, PatchSet, LinkSet}

abbrev pub is_agent : Living → Plain → Bool
is_agent w (PlainTurtle turtle) = w.turtle_lives turtle
is_agent w (PlainPatch patch) = true
is_agent w (PlainLink link) = w.link_lives link
is_agent w value = false

abbrev pub is_set_of : AgentKind → Plain → Bool
is_set_of kind (PlainSet set) = same_kind kind (set_kind set)
is_set_of kind value = false

abbrev pub is_kind : Living → KindTest → Plain → Bool
is_kind w Number (PlainNumber count) = true
is_kind w Number value = false
is_kind w Boolean (PlainTruth truth) = true
is_kind w Boolean value = false
is_kind w Text (PlainWords bytes) = true
is_kind w Text value = false
is_kind w List (PlainItems items) = true
is_kind w List value = false
is_kind w Agent value = is_agent w value
is_kind w Patch (PlainPatch patch) = true
is_kind w Patch value = false
is_kind w Agentset (PlainSet set) = true
is_kind w Agentset value = false
is_kind w TurtleSet value = is_set_of agents.Turtle value
is_kind w PatchSet value = is_set_of agents.Patch value
is_kind w LinkSet value = is_set_of agents.Link value
