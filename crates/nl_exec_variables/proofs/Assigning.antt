-- Variables that are set.
use Rattle.std.proofs.Common.{◌≡◌, ◌==◌, ◌<◌, ◌-◌, true, IsTrue, IfSome, Option, Some, length, slice_set, if◌then◌else◌, refl, ap, ◌∙◌, sym, subst}
use Rattle.std.proofs.lemmas.Bool.{eqb-true, lt-ltb}
use Rattle.nl_value.specs.Plain.{Plain, PlainNumber, PlainTruth, PlainWords, PlainItems, PlainTurtle, PlainPatch, PlainLink, PlainNobody, PlainSet}
use Rattle.nl_agents_layout.specs.Nouns.{Slot}
use Rattle.nl_agents_layout.specs.BuiltIn.{heading_slot, rule_of}
use Rattle.nl_agents_layout.specs.declared.rule.Rule.TheVariants as rule
use Rattle.nl_agents.specs.World.{Rest, World}
use Rattle.nl_agents.specs.Changes.{revalued}
use Rattle.nl_agents.specs.Standing.{IsNumber, MayHold, fits_rest}
use Rattle.nl_agents.specs.declared.agents.Owner.{Owner}
use Rattle.nl_agents.specs.declared.agents.Owner.TheVariants as owner
use Rattle.nl_exec_meaning.specs.Variables.{kept_as}

heading_is_number : (value : Plain) → IfSome (kept_as rule.Heading value) IsNumber
heading_is_number (PlainNumber count) = refl
heading_is_number (PlainTruth truth) = tt
heading_is_number (PlainWords bytes) = tt
heading_is_number (PlainItems items) = tt
heading_is_number (PlainTurtle turtle) = tt
heading_is_number (PlainPatch patch) = tt
heading_is_number (PlainLink link) = tt
heading_is_number PlainNobody = tt
heading_is_number (PlainSet set) = tt

number_of_heading : (value kept : Plain) → Some kept ≡ kept_as rule.Heading value → IsNumber kept
number_of_heading value kept is = subst (λ (o : Option Plain). IfSome o IsNumber) (sym is) (heading_is_number value)

heading_kept : (slot : Slot) (value kept : Plain) → (slot == heading_slot) ≡ true → Some kept ≡ kept_as (rule_of slot) value → IsNumber kept
heading_kept slot value kept is kept-is =
    number_of_heading value kept (kept-is ∙ ap (λ (n : Slot). kept_as (rule_of n) value) (eqb-true slot heading_slot is))

-- what a variable keeps of a value may stand there
pub kept_may_stand : (r : Rest) (agent : Owner) (slot : Slot) (value kept : Plain) → IsTrue (fits_rest r kept) → Some kept ≡ kept_as (rule_of slot) value → MayHold r agent slot kept
kept_may_stand r owner.Observer slot value kept fit is = (fit, λ none. absurd (cc))
kept_may_stand r (owner.Turtle turtle) slot value kept fit is = (fit, λ heading. heading_kept slot value kept heading is)
kept_may_stand r (owner.Patch patch) slot value kept fit is = (fit, λ none. absurd (cc))
kept_may_stand r (owner.Link link) slot value kept fit is = (fit, λ none. absurd (cc))

pub global_may_hold : (r : Rest) (slot : Slot) (value : Plain) → IsTrue (fits_rest r value) → MayHold r owner.Observer slot value
global_may_hold r slot value fit = (fit, λ none. absurd (cc))

-- a global variable of the model that is set
pub global_revalued : (w : World) (slot : Slot) (value : Plain) → slot < length w.globals → revalued owner.Observer slot value w ≡ record w { globals = slice_set w.globals slot value }
global_revalued w slot value inside =
    ap (λ b. if b then record w { globals = slice_set w.globals slot value } else record w { rest = record w.rest { run = slice_set w.rest.run (slot - length w.globals) value } }) (lt-ltb slot (length w.globals) inside)
