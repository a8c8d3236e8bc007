-- Values of literals and of kinds: what a value of TOML says to an experiment, and what is told of it where it says nothing.
use Rattle.std.specs.Prelude.{◌≡◌, ℤ, Bool, true, false, if◌then◌else◌, Option, Some, None, Result, Ok, Err}
use Rattle.toml.specs.Data.{Data, string, integer, boolean, Items, no_items, item}
use Rattle.nl_value.specs.Plain.{Plain, PlainTruth}
use Rattle.nl_experiment_keys.specs.Literals.{literal_of, whole_literal, count_in, number_of_text}
use Rattle.nl_experiment_keys.specs.Reading.{◌>>=◌, other_kind}
use Rattle.nl_experiment_keys.specs.declared.faults.PlanKind.{PlanKind}
use Rattle.nl_experiment_keys.specs.declared.faults.PlanKind.TheVariants.{BadLiteral}
use Rattle.nl_experiment_fields.specs.declared.literals.ValueRefusal.{ValueRefusal}

-- a call gives what is defined, or wants memory
abbrev pub Gives : {X : Type 0} → Result X PlanKind → Result X ValueRefusal → Type 0
Gives defined (Ok x) = defined ≡ Ok x
Gives defined (Err (ValueRefusal.Bad kind)) = defined ≡ Err kind
Gives defined (Err ValueRefusal.NoMemory) = Unit {0}

abbrev pub literal_or_bad : {X : Type 0} → Option X → Result X PlanKind
literal_or_bad None = Err BadLiteral
literal_or_bad (Some x) = Ok x

-- the literal that a value is
abbrev pub literal_in : Data → Result Plain PlanKind
literal_in (integer n) = literal_or_bad (whole_literal n)
literal_in (boolean truth) = Ok (PlainTruth truth)
literal_in (string text) = literal_or_bad (literal_of text)
literal_in other = Err (other_kind other)

-- the number that a value is, in millionths
abbrev pub number_in : Data → Result ℤ PlanKind
number_in (integer n) = literal_or_bad (whole_literal n) >>= λ value. literal_or_bad (count_in value)
number_in (string text) = literal_or_bad (number_of_text text)
number_in other = Err (other_kind other)

-- whether a value is of a kind that a literal has: nothing else is a literal
abbrev pub has_kind_of_literal : Data → Bool
has_kind_of_literal (integer n) = true
has_kind_of_literal (boolean truth) = true
has_kind_of_literal (string text) = true
has_kind_of_literal other = false

abbrev pub kind_of_literal : Data → Result (Unit {0}) PlanKind
kind_of_literal d = if has_kind_of_literal d then Ok tt else Err (other_kind d)

-- each item is of such a kind, or else the first that isn't is told
abbrev pub kinds_in : Items → Result (Unit {0}) PlanKind
kinds_in no_items = Ok tt
kinds_in (item d ds) = kind_of_literal d >>= λ kind. kinds_in ds

-- nothing is told, or this
abbrev pub unless : Option PlanKind → Result (Unit {0}) PlanKind
unless None = Ok tt
unless (Some kind) = Err kind
