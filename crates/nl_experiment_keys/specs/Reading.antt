-- Steps of reading a table of TOML, each of which may end it with a fault at a key. Which kinds of faults there are and that a floating-point
-- number is told before another kind is this project's own choice.
use Rattle.std.specs.Prelude.{◌≡◌, ℤ, int_le, Bool, true, false, ◌&&◌, ◌||◌, if◌then◌else◌, List, [], ◌∷◌, ◌++◌, Option, Some, None, Result, Ok, Err}
use Rattle.std.specs.List.{list_any}
use Rattle.std.specs.Ordering.{nat_cmp, is_lt}
use Rattle.std.specs.Cmp.Lexicographic.{slice_cmp}
use Rattle.std.specs.Str.{bytes_eq}
use Rattle.toml.specs.Data.{Data, string, integer, float, boolean, array, table, Items, no_items, item, Members, no_members, member}
use Rattle.nl_fixed.specs.Nouns.{Bytes, Names, Texts}
use Rattle.nl_experiment_keys.specs.declared.faults.PlanKind.{PlanKind}
use Rattle.nl_experiment_keys.specs.declared.faults.PlanKind.TheVariants.{MissingKey, WrongKind, FloatValue, BadLiteral, UnknownKey}
use Rattle.nl_experiment_keys.specs.declared.faults.KeyFault.{KeyFault}
use Rattle.nl_experiment_keys.specs.declared.faults.KeyRefusal.{KeyRefusal}

-- ---- steps

-- the next step, or the end of an earlier one
infixl 10 ◌>>=◌
abbrev pub ◌>>=◌ : {A B E : Type 0} → Result A E → (A → Result B E) → Result B E
Ok x >>= f = f x
Err e >>= f = Err e

abbrev pub fault_at : Bytes → PlanKind → KeyFault
fault_at key kind = record { kind = kind; key = key }

-- what is read at a key, with its faults told there
abbrev pub told_at : {X : Type 0} → Bytes → Result X PlanKind → Result X KeyFault
told_at key (Ok x) = Ok x
told_at key (Err kind) = Err (fault_at key kind)

-- a test that is passed, or else this fault
abbrev pub only_if : {E : Type 0} → Bool → E → Result (Unit {0}) E
only_if true e = Ok tt
only_if false e = Err e

-- a call gives what is defined, or wants memory
abbrev pub Reads : {X : Type 0} → Result X KeyFault → Result X KeyRefusal → Type 0
Reads defined (Ok x) = defined ≡ Ok x
Reads defined (Err (KeyRefusal.Fault fault)) = defined ≡ Err fault
Reads defined (Err KeyRefusal.NoMemory) = Unit {0}

-- a refusal is the fault at a key, or want of memory
abbrev pub Tells : KeyFault → KeyRefusal → Type 0
Tells fault (KeyRefusal.Fault told) = told ≡ fault
Tells fault KeyRefusal.NoMemory = Unit {0}

-- ---- one value

-- what a value of another kind than the wanted one is told as
abbrev pub other_kind : Data → PlanKind
other_kind (float x) = FloatValue
other_kind other = WrongKind

abbrev pub whole_in : ℤ → ℤ → Data → Result ℤ PlanKind
whole_in least most (integer n) = if int_le least n && int_le n most then Ok n else Err BadLiteral
whole_in least most other = Err (other_kind other)

abbrev pub truth_in : Data → Result Bool PlanKind
truth_in (boolean truth) = Ok truth
truth_in other = Err (other_kind other)

abbrev pub text_in : Data → Result Bytes PlanKind
text_in (string text) = Ok text
text_in other = Err (other_kind other)

abbrev pub members_in : Data → Result Members PlanKind
members_in (table members) = Ok members
members_in other = Err (other_kind other)

-- ---- the items of an array

abbrev pub is_float : Data → Bool
is_float (float x) = true
is_float other = false

abbrev pub has_float : Items → Bool
has_float no_items = false
has_float (item d ds) = is_float d || has_float ds

-- an array, whose items are told as floating-point numbers before all else that is told of them
abbrev pub items_in : Data → Result Items PlanKind
items_in (array items) = if has_float items then Err FloatValue else Ok items
items_in other = Err (other_kind other)

-- each item by the same reading, from the first on
abbrev pub each_item : {X : Type 0} → (Data → Result X PlanKind) → Items → Result (List X) PlanKind
each_item read no_items = Ok []
each_item read (item d ds) = read d >>= λ x. each_item read ds >>= λ xs. Ok (x ∷ xs)

abbrev pub texts_in : Data → Result Texts PlanKind
texts_in value = items_in value >>= λ items. each_item text_in items

-- ---- keys

-- what stands at a key: a value that is read, or the usual one
abbrev pub usual_or : {X : Type 0} → X → (Data → Result X PlanKind) → Option Data → Result X PlanKind
usual_or usual read None = Ok usual
usual_or usual read (Some value) = read value

-- the same where one has to stand there
abbrev pub required : {X : Type 0} → (Data → Result X PlanKind) → Option Data → Result X PlanKind
required read None = Err MissingKey
required read (Some value) = read value

abbrev pub keys_in : Members → Names
keys_in no_members = []
keys_in (member key value rest) = key ∷ keys_in rest

abbrev pub is_among : Bytes → Names → Bool
is_among key names = list_any (λ name. bytes_eq name key) names

-- the lesser of a key and another, if there is another, in byte order
abbrev pub lesser : Bytes → Option Bytes → Bytes
lesser key None = key
lesser key (Some other) = if is_lt (slice_cmp nat_cmp other key) then other else key

-- the least key in byte order that is none of these
abbrev pub least_unknown : Names → Names → Option Bytes
least_unknown known [] = None
least_unknown known (key ∷ keys) = if is_among key known then least_unknown known keys else Some (lesser key (least_unknown known keys))

-- no key of a table is unknown; the keys of an inner table are told behind what it is called
abbrev pub none_unknown : Bytes → Option Bytes → Result (Unit {0}) KeyFault
none_unknown before None = Ok tt
none_unknown before (Some key) = Err (fault_at (before ++ key) UnknownKey)

abbrev pub all_known : Bytes → Names → Members → Result (Unit {0}) KeyFault
all_known before known members = none_unknown before (least_unknown known (keys_in members))
