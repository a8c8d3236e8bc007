-- What the definitions of an experiment's file mean.
use Rattle.std.specs.Prelude.{◌≡◌, ℕ, ◌+◌, ◌-◌, ℤ, pos, ◌+ℤ◌, ◌*ℤ◌, ◌<ℤ◌, ◌≤ℤ◌, Bool, true, false, not, IsTrue, List, [], ◌∷◌, ◌++◌, map, Option, Some, None, Result, Ok, Err}
use Rattle.std.specs.Char.{is_ascii_uppercase}
use Rattle.std.specs.List.{list_all, list_any}
use Rattle.toml.specs.Data.{array, table, Items, get_item, Members, get_member}
use Rattle.nl_fixed.specs.Nouns.{Bytes, Name, Names}
use Rattle.nl_tree.specs.Names.{are_distinct}
use Rattle.nl_experiment_keys.specs.Document.{file_holds}
use Rattle.nl_experiment_keys.specs.Reading.{all_known}
use Rattle.nl_experiment_keys.specs.Rows.{whole_at, truth_at, text_at, required_text_at, maybe_text_at, texts_at}
use Rattle.nl_experiment_keys.specs.declared.faults.KeyFault.{KeyFault}
use Rattle.nl_experiment_keys.specs.declared.faults.PlanKind.{PlanKind}
use Rattle.nl_experiment_keys.specs.declared.faults.PlanKind.TheVariants.{BadLiteral, MissingKey}
use Rattle.nl_experiment_fields.specs.Entries.{all_steps_given, count_of_steps, globals_at, in_entry, is_given, vary_at, world_at}
use Rattle.nl_experiment_fields.specs.File.{file_says}
use Rattle.nl_experiment_fields.specs.Keys.{budget_key, every_step_key, format_key, globals_key, go_key, in_globals, in_world, key_rows, known_in, measure_when_key, metrics_key, name_key, names_of, repetitions_key, seed_key, sequential_key, setup_key, steps_key, until_key, values_key, vary_key, world_key}
use Rattle.nl_experiment_fields.specs.Names.{lowered}
use Rattle.nl_experiment_fields.specs.declared.fields.Fields.{Fields}

-- ---- numbers by a step

-- of so many numbers the last one doesn't pass the end, and a further one would
abbrev pub StepsReachTheEnd : Type 0
StepsReachTheEnd =
    (from step to : ℤ) → pos 0 <ℤ step → from ≤ℤ to
    → ((from +ℤ (pos (count_of_steps from step to - 1) *ℤ step)) ≤ℤ to) × (to <ℤ (from +ℤ (pos (count_of_steps from step to) *ℤ step)))

-- ---- names

-- no letter is a capital
abbrev pub is_lower : Name → Bool
is_lower name = not (list_any is_ascii_uppercase name)

-- names in lower case, which differ
abbrev pub AreApart : Names → Type 0
AreApart names = IsTrue (list_all is_lower names) × IsTrue (are_distinct names)

-- such are the names of the global variables that a file sets, and those of what it varies
abbrev pub NamesAreApart : Type 0
NamesAreApart = (file : Bytes) (f : Fields) → file_says file ≡ Ok f → AreApart (map (λ s. s.name) f.globals) × AreApart (map (λ v. v.name) f.vary)

-- ---- keys of faults

-- the entry of `vary` at an index, from 0
abbrev pub IsEntry : Members → ℕ → Members → Type 0
IsEntry members index entry = (items : Items) × (get_member vary_key members ≡ Some (array items)) × (get_item index items ≡ Some (table entry))

-- The keys that a document has, as faults tell them: its own, and behind what each is called those of `world`, those of `globals` in lower
-- case, and those of the entries of `vary`.
pub data HasKey (members : Members) : Bytes → Type 0 where
  own : (key : Name) → is_given key members ≡ true → HasKey members key
  of_world : (inner : Members) (key : Name) → get_member world_key members ≡ Some (table inner) → is_given key inner ≡ true → HasKey members (in_world ++ key)
  of_globals : (inner : Members) (key : Name) → get_member globals_key members ≡ Some (table inner) → is_given key inner ≡ true
      → HasKey members (in_globals ++ lowered key)
  of_entry : (index : ℕ) (entry : Members) (key : Name) → IsEntry members index entry → is_given key entry ≡ true
      → HasKey members (in_entry (index + 1) ++ key)

-- The keys that a document has to have and doesn't, and what is told there: the experiment's name, the name of an entry, and the values of an
-- entry that doesn't step either.
pub data LacksKey (members : Members) : Bytes → PlanKind → Type 0 where
  no_name : is_given name_key members ≡ false → LacksKey members name_key MissingKey
  no_name_of_entry : (index : ℕ) (entry : Members) → IsEntry members index entry → is_given name_key entry ≡ false
      → LacksKey members (in_entry (index + 1) ++ name_key) MissingKey
  no_values_of_entry : (index : ℕ) (entry : Members) → IsEntry members index entry → is_given values_key entry ≡ false → all_steps_given entry ≡ false
      → LacksKey members (in_entry (index + 1) ++ values_key) BadLiteral

-- a fault is one of the whole file, or stands at a key that its document has or lacks
pub data IsOfFile (file : Bytes) (fault : KeyFault) : Type 0 where
  at_file : file_holds file ≡ Err fault → fault.key ≡ [] → IsOfFile file fault
  at_key : (members : Members) → file_holds file ≡ Ok members → HasKey members fault.key → IsOfFile file fault
  at_missing : (members : Members) → file_holds file ≡ Ok members → LacksKey members fault.key fault.kind → IsOfFile file fault

-- so is the fault of each file that has one
abbrev pub FaultsAreOfTheFile : Type 0
FaultsAreOfTheFile = (file : Bytes) (fault : KeyFault) → file_says file ≡ Err fault → IsOfFile file fault

-- ---- the order of faults

-- the fault that a reading ends with, if it ends with one
abbrev pub fault_in : {X : Type 0} → Result X KeyFault → Option KeyFault
fault_in (Ok x) = None
fault_in (Err fault) = Some fault

-- the first fault of these
abbrev pub first_fault : List (Option KeyFault) → Option KeyFault
first_fault [] = None
first_fault (None ∷ rest) = first_fault rest
first_fault (Some fault ∷ rest) = Some fault

-- which fault each key has by itself, if it has one
abbrev pub faults_by_key : Members → List (Name × Option KeyFault)
faults_by_key members =
    (format_key.name, fault_in (whole_at [] format_key members))
    ∷ (name_key, fault_in (required_text_at name_key members))
    ∷ (seed_key.name, fault_in (whole_at [] seed_key members))
    ∷ (repetitions_key.name, fault_in (whole_at [] repetitions_key members))
    ∷ (sequential_key.name, fault_in (truth_at [] sequential_key members))
    ∷ (setup_key.name, fault_in (text_at setup_key members))
    ∷ (go_key.name, fault_in (text_at go_key members))
    ∷ (until_key, fault_in (maybe_text_at until_key members))
    ∷ (steps_key.name, fault_in (whole_at [] steps_key members))
    ∷ (every_step_key.name, fault_in (truth_at [] every_step_key members))
    ∷ (measure_when_key, fault_in (maybe_text_at measure_when_key members))
    ∷ (budget_key.name, fault_in (whole_at [] budget_key members))
    ∷ (metrics_key, fault_in (texts_at metrics_key members))
    ∷ (world_key, fault_in (world_at members))
    ∷ (globals_key, fault_in (globals_at members))
    ∷ (vary_key, fault_in (vary_at members))
    ∷ []

-- they stand in the order of all keys
abbrev pub FaultsGoByKeys : Type 0
FaultsGoByKeys = (members : Members) → map (λ one. one.0) (faults_by_key members) ≡ names_of key_rows

-- the fault of a file that is a document is the first of them, behind that of an unknown key
abbrev pub TheFirstFaultIsTold : Type 0
TheFirstFaultIsTold =
    (file : Bytes) (members : Members) → file_holds file ≡ Ok members
    → fault_in (file_says file) ≡ first_fault (fault_in (all_known [] (known_in members) members) ∷ map (λ one. one.1) (faults_by_key members))
