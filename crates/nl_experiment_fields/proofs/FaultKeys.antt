-- Each fault stands at a key that the file has or lacks, or is one of the whole file.
use Rattle.std.proofs.Common.{◌≡◌, ◌⊎◌, inl, inr, ℕ, zero, suc, ◌+◌, Bool, true, false, List, [], ◌∷◌, ◌++◌, Option, Some, None, Result, Ok, Err, IfSome, if◌then◌else◌, Ordering, Less, Equal, Greater, bytes_eq, is_some, refl, sym, ap, subst, ◌∙◌, arith}
use Rattle.std.specs.Prelude.{slice_get, ◌&&◌, int_le, int_lt, pos, length, nat_lt}
use Rattle.std.specs.Cmp.{first_so, second_so}
use Rattle.std.specs.Cmp.Lexicographic.{slice_cmp}
use Rattle.std.specs.Ordering.{is_eq, is_lt, match_ordering, nat_cmp}
use Rattle.std.proofs.lemmas.Map.Text.{is_eq-slice_cmp}
use Rattle.std.proofs.lemmas.Slice.Eq.{bytes_eq-Decides}
use Rattle.toml.specs.Data.{Data, string, integer, float, boolean, datetime, array, table, Items, no_items, item, get_item, Members, no_members, member, get_member}
use Rattle.nl_fixed.specs.Nouns.{Bytes, Name, Names}
use Rattle.nl_experiment_keys.specs.Document.{document, document_or_fault, file_holds, file_limit}
use Rattle.nl_experiment_keys.specs.Reading.{◌>>=◌, all_known, each_item, fault_at, has_float, is_among, keys_in, least_unknown, lesser, members_in, none_unknown, only_if, required, text_in, told_at, usual_or}
use Rattle.nl_experiment_keys.specs.Rows.{maybe_text_at, required_text_at, text_at, texts_at, truth_at, whole_at}
use Rattle.nl_experiment_keys.specs.declared.faults.KeyFault.{KeyFault}
use Rattle.nl_experiment_keys.specs.declared.faults.PlanKind.{PlanKind}
use Rattle.nl_experiment_keys.specs.declared.faults.PlanKind.TheVariants.{BadLiteral, FloatValue, MissingKey, TooLong}
use Rattle.nl_experiment_fields.specs.Entries.{all_steps_given, choice_by, choice_in, entries_from, entry_by, globals_at, in_entry, is_given, setting_in, settings_in, stepped_in, stepped_number, table_at, tables_in, varied_name, vary_at, world_at, world_in}
use Rattle.nl_experiment_fields.specs.File.{fields_in, head_in, measures_in, scripts_in}
use Rattle.nl_experiment_fields.specs.Keys.{budget_key, entry_keys, every_step_key, format_key, from_key, globals_key, go_key, in_globals, in_world, known_in, max_pxcor_key, max_pycor_key, measure_when_key, metrics_key, min_pxcor_key, min_pycor_key, name_key, repetitions_key, seed_key, sequential_key, setup_key, step_key, steps_key, to_key, until_key, values_key, vary_key, world_key, world_keys, wrap_x_key, wrap_y_key}
use Rattle.nl_experiment_fields.specs.Laws.{FaultsAreOfTheFile, HasKey, IsEntry, IsOfFile, LacksKey, at_file, at_key, at_missing, no_name, no_name_of_entry, no_values_of_entry, of_entry, of_globals, of_world, own}
use Rattle.nl_experiment_fields.specs.Names.{lowered}
use Rattle.nl_experiment_fields.proofs.Binds.{failed, failed_as, from_bind, from_fault, told_ok, told_there}

-- ---- keys of a table

some_by : (o : Ordering) (found : Option Data) (d : Data) → is_some found ≡ true → is_some (match_ordering o found (Some d) found) ≡ true
some_by Less found d is = is
some_by Equal found d is = refl
some_by Greater found d is = is

some_here : (o : Ordering) (found : Option Data) (d : Data) → is_eq o ≡ true → is_some (match_ordering o found (Some d) found) ≡ true
some_here Less found d is = absurd (cc)
some_here Equal found d is = refl
some_here Greater found d is = absurd (cc)

-- a key that a table has further behind
behind : (k key : Name) (value : Data) (rest : Members) → is_given k rest ≡ true → is_given k (member key value rest) ≡ true
behind k key value rest is = some_by (slice_cmp nat_cmp k key) (get_member k rest) value is

same_bytes : (key : Bytes) → bytes_eq key key ≡ true
same_bytes key = grind (arith, bytes_eq-Decides key key)

here : (key : Name) (value : Data) (rest : Members) → is_given key (member key value rest) ≡ true
here key value rest = some_here (slice_cmp nat_cmp key key) (get_member key rest) value (is_eq-slice_cmp key key ∙ same_bytes key)

both_hold : (P Q : Bytes → Type 0) (o : Option Bytes) → ((k : Bytes) → P k → Q k) → IfSome o P → IfSome o Q
both_hold P Q None from is = tt
both_hold P Q (Some k) from is = from k is

of_lesser : (P : Bytes → Type 0) (key : Bytes) (o : Option Bytes) → P key → IfSome o P → P (lesser key o)
of_lesser P key None one others = one
of_lesser P key (Some other) one others = elim (is_lt (slice_cmp nat_cmp other key)) as (λ b. P (if b then other else key)) [ true ↦ others | false ↦ one ]

of_unknown : (P : Bytes → Type 0) (is : Bool) (key : Bytes) (o : Option Bytes) → P key → IfSome o P → IfSome (if is then o else Some (lesser key o)) P
of_unknown P true key o one others = others
of_unknown P false key o one others = of_lesser P key o one others

unknown_given : (known : Names) (members : Members) → IfSome (least_unknown known (keys_in members)) (λ k. is_given k members ≡ true)
unknown_given known no_members = tt
unknown_given known (member key value rest) =
    of_unknown (λ k. is_given k (member key value rest) ≡ true) (is_among key known) key (least_unknown known (keys_in rest)) (here key value rest)
    (both_hold (λ k. is_given k rest ≡ true) (λ k. is_given k (member key value rest) ≡ true) (least_unknown known (keys_in rest))
    (λ k is. behind k key value rest is) (unknown_given known rest))

-- a key of a table, as it is told
KeyIn : Bytes → Members → Bytes → Type 0
KeyIn before members key = (k : Name) × (before ++ k ≡ key) × (is_given k members ≡ true)

abbrev key_told : {X : Type 0} → Result X KeyFault → Bytes → Bytes
key_told (Ok x) usual = usual
key_told (Err fault) usual = fault.key

unknown_told : (before : Bytes) (members : Members) (found : Option Bytes) (fault : KeyFault) → IfSome found (λ k. is_given k members ≡ true)
    → none_unknown before found ≡ Err fault → KeyIn before members fault.key
unfolding KeyIn
unknown_told before inside None fault given is = absurd (cc)
unknown_told before inside (Some k) fault given is = (k, ap (λ (r : Result (Unit {0}) KeyFault). key_told r []) is, given)

known_told : (before : Bytes) (known : Names) (members : Members) (fault : KeyFault) → all_known before known members ≡ Err fault → KeyIn before members fault.key
known_told before known members fault is = unknown_told before members (least_unknown known (keys_in members)) fault (unknown_given known members) is

-- what stands at a key that may be left out
usual_given : {X : Type 0} (usual : X) (read : Data → Result X PlanKind) (found : Option Data) (kind : PlanKind) → usual_or usual read found ≡ Err kind → is_some found ≡ true
usual_given usual read None kind is = let bad : Ok usual ≡ Err kind = is in absurd (cc)
usual_given usual read (Some d) kind is = refl

usual_told : {X : Type 0} (before key : Bytes) (usual : X) (read : Data → Result X PlanKind) (members : Members) (fault : KeyFault)
    → told_at (before ++ key) (usual_or usual read (get_member key members)) ≡ Err fault → KeyIn before members fault.key
unfolding KeyIn
usual_told before key usual read members fault is =
    let (bad, same) = told_there (before ++ key) (usual_or usual read (get_member key members)) fault is in
    (key, same, usual_given usual read (get_member key members) fault.kind bad)

-- ---- a key of the document

Told : Members → KeyFault → Type 0
Told members fault = HasKey members fault.key ⊎ LacksKey members fault.key fault.kind

own_told : (members : Members) (fault : KeyFault) → KeyIn [] members fault.key → Told members fault
unfolding KeyIn Told
own_told members fault (k, same, given) = inl (subst (HasKey members) same (own k given))

usual_own : {X : Type 0} (key : Bytes) (usual : X) (read : Data → Result X PlanKind) (members : Members) (fault : KeyFault)
    → told_at key (usual_or usual read (get_member key members)) ≡ Err fault → Told members fault
usual_own key usual read members fault is = own_told members fault (usual_told [] key usual read members fault is)

by_given : (C : Type 0) (b : Bool) → (b ≡ true → C) → (b ≡ false → C) → C
by_given C true there lacks = there refl
by_given C false there lacks = lacks refl

-- what is told where a key lacks that has to be there
missing_told : {X : Type 0} (read : Data → Result X PlanKind) (found : Option Data) (kind : PlanKind) → is_some found ≡ false → required read found ≡ Err kind → MissingKey ≡ kind
missing_told read None kind lacks is = cc
missing_told read (Some d) kind lacks is = absurd (cc)

lacks_told : (members : Members) (key : Bytes) (kind : PlanKind) (fault : KeyFault) → key ≡ fault.key → kind ≡ fault.kind → LacksKey members key kind → LacksKey members fault.key fault.kind
lacks_told members key kind fault same alike lacks = subst (λ k. LacksKey members k fault.kind) same (subst (LacksKey members key) alike lacks)

name_told : (members : Members) (fault : KeyFault) → required_text_at name_key members ≡ Err fault → Told members fault
unfolding Told
name_told members fault bad =
    let (b, same) = told_there name_key (required text_in (get_member name_key members)) fault bad in
    by_given (HasKey members fault.key ⊎ LacksKey members fault.key fault.kind) (is_given name_key members)
    (λ given. inl (subst (HasKey members) same (own name_key given)))
    (λ lacks. inr (lacks_told members name_key MissingKey fault same (missing_told text_in (get_member name_key members) fault.kind lacks b) (no_name lacks)))

head_told : (members : Members) (fault : KeyFault) → head_in members ≡ Err fault → Told members fault
head_told members fault is =
    from_fault (whole_at [] format_key members) _ fault _ (usual_own format_key.name _ _ members fault) (λ format a one.
    from_fault (required_text_at name_key members) _ fault _ (name_told members fault) (λ name c two.
    from_fault (whole_at [] seed_key members) _ fault _ (usual_own seed_key.name _ _ members fault) (λ seed d three.
    from_fault (whole_at [] repetitions_key members) _ fault _ (usual_own repetitions_key.name _ _ members fault) (λ repetitions e four.
    from_fault (truth_at [] sequential_key members) _ fault _ (usual_own sequential_key.name _ _ members fault) (λ sequential g last. absurd (cc))
    four) three) two) one) is

scripts_told : (members : Members) (fault : KeyFault) → scripts_in members ≡ Err fault → Told members fault
scripts_told members fault is =
    from_fault (text_at setup_key members) _ fault _ (usual_own setup_key.name _ _ members fault) (λ setup a one.
    from_fault (text_at go_key members) _ fault _ (usual_own go_key.name _ _ members fault) (λ go b two.
    from_fault (maybe_text_at until_key members) _ fault _ (usual_own until_key _ _ members fault) (λ until c last. absurd (cc)) two) one) is

measures_told : (members : Members) (fault : KeyFault) → measures_in members ≡ Err fault → Told members fault
measures_told members fault is =
    from_fault (whole_at [] steps_key members) _ fault _ (usual_own steps_key.name _ _ members fault) (λ steps a one.
    from_fault (truth_at [] every_step_key members) _ fault _ (usual_own every_step_key.name _ _ members fault) (λ every_step b two.
    from_fault (maybe_text_at measure_when_key members) _ fault _ (usual_own measure_when_key _ _ members fault) (λ measure_when e when.
    from_fault (whole_at [] budget_key members) _ fault _ (usual_own budget_key.name _ _ members fault) (λ budget c three.
    from_fault (texts_at metrics_key members) _ fault _ (usual_own metrics_key _ _ members fault) (λ metrics d last. absurd (cc)) three) when) two) one) is

-- ---- a table inside of it

none_given : (k : Name) → is_given k no_members ≡ true → ⊥
none_given k is = cc

table_is : (d : Data) (inner : Members) → members_in d ≡ Ok inner → d ≡ table inner
table_is (table other) inner is = let same : other ≡ inner = cc in ap table same
table_is (string text) inner is = absurd (cc)
table_is (integer n) inner is = absurd (cc)
table_is (float x) inner is = absurd (cc)
table_is (boolean truth) inner is = absurd (cc)
table_is (datetime date) inner is = absurd (cc)
table_is (array items) inner is = absurd (cc)

found_table : (found : Option Data) (inner : Members) (k : Name) → usual_or no_members members_in found ≡ Ok inner → is_given k inner ≡ true → found ≡ Some (table inner)
found_table None inner k is given =
    let same : no_members ≡ inner = cc in
    absurd (none_given k (subst (λ ms. is_given k ms ≡ true) (sym same) given))
found_table (Some d) inner k is given = ap Some (table_is d inner is)

table_there : (key : Name) (members inner : Members) (k : Name) → table_at key members ≡ Ok inner → is_given k inner ≡ true → get_member key members ≡ Some (table inner)
table_there key members inner k is given = found_table (get_member key members) inner k (told_ok key (usual_or no_members members_in (get_member key members)) inner is) given

in_world_told : (inner : Members) (fault : KeyFault) → world_in inner ≡ Err fault → KeyIn in_world inner fault.key
in_world_told inner fault is =
    from_fault (all_known in_world world_keys inner) _ fault _ (known_told in_world world_keys inner fault) (λ known a one.
    from_fault (whole_at in_world min_pxcor_key inner) _ fault _ (usual_told in_world min_pxcor_key.name _ _ inner fault) (λ min_x b two.
    from_fault (whole_at in_world max_pxcor_key inner) _ fault _ (usual_told in_world max_pxcor_key.name _ _ inner fault) (λ max_x c three.
    from_fault (whole_at in_world min_pycor_key inner) _ fault _ (usual_told in_world min_pycor_key.name _ _ inner fault) (λ min_y d four.
    from_fault (whole_at in_world max_pycor_key inner) _ fault _ (usual_told in_world max_pycor_key.name _ _ inner fault) (λ max_y e five.
    from_fault (truth_at in_world wrap_x_key inner) _ fault _ (usual_told in_world wrap_x_key.name _ _ inner fault) (λ wrap_x g six.
    from_fault (truth_at in_world wrap_y_key inner) _ fault _ (usual_told in_world wrap_y_key.name _ _ inner fault) (λ wrap_y h last. absurd (cc))
    six) five) four) three) two) one) is

world_told : (members : Members) (fault : KeyFault) → world_at members ≡ Err fault → Told members fault
unfolding KeyIn Told
world_told members fault is =
    from_fault (table_at world_key members) _ fault _ (usual_own world_key no_members members_in members fault) (λ inner read last.
    let (k, same, given) = in_world_told inner fault last in
    inl (subst (HasKey members) same (of_world inner k (table_there world_key members inner k read given) given))) is

setting_told : (others : Names) (inner : Members) (fault : KeyFault) → settings_in others inner ≡ Err fault
    → (k : Name) × (in_globals ++ lowered k ≡ fault.key) × (is_given k inner ≡ true)
setting_told others no_members fault is = absurd (cc)
setting_told others (member key value rest) fault is =
    from_fault (told_at (in_globals ++ lowered key) (setting_in others (lowered key) value)) _ fault _ (λ bad.
    let (a, same) = told_there (in_globals ++ lowered key) (setting_in others (lowered key) value) fault bad in
    (key, same, here key value rest)) (λ one b next.
    from_fault (settings_in (others ++ lowered key ∷ []) rest) _ fault _ (λ bad.
    let (k, same, given) = setting_told (others ++ lowered key ∷ []) rest fault bad in
    (k, same, behind k key value rest given)) (λ more c last. absurd (cc)) next) is

globals_told : (members : Members) (fault : KeyFault) → globals_at members ≡ Err fault → Told members fault
unfolding Told
globals_told members fault is =
    from_fault (table_at globals_key members) _ fault _ (usual_own globals_key no_members members_in members fault) (λ inner read last.
    let (k, same, given) = setting_told [] inner fault last in
    inl (subst (HasKey members) same (of_globals inner k (table_there globals_key members inner k read given) given))) is

-- ---- an entry

data EntryTold (before : Bytes) (entry : Members) (fault : KeyFault) : Type 0 where
  has : (k : Name) → before ++ k ≡ fault.key → is_given k entry ≡ true → EntryTold before entry fault
  nameless : before ++ name_key ≡ fault.key → MissingKey ≡ fault.kind → is_given name_key entry ≡ false → EntryTold before entry fault
  valueless : before ++ values_key ≡ fault.key → BadLiteral ≡ fault.kind → is_given values_key entry ≡ false → all_steps_given entry ≡ false
      → EntryTold before entry fault

has_told : (before : Bytes) (entry : Members) (fault : KeyFault) → KeyIn before entry fault.key → EntryTold before entry fault
unfolding KeyIn
has_told before entry fault (k, same, given) = has k same given

number_told : (before : Bytes) (name key : Name) (entry : Members) (fault : KeyFault) → is_given key entry ≡ true
    → stepped_number before name key entry ≡ Err fault → EntryTold before entry fault
number_told before name key entry fault given is = let (bad, same) = told_there (before ++ key) _ fault is in has key same given

test_told : (before : Bytes) (key : Name) (entry : Members) (b : Bool) (fault : KeyFault) → is_given key entry ≡ true
    → told_at (before ++ key) (only_if b BadLiteral) ≡ Err fault → EntryTold before entry fault
test_told before key entry b fault given is = let (bad, same) = told_there (before ++ key) _ fault is in has key same given

stepped_told : (before : Bytes) (name : Name) (entry : Members) (fault : KeyFault) → all_steps_given entry ≡ true
    → stepped_in before name entry ≡ Err fault → EntryTold before entry fault
stepped_told before name entry fault all is =
    let both = first_so (is_given from_key entry && is_given step_key entry) (is_given to_key entry) all in
    let has_from : is_given from_key entry ≡ true = first_so (is_given from_key entry) (is_given step_key entry) both in
    let has_step : is_given step_key entry ≡ true = second_so (is_given from_key entry) (is_given step_key entry) both in
    let has_to : is_given to_key entry ≡ true = second_so (is_given from_key entry && is_given step_key entry) (is_given to_key entry) all in
    from_fault (stepped_number before name from_key entry) _ fault _ (number_told before name from_key entry fault has_from) (λ from a one.
    from_fault (stepped_number before name step_key entry) _ fault _ (number_told before name step_key entry fault has_step) (λ step b two.
    from_fault (told_at (before ++ step_key) (only_if (int_lt (pos 0) step) BadLiteral)) _ fault _ (test_told before step_key entry _ fault has_step) (λ up c three.
    from_fault (stepped_number before name to_key entry) _ fault _ (number_told before name to_key entry fault has_to) (λ to d four.
    from_fault (told_at (before ++ to_key) (only_if (int_le from to) BadLiteral)) _ fault _ (test_told before to_key entry _ fault has_to) (λ reached e last. absurd (cc))
    four) three) two) one) is

all_by : (b : Bool) (x : Unit {0}) (key : Bytes) → told_at key (only_if b BadLiteral) ≡ Ok x → b ≡ true
all_by true x key is = refl
all_by false x key is = absurd (cc)

choice_told : (before : Bytes) (name : Name) (entry : Members) (found : Option Data) (fault : KeyFault) → get_member values_key entry ≡ found
    → choice_by before name entry found ≡ Err fault → EntryTold before entry fault
choice_told before name entry (Some value) fault there is =
    let (bad, same) = told_there (before ++ values_key) _ fault is in
    has values_key same (ap is_some there)
choice_told before name entry None fault there is =
    from_fault (told_at (before ++ values_key) (only_if (all_steps_given entry) BadLiteral)) _ fault _ (λ bad.
    let (none, same) = told_there (before ++ values_key) (only_if (all_steps_given entry) BadLiteral) fault bad in
    valueless same (failed_as (all_steps_given entry) BadLiteral fault.kind none) (ap is_some there)
    (failed (all_steps_given entry) BadLiteral fault.kind none)) (λ all read last.
    stepped_told before name entry fault (all_by (all_steps_given entry) all (before ++ values_key) read) last) is

entry_told : (before : Bytes) (others : Names) (entry : Members) (fault : KeyFault) → entry_by before others entry ≡ Err fault → EntryTold before entry fault
entry_told before others entry fault is =
    from_fault (all_known before entry_keys entry) _ fault _ (λ bad. has_told before entry fault (known_told before entry_keys entry fault bad)) (λ known a one.
    from_fault (told_at (before ++ name_key) (required (varied_name others) (get_member name_key entry))) _ fault _ (λ bad.
    let (b, same) = told_there (before ++ name_key) (required (varied_name others) (get_member name_key entry)) fault bad in
    by_given (EntryTold before entry fault) (is_given name_key entry) (has name_key same) (λ lacks.
    nameless same (missing_told (varied_name others) (get_member name_key entry) fault.kind lacks b) lacks)) (λ name c two.
    from_fault (choice_in before name entry) _ fault _ (choice_told before name entry (get_member values_key entry) fault refl) (λ choice d last. absurd (cc)) two) one) is

-- ---- `vary`

entries_told : (number : ℕ) (others : Names) (tables : List Members) (fault : KeyFault) → entries_from number others tables ≡ Err fault
    → (index : ℕ) × (entry : Members) × (slice_get tables index ≡ Some entry) × EntryTold (in_entry (number + index)) entry fault
entries_told number others [] fault is = absurd (cc)
entries_told number others (entry ∷ rest) fault is =
    from_fault (entry_by (in_entry number) others entry) _ fault _ (λ bad.
    let same : number ≡ number + 0 = omega arith in
    (0, entry, refl, subst (λ n. EntryTold (in_entry n) entry fault) same (entry_told (in_entry number) others entry fault bad))) (λ one a next.
    from_fault (entries_from (number + 1) (others ++ one.name ∷ []) rest) _ fault _ (λ bad.
    let (index, later, there, told) = entries_told (number + 1) (others ++ one.name ∷ []) rest fault bad in
    let same : number + 1 + index ≡ number + suc index = omega arith in
    (suc index, later, there, subst (λ n. EntryTold (in_entry n) later fault) same told)) (λ more b last. absurd (cc)) next) is

abbrev tables_or : Result (List Members) PlanKind → List Members
tables_or (Ok tables) = tables
tables_or (Err kind) = []

-- a table is the first item, or the same as one of the others
item_by : (d : Data) (ds : Items) (inner : Members) (more : List Members) (index : ℕ) (entry : Members) → d ≡ table inner
    → ((i : ℕ) → slice_get more i ≡ Some entry → get_item i ds ≡ Some (table entry))
    → slice_get (inner ∷ more) index ≡ Some entry → get_item index (item d ds) ≡ Some (table entry)
item_by d ds inner more zero entry same later there =
    let here_it : inner ≡ entry = cc in
    ap Some (same ∙ ap table here_it)
item_by d ds inner more (suc index) entry same later there = later index there

array_by : (floats : Bool) (items : Items) (tables : List Members) → ((if floats then Err FloatValue else Ok items) >>= each_item members_in) ≡ Ok tables
    → (found : Items) × (array items ≡ array found) × (each_item members_in found ≡ Ok tables)
array_by true items tables is = absurd (cc)
array_by false items tables is = (items, refl, is)

item_there : (items : Items) (tables : List Members) (index : ℕ) (entry : Members) → each_item members_in items ≡ Ok tables → slice_get tables index ≡ Some entry
    → get_item index items ≡ Some (table entry)
item_there no_items tables index entry is there =
    let none : slice_get [] index ≡ Some entry = subst (λ ts. slice_get ts index ≡ Some entry) (sym (ap tables_or is)) there in
    absurd (cc)
item_there (item d ds) tables index entry is there =
    from_bind (members_in d) _ tables _ (λ inner first next.
    from_bind (each_item members_in ds) _ tables _ (λ more second last.
    let same : inner ∷ more ≡ tables = ap tables_or last in
    item_by d ds inner more index entry (table_is d inner first) (λ i is_there. item_there ds more i entry second is_there)
    (subst (λ ts. slice_get ts index ≡ Some entry) (sym same) there)) next) is

array_items : (d : Data) (tables : List Members) → tables_in d ≡ Ok tables → (items : Items) × (d ≡ array items) × (each_item members_in items ≡ Ok tables)
array_items (array items) tables is = array_by (has_float items) items tables is
array_items (string text) tables is = absurd (cc)
array_items (integer n) tables is = absurd (cc)
array_items (float x) tables is = absurd (cc)
array_items (boolean truth) tables is = absurd (cc)
array_items (datetime date) tables is = absurd (cc)
array_items (table inner) tables is = absurd (cc)

entry_there : (found : Option Data) (tables : List Members) (index : ℕ) (entry : Members) → usual_or [] tables_in found ≡ Ok tables → slice_get tables index ≡ Some entry
    → (items : Items) × (found ≡ Some (array items)) × (get_item index items ≡ Some (table entry))
entry_there None tables index entry is there =
    let none : slice_get [] index ≡ Some entry = subst (λ ts. slice_get ts index ≡ Some entry) (sym (ap tables_or is)) there in
    absurd (cc)
entry_there (Some d) tables index entry is there =
    let (items, same, read) = array_items d tables is in
    (items, ap Some same, item_there items tables index entry read there)

at_index : (members : Members) (index : ℕ) (entry : Members) (fault : KeyFault) → IsEntry members index entry → EntryTold (in_entry (index + 1)) entry fault → Told members fault
unfolding Told
at_index members index entry fault is (has k same given) = inl (subst (HasKey members) same (of_entry index entry k is given))
at_index members index entry fault is (nameless same kind none) = inr (lacks_told members _ MissingKey fault same kind (no_name_of_entry index entry is none))
at_index members index entry fault is (valueless same kind none steps) = inr (lacks_told members _ BadLiteral fault same kind (no_values_of_entry index entry is none steps))

vary_told : (members : Members) (fault : KeyFault) → vary_at members ≡ Err fault → Told members fault
vary_told members fault is =
    from_fault (told_at vary_key (usual_or [] tables_in (get_member vary_key members))) _ fault _ (usual_own vary_key [] tables_in members fault) (λ tables read last.
    let (index, entry, there, told) = entries_told 1 [] tables fault last in
    let same : 1 + index ≡ index + 1 = omega arith in
    at_index members index entry fault
    (entry_there (get_member vary_key members) tables index entry (told_ok vary_key (usual_or [] tables_in (get_member vary_key members)) tables read) there)
    (subst (λ n. EntryTold (in_entry n) entry fault) same told)) is

-- ---- the file

fields_told : (members : Members) (fault : KeyFault) → fields_in members ≡ Err fault → Told members fault
fields_told members fault is =
    from_fault (all_known [] (known_in members) members) _ fault _ (λ bad. own_told members fault (known_told [] (known_in members) members fault bad)) (λ known a one.
    from_fault (head_in members) _ fault _ (head_told members fault) (λ head b two.
    from_fault (scripts_in members) _ fault _ (scripts_told members fault) (λ scripts c three.
    from_fault (measures_in members) _ fault _ (measures_told members fault) (λ measures d four.
    from_fault (world_at members) _ fault _ (world_told members fault) (λ world e five.
    from_fault (globals_at members) _ fault _ (globals_told members fault) (λ globals g six.
    from_fault (vary_at members) _ fault _ (vary_told members fault) (λ vary h last. absurd (cc)) six) five) four) three) two) one) is

abbrev whole_key : Result Members KeyFault → Bytes
whole_key (Ok inside) = []
whole_key (Err fault) = fault.key

found_whole : (found : Option Members) (fault : KeyFault) → document_or_fault found ≡ Err fault → fault.key ≡ []
found_whole None fault is = sym (ap whole_key is)
found_whole (Some inside) fault is = absurd (cc)

file_whole : (long : Bool) (found : Option Members) (fault : KeyFault) → (if long then Err (fault_at [] TooLong) else document_or_fault found) ≡ Err fault → fault.key ≡ []
file_whole true found fault is = sym (ap whole_key is)
file_whole false found fault is = found_whole found fault is

at_whole : (file : Bytes) (fault : KeyFault) → file_holds file ≡ Err fault → fault.key ≡ []
unfolding file_holds
at_whole file fault is = file_whole (nat_lt file_limit (length file)) (document file) fault is

in_document : (file : Bytes) (fault : KeyFault) (members : Members) → file_holds file ≡ Ok members → Told members fault → IsOfFile file fault
unfolding Told
in_document file fault members is (inl has_it) = at_key members is has_it
in_document file fault members is (inr lacks_it) = at_missing members is lacks_it

pub faults_are_of_the_file : FaultsAreOfTheFile
faults_are_of_the_file file fault is =
    from_fault (file_holds file) _ fault _ (λ bad. at_file bad (at_whole file fault bad)) (λ members read last.
    in_document file fault members read (fields_told members fault last)) is
