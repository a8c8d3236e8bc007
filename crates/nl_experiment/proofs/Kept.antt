-- The widgets of an experiment have each name that it sets or varies, but those of the run itself.
use Rattle.std.proofs.Common.{◌≡◌, ◌⊎◌, inl, inr, ℕ, ◌+◌, Bool, true, false, IsTrue, not, ◌&&◌, ◌||◌, List, [], ◌∷◌, ◌++◌, All, map, if◌then◌else◌, bytes_eq, refl, sym, ap, subst, ◌∙◌}
use Rattle.std.specs.Prelude.{nat_le, Option, Some, None, Result, Ok, Err}
use Rattle.std.specs.Cmp.{first_so}
use Rattle.std.proofs.lemmas.List.Elements.{All-append, All-cons, All-head, All-map, All-nil, All-tail}
use Rattle.std.proofs.lemmas.List.Folds.{list_any-append}
use Rattle.std.proofs.lemmas.Slice.Eq.{bytes_eq-Decides}
use Rattle.toml.specs.Data.{Data, Members, no_members, member, get_member}
use Rattle.nl_fixed.specs.Nouns.{Bytes, Name, Names}
use Rattle.nl_words.specs.Table.{is_name}
use Rattle.nl_tree.specs.Vocabulary.{among}
use Rattle.nl_experiment_sweep.specs.Sweep.{all_have_worlds, most_runs, runs_of}
use Rattle.nl_experiment_sweep.specs.Varied.{PlainSetting}
use Rattle.nl_experiment_sweep.specs.declared.varied.Vary.{Vary}
use Rattle.nl_experiment_keys.specs.Document.{file_holds}
use Rattle.nl_experiment_keys.specs.Reading.{◌>>=◌, all_known, fault_at, only_if, required, text_in, told_at, usual_or}
use Rattle.nl_experiment_keys.specs.declared.faults.KeyFault.{KeyFault}
use Rattle.nl_experiment_keys.specs.declared.faults.PlanKind.{PlanKind}
use Rattle.nl_experiment_keys.specs.declared.faults.PlanKind.TheVariants.{BadLiteral, BadWorld, TooManyRuns}
use Rattle.nl_experiment_fields.specs.Entries.{choice_in, entries_from, entry_by, globals_at, in_entry, setting_in, settings_in, table_at, tables_in, varied_name, vary_at, world_at}
use Rattle.nl_experiment_fields.specs.File.{fields_in, file_says, head_in, measures_in, scripts_in}
use Rattle.nl_experiment_fields.specs.Keys.{entry_keys, globals_key, in_globals, known_in, name_key, vary_key, world_key}
use Rattle.nl_experiment_fields.specs.Names.{can_be_varied, can_be_widget, is_built_in, is_of_run, lowered}
use Rattle.nl_experiment_fields.specs.Reading.{kind_of_literal, literal_in}
use Rattle.nl_experiment_fields.specs.declared.fields.Fields.{Fields}
use Rattle.nl_experiment.specs.Laws.{NamesAreWidgets}
use Rattle.nl_experiment.specs.Plan.{experiment_says, judged, order_of, world_of}
use Rattle.nl_experiment.specs.Widgets.{gathered, names_of}

-- ---- names that are gathered

-- a widget may have it, as far as others don't
abbrev is_free : Name → Bool
is_free name = is_name name && not (is_built_in name)

abbrev IsRight : Name → Type 0
IsRight name = IsTrue (is_of_run name) ⊎ IsTrue (is_free name)

abbrev IsKept : Names → Name → Type 0
IsKept widgets name = IsTrue (is_of_run name) ⊎ IsTrue (among name widgets)

-- what is known stays
stays : (name : Name) (others names : Names) → among name others ≡ true → among name (gathered others names) ≡ true
stays name others [] is = is
stays name others (other ∷ names) is =
    let more : among name (others ++ other ∷ []) ≡ true =
    list_any-append (λ n. bytes_eq n name) others (other ∷ []) ∙ ap (λ b. b || among name (other ∷ [])) is in
    by (can_be_widget others other) (stays name (others ++ other ∷ []) names more) (stays name others names is)
  where
    by : (can : Bool) → among name (gathered (others ++ other ∷ []) names) ≡ true → among name (gathered others names) ≡ true
        → among name (gathered (if can then others ++ other ∷ [] else others) names) ≡ true
    by true one same = one
    by false one same = same

or_true : (a : Bool) → (a || true) ≡ true
or_true true = refl
or_true false = refl

last_is_there : (name : Name) (others : Names) → among name (others ++ name ∷ []) ≡ true
last_is_there name others =
    let itself : bytes_eq name name ≡ true = (bytes_eq-Decides name name).1 refl in
    list_any-append (λ n. bytes_eq n name) others (name ∷ []) ∙ ap (λ b. among name others || (b || false)) itself ∙ or_true (among name others)

first_is_kept : (others : Names) (name : Name) (names : Names) → is_free name ≡ true → among name (gathered others (name ∷ names)) ≡ true
first_is_kept others name names free = by (among name others) refl
  where
    can : (there : Bool) → among name others ≡ there → can_be_widget others name ≡ not there
    can there is = ap (λ b. b && not (among name others)) free ∙ ap not is

    by : (there : Bool) → among name others ≡ there → among name (gathered others (name ∷ names)) ≡ true
    by true is = subst (λ b. among name (gathered (if b then others ++ name ∷ [] else others) names) ≡ true) (sym (can true is)) (stays name others names is)
    by false is = subst (λ b. among name (gathered (if b then others ++ name ∷ [] else others) names) ≡ true) (sym (can false is))
        (stays name (others ++ name ∷ []) names (last_is_there name others))

all_are_kept : (others names : Names) → All IsRight names → All (IsKept (gathered others names)) names
all_are_kept others [] right = All-nil (IsKept others)
all_are_kept others (name ∷ names) right =
    All-cons (IsKept (gathered others (name ∷ names))) name names (by (All-head IsRight name names right))
    (all_are_kept (if can_be_widget others name then others ++ name ∷ [] else others) names (All-tail IsRight name names right))
  where
    by : IsRight name → IsKept (gathered others (name ∷ names)) name
    by (inl of_run) = inl of_run
    by (inr free) = inr (first_is_kept others name names free)

-- ---- steps of reading

module _ {A B E : Type 0} where
  -- what a step and the next one read
  from_bind : (m : Result A E) (f : A → Result B E) (x : B) (C : Type 0) → ((y : A) → m ≡ Ok y → f y ≡ Ok x → C) → (m >>= f) ≡ Ok x → C
  from_bind (Ok y) f x C next is = next y refl is
  from_bind (Err e) f x C next is = let bad : Err e ≡ Ok x = is in absurd (cc)

told_ok : {X : Type 0} (key : Bytes) (m : Result X PlanKind) (x : X) → told_at key m ≡ Ok x → m ≡ Ok x
told_ok key (Ok y) x is = let same : y ≡ x = cc in ap Ok same
told_ok key (Err kind) x is = absurd (cc)

passed : {E : Type 0} (b : Bool) (e : E) (x : Unit {0}) → only_if b e ≡ Ok x → b ≡ true
passed true e x is = refl
passed false e x is = let bad : Err e ≡ Ok x = is in absurd (cc)

-- ---- `globals`

setting_right : (others : Names) (name : Name) (d : Data) (s : PlainSetting) → setting_in others name d ≡ Ok s → IsRight s.name
setting_right others name d s is =
    from_bind (kind_of_literal d) _ s _ (λ kind a rest.
    from_bind (only_if (can_be_widget others name) BadLiteral) _ s _ (λ right b more.
    from_bind (literal_in d) _ s _ (λ literal read last.
    let same : record { name = name; value = literal } ≡ s = cc in
    subst IsRight (ap (λ (x : PlainSetting). x.name) same) (inr (first_so (is_free name) (not (among name others)) (passed (can_be_widget others name) BadLiteral right b)))) more) rest) is

settings_right : (others : Names) (members : Members) (ss : List PlainSetting) → settings_in others members ≡ Ok ss → All (λ (s : PlainSetting). IsRight s.name) ss
settings_right others no_members ss is =
    let same : [] ≡ ss = cc in
    subst (All (λ (s : PlainSetting). IsRight s.name)) same (All-nil (λ (s : PlainSetting). IsRight s.name))
settings_right others (member key value rest) ss is =
    from_bind (told_at (in_globals ++ lowered key) (setting_in others (lowered key) value)) _ ss _ (λ one first next.
    from_bind (settings_in (others ++ lowered key ∷ []) rest) _ ss _ (λ more second last.
    let same : one ∷ more ≡ ss = cc in
    subst (All (λ (s : PlainSetting). IsRight s.name)) same (All-cons (λ (s : PlainSetting). IsRight s.name) one more
    (setting_right others (lowered key) value one (told_ok (in_globals ++ lowered key) (setting_in others (lowered key) value) one first))
    (settings_right (others ++ lowered key ∷ []) rest more second))) next) is

globals_right : (members : Members) (ss : List PlainSetting) → globals_at members ≡ Ok ss → All (λ (s : PlainSetting). IsRight s.name) ss
globals_right members ss is = from_bind (table_at globals_key members) _ ss _ (λ inner first last. settings_right [] inner ss last) is

-- ---- `vary`

can_be_right : (others : Names) (name : Name) → can_be_varied others name ≡ true → IsRight name
can_be_right others name can = by (is_of_run name) refl
  where
    by : (of_run : Bool) → is_of_run name ≡ of_run → IsRight name
    by true is = inl is
    by false is =
        let widget : can_be_widget others name ≡ true = sym (ap (λ b. (b && not (among name others)) || can_be_widget others name) is) ∙ can in
        inr (first_so (is_free name) (not (among name others)) widget)

name_right : (others : Names) (found : Option Data) (name : Name) → required (varied_name others) found ≡ Ok name → IsRight name
name_right others None name is = absurd (cc)
name_right others (Some d) name is =
    from_bind (text_in d) _ name _ (λ text a next.
    from_bind (only_if (can_be_varied others (lowered text)) BadLiteral) _ name _ (λ right b last.
    let same : lowered text ≡ name = cc in
    subst IsRight same (can_be_right others (lowered text) (passed (can_be_varied others (lowered text)) BadLiteral right b))) next) is

entry_right : (before : Bytes) (others : Names) (members : Members) (v : Vary) → entry_by before others members ≡ Ok v → IsRight v.name
entry_right before others members v is =
    from_bind (all_known before entry_keys members) _ v _ (λ known a one.
    from_bind (told_at (before ++ name_key) (required (varied_name others) (get_member name_key members))) _ v _ (λ name b two.
    from_bind (choice_in before name members) _ v _ (λ choice read last.
    let same : record { name = name; choice = choice } ≡ v = cc in
    subst IsRight (ap (λ (x : Vary). x.name) same)
    (name_right others (get_member name_key members) name (told_ok (before ++ name_key) (required (varied_name others) (get_member name_key members)) name b))) two) one) is

entries_right : (number : ℕ) (others : Names) (tables : List Members) (vs : List Vary) → entries_from number others tables ≡ Ok vs → All (λ (v : Vary). IsRight v.name) vs
entries_right number others [] vs is =
    let same : [] ≡ vs = cc in
    subst (All (λ (v : Vary). IsRight v.name)) same (All-nil (λ (v : Vary). IsRight v.name))
entries_right number others (members ∷ rest) vs is =
    from_bind (entry_by (in_entry number) others members) _ vs _ (λ one first next.
    from_bind (entries_from (number + 1) (others ++ one.name ∷ []) rest) _ vs _ (λ more second last.
    let same : one ∷ more ≡ vs = cc in
    subst (All (λ (v : Vary). IsRight v.name)) same (All-cons (λ (v : Vary). IsRight v.name) one more
    (entry_right (in_entry number) others members one first) (entries_right (number + 1) (others ++ one.name ∷ []) rest more second))) next) is

vary_right : (members : Members) (vs : List Vary) → vary_at members ≡ Ok vs → All (λ (v : Vary). IsRight v.name) vs
vary_right members vs is =
    from_bind (told_at vary_key (usual_or [] tables_in (get_member vary_key members))) _ vs _ (λ tables a last. entries_right 1 [] tables vs last) is

-- ---- the file

record NamesAreRight (f : Fields) : Type 0 where
  globals_are : All (λ (s : PlainSetting). IsRight s.name) f.globals
  vary_are : All (λ (v : Vary). IsRight v.name) f.vary

abbrev globals_from : Result Fields KeyFault → List PlainSetting → List PlainSetting
globals_from (Ok f) usual = f.globals
globals_from (Err e) usual = usual

abbrev vary_from : Result Fields KeyFault → List Vary → List Vary
vary_from (Ok f) usual = f.vary
vary_from (Err e) usual = usual

fields_right : (members : Members) (f : Fields) → fields_in members ≡ Ok f → NamesAreRight f
fields_right members f is =
    from_bind (all_known [] (known_in members) members) _ f _ (λ known a one.
    from_bind (head_in members) _ f _ (λ head b two.
    from_bind (scripts_in members) _ f _ (λ scripts c three.
    from_bind (measures_in members) _ f _ (λ measures d four.
    from_bind (world_at members) _ f _ (λ world e five.
    from_bind (globals_at members) _ f _ (λ globals read six.
    from_bind (vary_at members) _ f _ (λ vary again last.
    let globals_same : globals ≡ f.globals = ap (λ (r : Result Fields KeyFault). globals_from r globals) last in
    let vary_same : vary ≡ f.vary = ap (λ (r : Result Fields KeyFault). vary_from r vary) last in
    record {
      globals_are = subst (All (λ (s : PlainSetting). IsRight s.name)) globals_same (globals_right members globals read);
      vary_are = subst (All (λ (v : Vary). IsRight v.name)) vary_same (vary_right members vary again);
    }) six) five) four) three) two) one) is

file_right : (file : Bytes) (f : Fields) → file_says file ≡ Ok f → NamesAreRight f
file_right file f is = from_bind (file_holds file) _ f _ (λ members a last. fields_right members f last) is

-- ---- the experiment

-- fields that are judged stay as they are
judged_same : (p q : Bool) (d e : KeyFault) (f g : Fields) → (only_if p d >>= λ few. only_if q e >>= λ worlds. Ok f) ≡ Ok g → f ≡ g
judged_same true true d e f g h = cc
judged_same true false d e f g h = cc
judged_same false q d e f g h = cc

experiment_right : (file : Bytes) (f : Fields) → experiment_says file ≡ Ok f → NamesAreRight f
experiment_right file f is =
    from_bind (file_says file) judged f _ (λ g said judged_is.
    let same : g ≡ f = judged_same (nat_le (runs_of (order_of g) g.vary) most_runs) (all_have_worlds (world_of g) (order_of g) g.vary)
    (fault_at vary_key TooManyRuns) (fault_at world_key BadWorld) g f judged_is in
    subst NamesAreRight same (file_right file g said)) is

pub names_are_widgets : NamesAreWidgets
names_are_widgets file f is =
    let right = experiment_right file f is in
    all_are_kept [] (names_of f) (All-append IsRight (map (λ (s : PlainSetting). s.name) f.globals) (map (λ (v : Vary). v.name) f.vary)
    (All-map IsRight (λ (s : PlainSetting). s.name) f.globals right.globals_are) (All-map IsRight (λ (v : Vary). v.name) f.vary right.vary_are))
