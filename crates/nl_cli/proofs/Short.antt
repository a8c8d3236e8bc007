-- The values that an experiment sets have texts that can be told: its literals are within the limits on values.
use Rattle.std.proofs.Common.{◌≡◌, ℕ, zero, suc, ◌+◌, ℤ, pos, ◌*ℤ◌, Bool, true, false, ◌&&◌, List, [], ◌∷◌, length, Option, Some, None, Result, Ok, Err, refl, sym, ap, ◌∙◌, subst}
use Rattle.std.specs.Prelude.{nat_le, slice_get, unwrap_or, if◌then◌else◌, not, int_lt, int_le, ◌++◌}
use Rattle.std.specs.List.{list_all}
use Rattle.std.specs.Option.{option_and_then, option_map}
use Rattle.toml.specs.Data.{Data, string, integer, float, boolean, array, table, datetime, Items, no_items, item, Members, get_member}
use Rattle.nl_fixed.specs.Nouns.{Bytes, Name, Names}
use Rattle.nl_fixed.specs.Numbers.{number_at, one}
use Rattle.nl_scan.specs.Tokens.{tokens_of}
use Rattle.nl_value.specs.Limits.{most_bytes, within_limits}
use Rattle.nl_value.specs.Living.{no_life}
use Rattle.nl_value.specs.Plain.{Plain, PlainNumber, PlainTruth, PlainWords, PlainItems, PlainTurtle, PlainPatch, PlainLink, PlainNobody, PlainSet}
use Rattle.nl_value.specs.Text.{text_of}
use Rattle.nl_experiment_keys.specs.Literals.{fit, literal_of, literal_of_tokens, whole_literal}
use Rattle.nl_experiment_sweep.specs.Varied.{value_of}
use Rattle.nl_experiment_sweep.specs.Sweep.{all_have_worlds, combination_of, index_of, most_runs, runs_of, settings_in, settings_of}
use Rattle.nl_experiment_sweep.specs.declared.varied.Choice.{Choice}
use Rattle.nl_experiment_sweep.specs.declared.varied.Choice.TheVariants.{Listed, Stepped}
use Rattle.nl_experiment_sweep.specs.declared.varied.Vary.{Vary}
use Rattle.nl_experiment_sweep.specs.declared.order.Order.{Order}
use Rattle.nl_experiment_keys.specs.Reading.{◌>>=◌, all_known, each_item, fault_at, only_if, required, told_at, usual_or}
use Rattle.nl_experiment_keys.specs.Document.{file_holds}
use Rattle.nl_experiment_keys.specs.declared.faults.PlanKind.{PlanKind}
use Rattle.nl_experiment_keys.specs.declared.faults.PlanKind.TheVariants.{BadLiteral, BadWorld, TooManyRuns}
use Rattle.nl_experiment_keys.specs.declared.faults.KeyFault.{KeyFault}
use Rattle.nl_experiment_fields.specs.Keys.{entry_keys, from_key, known_in, name_key, step_key, to_key, values_key, vary_key, world_key}
use Rattle.nl_experiment_fields.specs.Reading.{literal_in, literal_or_bad}
use Rattle.nl_experiment_fields.specs.Entries.{all_steps_given, choice_by, count_of_steps, stepped_number, choice_in, entries_from, entry_by, globals_at, in_entry, is_empty, is_right_value, listed_in, right_value, stepped_in, steps_given, tables_in, values_in, varied_name, vary_at, world_at}
use Rattle.nl_experiment_fields.specs.File.{fields_in, file_says, head_in, measures_in, scripts_in}
use Rattle.nl_experiment_fields.specs.declared.fields.Fields.{Fields}
use Rattle.nl_experiment.specs.Plan.{experiment_says, judged, order_of, world_of}
use Rattle.nl_cli.specs.Inputs.{Job}
use Rattle.nl_cli.specs.inner.Stages.{IsSound, is_short, is_short_value}

-- ---- steps that went on

bound : {A B E : Type 0} (r : Result A E) (f : A → Result B E) (y : B) → (r >>= f) ≡ Ok y → (x : A) × (r ≡ Ok x) × (f x ≡ Ok y)
bound (Ok x) f y h = (x, refl, h)
bound (Err e) f y h = cc

told : {X : Type 0} (key : Bytes) (r : Result X PlanKind) (x : X) → told_at key r ≡ Ok x → r ≡ Ok x
told key (Ok y) x h = cc
told key (Err kind) x h = cc

all_of : {X : Type 0} (p : X → Bool) (xs : List X) (x : X) → p x ≡ true → list_all p xs ≡ true → list_all p (x ∷ xs) ≡ true
all_of p xs x one all = rw (one, all) refl

each : {X : Type 0} (p : X → Bool) (read : Data → Result X PlanKind) → ((d : Data) (x : X) → read d ≡ Ok x → p x ≡ true)
    → (items : Items) (xs : List X) → each_item read items ≡ Ok xs → list_all p xs ≡ true
each p read right no_items xs h = let e : [] ≡ xs = cc in subst (λ ys. list_all p ys ≡ true) e refl
each p read right (item d ds) xs h =
    let (x, is, more) = bound (read d) (λ x. each_item read ds >>= λ ys. Ok (x ∷ ys)) xs h in
    let (ys, are, all) = bound (each_item read ds) (λ ys. Ok (x ∷ ys)) xs more in
    let e : x ∷ ys ≡ xs = cc in
    subst (λ zs. list_all p zs ≡ true) e (all_of p ys x (right d x is) (each p read right ds ys are))

-- ---- literals

-- what is short by its text is short
by_text : (value : Plain) → nat_le (length (text_of no_life false value)) most_bytes ≡ true → is_short_value value ≡ true
by_text (PlainNumber count) h = refl
by_text (PlainTruth truth) h = h
by_text (PlainWords bytes) h = h
by_text (PlainItems items) h = h
by_text (PlainTurtle turtle) h = h
by_text (PlainPatch patch) h = h
by_text (PlainLink link) h = h
by_text PlainNobody h = h
by_text (PlainSet set) h = h

first : (p q : Bool) → (p && q) ≡ true → p ≡ true
first true q h = refl
first false q h = cc

second : (p q : Bool) → (p && q) ≡ true → q ≡ true
second true q h = h
second false q h = cc

fit_by : (value x : Plain) (p q : Bool) → nat_le (length (text_of no_life false value)) most_bytes ≡ q → (if p && q then Some value else None) ≡ Some x → is_short_value x ≡ true
fit_by value x true true is h = let e : value ≡ x = cc in subst (λ v. is_short_value v ≡ true) e (by_text value is)
fit_by value x true false is h = cc
fit_by value x false q is h = cc

fits_short : (value x : Plain) → fit value ≡ Some x → is_short_value x ≡ true
fits_short value x h = fit_by value x (within_limits value) (nat_le (length (text_of no_life false value)) most_bytes) refl h

behind_some : (o : Option Plain) (x : Plain) → option_and_then fit o ≡ Some x → is_short_value x ≡ true
behind_some (Some value) x h = fits_short value x h
behind_some None x h = cc

literal_short : (text : Bytes) (x : Plain) → literal_of text ≡ Some x → is_short_value x ≡ true
unfolding literal_of
literal_short text x h = behind_some (literal_of_tokens text (tokens_of text)) x h

some_or_bad : (o : Option Plain) (x : Plain) → literal_or_bad o ≡ Ok x → o ≡ Some x
some_or_bad (Some value) x h = cc
some_or_bad None x h = cc

number_short : (o : Option ℤ) (x : Plain) → option_map PlainNumber o ≡ Some x → is_short_value x ≡ true
number_short (Some count) x h = let e : PlainNumber count ≡ x = cc in subst (λ v. is_short_value v ≡ true) e refl
number_short None x h = cc

truth_short : (truth : Bool) → is_short_value (PlainTruth truth) ≡ true
truth_short true = refl
truth_short false = refl

value_short : (d : Data) (x : Plain) → literal_in d ≡ Ok x → is_short_value x ≡ true
value_short (integer n) x h = number_short (number_at (n *ℤ pos one)) x (some_or_bad (whole_literal n) x h)
value_short (boolean truth) x h = let e : PlainTruth truth ≡ x = cc in subst (λ v. is_short_value v ≡ true) e (truth_short truth)
value_short (string text) x h = literal_short text x (some_or_bad (literal_of text) x h)
value_short (float f) x h = cc
value_short (array items) x h = cc
value_short (table members) x h = cc
value_short (datetime moment) x h = cc

-- ---- what is varied

abbrev short_choice : Choice → Bool
short_choice (Listed values) = list_all is_short_value values
short_choice (Stepped from step count) = true

abbrev short_vary : Vary → Bool
short_vary v = short_choice v.choice

right_short : (name : Name) (d : Data) (x : Plain) → right_value name d ≡ Ok x → is_short_value x ≡ true
right_short name d x h =
    let (value, is, more) = bound (literal_in d) (λ literal. only_if (is_right_value name literal) BadLiteral >>= λ right. Ok literal) x h in
    let (right, passed, same) = bound (only_if (is_right_value name value) BadLiteral) (λ right. Ok value) x more in
    let e : value ≡ x = cc in
    subst (λ v. is_short_value v ≡ true) e (value_short d value is)

listed_short : (name : Name) (items : Items) (c : Choice) → listed_in name items ≡ Ok c → short_choice c ≡ true
listed_short name items c h =
    let (some, is, more) = bound (only_if (not (is_empty items)) BadLiteral) (λ some. each_item (right_value name) items >>= λ values. Ok (Listed values)) c h in
    let (values, are, same) = bound (each_item (right_value name) items) (λ values. Ok (Listed values)) c more in
    let e : Listed values ≡ c = cc in
    subst (λ v. short_choice v ≡ true) e (each is_short_value (right_value name) (right_short name) items values are)

listed_at_short : (before : Bytes) (name : Name) (d : Data) (members : Members) (c : Choice) → choice_by before name members (Some d) ≡ Ok c → short_choice c ≡ true
listed_at_short before name d members c h =
    let inner = told (before ++ values_key) (values_in d >>= λ items. only_if (not (steps_given members)) BadLiteral >>= λ one. listed_in name items) c h in
    let (items, is, more) = bound (values_in d) (λ items. only_if (not (steps_given members)) BadLiteral >>= λ one. listed_in name items) c inner in
    let (one, passed, last) = bound (only_if (not (steps_given members)) BadLiteral) (λ one. listed_in name items) c more in
    listed_short name items c last

-- the last step of a chain makes a stepped choice
stepped_short : (c : Choice) (from step : ℤ) (count : ℕ) → Stepped from step count ≡ c → short_choice c ≡ true
stepped_short c from step count e = subst (λ v. short_choice v ≡ true) e refl

module _ {A B C D E F : Type 0} where
  fifth : (a : Result A F) (b : Result B F) (c : B → Result C F) (d : Result D F) (e : A → D → Result E F) (make : A → B → D → Choice) (x : Choice)
      → ((p : A) (q : B) (r : D) → short_choice (make p q r) ≡ true)
      → (a >>= λ p. b >>= λ q. c q >>= λ s. d >>= λ r. e p r >>= λ t. Ok (make p q r)) ≡ Ok x → short_choice x ≡ true
  fifth a b c d e make x short h =
      let (p, p_is, h1) = bound a (λ p. b >>= λ q. c q >>= λ s. d >>= λ r. e p r >>= λ t. Ok (make p q r)) x h in
      let (q, q_is, h2) = bound b (λ q. c q >>= λ s. d >>= λ r. e p r >>= λ t. Ok (make p q r)) x h1 in
      let (s, s_is, h3) = bound (c q) (λ s. d >>= λ r. e p r >>= λ t. Ok (make p q r)) x h2 in
      let (r, r_is, h4) = bound d (λ r. e p r >>= λ t. Ok (make p q r)) x h3 in
      let (t, t_is, h5) = bound (e p r) (λ t. Ok (make p q r)) x h4 in
      let same : make p q r ≡ x = cc in
      subst (λ v. short_choice v ≡ true) same (short p q r)

stepped_in_short : (before : Bytes) (name : Name) (members : Members) (c : Choice) → stepped_in before name members ≡ Ok c → short_choice c ≡ true
stepped_in_short before name members c h =
    fifth (stepped_number before name from_key members) (stepped_number before name step_key members)
    (λ step. told_at (before ++ step_key) (only_if (int_lt (pos 0) step) BadLiteral))
    (stepped_number before name to_key members)
    (λ from to. told_at (before ++ to_key) (only_if (int_le from to) BadLiteral))
    (λ from step to. Stepped from step (count_of_steps from step to)) c (λ from step to. refl) h

choice_by_short : (before : Bytes) (name : Name) (members : Members) (o : Option Data) (c : Choice) → choice_by before name members o ≡ Ok c → short_choice c ≡ true
choice_by_short before name members (Some d) c h = listed_at_short before name d members c h
choice_by_short before name members None c h =
    let (all, is, more) = bound (told_at (before ++ values_key) (only_if (all_steps_given members) BadLiteral)) (λ all. stepped_in before name members) c h in
    stepped_in_short before name members c more

entry_short : (before : Bytes) (others : Names) (members : Members) (v : Vary) → entry_by before others members ≡ Ok v → short_vary v ≡ true
entry_short before others members v h =
    let named = told_at (before ++ name_key) (required (varied_name others) (get_member name_key members)) in
    let make : Name → Choice → Vary = λ name choice. record { name = name; choice = choice } in
    let (known, is, h1) = bound (all_known before entry_keys members) (λ known. named >>= λ name. choice_in before name members >>= λ choice. Ok (make name choice)) v h in
    let (name, named_is, h2) = bound named (λ name. choice_in before name members >>= λ choice. Ok (make name choice)) v h1 in
    let (choice, choice_is, h3) = bound (choice_in before name members) (λ choice. Ok (make name choice)) v h2 in
    let same : make name choice ≡ v = cc in
    subst (λ w. short_vary w ≡ true) same (choice_by_short before name members (get_member values_key members) choice choice_is)

entries_short : (number : ℕ) (others : Names) (tables : List Members) (vs : List Vary) → entries_from number others tables ≡ Ok vs → list_all short_vary vs ≡ true
entries_short number others [] vs h = let e : [] ≡ vs = cc in subst (λ ws. list_all short_vary ws ≡ true) e refl
entries_short number others (members ∷ rest) vs h =
    let (v, is, h1) = bound (entry_by (in_entry number) others members) (λ v. entries_from (number + 1) (others ++ v.name ∷ []) rest >>= λ more. Ok (v ∷ more)) vs h in
    let (more, are, h2) = bound (entries_from (number + 1) (others ++ v.name ∷ []) rest) (λ more. Ok (v ∷ more)) vs h1 in
    let e : v ∷ more ≡ vs = cc in
    subst (λ ws. list_all short_vary ws ≡ true) e
    (all_of short_vary more v (entry_short (in_entry number) others members v is) (entries_short (number + 1) (others ++ v.name ∷ []) rest more are))

vary_short : (members : Members) (vs : List Vary) → vary_at members ≡ Ok vs → list_all short_vary vs ≡ true
vary_short members vs h =
    let (tables, is, more) = bound (told_at vary_key (usual_or [] tables_in (get_member vary_key members))) (λ tables. entries_from 1 [] tables) vs h in
    entries_short 1 [] tables vs more

-- ---- fields

-- the last of seven parts
module _ {A B C D W G V F E : Type 0} where
  last_part : (a : Result A E) (b : Result B E) (c : Result C E) (d : Result D E) (w : Result W E) (g : Result G E) (v : Result V E)
      (make : B → C → D → W → G → V → F) (part : F → V) (f : F) → ((q : B) (r : C) (s : D) (t : W) (u : G) (x : V) → part (make q r s t u x) ≡ x)
      → (a >>= λ p. b >>= λ q. c >>= λ r. d >>= λ s. w >>= λ t. g >>= λ u. v >>= λ x. Ok (make q r s t u x)) ≡ Ok f → v ≡ Ok (part f)
  last_part a b c d w g v make part f is h =
      let (p, p_is, h1) = bound a (λ p. b >>= λ q. c >>= λ r. d >>= λ s. w >>= λ t. g >>= λ u. v >>= λ x. Ok (make q r s t u x)) f h in
      let (q, q_is, h2) = bound b (λ q. c >>= λ r. d >>= λ s. w >>= λ t. g >>= λ u. v >>= λ x. Ok (make q r s t u x)) f h1 in
      let (r, r_is, h3) = bound c (λ r. d >>= λ s. w >>= λ t. g >>= λ u. v >>= λ x. Ok (make q r s t u x)) f h2 in
      let (s, s_is, h4) = bound d (λ s. w >>= λ t. g >>= λ u. v >>= λ x. Ok (make q r s t u x)) f h3 in
      let (t, t_is, h5) = bound w (λ t. g >>= λ u. v >>= λ x. Ok (make q r s t u x)) f h4 in
      let (u, u_is, h6) = bound g (λ u. v >>= λ x. Ok (make q r s t u x)) f h5 in
      let (x, x_is, h7) = bound v (λ x. Ok (make q r s t u x)) f h6 in
      let same : make q r s t u x ≡ f = cc in
      x_is ∙ ap Ok (sym (is q r s t u x) ∙ ap part same)

fields_vary : (members : Members) (f : Fields) → fields_in members ≡ Ok f → vary_at members ≡ Ok f.vary
fields_vary members f h =
    last_part (all_known [] (known_in members) members) (head_in members) (scripts_in members) (measures_in members) (world_at members) (globals_at members) (vary_at members)
    (λ head scripts measures world globals vary. record {
      name = head.name;
      seed = head.seed;
      repetitions = head.repetitions;
      sequential = head.sequential;
      setup = scripts.setup;
      go = scripts.go;
      until = scripts.until;
      steps = measures.steps;
      measure_when = measures.measure_when;
      budget = measures.budget;
      metrics = measures.metrics;
      bounds = world.min_x ∷ world.max_x ∷ world.min_y ∷ world.max_y ∷ [];
      wrap_x = world.wrap_x;
      wrap_y = world.wrap_y;
      globals = globals;
      vary = vary;
    })
    (λ f. f.vary) f (λ q r s t u x. refl) h

judged_same : (p q : Bool) (d e : KeyFault) (f g : Fields) → (only_if p d >>= λ few. only_if q e >>= λ worlds. Ok f) ≡ Ok g → f ≡ g
judged_same true true d e f g h = cc
judged_same true false d e f g h = cc
judged_same false q d e f g h = cc

varied_are_short : (file : Bytes) (f : Fields) → experiment_says file ≡ Ok f → list_all short_vary f.vary ≡ true
varied_are_short file f h =
    let (g, said, judged_is) = bound (file_says file) judged f h in
    let (members, held, fields_are) = bound (file_holds file) fields_in g said in
    let same : g ≡ f = judged_same (nat_le (runs_of (order_of g) g.vary) most_runs) (all_have_worlds (world_of g) (order_of g) g.vary)
    (fault_at vary_key TooManyRuns) (fault_at world_key BadWorld) g f judged_is in
    subst (λ x. list_all short_vary x.vary ≡ true) same (vary_short members g.vary (fields_vary members g fields_are))

-- ---- settings

item_short : (values : List Plain) (index : ℕ) → list_all is_short_value values ≡ true → is_short_value (unwrap_or (slice_get values index) PlainNobody) ≡ true
item_short [] index all = refl
item_short (value ∷ values) zero all = first (is_short_value value) (list_all is_short_value values) all
item_short (value ∷ values) (suc index) all = item_short values index (second (is_short_value value) (list_all is_short_value values) all)

value_of_short : (c : Choice) (index : ℕ) → short_choice c ≡ true → is_short_value (value_of c index) ≡ true
value_of_short (Listed values) index all = item_short values index all
value_of_short (Stepped from step count) index all = refl

settings_short : (combination : ℕ) (vs : List Vary) → list_all short_vary vs ≡ true → list_all is_short (settings_in combination vs) ≡ true
settings_short combination [] all = refl
settings_short combination (v ∷ vs) all =
    all_of is_short (settings_in combination vs) (record { name = v.name; value = value_of v.choice (index_of combination v vs) })
    (value_of_short v.choice (index_of combination v vs) (first (short_vary v) (list_all short_vary vs) all))
    (settings_short combination vs (second (short_vary v) (list_all short_vary vs) all))

run_short : (order : Order) (vs : List Vary) (number : ℕ) → list_all short_vary vs ≡ true → list_all is_short (settings_of order vs number) ≡ true
unfolding settings_of
run_short order vs number all = settings_short (combination_of order vs number) vs all

-- the settings of each run of an experiment that was read
pub experiments_are_sound : (file : Bytes) (job : Job) → experiment_says file ≡ Ok job.fields → IsSound job
experiments_are_sound file job is = λ number run. run_short (order_of job.fields) job.fields.vary number (varied_are_short file job.fields is)
