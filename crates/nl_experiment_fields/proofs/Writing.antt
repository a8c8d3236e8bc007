-- The values of a file can be written down, since each is read from a text.
use Rattle.std.proofs.Common.{◌≡◌, ℕ, ℤ, ◌+◌, Bool, true, false, List, [], ◌∷◌, ◌++◌, if◌then◌else◌, refl, ap, subst, ◌∙◌}
use Rattle.std.specs.Prelude.{⊤, Option, Some, None, Result, Ok, Err, IfOk, codes, bytes_eq, int_le, int_lt, not, pos}
use Rattle.std.specs.Option.{option_map, option_and_then}
use Rattle.std.specs.List.{list_all}
use Rattle.std.specs.Cmp.Derive.{both_true}
use Rattle.std.proofs.lemmas.List.Folds.{list_all-append}
use Rattle.toml.specs.Data.{Data, string, integer, float, boolean, datetime, array, table, Items, no_items, item, Members, no_members, member, get_member}
use Rattle.nl_fixed.specs.Nouns.{Bytes, Name, Names}
use Rattle.nl_scan.specs.Contents.{content_of}
use Rattle.nl_scan.specs.Faults.{ScanFault}
use Rattle.nl_scan.specs.Texts.{word_at}
use Rattle.nl_scan.specs.Tokens.{tokens_of}
use Rattle.nl_scan.specs.declared.token.Lexeme.{Lexeme}
use Rattle.nl_scan.specs.declared.token.Lexeme.TheVariants as lexeme
use Rattle.nl_scan.specs.declared.token.Token.{Token}
use Rattle.nl_value.specs.Colors.{color_named}
use Rattle.nl_value.specs.Plain.{Plain, PlainNumber, PlainTruth, PlainWords, PlainNobody, PlainItems, plains}
use Rattle.nl_value.proofs.Fitting.{values_fit-plains}
use Rattle.nl_experiment_keys.specs.Literals.{closed, fit, is_fit, literal_from, literal_of, literal_of_tokens, named_value, placed, placed_if, taken, token_value, whole_literal}
use Rattle.nl_experiment_sweep.specs.Varied.{PlainSetting}
use Rattle.nl_experiment_sweep.specs.declared.varied.Choice.{Choice}
use Rattle.nl_experiment_sweep.specs.declared.varied.Choice.TheVariants.{Listed, Stepped}
use Rattle.nl_experiment_sweep.specs.declared.varied.Vary.{Vary}
use Rattle.nl_experiment_keys.specs.Document.{file_holds}
use Rattle.nl_experiment_keys.specs.Reading.{◌>>=◌, Reads, told_at, only_if, each_item, all_known, required, usual_or}
use Rattle.nl_experiment_keys.specs.declared.faults.PlanKind.{PlanKind}
use Rattle.nl_experiment_keys.specs.declared.faults.PlanKind.TheVariants.{BadLiteral}
use Rattle.nl_experiment_keys.specs.declared.faults.KeyFault.{KeyFault}
use Rattle.nl_experiment_keys.specs.declared.faults.KeyRefusal.{KeyRefusal}
use Rattle.nl_experiment_fields.specs.Entries.{all_steps_given, choice_by, choice_in, count_of_steps, entries_from, entry_by, globals_at, in_entry, is_empty, is_right_value, listed_in, right_value, setting_in, settings_in, stepped_in, stepped_number, steps_given, table_at, tables_in, values_in, varied_name, vary_at, world_at}
use Rattle.nl_experiment_fields.specs.File.{fields_in, file_says, head_in, measures_in, scripts_in}
use Rattle.nl_experiment_fields.specs.Keys.{entry_keys, from_key, globals_key, in_globals, known_in, name_key, step_key, to_key, values_key, vary_key}
use Rattle.nl_experiment_fields.specs.Names.{can_be_widget, lowered}
use Rattle.nl_experiment_fields.specs.Reading.{kind_of_literal, literal_in, literal_or_bad}
use Rattle.nl_experiment_fields.specs.declared.fields.Fields.{Fields}
use Rattle.nl_experiment_fields.proofs.Binds.{from_bind, told_ok}
use Rattle.nl_experiment_fields.specs.Written.{AreWritten, all_written, is_written, is_written_choice}

-- ---- one literal

-- all that open lists hold so far
abbrev AllHeld : List (List Plain) → Type 0
AllHeld [] = ⊤
AllHeld (items ∷ outer) = (list_all is_written items ≡ true) × AllHeld outer

Later : (List (List Plain) → Option Plain) → Plain → Type 0
Later next v = (now : List (List Plain)) → AllHeld now → next now ≡ Some v → is_written v ≡ true

more_held : (items : List Plain) (value : Plain) → list_all is_written items ≡ true → is_written value ≡ true → list_all is_written (items ++ value ∷ []) ≡ true
more_held items value all one = list_all-append is_written items (value ∷ []) ∙ both_true all (both_true one refl)

places : (lists : List (List Plain)) (value : Plain) (tokens : List Token) (next : List (List Plain) → Option Plain) (v : Plain)
    → is_written value ≡ true → AllHeld lists → Later next v → placed lists value tokens next ≡ Some v → is_written v ≡ true
unfolding Later
places [] value [] next v one held later is =
    let same : value ≡ v = cc in
    subst (λ w. is_written w ≡ true) same one
places [] value (token ∷ tokens) next v one held later is = let bad : None ≡ Some v = is in absurd (cc)
places (items ∷ outer) value tokens next v one held later is = later ((items ++ value ∷ []) ∷ outer) (more_held items value held.0 one, held.1) is

AllFound : Option Plain → Type 0
AllFound found = (value : Plain) → found ≡ Some value → is_written value ≡ true

places_if : (lists : List (List Plain)) (found : Option Plain) (tokens : List Token) (next : List (List Plain) → Option Plain) (v : Plain)
    → AllFound found → AllHeld lists → Later next v → placed_if lists found tokens next ≡ Some v → is_written v ≡ true
unfolding Later AllFound
places_if lists None tokens next v one held later is = let bad : None ≡ Some v = is in absurd (cc)
places_if lists (Some value) tokens next v one held later is = places lists value tokens next v (one value refl) held later is

ends : (lists : List (List Plain)) (tokens : List Token) (next : List (List Plain) → Option Plain) (v : Plain)
    → AllHeld lists → Later next v → closed lists tokens next ≡ Some v → is_written v ≡ true
unfolding Later
ends [] tokens next v held later is = let bad : None ≡ Some v = is in absurd (cc)
ends (items ∷ outer) tokens next v held later is =
    places outer (PlainItems (plains items)) tokens next v (values_fit-plains (λ patch. false) (λ set. false) items ∙ held.0) held.1 later is

mapped : (found : Option ℤ) → AllFound (option_map PlainNumber found)
unfolding AllFound
mapped None value is = let bad : None ≡ Some value = is in absurd (cc)
mapped (Some count) value is =
    let same : PlainNumber count ≡ value = cc in
    subst (λ w. is_written w ≡ true) same refl

one_found : (value : Plain) → is_written value ≡ true → AllFound (Some value)
unfolding AllFound
one_found value one other is =
    let same : value ≡ other = cc in
    subst (λ w. is_written w ≡ true) same one

none_found : AllFound None
unfolding AllFound
none_found value is = absurd (cc)

either : (b : Bool) (x y : Option Plain) → AllFound x → AllFound y → AllFound (if b then x else y)
unfolding AllFound
either true x y fx fy = fx
either false x y fx fy = fy

named : (name : Name) → AllFound (named_value name)
named name =
    either (bytes_eq name (codes "true")) _ _ (one_found (PlainTruth true) refl)
    (either (bytes_eq name (codes "false")) _ _ (one_found (PlainTruth false) refl)
    (either (bytes_eq name (codes "nobody")) _ _ (one_found PlainNobody refl) (mapped (color_named name))))

steps : (text : Bytes) (token : Token) (l : Lexeme) (lists : List (List Plain)) (tokens : List Token) (next : List (List Plain) → Option Plain) (v : Plain)
    → AllHeld lists → Later next v → taken text token l lists tokens next ≡ Some v → is_written v ≡ true
unfolding Later
steps text token lexeme.Open lists tokens next v held later is = later ([] ∷ lists) (refl, held) is
steps text token lexeme.Close lists tokens next v held later is = ends lists tokens next v held later is
steps text token lexeme.Word lists tokens next v held later is =
    places_if lists (token_value text token lexeme.Word) tokens next v (named (word_at text token.span)) held later is
steps text token (lexeme.Number count) lists tokens next v held later is = places_if lists (token_value text token (lexeme.Number count)) tokens next v (one_found (PlainNumber count) refl) held later is
steps text token lexeme.Text lists tokens next v held later is = places_if lists (token_value text token lexeme.Text) tokens next v (one_found (PlainWords (content_of text token)) refl) held later is
steps text token lexeme.OpenParen lists tokens next v held later is = places_if lists None tokens next v none_found held later is
steps text token lexeme.CloseParen lists tokens next v held later is = places_if lists None tokens next v none_found held later is

from_tokens : (text : Bytes) (tokens : List Token) (lists : List (List Plain)) (v : Plain) → AllHeld lists → literal_from text tokens lists ≡ Some v → is_written v ≡ true
unfolding Later
from_tokens text [] lists v held is = let bad : None ≡ Some v = is in absurd (cc)
from_tokens text (token ∷ tokens) lists v held is =
    steps text token token.lexeme lists tokens (λ now. literal_from text tokens now) v held (λ now all next. from_tokens text tokens now v all next) is

of_tokens : (text : Bytes) (tokens : Result (List Token) ScanFault) → AllFound (literal_of_tokens text tokens)
unfolding AllFound
of_tokens text (Ok tokens) value is = from_tokens text tokens [] value tt is
of_tokens text (Err fault) value is = let bad : None ≡ Some value = is in absurd (cc)

fitting : (found : Option Plain) → AllFound found → AllFound (option_and_then fit found)
unfolding AllFound
fitting None all = all
fitting (Some value) all = either (is_fit value) (Some value) None (one_found value (all value refl)) none_found

of_text : (text : Bytes) → AllFound (literal_of text)
unfolding literal_of
of_text text = fitting (literal_of_tokens text (tokens_of text)) (of_tokens text (tokens_of text))

-- ---- a value

right_or_bad : (found : Option Plain) (v : Plain) → AllFound found → literal_or_bad found ≡ Ok v → is_written v ≡ true
unfolding AllFound
right_or_bad None v all is = let bad : Err BadLiteral ≡ Ok v = is in absurd (cc)
right_or_bad (Some value) v all is = all v (let same : value ≡ v = cc in ap Some same)

literal_written : (d : Data) (v : Plain) → literal_in d ≡ Ok v → is_written v ≡ true
literal_written (integer n) v is = right_or_bad (whole_literal n) v (mapped _) is
literal_written (boolean truth) v is = let same : PlainTruth truth ≡ v = cc in subst (λ w. is_written w ≡ true) same refl
literal_written (string text) v is = right_or_bad (literal_of text) v (of_text text) is
literal_written (float x) v is = absurd (cc)
literal_written (datetime x) v is = absurd (cc)
literal_written (array items) v is = absurd (cc)
literal_written (table keyed) v is = absurd (cc)

-- ---- `globals`

module _ where
  abbrev value_in : Result PlainSetting PlanKind → Plain → Plain
  value_in (Ok x) usual = x.value
  value_in (Err e) usual = usual

  setting_written : (others : Names) (name : Name) (d : Data) (s : PlainSetting) → setting_in others name d ≡ Ok s → is_written s.value ≡ true
  setting_written others name d s is =
      from_bind (kind_of_literal d) _ s _ (λ kind a rest.
      from_bind (only_if (can_be_widget others name) BadLiteral) _ s _ (λ right b more.
      from_bind (literal_in d) _ s _ (λ literal read last.
      subst (λ w. is_written w ≡ true) (ap (λ (r : Result PlainSetting PlanKind). value_in r literal) last) (literal_written d literal read)) more) rest) is

module _ where
  abbrev settings_from : Result (List PlainSetting) KeyFault → List PlainSetting → List PlainSetting
  settings_from (Ok x) usual = x
  settings_from (Err e) usual = usual

  settings_written : (others : Names) (members : Members) (ss : List PlainSetting) → settings_in others members ≡ Ok ss → all_written ss ≡ true
  settings_written others no_members ss is =
      let none : List PlainSetting = [] in
      subst (λ xs. all_written xs ≡ true) (ap (λ (r : Result (List PlainSetting) KeyFault). settings_from r none) is) refl
  settings_written others (member key value rest) ss is =
      from_bind (told_at (in_globals ++ lowered key) (setting_in others (lowered key) value)) _ ss _ (λ one first next.
      from_bind (settings_in (others ++ lowered key ∷ []) rest) _ ss _ (λ more second last.
      subst (λ xs. all_written xs ≡ true) (ap (λ (r : Result (List PlainSetting) KeyFault). settings_from r (one ∷ more)) last)
      (both_true (setting_written others (lowered key) value one (told_ok (in_globals ++ lowered key) (setting_in others (lowered key) value) one first))
      (settings_written (others ++ lowered key ∷ []) rest more second))) next) is

  globals_written : (keyed : Members) (ss : List PlainSetting) → globals_at keyed ≡ Ok ss → all_written ss ≡ true
  globals_written keyed ss is = from_bind (table_at globals_key keyed) _ ss _ (λ inner first last. settings_written [] inner ss last) is

-- ---- `vary`

module _ where
  abbrev plain_from : Result Plain PlanKind → Plain → Plain
  plain_from (Ok x) usual = x
  plain_from (Err e) usual = usual

  right_written : (name : Name) (d : Data) (v : Plain) → right_value name d ≡ Ok v → is_written v ≡ true
  right_written name d v is =
      from_bind (literal_in d) _ v _ (λ literal read next.
      from_bind (only_if (is_right_value name literal) BadLiteral) _ v _ (λ right b last.
      subst (λ w. is_written w ≡ true) (ap (λ (r : Result Plain PlanKind). plain_from r literal) last) (literal_written d literal read)) next) is

  abbrev plains_from : Result (List Plain) PlanKind → List Plain → List Plain
  plains_from (Ok x) usual = x
  plains_from (Err e) usual = usual

  values_written : (name : Name) (items : Items) (vs : List Plain) → each_item (right_value name) items ≡ Ok vs → list_all is_written vs ≡ true
  values_written name no_items vs is =
      let none : List Plain = [] in
      subst (λ xs. list_all is_written xs ≡ true) (ap (λ (r : Result (List Plain) PlanKind). plains_from r none) is) refl
  values_written name (item d ds) vs is =
      from_bind (right_value name d) _ vs _ (λ one first next.
      from_bind (each_item (right_value name) ds) _ vs _ (λ more second last.
      subst (λ xs. list_all is_written xs ≡ true) (ap (λ (r : Result (List Plain) PlanKind). plains_from r (one ∷ more)) last)
      (both_true (right_written name d one first) (values_written name ds more second))) next) is

  abbrev choice_from : {E : Type 0} → Result Choice E → Choice → Choice
  choice_from (Ok x) usual = x
  choice_from (Err e) usual = usual

  listed_written : (name : Name) (items : Items) (c : Choice) → listed_in name items ≡ Ok c → is_written_choice c ≡ true
  listed_written name items c is =
      from_bind (only_if (not (is_empty items)) BadLiteral) _ c _ (λ some a next.
      from_bind (each_item (right_value name) items) _ c _ (λ values read last.
      subst (λ x. is_written_choice x ≡ true) (ap (λ (r : Result Choice PlanKind). choice_from r (Listed values)) last) (values_written name items values read)) next) is

  stepped_written : (before : Bytes) (name : Name) (keyed : Members) (c : Choice) → stepped_in before name keyed ≡ Ok c → is_written_choice c ≡ true
  stepped_written before name keyed c is =
      from_bind (stepped_number before name from_key keyed) _ c _ (λ from a one.
      from_bind (stepped_number before name step_key keyed) _ c _ (λ step b two.
      from_bind (told_at (before ++ step_key) (only_if (int_lt (pos 0) step) BadLiteral)) _ c _ (λ up d three.
      from_bind (stepped_number before name to_key keyed) _ c _ (λ to e four.
      from_bind (told_at (before ++ to_key) (only_if (int_le from to) BadLiteral)) _ c _ (λ reached f last.
      subst (λ x. is_written_choice x ≡ true) (ap (λ (r : Result Choice KeyFault). choice_from r (Stepped from step (count_of_steps from step to))) last) refl)
      four) three) two) one) is

  choice_written : (before : Bytes) (name : Name) (keyed : Members) (found : Option Data) (c : Choice) → choice_by before name keyed found ≡ Ok c
      → is_written_choice c ≡ true
  choice_written before name keyed (Some value) c is =
      from_bind (values_in value) _ c _ (λ items a one.
      from_bind (only_if (not (steps_given keyed)) BadLiteral) _ c _ (λ way b last. listed_written name items c last) one)
      (told_ok (before ++ values_key) (values_in value >>= (λ items. only_if (not (steps_given keyed)) BadLiteral >>= (λ way. listed_in name items))) c is)
  choice_written before name keyed None c is =
      from_bind (told_at (before ++ values_key) (only_if (all_steps_given keyed) BadLiteral)) _ c _ (λ all a last. stepped_written before name keyed c last) is

  abbrev entry_choice : Result Vary KeyFault → Choice → Choice
  entry_choice (Ok x) usual = x.choice
  entry_choice (Err e) usual = usual

  entry_written : (before : Bytes) (others : Names) (keyed : Members) (v : Vary) → entry_by before others keyed ≡ Ok v → is_written_choice v.choice ≡ true
  entry_written before others keyed v is =
      from_bind (all_known before entry_keys keyed) _ v _ (λ known a one.
      from_bind (told_at (before ++ name_key) (required (varied_name others) (get_member name_key keyed))) _ v _ (λ name b two.
      from_bind (choice_in before name keyed) _ v _ (λ choice read last.
      subst (λ x. is_written_choice x ≡ true) (ap (λ (r : Result Vary KeyFault). entry_choice r choice) last)
      (choice_written before name keyed (get_member values_key keyed) choice read)) two) one) is

  abbrev varies_from : Result (List Vary) KeyFault → List Vary → List Vary
  varies_from (Ok x) usual = x
  varies_from (Err e) usual = usual

  entries_written : (number : ℕ) (others : Names) (tables : List Members) (vs : List Vary) → entries_from number others tables ≡ Ok vs
      → list_all (λ v. is_written_choice v.choice) vs ≡ true
  entries_written number others [] vs is =
      let none : List Vary = [] in
      subst (λ xs. list_all (λ v. is_written_choice v.choice) xs ≡ true) (ap (λ (r : Result (List Vary) KeyFault). varies_from r none) is) refl
  entries_written number others (keyed ∷ rest) vs is =
      from_bind (entry_by (in_entry number) others keyed) _ vs _ (λ one first next.
      from_bind (entries_from (number + 1) (others ++ one.name ∷ []) rest) _ vs _ (λ more second last.
      subst (λ xs. list_all (λ v. is_written_choice v.choice) xs ≡ true) (ap (λ (r : Result (List Vary) KeyFault). varies_from r (one ∷ more)) last)
      (both_true (entry_written (in_entry number) others keyed one first) (entries_written (number + 1) (others ++ one.name ∷ []) rest more second))) next) is

  vary_written : (keyed : Members) (vs : List Vary) → vary_at keyed ≡ Ok vs → list_all (λ v. is_written_choice v.choice) vs ≡ true
  vary_written keyed vs is =
      from_bind (told_at vary_key (usual_or [] tables_in (get_member vary_key keyed))) _ vs _ (λ tables a last. entries_written 1 [] tables vs last) is

-- ---- the file

module _ where
  abbrev globals_from : Result Fields KeyFault → List PlainSetting → List PlainSetting
  globals_from (Ok f) usual = f.globals
  globals_from (Err e) usual = usual

  abbrev vary_from : Result Fields KeyFault → List Vary → List Vary
  vary_from (Ok f) usual = f.vary
  vary_from (Err e) usual = usual

  fields_written : (keyed : Members) (f : Fields) → fields_in keyed ≡ Ok f → AreWritten f
  fields_written keyed f is =
      from_bind (all_known [] (known_in keyed) keyed) _ f _ (λ known a one.
      from_bind (head_in keyed) _ f _ (λ head b two.
      from_bind (scripts_in keyed) _ f _ (λ scripts c three.
      from_bind (measures_in keyed) _ f _ (λ measures d four.
      from_bind (world_at keyed) _ f _ (λ world e five.
      from_bind (globals_at keyed) _ f _ (λ globals read six.
      from_bind (vary_at keyed) _ f _ (λ vary again last.
      record {
        globals = subst (λ ss. all_written ss ≡ true) (ap (λ (r : Result Fields KeyFault). globals_from r globals) last) (globals_written keyed globals read);
        vary = subst (λ vs. list_all (λ v. is_written_choice v.choice) vs ≡ true) (ap (λ (r : Result Fields KeyFault). vary_from r vary) last) (vary_written keyed vary again);
      }) six) five) four) three) two) one) is

pub file_written : (file : Bytes) (f : Fields) → file_says file ≡ Ok f → AreWritten f
file_written file f is = from_bind (file_holds file) _ f _ (λ keyed a last. fields_written keyed f last) is

-- what a call reads in a document
pub fields_are_written : (keyed : Members) (read : Result Fields KeyRefusal) → Reads (fields_in keyed) read → IfOk read AreWritten
fields_are_written keyed (Ok f) is = fields_written keyed f is
fields_are_written keyed (Err refusal) is = tt
