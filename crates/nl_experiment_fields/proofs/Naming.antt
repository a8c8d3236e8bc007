-- The names that a file sets and varies are in lower case, and differ.
use Rattle.std.proofs.Common.{◌≡◌, ℕ, ◌+◌, Bool, true, false, List, [], ◌∷◌, ◌++◌, map, Option, Some, None, Result, Ok, Err, bytes_eq, refl, sym, ap, subst, ◌∙◌, arith}
use Rattle.std.specs.Prelude.{not, ◌||◌, ◌&&◌}
use Rattle.std.specs.Char.{is_ascii_uppercase, to_ascii_lowercase}
use Rattle.std.specs.Cmp.{first_so, second_so}
use Rattle.std.specs.Cmp.Derive.{both_true}
use Rattle.std.specs.List.{list_all, list_any}
use Rattle.std.proofs.lemmas.Bool.Decides.{nat_tests}
use Rattle.std.proofs.lemmas.List.Folds.{list_any-append}
use Rattle.std.proofs.lemmas.Slice.Eq.{bytes_eq-Decides}
use Rattle.toml.specs.Data.{Data, Members, no_members, member, get_member}
use Rattle.nl_fixed.specs.Nouns.{Bytes, Name, Names}
use Rattle.nl_tree.specs.Names.{are_apart, are_distinct}
use Rattle.nl_tree.specs.Vocabulary.{among}
use Rattle.nl_words.specs.Table.{is_name}
use Rattle.nl_experiment_sweep.specs.Varied.{PlainSetting}
use Rattle.nl_experiment_sweep.specs.declared.varied.Vary.{Vary}
use Rattle.nl_experiment_keys.specs.Document.{file_holds}
use Rattle.nl_experiment_keys.specs.Reading.{all_known, only_if, required, text_in, told_at, usual_or}
use Rattle.nl_experiment_keys.specs.declared.faults.KeyFault.{KeyFault}
use Rattle.nl_experiment_keys.specs.declared.faults.PlanKind.{PlanKind}
use Rattle.nl_experiment_keys.specs.declared.faults.PlanKind.TheVariants.{BadLiteral}
use Rattle.nl_experiment_fields.specs.Entries.{choice_in, entries_from, entry_by, globals_at, in_entry, setting_in, settings_in, table_at, tables_in, varied_name, vary_at, world_at}
use Rattle.nl_experiment_fields.specs.File.{fields_in, head_in, measures_in, scripts_in}
use Rattle.nl_experiment_fields.specs.Keys.{entry_keys, globals_key, in_globals, known_in, name_key, vary_key}
use Rattle.nl_experiment_fields.specs.Laws.{AreApart, NamesAreApart, is_lower}
use Rattle.nl_experiment_fields.specs.Names.{can_be_varied, can_be_widget, is_built_in, is_of_run, lowered}
use Rattle.nl_experiment_fields.specs.Reading.{kind_of_literal, literal_in}
use Rattle.nl_experiment_fields.specs.declared.fields.Fields.{Fields}
use Rattle.nl_experiment_fields.proofs.Binds.{from_bind, passed, told_ok}

-- ---- names

letter_lower : (c : ℕ) → is_ascii_uppercase (to_ascii_lowercase c) ≡ false
letter_lower c = grind (arith, nat_tests)

letters_lower : (bytes : Bytes) → list_any is_ascii_uppercase (lowered bytes) ≡ false
letters_lower [] = refl
letters_lower (c ∷ bytes) = rw (letter_lower c) (letters_lower bytes)

lowered_lower : (bytes : Bytes) → is_lower (lowered bytes) ≡ true
lowered_lower bytes = ap not (letters_lower bytes)

untrue : (b : Bool) → not b ≡ true → b ≡ false
untrue true is = absurd (cc)
untrue false is = refl

-- neither of two
neither : (a b : Bool) → (a || b) ≡ false → (a ≡ false) × (b ≡ false)
neither true b is = absurd (cc)
neither false b is = (refl, is)

other_way : (x y : Bytes) → bytes_eq x y ≡ false → bytes_eq y x ≡ false
other_way x y is = grind (arith, bytes_eq-Decides x y, bytes_eq-Decides y x, is)

-- names in lower case that differ, and differ from others
record Named (others names : Names) : Type 0 where
  lower : list_all is_lower names ≡ true
  distinct : are_distinct names ≡ true
  apart : are_apart names others ≡ true

-- a name that stands with others is apart, and so are they
apart_more : (names others : Names) (name : Name) → are_apart names (others ++ name ∷ []) ≡ true → (are_apart names others ≡ true) × (among name names ≡ false)
apart_more [] others name is = (refl, refl)
apart_more (n ∷ names) others name is =
    let none : among n (others ++ name ∷ []) ≡ false = untrue _ (first_so (not (among n (others ++ name ∷ []))) (are_apart names (others ++ name ∷ [])) is) in
    let (before, behind) = neither (among n others) (among n (name ∷ [])) (sym (list_any-append (λ x. bytes_eq x n) others (name ∷ [])) ∙ none) in
    let (more, last) = apart_more names others name (second_so (not (among n (others ++ name ∷ []))) (are_apart names (others ++ name ∷ [])) is) in
    let other : bytes_eq n name ≡ false = other_way name n (neither (bytes_eq name n) false behind).0 in
    (both_true (ap not before) more, rw other last)

named_none : (others : Names) → Named others []
named_none others = record { lower = refl; distinct = refl; apart = refl }

named_more : (others : Names) (name : Name) (names : Names) → is_lower name ≡ true → among name others ≡ false → Named (others ++ name ∷ []) names
    → Named others (name ∷ names)
named_more others name names low new more =
    let (behind, last) = apart_more names others name more.apart in
    record {
      lower = both_true low more.lower;
      distinct = both_true (ap not last) more.distinct;
      apart = both_true (ap not new) behind;
    }

-- ---- `globals`

module _ where
  abbrev setting_name : Result PlainSetting PlanKind → Name → Name
  setting_name (Ok s) usual = s.name
  setting_name (Err kind) usual = usual

  setting_named : (others : Names) (name : Name) (d : Data) (s : PlainSetting) → setting_in others name d ≡ Ok s → (name ≡ s.name) × (among name others ≡ false)
  setting_named others name d s is =
      from_bind (kind_of_literal d) _ s _ (λ kind a one.
      from_bind (only_if (can_be_widget others name) BadLiteral) _ s _ (λ right can two.
      from_bind (literal_in d) _ s _ (λ literal b last. (
        ap (λ (r : Result PlainSetting PlanKind). setting_name r name) last,
        untrue _ (second_so (is_name name && not (is_built_in name)) (not (among name others)) (passed (can_be_widget others name) BadLiteral right can)),
      )) two) one) is

  abbrev names_set : Result (List PlainSetting) KeyFault → Names → Names
  names_set (Ok ss) usual = map (λ s. s.name) ss
  names_set (Err fault) usual = usual

  settings_named : (others : Names) (members : Members) (ss : List PlainSetting) → settings_in others members ≡ Ok ss → Named others (map (λ s. s.name) ss)
  settings_named others no_members ss is = subst (Named others) (ap (λ (r : Result (List PlainSetting) KeyFault). names_set r []) is) (named_none others)
  settings_named others (member key value rest) ss is =
      from_bind (told_at (in_globals ++ lowered key) (setting_in others (lowered key) value)) _ ss _ (λ one first next.
      from_bind (settings_in (others ++ lowered key ∷ []) rest) _ ss _ (λ more second last.
      let (same, new) = setting_named others (lowered key) value one (told_ok (in_globals ++ lowered key) (setting_in others (lowered key) value) one first) in
      subst (Named others) (ap (λ n. n ∷ map (λ s. s.name) more) same ∙ ap (λ (r : Result (List PlainSetting) KeyFault). names_set r []) last)
      (named_more others (lowered key) (map (λ s. s.name) more) (lowered_lower key) new (settings_named (others ++ lowered key ∷ []) rest more second))) next) is

  globals_named : (members : Members) (ss : List PlainSetting) → globals_at members ≡ Ok ss → Named [] (map (λ s. s.name) ss)
  globals_named members ss is = from_bind (table_at globals_key members) _ ss _ (λ inner first last. settings_named [] inner ss last) is

-- ---- `vary`

module _ where
  abbrev name_read : Result Name PlanKind → Name → Name
  name_read (Ok name) usual = name
  name_read (Err kind) usual = usual

  new_by : (run is right new : Bool) → ((run && new) || ((is && right) && new)) ≡ true → new ≡ true
  new_by run is right true can = refl
  new_by true true true false can = can
  new_by true true false false can = can
  new_by true false right false can = can
  new_by false true true false can = can
  new_by false true false false can = can
  new_by false false right false can = can

  new_varied : (others : Names) (name : Name) → can_be_varied others name ≡ true → among name others ≡ false
  new_varied others name can = untrue (among name others) (new_by (is_of_run name) (is_name name) (not (is_built_in name)) (not (among name others)) can)

  name_named : (others : Names) (d : Data) (name : Name) → varied_name others d ≡ Ok name → (is_lower name ≡ true) × (among name others ≡ false)
  name_named others d name is =
      from_bind (text_in d) _ name _ (λ text a one.
      from_bind (only_if (can_be_varied others (lowered text)) BadLiteral) _ name _ (λ right can last.
      subst (λ n. (is_lower n ≡ true) × (among n others ≡ false)) (ap (λ (r : Result Name PlanKind). name_read r (lowered text)) last)
      (lowered_lower text, new_varied others (lowered text) (passed (can_be_varied others (lowered text)) BadLiteral right can))) one) is

  needed_named : (others : Names) (found : Option Data) (name : Name) → required (varied_name others) found ≡ Ok name → (is_lower name ≡ true) × (among name others ≡ false)
  needed_named others None name is = absurd (cc)
  needed_named others (Some d) name is = name_named others d name is

  abbrev entry_name : Result Vary KeyFault → Name → Name
  entry_name (Ok v) usual = v.name
  entry_name (Err fault) usual = usual

  entry_named : (before : Bytes) (others : Names) (members : Members) (v : Vary) → entry_by before others members ≡ Ok v
      → (is_lower v.name ≡ true) × (among v.name others ≡ false)
  entry_named before others members v is =
      from_bind (all_known before entry_keys members) _ v _ (λ known a one.
      from_bind (told_at (before ++ name_key) (required (varied_name others) (get_member name_key members))) _ v _ (λ name read two.
      from_bind (choice_in before name members) _ v _ (λ choice b last.
      subst (λ n. (is_lower n ≡ true) × (among n others ≡ false)) (ap (λ (r : Result Vary KeyFault). entry_name r name) last)
      (needed_named others (get_member name_key members) name (told_ok (before ++ name_key) (required (varied_name others) (get_member name_key members)) name read))) two) one) is

  abbrev names_varied : Result (List Vary) KeyFault → Names → Names
  names_varied (Ok vs) usual = map (λ v. v.name) vs
  names_varied (Err fault) usual = usual

  entries_named : (number : ℕ) (others : Names) (tables : List Members) (vs : List Vary) → entries_from number others tables ≡ Ok vs
      → Named others (map (λ v. v.name) vs)
  entries_named number others [] vs is = subst (Named others) (ap (λ (r : Result (List Vary) KeyFault). names_varied r []) is) (named_none others)
  entries_named number others (members ∷ rest) vs is =
      from_bind (entry_by (in_entry number) others members) _ vs _ (λ one first next.
      from_bind (entries_from (number + 1) (others ++ one.name ∷ []) rest) _ vs _ (λ more second last.
      let (low, new) = entry_named (in_entry number) others members one first in
      subst (Named others) (ap (λ (r : Result (List Vary) KeyFault). names_varied r []) last)
      (named_more others one.name (map (λ v. v.name) more) low new (entries_named (number + 1) (others ++ one.name ∷ []) rest more second))) next) is

  vary_named : (members : Members) (vs : List Vary) → vary_at members ≡ Ok vs → Named [] (map (λ v. v.name) vs)
  vary_named members vs is =
      from_bind (told_at vary_key (usual_or [] tables_in (get_member vary_key members))) _ vs _ (λ tables a last. entries_named 1 [] tables vs last) is

-- ---- the file

module _ where
  abbrev globals_from : Result Fields KeyFault → List PlainSetting → List PlainSetting
  globals_from (Ok f) usual = f.globals
  globals_from (Err e) usual = usual

  abbrev vary_from : Result Fields KeyFault → List Vary → List Vary
  vary_from (Ok f) usual = f.vary
  vary_from (Err e) usual = usual

  apart : (names : Names) → Named [] names → AreApart names
  apart names named = (named.lower, named.distinct)

  fields_apart : (members : Members) (f : Fields) → fields_in members ≡ Ok f → AreApart (map (λ s. s.name) f.globals) × AreApart (map (λ v. v.name) f.vary)
  fields_apart members f is =
      from_bind (all_known [] (known_in members) members) _ f _ (λ known a one.
      from_bind (head_in members) _ f _ (λ head b two.
      from_bind (scripts_in members) _ f _ (λ scripts c three.
      from_bind (measures_in members) _ f _ (λ measures d four.
      from_bind (world_at members) _ f _ (λ world e five.
      from_bind (globals_at members) _ f _ (λ globals read six.
      from_bind (vary_at members) _ f _ (λ vary again last. (
        subst (λ ss. AreApart (map (λ s. s.name) ss)) (ap (λ (r : Result Fields KeyFault). globals_from r globals) last)
            (apart (map (λ s. s.name) globals) (globals_named members globals read)),
        subst (λ vs. AreApart (map (λ v. v.name) vs)) (ap (λ (r : Result Fields KeyFault). vary_from r vary) last)
            (apart (map (λ v. v.name) vary) (vary_named members vary again)),
      )) six) five) four) three) two) one) is

pub names_are_apart : NamesAreApart
names_are_apart file f is = from_bind (file_holds file) _ f _ (λ members a last. fields_apart members f last) is
