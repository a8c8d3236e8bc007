-- What the class of a word says of its row.
use Rattle.std.proofs.Common.{◌≡◌, ℕ, zero, suc, Bool, true, false, not, ◌||◌, ◌&&◌, List, [], ◌∷◌, ◌++◌, map, Option, Some, None, refl, sym, ap, subst, ◌∙◌, bytes_eq}
use Rattle.std.specs.Prelude.{if◌then◌else◌, ◌==◌, nat_le, ◌-◌, codes}
use Rattle.std.specs.List.{list_any}
use Rattle.std.specs.Cmp.{first_so, second_so}
use Rattle.nl_fixed.specs.Nouns.{Name}
use Rattle.nl_words.specs.Table.{has_turns, is_cases}
use Rattle.nl_words.specs.declared.entry.Role.{Role}
use Rattle.nl_words.specs.declared.entry.Role.TheVariants as role
use Rattle.nl_words.specs.declared.entry.Input.{Input}
use Rattle.nl_words.specs.declared.entry.Input.TheVariants as input
use Rattle.nl_words.specs.declared.entry.Turns.{Turns}
use Rattle.nl_words.specs.declared.entry.Turns.TheVariants as turns
use Rattle.nl_tree.specs.declared.needs.Need.{Need}
use Rattle.nl_tree.specs.declared.needs.Need.TheVariants.{Item, Within}
use Rattle.nl_tree.specs.Term.{Term}
use Rattle.nl_tree.specs.Context.{is_variable}
use Rattle.nl_tree.specs.Tokens.{Class, Unknown, Constant, Plain, Named, Prefix, Many, Closing, Command, Let, With, Near, Of, Binary, Arrow, Nowhere, is_new, names_of, need_of_command, need_of_reporter, repeated, inputs_of, before, last_need, reporter_of, one_more, many_class, command_class, near_class, reserved_class, class_by, class_of}
use Rattle.nl_exec_whole.specs.Parts.{is_reserved, takes_any}

-- ---- rows whose inputs are those of their role

abbrev is_empty : List Input → Bool
is_empty [] = true
is_empty is = false

abbrev are_two_values : List Input → Bool
are_two_values (input.Value ∷ input.Value ∷ []) = true
are_two_values is = false

abbrev are_block_and_value : List Input → Bool
are_block_and_value (input.Reporter ∷ input.Value ∷ []) = true
are_block_and_value is = false

abbrev operator_fits : Bool → Bool → List Input → Bool
operator_fits true two is = true
operator_fits false true is = are_block_and_value is
operator_fits false false is = are_two_values is

-- whether a row of this role, which takes any number of values or doesn't, has such inputs
abbrev pub role_fits : Role → Bool → List Input → Bool
role_fits role.Command any is = not any
role_fits role.Reporter any is = true
role_fits (role.Operator level) any is = not any && operator_fits (level == 1) (level == 2) is
role_fits role.Constant any is = not any && is_empty is
role_fits role.Variable any is = not any && is_empty is
role_fits role.Reserved any is = true

-- cases stand in no text yet
abbrev pub term_fits : Term → Bool
term_fits t = not (list_any is_cases (inputs_of t)) && role_fits t.role (takes_any t) (inputs_of t)

none_of : (is : List Input) → is_empty is ≡ true → is ≡ []
none_of [] h = refl
none_of (i ∷ is) h = cc

two_values : (is : List Input) → are_two_values is ≡ true → is ≡ input.Value ∷ input.Value ∷ []
two_values (input.Value ∷ input.Value ∷ []) h = refl
two_values is h = cc

block_and_value : (is : List Input) → are_block_and_value is ≡ true → is ≡ input.Reporter ∷ input.Value ∷ []
block_and_value (input.Reporter ∷ input.Value ∷ []) h = refl
block_and_value is h = cc

-- ---- what a class says, with so many names at most in heads

abbrev pub Says : ℕ → Class → Role → Bool → List Input → Type 0
Says n Unknown r any is = Unit {0}
Says n Constant r any is = (any ≡ false) × (is ≡ [])
Says n Plain r any is = (any ≡ false) × (is ≡ [])
Says n Named r any is = (any ≡ false) × (is ≡ []) × (is_variable r ≡ true)
Says n (Prefix ns) r any is = (any ≡ false) × (map (need_of_reporter n) is ≡ ns ++ Item ∷ []) × (list_any is_new is ≡ false)
Says n (Closing ns b) r any is = (any ≡ false) × (map (need_of_reporter n) is ≡ ns ++ Within b ∷ []) × (list_any is_new is ≡ false)
Says n (Many m) r any is = any ≡ true
Says n (Command ns) r any is = (any ≡ false) × (map (need_of_command n) is ≡ ns) × (list_any is_new is ≡ false)
Says n Let r any is = (any ≡ false) × (is ≡ input.Fresh ∷ input.Value ∷ [])
Says n With r any is = (any ≡ false) × (is ≡ input.Value ∷ input.Reporter ∷ [])
Says n (Near m) r any is = (any ≡ false) × (is ≡ input.Value ∷ repeated (suc m))
Says n Of r any is = (any ≡ false) × (is ≡ input.Reporter ∷ input.Value ∷ [])
Says n (Binary l m) r any is = (any ≡ false) × (is ≡ input.Value ∷ input.Value ∷ [])
Says n Arrow r any is = Unit {0}
Says n Nowhere r any is = Unit {0}

command_by : (n : ℕ) (is : List Input) (b : Bool) → list_any is_new is ≡ b → Says n (if b then Nowhere else Command (map (need_of_command n) is)) role.Command false is
command_by n is true h = tt
command_by n is false h = (refl, refl, h)

command_says : (n : ℕ) (is : List Input) → Says n (command_class n is) role.Command false is
command_says n (input.Fresh ∷ input.Value ∷ []) = (refl, refl)
command_says n is = command_by n is (list_any is_new is) refl

says_command : (n : ℕ) (any : Bool) (is : List Input) → not any ≡ true → Says n (command_class n is) role.Command any is
says_command n true is h = cc
says_command n false is h = command_says n is

says_before : (n : ℕ) (i : Input) (js : List Input) (c : Class) → list_any is_new (i ∷ js) ≡ false → Says n c role.Reporter false js
    → Says n (before (need_of_reporter n i) c) role.Reporter false (i ∷ js)
says_before n i js (Prefix ns) e h = (refl, ap (λ x. need_of_reporter n i ∷ x) h.1, e)
says_before n i js (Closing ns b) e h = (refl, ap (λ x. need_of_reporter n i ∷ x) h.1, e)
says_before n i js c e h = tt

second_new : (a b : Bool) → (a || b) ≡ false → b ≡ false
second_new true b h = cc
second_new false b h = h

reporter_says : (n : ℕ) (is : List Input) → list_any is_new is ≡ false → Says n (reporter_of n is) role.Reporter false is
reporter_says n [] e = (refl, refl)
reporter_says n (input.Value ∷ []) e = (refl, refl, e)
reporter_says n (input.Commands ∷ []) e = (refl, refl, e)
reporter_says n (input.Reporter ∷ []) e = (refl, refl, e)
reporter_says n (input.ArrowCommands ∷ []) e = (refl, refl, e)
reporter_says n (input.ArrowReporter ∷ []) e = (refl, refl, e)
reporter_says n (i ∷ []) e = tt
reporter_says n (i ∷ j ∷ is) e =
    says_before n i (j ∷ is) (reporter_of n (j ∷ is)) e (reporter_says n (j ∷ is) (second_new (is_new i) (list_any is_new (j ∷ is)) e))

reporter_by : (n : ℕ) (is : List Input) (b : Bool) → list_any is_new is ≡ b → Says n (if b then Nowhere else reporter_of n is) role.Reporter false is
reporter_by n is true h = tt
reporter_by n is false h = reporter_says n is h

says_more : (n : ℕ) (is : List Input) (c : Class) → Says n c role.Reporter true is → Says n (one_more c) role.Reporter true (input.Value ∷ is)
says_more n is (Many m) h = refl
says_more n is c h = tt

says_many : (n : ℕ) (is : List Input) → Says n (many_class is) role.Reporter true is
says_many n (input.Value ∷ []) = refl
says_many n (input.Value ∷ j ∷ is) = says_more n (j ∷ is) (many_class (j ∷ is)) (says_many n (j ∷ is))
says_many n is = tt

-- a word that may be given more, and has an arrow block or doesn't
says_reporter : (name : Name) (many : Bool) (u : Turns) (is : List Input) → Says (names_of u) (class_by name role.Reporter many (names_of u) is) role.Reporter (many && not (has_turns u)) is
says_reporter name false u is = reporter_by (names_of u) is (list_any is_new is) refl
says_reporter name true turns.NoTurn is = says_many 0 is
says_reporter name true turns.OneValue is = reporter_by 1 is (list_any is_new is) refl
says_reporter name true turns.TwoValues is = reporter_by 2 is (list_any is_new is) refl
says_reporter name true turns.ValueOfEachList is = reporter_by 1 is (list_any is_new is) refl

says_near : (n l : ℕ) (is : List Input) → Says n (near_class is) (role.Operator l) false is
says_near n l (input.Value ∷ input.Reporter ∷ []) = (refl, refl)
says_near n l (input.Value ∷ input.Value ∷ []) = (refl, refl)
says_near n l (input.Value ∷ input.Value ∷ input.Value ∷ []) = (refl, refl)
says_near n l is = tt

operator_says : (n l : ℕ) (m : Bool) (is : List Input) (one two within : Bool) → operator_fits one two is ≡ true
    → Says n (if one then near_class is else (if two then Of else (if within then Binary (l - 4) m else Nowhere))) (role.Operator l) false is
operator_says n l m is true two within h = says_near n l is
operator_says n l m is false true within h = (refl, block_and_value is h)
operator_says n l m is false false true h = (refl, two_values is h)
operator_says n l m is false false false h = tt

says_operator : (n l : ℕ) (m any : Bool) (is : List Input) (one two within : Bool) → (not any && operator_fits one two is) ≡ true
    → Says n (if one then near_class is else (if two then Of else (if within then Binary (l - 4) m else Nowhere))) (role.Operator l) any is
says_operator n l m true is one two within h = cc
says_operator n l m false is one two within h = operator_says n l m is one two within h

says_constant : (n : ℕ) (any : Bool) (is : List Input) → (not any && is_empty is) ≡ true → Says n Constant role.Constant any is
says_constant n true is h = cc
says_constant n false is h = (refl, none_of is h)

says_variable : (n : ℕ) (any : Bool) (is : List Input) → (not any && is_empty is) ≡ true → Says n Named role.Variable any is
says_variable n true is h = cc
says_variable n false is h = (refl, none_of is h, refl)

says_reserved : (n : ℕ) (any : Bool) (is : List Input) (b : Bool) → Says n (reserved_class b) role.Reserved any is
says_reserved n any is true = tt
says_reserved n any is false = tt

says : (name : Name) (r : Role) (many : Bool) (u : Turns) (is : List Input) → role_fits r (many && not (has_turns u)) is ≡ true
    → Says (names_of u) (class_by name r many (names_of u) is) r (many && not (has_turns u)) is
says name role.Command many u is h = says_command (names_of u) (many && not (has_turns u)) is h
says name role.Reporter many u is h = says_reporter name many u is
says name (role.Operator level) many u is h =
    says_operator (names_of u) level (bytes_eq name (codes "-")) (many && not (has_turns u)) is (level == 1) (level == 2) (nat_le 4 level && nat_le level 9) h
says name role.Constant many u is h = says_constant (names_of u) (many && not (has_turns u)) is h
says name role.Variable many u is h = says_variable (names_of u) (many && not (has_turns u)) is h
says name role.Reserved many u is h = says_reserved (names_of u) (many && not (has_turns u)) is (bytes_eq name (codes "->"))

-- ---- only a word without a row is unknown

abbrev pub is_unknown : Class → Bool
is_unknown Unknown = true
is_unknown c = false

known_before : (i : Need) (c : Class) → is_unknown (before i c) ≡ false
known_before i (Prefix ns) = refl
known_before i (Closing ns b) = refl
known_before i c = refl

known_last : (i : Need) → is_unknown (last_need i) ≡ false
known_last Item = refl
known_last (Within b) = refl
known_last i = refl

known_reporter : (n : ℕ) (is : List Input) → is_unknown (reporter_of n is) ≡ false
known_reporter n [] = refl
known_reporter n (i ∷ []) = known_last (need_of_reporter n i)
known_reporter n (i ∷ j ∷ is) = known_before (need_of_reporter n i) (reporter_of n (j ∷ is))

known_more : (c : Class) → is_unknown (one_more c) ≡ false
known_more (Many n) = refl
known_more c = refl

known_many : (is : List Input) → is_unknown (many_class is) ≡ false
known_many (input.Value ∷ []) = refl
known_many (input.Value ∷ j ∷ is) = known_more (many_class (j ∷ is))
known_many is = refl

known_if : (b : Bool) (c : Class) → is_unknown c ≡ false → is_unknown (if b then Nowhere else c) ≡ false
known_if true c h = refl
known_if false c h = h

known_command : (n : ℕ) (is : List Input) → is_unknown (command_class n is) ≡ false
known_command n (input.Fresh ∷ input.Value ∷ []) = refl
known_command n is = known_if (list_any is_new is) (Command (map (need_of_command n) is)) refl

known_near : (is : List Input) → is_unknown (near_class is) ≡ false
known_near (input.Value ∷ input.Reporter ∷ []) = refl
known_near (input.Value ∷ input.Value ∷ []) = refl
known_near (input.Value ∷ input.Value ∷ input.Value ∷ []) = refl
known_near is = refl

known_operator : (l : ℕ) (m : Bool) (is : List Input) (one two within : Bool)
    → is_unknown (if one then near_class is else (if two then Of else (if within then Binary (l - 4) m else Nowhere))) ≡ false
known_operator l m is true two within = known_near is
known_operator l m is false true within = refl
known_operator l m is false false true = refl
known_operator l m is false false false = refl

known_reserved : (b : Bool) → is_unknown (reserved_class b) ≡ false
known_reserved true = refl
known_reserved false = refl

known_class : (name : Name) (r : Role) (many : Bool) (n : ℕ) (is : List Input) → is_unknown (class_by name r many n is) ≡ false
known_class name role.Command many n is = known_command n is
known_class name role.Reporter true zero is = known_many is
known_class name role.Reporter true (suc n) is = known_if (list_any is_new is) (reporter_of (suc n) is) (known_reporter (suc n) is)
known_class name role.Reporter false n is = known_if (list_any is_new is) (reporter_of n is) (known_reporter n is)
known_class name (role.Operator level) many n is = known_operator level (bytes_eq name (codes "-")) is (level == 1) (level == 2) (nat_le 4 level && nat_le level 9)
known_class name role.Constant many n is = refl
known_class name role.Variable many n is = refl
known_class name role.Reserved many n is = known_reserved (bytes_eq name (codes "->"))

pub no_row : (o : Option Term) → Unknown ≡ class_of o → o ≡ None
no_row None same = refl
no_row (Some t) same =
    let bad : true ≡ false = ap is_unknown same ∙ known_class t.name t.role t.many (names_of t.turns) (inputs_of t) in cc

-- ---- words that name nodes

-- neither the arrow nor a word of declarations
abbrev pub names_none : Class → Bool
names_none Nowhere = true
names_none Arrow = true
names_none c = false

reserved_names_none : (b : Bool) → names_none (reserved_class b) ≡ true
reserved_names_none true = refl
reserved_names_none false = refl

names_node : (name : Name) (r : Role) (many : Bool) (n : ℕ) (is : List Input) → names_none (class_by name r many n is) ≡ false → is_reserved r ≡ false
names_node name role.Reserved many n is h = sym (reserved_names_none (bytes_eq name (codes "->"))) ∙ h
names_node name r many n is h = refl

not_true : (b : Bool) → not b ≡ true → b ≡ false
not_true true h = cc
not_true false h = refl

-- the row behind a class that isn't that of a word without one
pub row_says : (o : Option Term) (c : Class) → ((t : Term) → o ≡ Some t → term_fits t ≡ true) → c ≡ class_of o → is_unknown c ≡ false → names_none c ≡ false
    → (t : Term) × ((o ≡ Some t) × (is_reserved t.role ≡ false) × (list_any is_cases (inputs_of t) ≡ false) × Says (names_of t.turns) c t.role (takes_any t) (inputs_of t))
row_says None c fit same known named = let bad : true ≡ false = sym (ap is_unknown same) ∙ known in cc
row_says (Some t) c fit same known named =
    let no_cases = not (list_any is_cases (inputs_of t)) in
    let fits = role_fits t.role (takes_any t) (inputs_of t) in
    let here : is_reserved t.role ≡ false = names_node t.name t.role t.many (names_of t.turns) (inputs_of t) (sym (ap names_none same) ∙ named) in
    let cases = not_true (list_any is_cases (inputs_of t)) (first_so no_cases fits (fit t refl)) in
    let said = says t.name t.role t.many t.turns (inputs_of t) (second_so no_cases fits (fit t refl)) in
    (t, (refl, here, cases, subst (λ k. Says (names_of t.turns) k t.role (takes_any t) (inputs_of t)) (sym same) said))
