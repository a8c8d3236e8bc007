-- The word table at examples, and that no row is lost on the way to the grammar.
use Rattle.std.proofs.Common.{◌≡◌, ℕ, Bool, true, false, not, ◌||◌, ◌&&◌, List, [], ◌∷◌, ◌++◌, map, Option, Some, None, refl, codes, bytes_eq, is_some}
use Rattle.std.specs.List.{list_all}
use Rattle.nl_words.specs.Row.{Row, row_named}
use Rattle.nl_words.specs.Rows.{rows}
use Rattle.nl_words.specs.declared.entry.Role.{Role}
use Rattle.nl_words.specs.declared.entry.Role.TheVariants as role
use Rattle.nl_words.specs.Kinds.{kinds}
use Rattle.nl_words.specs.declared.entry.Kinds.{Kinds}
use Rattle.nl_tree.specs.declared.declared.Declared.{Declared}
use Rattle.nl_tree.specs.declared.declared.Breed.{Breed}
use Rattle.nl_tree.specs.declared.declared.What.{What}
use Rattle.nl_tree.specs.declared.declared.What.TheVariants as what
use Rattle.nl_tree.specs.Term.{Term}
use Rattle.nl_tree.specs.Vocabulary.{Pattern, base_term, terms, term_named, what_named, made_terms, turtle_patterns, undirected_patterns, directed_patterns, patterns}
use Rattle.nl_tree.specs.Tokens.{Class, Unknown, Constant, Plain, Named, Prefix, Many, Closing, Command, Let, With, Near, Of, Binary, Arrow, Nowhere, class_of_term}
use Rattle.nl_tree.specs.Names.{has_no_duplicate}

-- only reserved words have no place in a body, and of these the arrow has one
abbrev has_a_place : Class → Bool
has_a_place Nowhere = false
has_a_place Unknown = false
has_a_place Constant = true
has_a_place Plain = true
has_a_place Named = true
has_a_place (Prefix is) = true
has_a_place (Many n) = true
has_a_place (Closing is b) = true
has_a_place (Command is) = true
has_a_place Let = true
has_a_place With = true
has_a_place (Near n) = true
has_a_place Of = true
has_a_place (Binary l m) = true
has_a_place Arrow = true

abbrev is_reserved : Role → Bool
is_reserved role.Reserved = true
is_reserved role.Command = false
is_reserved role.Reporter = false
is_reserved (role.Operator l) = false
is_reserved role.Constant = false
is_reserved role.Variable = false

abbrev agree : Bool → Bool → Bool
agree true b = b
agree false true = false
agree false false = true

no_row_is_lost : list_all (λ (r : Row). agree (has_a_place (class_of_term (base_term r))) (agree false (is_reserved r.role && not (bytes_eq r.name (codes "->"))))) rows ≡ true
unfolding rows
no_row_is_lost = refl

-- each word of a breed has a built-in word whose rule it has
all_patterns_have_rows : list_all (λ (p : Pattern). is_some (row_named rows p.base)) (turtle_patterns ++ undirected_patterns ++ directed_patterns) ≡ true
unfolding rows
all_patterns_have_rows = refl

abbrev foxes : Breed
foxes = record { plural = codes "foxes"; singular = codes "fox"; link = false; directed = false; own = codes "age" ∷ [] }

abbrev ties : Breed
ties = record { plural = codes "ties"; singular = codes "tie"; link = true; directed = false; own = codes "age" ∷ [] }

abbrev roads : Breed
roads = record { plural = codes "roads"; singular = codes "road"; link = true; directed = true; own = [] }

abbrev names_of : Breed → List (List ℕ)
names_of b = map (λ (t : Term). t.name) (made_terms 0 b (patterns b))

words_of_turtles : names_of foxes ≡
    codes "foxes" ∷ codes "foxes-own" ∷ codes "create-foxes" ∷ codes "create-ordered-foxes" ∷ codes "hatch-foxes" ∷ codes "sprout-foxes"
    ∷ codes "foxes-here" ∷ codes "foxes-at" ∷ codes "foxes-on" ∷ codes "fox" ∷ codes "is-fox?" ∷ []
unfolding rows
words_of_turtles = refl

words_of_undirected_links : names_of ties ≡
    codes "ties" ∷ codes "ties-own" ∷ codes "my-ties" ∷ codes "create-ties-with" ∷ codes "tie" ∷ codes "is-tie?" ∷ codes "tie-neighbors"
    ∷ codes "tie-neighbor?" ∷ codes "tie-with" ∷ codes "create-tie-with" ∷ []
unfolding rows
words_of_undirected_links = refl

words_of_directed_links : names_of roads ≡
    codes "roads" ∷ codes "roads-own" ∷ codes "my-roads" ∷ codes "create-roads-to" ∷ codes "create-roads-from" ∷ codes "my-in-roads"
    ∷ codes "my-out-roads" ∷ codes "road" ∷ codes "is-road?" ∷ codes "road-neighbors" ∷ codes "road-neighbor?" ∷ codes "road-with"
    ∷ codes "create-road-to" ∷ codes "create-road-from" ∷ codes "in-road-neighbors" ∷ codes "out-road-neighbors" ∷ codes "in-road-neighbor?"
    ∷ codes "out-road-neighbor?" ∷ codes "in-road-from" ∷ codes "out-road-to" ∷ []
unfolding rows
words_of_directed_links = refl

-- a widget that is declared as a global too, a variable of a turtle breed and of a link breed, and one of patches
abbrev shared : Declared
shared = record {
  widgets = codes "speed" ∷ [];
  globals = codes "total" ∷ codes "speed" ∷ [];
  turtles_own = codes "energy" ∷ [];
  patches_own = codes "grass" ∷ [];
  links_own = [];
  breeds = foxes ∷ ties ∷ [];
  procedures = record { name = codes "go"; reporter = false; inputs = codes "x" ∷ []; first = 0; after = 0 } ∷ [];
  index = [];
}

sharing_is_no_duplicate : has_no_duplicate shared ≡ true
unfolding rows
sharing_is_no_duplicate = refl

widget_is_the_first_global : what_named shared (codes "speed") ≡ Some (what.Global 0)
unfolding rows
widget_is_the_first_global = refl

global_comes_after_widgets : what_named shared (codes "total") ≡ Some (what.Global 1)
unfolding rows
global_comes_after_widgets = refl

shared_variable_has_one_row : what_named shared (codes "age") ≡ Some (what.Own 2)
unfolding rows
shared_variable_has_one_row = refl

procedure_has_its_place : what_named shared (codes "go") ≡ Some (what.Procedure 0)
unfolding rows
procedure_has_its_place = refl

-- breeds are numbered from 1
abbrev breed_of : Option What → ℕ
breed_of (Some (what.Made number code)) = number
breed_of found = 0

first_breed_has_number_one : breed_of (what_named shared foxes.plural) ≡ 1
unfolding rows
first_breed_has_number_one = refl

second_breed_has_number_two : breed_of (what_named shared ties.singular) ≡ 2
unfolding rows
second_breed_has_number_two = refl

input_is_no_word : what_named shared (codes "x") ≡ None
unfolding rows
input_is_no_word = refl

abbrev runs_of : Option Term → Option Kinds
runs_of None = None
runs_of (Some t) = Some t.runs

both_sides_run_it : runs_of (term_named (terms shared) (codes "age")) ≡ Some (kinds false true false true)
unfolding rows
both_sides_run_it = refl

turtles_use_the_patch : runs_of (term_named (terms shared) (codes "grass")) ≡ Some (kinds false true true false)
unfolding rows
turtles_use_the_patch = refl

-- Duplicates: a variable of all turtles and of a turtle breed; a global twice; a breed's word and a procedure; a breed with one name
abbrev with_own : List (List ℕ) → Declared
with_own names = record shared { turtles_own = names }

owned_twice : has_no_duplicate (with_own (codes "age" ∷ [])) ≡ false
unfolding rows
owned_twice = refl

abbrev with_globals : List (List ℕ) → Declared
with_globals names = record shared { globals = names }

global_twice : has_no_duplicate (with_globals (codes "a" ∷ codes "a" ∷ [])) ≡ false
unfolding rows
global_twice = refl

word_of_a_breed : has_no_duplicate (with_globals (codes "is-fox?" ∷ [])) ≡ false
unfolding rows
word_of_a_breed = refl

built_in_word : has_no_duplicate (with_globals (codes "count" ∷ [])) ≡ false
unfolding rows
built_in_word = refl

abbrev one_name : Declared
one_name = record shared { breeds = record foxes { singular = codes "foxes" } ∷ [] }

singular_is_the_plural : has_no_duplicate one_name ≡ false
unfolding rows
singular_is_the_plural = refl

abbrev with_input : List (List ℕ) → Declared
with_input names = record shared { procedures = record { name = codes "go"; reporter = false; inputs = names; first = 0; after = 0 } ∷ [] }

input_is_a_word : has_no_duplicate (with_input (codes "total" ∷ [])) ≡ false
unfolding rows
input_is_a_word = refl

input_twice : has_no_duplicate (with_input (codes "x" ∷ codes "x" ∷ [])) ≡ false
unfolding rows
input_twice = refl
