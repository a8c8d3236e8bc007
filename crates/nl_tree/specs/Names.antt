-- Which declarations are accepted. That a name is declared once is the rule of the NetLogo Programming Guide; what counts as the same name,
-- the three exceptions and the limits on numbers are this project's own choice.
use Rattle.std.specs.Prelude.{◌+◌, ◌^◌, ◌<◌, Bool, true, ◌&&◌, ◌||◌, not, if◌then◌else◌, IsTrue, List, [], ◌∷◌, ◌++◌, map, length}
use Rattle.std.specs.List.{list_all}
use Rattle.std.specs.List.Sorted.{IsPermutation}
use Rattle.nl_fixed.specs.Nouns.{Names}
use Rattle.nl_words.specs.Rows.{rows}
use Rattle.nl_words.specs.Table.{is_name}
use Rattle.nl_tree.specs.declared.declared.Breed.{Breed}
use Rattle.nl_tree.specs.declared.declared.Procedure.{Procedure}
use Rattle.nl_tree.specs.declared.declared.Declared.{Declared}
use Rattle.nl_tree.specs.Term.{Term}
use Rattle.nl_tree.specs.Vocabulary.{among, own_terms, terms}

-- no name stands in the list twice
abbrev pub are_distinct : Names → Bool
are_distinct [] = true
are_distinct (n ∷ ns) = not (among n ns) && are_distinct ns

-- no name stands in both
abbrev pub are_apart : Names → Names → Bool
are_apart xs ys = list_all (λ x. not (among x ys)) xs

-- Each variable is declared once for each of its owners: those of all turtles by no turtle breed again, those of all links by no link
-- breed, those of patches by nobody else. Several turtle breeds, several link breeds, and both sides at once may own one name.
abbrev pub own_once : Declared → Breed → Bool
own_once d b = are_distinct b.own && are_apart b.own (if b.link then d.links_own else d.turtles_own) && are_apart b.own d.patches_own

abbrev pub owners_fit : Declared → Bool
owners_fit d =
    are_distinct d.turtles_own && are_distinct d.patches_own && are_distinct d.links_own
    && are_apart d.patches_own d.turtles_own && are_apart d.patches_own d.links_own
    && list_all (own_once d) d.breeds

-- a procedure's inputs differ from each other and from all words of the model
abbrev pub inputs_fit : List Term → Names → Bool
inputs_fit table names = are_distinct names && are_apart names (map (λ t. t.name) table)

-- no name is declared twice. A widget's name may stand in `globals` as well.
abbrev pub has_no_duplicate : Declared → Bool
has_no_duplicate d =
    are_distinct (map (λ t. t.name) (terms d))
    && are_distinct d.globals
    && owners_fit d
    && list_all (λ p. inputs_fit (terms d) p.inputs) d.procedures

-- all names, in lower case and with a name's form
abbrev pub breeds_names : List Breed → Names
breeds_names [] = []
breeds_names (b ∷ bs) = b.plural ∷ b.singular ∷ (b.own ++ breeds_names bs)

abbrev pub procedures_names : List Procedure → Names
procedures_names [] = []
procedures_names (p ∷ ps) = p.name ∷ (p.inputs ++ procedures_names ps)

abbrev pub all_names : Declared → Names
all_names d = d.widgets ++ d.globals ++ d.turtles_own ++ d.patches_own ++ d.links_own ++ breeds_names d.breeds ++ procedures_names d.procedures

-- only a breed of links has a direction
abbrev pub directions_fit : Declared → Bool
directions_fit d = list_all (λ b. b.link || not b.directed) d.breeds

-- the widgets of a model: they differ, no built-in word is among them, each has a name's form, and they are fewer than 2^24
abbrev pub AreWidgets : Names → Type 0
AreWidgets names = IsTrue (are_distinct names && are_apart names (map (λ r. r.name) rows) && list_all is_name names) × (length names < 2 ^ 24)

-- The declarations of a model. The index that comes with them has the row of each word that they make, once.
abbrev pub IsDeclared : Declared → Type 0
IsDeclared d =
    IsTrue (has_no_duplicate d && list_all is_name (all_names d) && directions_fit d)
    × (length (all_names d) + length d.breeds + length d.procedures < 2 ^ 31)
    × IsPermutation (own_terms d) d.index
