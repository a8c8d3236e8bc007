-- The whole word table of a model: the built-in words and all words that its declarations make.
-- What declarations make words of, and which, is that of the NetLogo Programming Guide ("Variables", "Breeds", "Procedures") and of the
-- Dictionary. The numbers of variables, and that a variable has one row however many breeds own it, are this project's own choice.
use Rattle.std.specs.Prelude.{ℕ, ◌+◌, Bool, true, false, ◌||◌, not, if◌then◌else◌, List, [], ◌∷◌, ◌++◌, Option, Some, None, map, find, length, filter, bytes_eq, codes}
use Rattle.std.specs.List.{list_any}
use Prim.Native.String.{String}
use Rattle.nl_fixed.specs.Nouns.{Bytes, Name, Names}
use Rattle.nl_words.specs.Kinds.{kinds, none, everyone}
use Rattle.nl_words.specs.Row.{Row, row_named}
use Rattle.nl_words.specs.Rows.{rows}
use Rattle.nl_words.specs.declared.entry.Role.TheVariants as role
use Rattle.nl_words.specs.declared.entry.Kinds.{Kinds}
use Rattle.nl_words.specs.declared.entry.Turns.TheVariants as turns
use Rattle.nl_tree.specs.declared.declared.Breed.{Breed}
use Rattle.nl_tree.specs.declared.declared.Procedure.{Procedure}
use Rattle.nl_tree.specs.declared.declared.Declared.{Declared}
use Rattle.nl_tree.specs.declared.declared.What.{What}
use Rattle.nl_tree.specs.declared.declared.What.TheVariants as what
use Rattle.nl_tree.specs.declared.declared.NamedWhat.{NamedWhat}
use Rattle.nl_tree.specs.Term.{Term}

-- the name stands in the list
abbrev pub among : Name → Names → Bool
among name names = list_any (λ n. bytes_eq n name) names

-- the names of the first list, and then those of the second that aren't in the first
abbrev pub joined : Names → Names → Names
joined xs ys = xs ++ filter (λ y. not (among y xs)) ys

-- a row for each name, counted from the first number
abbrev pub counted : {A : Type 0} → (ℕ → A → Term) → ℕ → List A → List Term
counted row n [] = []
counted row n (x ∷ xs) = row n x ∷ counted row (n + 1) xs

-- Built-in words.

abbrev pub base_term : Row → Term
base_term r = record { name = r.name; role = r.role; inputs = r.inputs; values = 0; many = r.many; turns = r.turns; runs = r.runs; gives = r.gives; what = what.Base r.code }

-- Global variables: the widgets' and those of `globals`. A widget's name that stands in `globals` too is one variable.

abbrev pub global_names : Declared → Names
global_names d = joined d.widgets d.globals

-- a variable is used by the kinds of agents that may run it; its value may hold anything
abbrev pub variable_term : Name → Kinds → What → Term
variable_term name runs it = record { name = name; role = role.Variable; inputs = []; values = 0; many = false; turns = turns.NoTurn; runs = runs; gives = none; what = it }

abbrev pub global_term : ℕ → Name → Term
global_term n name = variable_term name everyone (what.Global n)

-- Variables that agents own. A turtle may use the variables of its patch too.

abbrev pub owned_by : Bool → List Breed → Names
owned_by link [] = []
owned_by link (b ∷ bs) = if (if b.link then link else not link) then joined b.own (owned_by link bs) else owned_by link bs

-- the variables of turtles, of all breeds or some; and of links
abbrev pub turtle_names : Declared → Names
turtle_names d = joined d.turtles_own (owned_by false d.breeds)

abbrev pub link_names : Declared → Names
link_names d = joined d.links_own (owned_by true d.breeds)

abbrev pub breed_names : List Breed → Names
breed_names [] = []
breed_names (b ∷ bs) = joined b.own (breed_names bs)

-- each name once: turtles', patches', links', and those of the breeds
abbrev pub owned_names : Declared → Names
owned_names d = joined d.turtles_own (joined d.patches_own (joined d.links_own (breed_names d.breeds)))

abbrev pub owned_term : Declared → ℕ → Name → Term
owned_term d n name =
    let on_patch = among name d.patches_own in
    variable_term name (kinds false (on_patch || among name (turtle_names d)) on_patch (among name (link_names d))) (what.Own n)

-- The words that a breed makes. Each has the rule of a built-in word, over that breed alone.

-- a word made of a breed's plural or singular: what stands before and after it, and the built-in word
pub record Pattern : Type 0 where
  pub before : Bytes
  pub plural : Bool
  pub after : Bytes
  pub base : Name

abbrev of_plural : String → String → String → Pattern
of_plural before after base = record { before = codes before; plural = true; after = codes after; base = codes base }

abbrev of_singular : String → String → String → Pattern
of_singular before after base = record { before = codes before; plural = false; after = codes after; base = codes base }

abbrev pub turtle_patterns : List Pattern
turtle_patterns =
    of_plural "" "" "turtles"
    ∷ of_plural "" "-own" "turtles-own"
    ∷ of_plural "create-" "" "create-turtles"
    ∷ of_plural "create-ordered-" "" "create-ordered-turtles"
    ∷ of_plural "hatch-" "" "hatch"
    ∷ of_plural "sprout-" "" "sprout"
    ∷ of_plural "" "-here" "turtles-here"
    ∷ of_plural "" "-at" "turtles-at"
    ∷ of_plural "" "-on" "turtles-on"
    ∷ of_singular "" "" "turtle"
    ∷ of_singular "is-" "?" "is-turtle?"
    ∷ []

-- of both kinds of link breeds
abbrev pub link_plurals : List Pattern
link_plurals =
    of_plural "" "" "links"
    ∷ of_plural "" "-own" "links-own"
    ∷ of_plural "my-" "" "my-links"
    ∷ []

abbrev pub link_singulars : List Pattern
link_singulars =
    of_singular "" "" "link"
    ∷ of_singular "is-" "?" "is-link?"
    ∷ of_singular "" "-neighbors" "link-neighbors"
    ∷ of_singular "" "-neighbor?" "link-neighbor?"
    ∷ of_singular "" "-with" "link-with"
    ∷ []

abbrev pub undirected_patterns : List Pattern
undirected_patterns =
    link_plurals
    ++ (of_plural "create-" "-with" "create-links-with" ∷ [])
    ++ link_singulars
    ++ (of_singular "create-" "-with" "create-link-with" ∷ [])

abbrev pub directed_patterns : List Pattern
directed_patterns =
    link_plurals
    ++ (of_plural "create-" "-to" "create-links-to"
    ∷ of_plural "create-" "-from" "create-links-from"
    ∷ of_plural "my-in-" "" "my-in-links"
    ∷ of_plural "my-out-" "" "my-out-links"
    ∷ [])
    ++ link_singulars
    ++ (of_singular "create-" "-to" "create-link-to"
    ∷ of_singular "create-" "-from" "create-link-from"
    ∷ of_singular "in-" "-neighbors" "in-link-neighbors"
    ∷ of_singular "out-" "-neighbors" "out-link-neighbors"
    ∷ of_singular "in-" "-neighbor?" "in-link-neighbor?"
    ∷ of_singular "out-" "-neighbor?" "out-link-neighbor?"
    ∷ of_singular "in-" "-from" "in-link-from"
    ∷ of_singular "out-" "-to" "out-link-to"
    ∷ [])

abbrev pub patterns : Breed → List Pattern
patterns b = if b.link then (if b.directed then directed_patterns else undirected_patterns) else turtle_patterns

abbrev pub made_name : Breed → Pattern → Name
made_name b p = p.before ++ (if p.plural then b.plural else b.singular) ++ p.after

-- the row of the built-in word under another name
abbrev pub made_as : ℕ → Name → Option Row → List Term
made_as n name None = []
made_as n name (Some r) = record { name = name; role = r.role; inputs = r.inputs; values = 0; many = r.many; turns = r.turns; runs = r.runs; gives = r.gives; what = what.Made n r.code } ∷ []

abbrev pub made_terms : ℕ → Breed → List Pattern → List Term
made_terms n b [] = []
made_terms n b (p ∷ ps) = made_as n (made_name b p) (row_named rows p.base) ++ made_terms n b ps

-- The first breed has the number 1: 0 stands for turtles, or links, of no breed.
abbrev pub breed_terms : ℕ → List Breed → List Term
breed_terms n [] = []
breed_terms n (b ∷ bs) = made_terms n b (patterns b) ++ breed_terms (n + 1) bs

-- Procedures. Any agent may call one; what it gives isn't told.

abbrev pub procedure_term : ℕ → Procedure → Term
procedure_term n p = record { name = p.name; role = if p.reporter then role.Reporter else role.Command; inputs = []; values = length p.inputs; many = false; turns = turns.NoTurn; runs = everyone; gives = none; what = what.Procedure n }

-- The table.

-- the rows that a model's widgets and declarations make
abbrev pub own_terms : Declared → List Term
own_terms d =
    counted global_term 0 (global_names d)
    ++ counted (owned_term d) 0 (owned_names d)
    ++ breed_terms 1 d.breeds
    ++ counted procedure_term 0 d.procedures

abbrev pub terms : Declared → List Term
terms d = map base_term rows ++ own_terms d

abbrev pub term_named : List Term → Name → Option Term
term_named ts name = find (λ t. bytes_eq t.name name) ts

-- each row's name and what it is
abbrev pub named_what : Term → NamedWhat
named_what t = record { name = t.name; what = t.what }

abbrev pub whats : Declared → List NamedWhat
whats d = map named_what (terms d)

abbrev pub what_of : Option NamedWhat → Option What
what_of None = None
what_of (Some r) = Some r.what

-- what the word of this name is, where the table has one
abbrev pub what_named : Declared → Name → Option What
what_named d name = what_of (find (λ r. bytes_eq r.name name) (whats d))
