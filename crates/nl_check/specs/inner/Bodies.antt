-- The pieces of a node, its parts and its word, as the code comes to them.
use Rattle.std.specs.Prelude.{◌≡◌, ℕ, List, [], ◌∷◌, ◌++◌, Option, Some, None, drop, slice_get}
use Rattle.nl_words.specs.declared.entry.Kinds.{Kinds}
use Rattle.nl_words.specs.declared.entry.Input.{Input}
use Rattle.nl_words.specs.declared.entry.Input.TheVariants as input
use Rattle.nl_words.specs.declared.entry.Manner.TheVariants.{Run}
use Rattle.nl_tree.specs.declared.tree.Tree.{Tree}
use Rattle.nl_tree.specs.Tree.{Node, nodes, parts, span}
use Rattle.nl_tree.specs.Views.{plain}
use Rattle.nl_tree.specs.Term.{Term}
use Rattle.nl_tree.specs.Index.{named}
use Rattle.nl_tree.specs.Vocabulary.{terms, term_named}
use Rattle.nl_tree.specs.Tokens.{inputs_of}
use Rattle.nl_tree.specs.Context.{use_of, text_of, Piece, Sub, label_at, span_at, pieces, given, subs, givens, row_of_what, manner_by, block_kinds, word_pieces, part_pieces, inner_pieces, parts_pieces, all_pieces, flat}
use Rattle.nl_check.specs.declared.body.Site.{Site}
use Rattle.nl_check.specs.declared.body.WordNode.{WordNode}
use Rattle.nl_check.specs.declared.step.Use.{Use}
use Rattle.nl_check.specs.declared.step.Step.{Step}
use Rattle.nl_check.specs.declared.step.Step.TheVariants as step
use Rattle.nl_check.specs.inner.Steps.{steps_of, used_as}

-- what is read at a place: past the inputs a value
abbrev pub or_value : Option Input → Input
or_value None = input.Value
or_value (Some i) = i

abbrev pub sub_of : List Term → Node → Sub
sub_of table t = record { top = label_at t; place = span_at t; pieces = pieces table t; gives = given table t }

-- the first kinds of a word's blocks, by the parts of its node
abbrev pub first_of : List Term → Term → List Node → Kinds
first_of table t parts = block_kinds t (givens table (nodes parts))

-- the pieces of the parts from a place on
abbrev pub pieces_from : List Term → Term → Kinds → ℕ → List Node → List Piece
pieces_from table t first at parts = all_pieces (parts_pieces t first (drop at (inputs_of t)) (subs table (nodes (drop at parts))))

abbrev pub flat_from : List Term → ℕ → List Node → List Piece
flat_from table at parts = flat (subs table (nodes (drop at parts)))

-- the use of the variable that a word names
abbrev pub variable_pieces : Term → Sub → List Piece
variable_pieces t p = use_of (text_of p.top) p.place (manner_by (row_of_what t.what)) ∷ []

abbrev pub word_step : Use → Step
word_step u = step.Word u

-- The same of a site and a word's node there.

abbrev pub table_of : Site → List Term
table_of site = terms site.declared.now

-- the pieces were appended as steps of the site
abbrev pub PutsSteps : Site → List Step → List Step → List Piece → Type 0
PutsSteps site old new ps = new ≡ old ++ steps_of (table_of site) site.inner ps

-- the row of the node's word, with its name
abbrev pub term_at : WordNode → Term
term_at n = named n.name.now n.word

abbrev pub HasRow : Site → WordNode → Type 0
HasRow site n = Some (term_at n) ≡ term_named (table_of site) n.name.now

abbrev pub parts_of : WordNode → List Node
parts_of n = parts (plain n.tree.now)

abbrev pub first_at : Site → WordNode → Kinds
first_at site n = first_of (table_of site) (term_at n) (parts_of n)

-- the pieces of a node, of its parts, of a word's node, of a word's parts from a place on, of one of them, and of one that is no name

abbrev pub node_at : Site → Tree → List Piece
node_at site tree = pieces (table_of site) (plain tree)

abbrev pub flat_at : Site → Tree → List Piece
flat_at site tree = flat_from (table_of site) 0 (parts (plain tree))

abbrev pub word_at : Site → WordNode → List Piece
word_at site n = word_pieces (Some (term_at n)) (use_of n.name.now (span (plain n.tree.now)) Run) (subs (table_of site) (nodes (parts_of n)))

abbrev pub parts_at : Site → WordNode → ℕ → List Piece
parts_at site n from = pieces_from (table_of site) (term_at n) (first_at site n) from (parts_of n)

abbrev pub part_at : Site → WordNode → ℕ → Tree → List Piece
part_at site n at part = part_pieces (term_at n) (first_at site n) (or_value (slice_get (inputs_of (term_at n)) at)) (sub_of (table_of site) (plain part))

abbrev pub inner_at : Site → WordNode → Tree → List Piece
inner_at site n part = inner_pieces (term_at n) (first_at site n) (sub_of (table_of site) (plain part))

abbrev pub variable_at : Site → WordNode → Tree → List Piece
variable_at site n part = variable_pieces (term_at n) (sub_of (table_of site) (plain part))

-- the step of the node's word itself
abbrev pub own_step : Site → WordNode → Step
own_step site n = word_step (used_as (Some (term_at n)) site.inner (span (plain n.tree.now)) Run)
