-- Who may run a text.
-- That a word belongs to kinds of agents, and a block of `ask` and its kin to the agents that run it, is that of the NetLogo Programming Guide
-- ("Agents", "Ask") and Dictionary; how far kinds are followed through calls, and what is refused, is this project's own choice.
use Rattle.std.specs.Prelude.{◌≡◌, ℕ, ◌==◌, ◌↔◌, ◌⊎◌, Bool, true, false, not, ◌&&◌, ◌||◌, if◌then◌else◌, IsTrue, List, [], ◌∷◌, ◌++◌, Option, Some, None, slice_get, All}
use Rattle.std.specs.List.{Contains}
use Rattle.nl_fixed.specs.Nouns.{Name}
use Rattle.nl_fixed.specs.declared.span.Span.{Span}
use Rattle.nl_words.specs.Kinds.{everyone, observers, turtles, links, agents}
use Rattle.nl_words.specs.Row.{Row, row_at}
use Rattle.nl_words.specs.Rows.{rows}
use Rattle.nl_words.specs.declared.entry.Role.{Role}
use Rattle.nl_words.specs.declared.entry.Role.TheVariants as role
use Rattle.nl_words.specs.declared.entry.Input.{Input}
use Rattle.nl_words.specs.declared.entry.Input.TheVariants as input
use Rattle.nl_words.specs.declared.entry.Kinds.{Kinds}
use Rattle.nl_words.specs.declared.entry.Runner.{Runner}
use Rattle.nl_words.specs.declared.entry.Runner.TheVariants as runner
use Rattle.nl_words.specs.declared.entry.Manner.{Manner}
use Rattle.nl_words.specs.declared.entry.Manner.TheVariants as manner
use Rattle.nl_words.specs.declared.entry.Leaving.{Leaving}
use Rattle.nl_words.specs.declared.entry.Leaving.TheVariants as leaving
use Rattle.nl_tree.specs.declared.tree.Label.{Label}
use Rattle.nl_tree.specs.declared.tree.Label.TheVariants as label
use Rattle.nl_tree.specs.declared.declared.What.{What}
use Rattle.nl_tree.specs.declared.declared.What.TheVariants as what
use Rattle.nl_tree.specs.declared.faults.CheckKind.{CheckKind}
use Rattle.nl_tree.specs.declared.faults.CheckKind.TheVariants.{WrongContext, NotSettable, NoReport}
use Rattle.nl_tree.specs.Tree.{Node, node, Nodes, none, more}
use Rattle.nl_tree.specs.Term.{Term}
use Rattle.nl_tree.specs.Vocabulary.{term_named}
use Rattle.nl_tree.specs.Tokens.{inputs_of}

pub data Kind : Type 0 where
  Observer : Kind
  Turtle : Kind
  Patch : Kind
  Link : Kind

abbrev pub allows : Kinds → Kind → Bool
allows ks Observer = ks.observer
allows ks Turtle = ks.turtle
allows ks Patch = ks.patch
allows ks Link = ks.link

-- What the table of built-in words says of a word: a breed's word stands for the word without a breed.

abbrev pub row_of_what : What → Option Row
row_of_what (what.Base code) = row_at rows code
row_of_what (what.Made breed code) = row_at rows code
row_of_what (what.Global n) = None
row_of_what (what.Own n) = None
row_of_what (what.Procedure n) = None

abbrev pub row_of_term : Option Term → Option Row
row_of_term None = None
row_of_term (Some t) = row_of_what t.what

-- who runs the word's blocks
abbrev pub runner_by : Option Row → Runner
runner_by None = runner.NoBlock
runner_by (Some r) = r.blocks

-- how the variable stands there that the word names
abbrev pub manner_by : Option Row → Manner
manner_by None = manner.Run
manner_by (Some r) = r.manner

-- whether no text sets the variable
abbrev pub fixed_by : Option Row → Bool
fixed_by None = false
fixed_by (Some r) = r.fixed

-- whether the word leaves its procedure
abbrev pub leaving_by : Option Row → Leaving
leaving_by None = leaving.Stays
leaving_by (Some r) = r.leaving

abbrev pub is_same : Runner → Bool
is_same runner.Same = true
is_same runner.NoBlock = false
is_same runner.Turtles = false
is_same runner.Links = false
is_same runner.Given = false

-- the same agent runs the word's blocks
abbrev pub runs_itself : Term → Bool
runs_itself t = is_same (runner_by (row_of_what t.what))

-- What agents an expression may give, by its row.

abbrev pub first_kinds : List Kinds → Kinds
first_kinds [] = agents
first_kinds (k ∷ ks) = k

-- the kinds of the last value among the inputs
abbrev pub last_value : Kinds → List Input → List Kinds → Kinds
last_value found [] ks = found
last_value found (i ∷ is) [] = found
last_value found (input.Value ∷ is) (k ∷ ks) = last_value k is ks
last_value found (i ∷ is) (k ∷ ks) = last_value found is ks

abbrev pub is_nearest : Role → Bool
is_nearest (role.Operator level) = level == 1
is_nearest role.Command = false
is_nearest role.Reporter = false
is_nearest role.Constant = false
is_nearest role.Variable = false
is_nearest role.Reserved = false

-- a word's input of agents: the left side of an operator of level 1, else its last value
abbrev pub agents_of : Term → List Kinds → Kinds
agents_of t ks = if is_nearest t.role then first_kinds ks else last_value agents (inputs_of t) ks

-- turtles, patches or links where the row tells; what the input of agents gives where the row has all three; all three where it tells nothing
abbrev pub told : Term → List Kinds → Kinds
told t ks =
    if t.gives.turtle && t.gives.patch && t.gives.link then agents_of t ks
    else (if t.gives.turtle || t.gives.patch || t.gives.link then t.gives
    else agents)

abbrev pub told_by : Option Term → List Kinds → Kinds
told_by None ks = agents
told_by (Some t) ks = told t ks

abbrev pub given_as : List Term → Label → List Kinds → Kinds
given_as table (label.Named w) ks = told_by (term_named table w) ks
given_as table label.Paren ks = first_kinds ks
given_as table (label.Number n) ks = agents
given_as table (label.Text bytes) ks = agents
given_as table label.List ks = agents
given_as table label.Negate ks = agents
given_as table label.Commands ks = agents
given_as table label.Reporter ks = agents
given_as table (label.Arrow names) ks = agents

abbrev mutual
  pub given : List Term → Node → Kinds
  given table (node l s ts) = given_as table l (givens table ts)

  pub givens : List Term → Nodes → List Kinds
  givens table none = []
  givens table (more t ts) = given table t ∷ givens table ts

-- A text as its words and, each in its place, the blocks in it that other agents run, in the order of the text.

mutual
  pub data Piece : Type 0 where
    use_of : (name : Name) (span : Span) (manner : Manner) → Piece
    block_of : (first : Kinds) (pieces : Pieces) → Piece

  pub data Pieces : Type 0 where
    no_piece : Pieces
    a_piece : (first : Piece) (rest : Pieces) → Pieces

abbrev pub packed : List Piece → Pieces
packed [] = no_piece
packed (p ∷ ps) = a_piece p (packed ps)

-- a part of a node: its label and place, its pieces, and the agents that it may give
pub record Sub : Type 0 where
  pub top : Label
  pub place : Span
  pub pieces : List Piece
  pub gives : Kinds

abbrev pub text_of : Label → Name
text_of (label.Named w) = w
text_of (label.Number n) = []
text_of (label.Text bytes) = []
text_of label.List = []
text_of label.Negate = []
text_of label.Paren = []
text_of label.Commands = []
text_of label.Reporter = []
text_of (label.Arrow names) = []

abbrev pub is_block : Label → Bool
is_block label.Commands = true
is_block label.Reporter = true
is_block (label.Arrow names) = true
is_block (label.Named w) = false
is_block (label.Number n) = false
is_block (label.Text bytes) = false
is_block label.List = false
is_block label.Negate = false
is_block label.Paren = false

-- the first kinds of a block that other agents run: new turtles, new links, or those that the word is given
abbrev pub first_kinds_by : Runner → Kinds → Kinds
first_kinds_by runner.Turtles given = turtles
first_kinds_by runner.Links given = links
first_kinds_by runner.Given given = given
first_kinds_by runner.Same given = given
first_kinds_by runner.NoBlock given = given

abbrev pub block_kinds : Term → List Kinds → Kinds
block_kinds t ks = first_kinds_by (runner_by (row_of_what t.what)) (agents_of t ks)

abbrev pub kinds_of_subs : List Sub → List Kinds
kinds_of_subs [] = []
kinds_of_subs (p ∷ ps) = p.gives ∷ kinds_of_subs ps

-- an expression, or a block
abbrev pub inner_pieces : Term → Kinds → Sub → List Piece
inner_pieces t first p = if is_block p.top && not (runs_itself t) then block_of first (packed p.pieces) ∷ [] else p.pieces

-- a new name is no word of the text
abbrev pub part_pieces : Term → Kinds → Input → Sub → List Piece
part_pieces t first input.Variable p = use_of (text_of p.top) p.place (manner_by (row_of_what t.what)) ∷ []
part_pieces t first input.Fresh p = []
part_pieces t first input.Value p = inner_pieces t first p
part_pieces t first input.Expression p = inner_pieces t first p
part_pieces t first input.Commands p = inner_pieces t first p
part_pieces t first input.MaybeCommands p = inner_pieces t first p
part_pieces t first input.Reporter p = inner_pieces t first p
part_pieces t first input.ArrowCommands p = inner_pieces t first p
part_pieces t first input.ArrowReporter p = inner_pieces t first p
part_pieces t first input.Cases p = inner_pieces t first p

-- each part by its input; a part past the inputs, in parentheses, is a value
abbrev pub parts_pieces : Term → Kinds → List Input → List Sub → List (List Piece)
parts_pieces t first is [] = []
parts_pieces t first [] (p ∷ ps) = part_pieces t first input.Value p ∷ parts_pieces t first [] ps
parts_pieces t first (i ∷ is) (p ∷ ps) = part_pieces t first i p ∷ parts_pieces t first is ps

abbrev pub all_pieces : List (List Piece) → List Piece
all_pieces [] = []
all_pieces (ps ∷ pss) = ps ++ all_pieces pss

-- an operator stands after its first part, any other word before all of them
abbrev pub after_first : Piece → List (List Piece) → List Piece
after_first w [] = w ∷ []
after_first w (ps ∷ pss) = ps ++ (w ∷ all_pieces pss)

abbrev pub is_operator : Role → Bool
is_operator (role.Operator level) = true
is_operator role.Command = false
is_operator role.Reporter = false
is_operator role.Constant = false
is_operator role.Variable = false
is_operator role.Reserved = false

abbrev pub word_pieces : Option Term → Piece → List Sub → List Piece
word_pieces None w ps = w ∷ []
word_pieces (Some t) w ps =
    let inner = parts_pieces t (block_kinds t (kinds_of_subs ps)) (inputs_of t) ps in
    if is_operator t.role then after_first w inner else w ∷ all_pieces inner

abbrev pub flat : List Sub → List Piece
flat [] = []
flat (p ∷ ps) = p.pieces ++ flat ps

abbrev pub node_pieces : List Term → Label → Span → List Sub → List Piece
node_pieces table (label.Named w) s ps = word_pieces (term_named table w) (use_of w s manner.Run) ps
node_pieces table (label.Number n) s ps = flat ps
node_pieces table (label.Text bytes) s ps = flat ps
node_pieces table label.List s ps = flat ps
node_pieces table label.Negate s ps = flat ps
node_pieces table label.Paren s ps = flat ps
node_pieces table label.Commands s ps = flat ps
node_pieces table label.Reporter s ps = flat ps
node_pieces table (label.Arrow names) s ps = flat ps

abbrev pub label_at : Node → Label
label_at (node l s ts) = l

abbrev pub span_at : Node → Span
span_at (node l s ts) = s

abbrev mutual
  pub pieces : List Term → Node → List Piece
  pieces table (node l s ts) = node_pieces table l s (subs table ts)

  pub subs : List Term → Nodes → List Sub
  subs table none = []
  subs table (more t ts) = record { top = label_at t; place = span_at t; pieces = pieces table t; gives = given table t } ∷ subs table ts

-- Sites: a text, or a block in it that other agents run. The variable of `diffuse` and its kin is no word of a site.

abbrev pub with_word : Manner → Name → List Name → List Name
with_word manner.Run w ws = ws ++ w ∷ []
with_word manner.Set w ws = ws ++ w ∷ []
with_word manner.Spread w ws = ws

abbrev pub with_piece : List Name → Piece → List Name
with_piece ws (use_of w s m) = with_word m w ws
with_piece ws (block_of first ps) = ws

abbrev pub words_after : List Name → List Piece → List Name
words_after ws [] = ws
words_after ws (p ∷ ps) = words_after (with_piece ws p) ps

-- the words of a text's own site, in the order of the text
abbrev pub site_words : List Term → Node → List Name
site_words table t = words_after [] (pieces table t)

-- a word in its place: the words of its site from the first through this one, the first kinds of the site, and whether the site is a block
pub record Use : Type 0 where
  pub name : Name
  pub span : Span
  pub manner : Manner
  pub so_far : List Name
  pub first : Kinds
  pub in_block : Bool

abbrev mutual
  pub uses_in : Kinds → Bool → List Name → Piece → List Use
  uses_in first in_block ws (use_of w s m) = record { name = w; span = s; manner = m; so_far = with_word m w ws; first = first; in_block = in_block } ∷ []
  uses_in first in_block ws (block_of inner ps) = uses_among inner true [] ps

  pub uses_among : Kinds → Bool → List Name → Pieces → List Use
  uses_among first in_block ws no_piece = []
  uses_among first in_block ws (a_piece p ps) = uses_in first in_block ws p ++ uses_among first in_block (with_piece ws p) ps

-- all words of a text and of the blocks in it, in the order of the text; a body begins with all kinds, a lone text with the observer
abbrev pub uses : List Term → Kinds → Node → List Use
uses table first t = uses_among first false [] (packed (pieces table t))

-- Chains of calls by the same agent.

abbrev pub words_of_body : List Term → Option Node → List Name
words_of_body table None = []
words_of_body table (Some t) = site_words table t

abbrev pub words_at : List Term → List Node → ℕ → List Name
words_at table bodies i = words_of_body table (slice_get bodies i)

-- from a body a chain of calls, or none, leads to a word that the kind may not run
pub data Leads : List Term → List Node → Kind → ℕ → Type 0 where
  at_word : {table : List Term} {bodies : List Node} {kind : Kind} {i : ℕ} {w : Name} {t : Term} → Contains (words_at table bodies i) w → term_named table w ≡ Some t → IsTrue (not (allows t.runs kind)) → Leads table bodies kind i
  by_call : {table : List Term} {bodies : List Node} {kind : Kind} {i j : ℕ} {w : Name} {t : Term} → Contains (words_at table bodies i) w → term_named table w ≡ Some t → t.what ≡ what.Procedure j → Leads table bodies kind j → Leads table bodies kind i

-- a word bars a kind: by its row, or by the procedure that it calls
abbrev pub Bars : List Term → List Node → Kind → Name → Type 0
Bars table bodies kind w = (t : Term) × ((term_named table w ≡ Some t) × (IsTrue (not (allows t.runs kind)) ⊎ ((j : ℕ) × ((t.what ≡ what.Procedure j) × Leads table bodies kind j))))

-- the kind is left at a word of a site
abbrev pub IsLeft : List Term → List Node → Kind → Use → Type 0
IsLeft table bodies kind u = IsTrue (allows u.first kind) × ((w : Name) → Contains u.so_far w → Bars table bodies kind w → ⊥)

-- Faults.

abbrev pub IsWrongContext : List Term → List Node → Use → Type 0
IsWrongContext table bodies u = (kind : Kind) → IsLeft table bodies kind u → ⊥

abbrev pub is_variable : Role → Bool
is_variable role.Variable = true
is_variable (role.Operator level) = false
is_variable role.Command = false
is_variable role.Reporter = false
is_variable role.Constant = false
is_variable role.Reserved = false

-- a variable that patches have: a global is run by the observer too
abbrev pub is_on_patches : Option Term → Bool
is_on_patches None = false
is_on_patches (Some t) = is_variable t.role && t.runs.patch && not t.runs.observer

abbrev pub is_not_settable : List Term → Manner → Name → Bool
is_not_settable table manner.Run w = false
is_not_settable table manner.Set w = fixed_by (row_of_term (term_named table w))
is_not_settable table manner.Spread w =
    fixed_by (row_of_term (term_named table w)) || not (is_on_patches (term_named table w))

-- `report` outside of a reporter procedure or in a block that other agents run; `stop` in a reporter procedure and in no such block
abbrev pub is_misplaced : Bool → Bool → Leaving → Bool
is_misplaced reporter in_block leaving.Stays = false
is_misplaced reporter in_block leaving.Reports = not reporter || in_block
is_misplaced reporter in_block leaving.Stops = reporter && not in_block

abbrev pub has_no_report : List Term → Bool → Bool → Name → Bool
has_no_report table reporter in_block w =
    is_misplaced reporter in_block (leaving_by (row_of_term (term_named table w)))

-- the fault at one word; the text stands in a reporter procedure or not
abbrev pub IsFaultAt : List Term → List Node → Bool → Use → CheckKind → Type 0
IsFaultAt table bodies reporter u WrongContext = IsWrongContext table bodies u
IsFaultAt table bodies reporter u NotSettable = (IsWrongContext table bodies u → ⊥) × IsTrue (is_not_settable table u.manner u.name)
IsFaultAt table bodies reporter u NoReport =
    (IsWrongContext table bodies u → ⊥) × IsTrue (not (is_not_settable table u.manner u.name)) × IsTrue (has_no_report table reporter u.in_block u.name)

abbrev pub IsRight : List Term → List Node → Bool → Use → Type 0
IsRight table bodies reporter u = (fault : CheckKind) → IsFaultAt table bodies reporter u fault → ⊥

-- the first fault of a text by the order of the text, and where it stands
abbrev pub IsFirstFault : List Term → List Node → Bool → List Use → CheckKind → Span → Type 0
IsFirstFault table bodies reporter us fault place =
    (front : List Use) × (u : Use) × (rest : List Use) × ((us ≡ front ++ u ∷ rest) × All (IsRight table bodies reporter) front × IsFaultAt table bodies reporter u fault × (u.span ≡ place))

-- a body, or a lone text that the observer runs
abbrev pub IsRightBody : List Term → List Node → Bool → Node → Type 0
IsRightBody table bodies reporter t = All (IsRight table bodies reporter) (uses table everyone t)

abbrev pub IsRightText : List Term → List Node → Node → Type 0
IsRightText table bodies t = All (IsRight table bodies false) (uses table observers t)

-- the kinds that are left at the last word of a body: those that none of its words bars; all four where it has no word
abbrev pub AreLeft : List Term → List Node → ℕ → Kinds → Type 0
AreLeft table bodies i ks = (kind : Kind) → IsTrue (allows ks kind) ↔ (Leads table bodies kind i → ⊥)
