-- What holds of the grammar, whatever names are known. Four laws hold whatever the table of words is: trees are unique, texts are taken, a
-- good text has no fault, and there is one first fault. The others are for tables that have the words of which completions are made. The
-- table of every model is such a one.
use Rattle.std.specs.Prelude.{◌≡◌, ◌↔◌, ◌≤◌, ◌<◌, ◌⊎◌, ℕ, List, [], ◌∷◌, ◌++◌, All, Some, length, slice_get}
use Rattle.nl_fixed.specs.Nouns.{Names}
use Rattle.nl_fixed.specs.declared.span.Span.{Span}
use Rattle.nl_tree.specs.declared.declared.Declared.{Declared}
use Rattle.nl_tree.specs.declared.declared.Form.{Form}
use Rattle.nl_tree.specs.Tree.{Node, depth}
use Rattle.nl_tree.specs.Term.{Term}
use Rattle.nl_tree.specs.Vocabulary.{terms}
use Rattle.nl_tree.specs.Tokens.{Token, IsToken, mark}
use Rattle.nl_tree.specs.BodyFault.{IsReadable, IsGood, BeginsReadable, BeginsGood, IsTextFault, deepest, ends_at}
use Rattle.nl_tree.specs.declared.faults.BodyKind.{BodyKind}
use Rattle.nl_tree.specs.declared.faults.BodyKind.TheVariants.{TooDeep}
use Rattle.nl_parse_grammar.specs.Machine.{State, st, Over, go, stop, feed}
use Rattle.nl_parse_grammar.specs.Depth.{least_depth}
use Rattle.nl_parse_grammar.specs.Completion.{HasWords, reading, completion}
use Rattle.nl_parse_grammar.specs.Fault.{kind_at, reading_to}

-- tokens have one tree at most
abbrev pub TreesAreUnique : Type 0
TreesAreUnique = (form : Form) (names : Names) (table : List Term) (ts : List Token) (t u : Node) → IsReadable form names table ts t → IsReadable form names table ts u → t ≡ u

-- the machine takes exactly the texts, and ends with their trees
abbrev pub TextsAreTaken : Type 0
TextsAreTaken = (form : Form) (names : Names) (table : List Term) (ts : List Token) (t : Node) → IsReadable form names table ts t ↔ (reading form names table ts ≡ go (st (Over t) names []))

-- tokens that begin a text become a text by their completion, and no text that they begin has a tree of less depth
abbrev pub CompletionsAreLeast : Type 0
CompletionsAreLeast =
    (form : Form) (names : Names) (table : List Term) (ts : List Token) → HasWords table → BeginsReadable form names table ts →
    (t : Node)
    × IsReadable form names table (ts ++ completion form names table ts) t
    × All IsToken (completion form names table ts)
    × ((after : List Token) (u : Node) → IsReadable form names table (ts ++ after) u → depth t ≤ depth u)

-- tokens begin a text exactly where the machine goes over them, and a good one where the least depth that it then allows is allowed
abbrev pub BeginningsAreTaken : Type 0
BeginningsAreTaken =
    (form : Form) (names : Names) (table : List Term) (ts : List Token) → HasWords table →
    (BeginsReadable form names table ts ↔ ((s : State) × (reading form names table ts ≡ go s)))
    × (BeginsGood form names table ts ↔ ((s : State) × (reading form names table ts ≡ go s) × (least_depth s ≤ deepest)))

-- the words of every model have those of which completions are made
abbrev pub ModelsHaveWords : Type 0
ModelsHaveWords = (d : Declared) → HasWords (terms d)

-- The first fault is the first token over which the machine doesn't go, or goes to a state in which the least depth isn't allowed. It is an
-- unknown name where the machine stops at a word that has no row and that the state doesn't know.
abbrev pub FaultsAreTold : Type 0
FaultsAreTold =
    (form : Form) (names : Names) (table : List Term) (ts : List Token) (k : ℕ) (s : State) (t : Token) → HasWords table →
    k < length ts → reading_to form names table ts k ≡ go s → least_depth s ≤ deepest → slice_get ts k ≡ Some t →
    (feed s (mark table t) ≡ stop → IsTextFault form names table ts k (kind_at s (mark table t)))
    × ((z : State) → feed s (mark table t) ≡ go z → deepest < least_depth z → IsTextFault form names table ts k TooDeep)

-- tokens and what ends them are a good text or have a fault
abbrev pub TextsAreGoodOrFaulty : Type 0
TextsAreGoodOrFaulty =
    (form : Form) (names : Names) (table : List Term) (ts : List Token) (s : Span) → HasWords table →
    ((t : Node) × IsGood form names table (ts ++ ends_at s ∷ []) t) ⊎ ((k : ℕ) × (kind : BodyKind) × IsTextFault form names table (ts ++ ends_at s ∷ []) k kind)

-- but not both
abbrev pub GoodHasNoFault : Type 0
GoodHasNoFault =
    (form : Form) (names : Names) (table : List Term) (ts : List Token) (t : Node) (k : ℕ) (kind : BodyKind) → All IsToken ts →
    IsGood form names table ts t → IsTextFault form names table ts k kind → ⊥

-- and there is one first fault
abbrev pub FaultsAreUnique : Type 0
FaultsAreUnique =
    (form : Form) (names : Names) (table : List Term) (ts : List Token) (j k : ℕ) (x y : BodyKind) →
    IsTextFault form names table ts j x → IsTextFault form names table ts k y → (j ≡ k) × (x ≡ y)
