-- Good texts, and the first fault of a text that isn't good. That a text is refused at the first token with which it can no longer be read,
-- the limit on depth and the three kinds of fault are this project's own choice.
use Rattle.std.specs.Prelude.{◌≡◌, ℕ, ◌+◌, ◌<◌, ◌≤◌, IsTrue, List, [], ◌∷◌, ◌++◌, Some, None, length, take, slice_get, All}
use Rattle.nl_fixed.specs.Nouns.{Name, Names}
use Rattle.nl_fixed.specs.declared.span.Span.{Span}
use Rattle.nl_tree.specs.declared.declared.Form.{Form}
use Rattle.nl_tree.specs.declared.faults.BodyKind.{BodyKind}
use Rattle.nl_tree.specs.declared.faults.BodyKind.TheVariants.{UnknownName, Unexpected, TooDeep}
use Rattle.nl_tree.specs.Tree.{Node, depth}
use Rattle.nl_tree.specs.Term.{Term}
use Rattle.nl_tree.specs.Vocabulary.{term_named}
use Rattle.nl_tree.specs.Tokens.{Word, End, Token, IsToken, marked}
use Rattle.nl_tree.specs.Grammar.{IsText, knows_in}

-- the greatest depth of a tree
abbrev pub deepest : ℕ
deepest = 200

-- tokens, the last of which is what ends them, and a tree that they have
abbrev pub IsReadable : Form → Names → List Term → List Token → Node → Type 0
IsReadable form names table ts t = IsText form names (marked table ts) t

-- and of a depth that is allowed
abbrev pub IsGood : Form → Names → List Term → List Token → Node → Type 0
IsGood form names table ts t = IsReadable form names table ts t × (depth t ≤ deepest)

abbrev pub ends_at : Span → Token
ends_at s = record { lexeme = End; span = s }

-- a tree that some good text has
abbrev pub Fits : Form → Names → List Term → Node → Type 0
Fits form names table t = (ts : List Token) × (s : Span) × (All IsToken ts × IsGood form names table (ts ++ ends_at s ∷ []) t)

-- tokens that begin a readable text, and a good one
abbrev pub BeginsReadable : Form → Names → List Term → List Token → Type 0
BeginsReadable form names table ts = (after : List Token) × (t : Node) × (All IsToken after × IsReadable form names table (ts ++ after) t)

abbrev pub BeginsGood : Form → Names → List Term → List Token → Type 0
BeginsGood form names table ts = (after : List Token) × (t : Node) × (All IsToken after × IsGood form names table (ts ++ after) t)

-- A name is known before the token at a place where some text that can still be read with the tokens before that place knows it there.
abbrev pub Knows : Form → Names → List Term → List Token → ℕ → Name → Type 0
Knows form names table ts k name =
    (after : List Token) × (t : Node) × (d : IsReadable form names table (take k ts ++ after) t) × (All IsToken after × IsTrue (knows_in form names (marked table (take k ts ++ after)) t name (length after) d))

-- the token at a place is a word that has no row and isn't known
abbrev pub IsUnknown : Form → Names → List Term → List Token → ℕ → Type 0
IsUnknown form names table ts k =
    (name : Name) × (s : Span) × ((slice_get ts k ≡ Some (record { lexeme = Word name; span = s })) × (term_named table name ≡ None) × (Knows form names table ts k name → ⊥))

-- The tokens, with what ends them as the last one: the first place with which they begin no good text.
abbrev pub IsFaultPlace : Form → Names → List Term → List Token → ℕ → Type 0
IsFaultPlace form names table ts k =
    (k < length ts)
    × ((j : ℕ) → j < k → BeginsGood form names table (take (j + 1) ts))
    × (BeginsGood form names table (take (k + 1) ts) → ⊥)

-- too deep where they could still be read, else a name that is unknown, else anything else
abbrev pub IsOfKind : Form → Names → List Term → List Token → ℕ → BodyKind → Type 0
IsOfKind form names table ts k TooDeep = BeginsReadable form names table (take (k + 1) ts)
IsOfKind form names table ts k UnknownName = (BeginsReadable form names table (take (k + 1) ts) → ⊥) × IsUnknown form names table ts k
IsOfKind form names table ts k Unexpected = (BeginsReadable form names table (take (k + 1) ts) → ⊥) × (IsUnknown form names table ts k → ⊥)

abbrev pub IsTextFault : Form → Names → List Term → List Token → ℕ → BodyKind → Type 0
IsTextFault form names table ts k kind = IsFaultPlace form names table ts k × IsOfKind form names table ts k kind
