-- The words of a text come in the order of the text.
use Rattle.std.specs.Prelude.{◌≡◌, ℕ, ◌+◌, ◌≤◌, Bool, true, false, List, [], ◌∷◌, map, if◌then◌else◌}
use Rattle.nl_fixed.specs.Nouns.{Name, Names}
use Rattle.nl_fixed.specs.declared.span.Span.{Span}
use Rattle.nl_words.specs.declared.entry.Kinds.{Kinds}
use Rattle.nl_tree.specs.declared.declared.Declared.{Declared}
use Rattle.nl_tree.specs.declared.declared.Form.{Form}
use Rattle.nl_tree.specs.Names.{IsDeclared}
use Rattle.nl_tree.specs.Tree.{Node}
use Rattle.nl_tree.specs.Vocabulary.{terms}
use Rattle.nl_tree.specs.Tokens.{Token, Class, Unknown, Binary, Arrow, Tok, number, text, word, open_bracket, close_bracket, open_paren, close_paren, end, marked}
use Rattle.nl_tree.specs.Grammar.{IsText}
use Rattle.nl_tree.specs.Context.{Use, uses}
use Rattle.nl_tree.specs.Slots.{is_let}

-- a word and where it stands
pub record Spot : Type 0 where
  pub name : Name
  pub span : Span

abbrev pub spot : Name → Span → Spot
spot w s = record { name = w; span = s }

abbrev pub spot_of : Use → Spot
spot_of u = spot u.name u.span

-- what stands right before a token, where it matters
pub data Behind : Type 0 where
  a_let : Behind
  a_paren : Behind
  a_head : Behind  -- a bracket that holds the names of a head, or one of them
  another : Behind

abbrev pub behind_word : Class → Behind
behind_word c = if is_let c then a_let else another

-- an arrow comes next
abbrev pub meets_arrow : List Tok → Bool
meets_arrow (word w Arrow s ∷ ts) = true
meets_arrow ts = false

-- names without a row come next, a bracket that closes and an arrow
abbrev pub meets_names : List Tok → Bool
meets_names (word w Unknown s ∷ ts) = meets_names ts
meets_names (close_bracket s ∷ ts) = meets_arrow ts
meets_names ts = false

abbrev pub behind_bracket : List Tok → Behind
behind_bracket ts = if meets_names ts then a_head else another

-- a word that is no use, by what stands before and behind it: the new name behind `let`, the minus sign of a negation, which stands right
-- behind a parenthesis, the names of a head, and its arrow
abbrev pub is_no_use : Behind → Class → List Tok → Bool
is_no_use a_let c ts = true
is_no_use a_paren (Binary l true) ts = true
is_no_use a_head c ts = true
is_no_use behind Arrow ts = true
is_no_use behind Unknown ts = meets_arrow ts
is_no_use behind c ts = false

-- behind a word that is no use
abbrev pub behind_no_use : Behind → Behind
behind_no_use a_head = a_head
behind_no_use behind = another

-- the words of tokens, in order, that are uses
abbrev pub words_from : Behind → List Tok → List Spot
words_from behind [] = []
words_from behind (word w c s ∷ ts) =
    if is_no_use behind c ts then words_from (behind_no_use behind) ts else spot w s ∷ words_from (behind_word c) ts
words_from behind (open_paren s ∷ ts) = words_from a_paren ts
words_from behind (number n s ∷ ts) = words_from another ts
words_from behind (text bytes s ∷ ts) = words_from another ts
words_from behind (open_bracket s ∷ ts) = words_from (behind_bracket ts) ts
words_from behind (close_bracket s ∷ ts) = words_from another ts
words_from behind (close_paren s ∷ ts) = words_from another ts
words_from behind (end s ∷ ts) = words_from another ts

abbrev pub used_words : List Tok → List Spot
used_words ts = words_from another ts

-- Each word token of a text is one use, in the order of the text, but for a name that `let` or a head makes, a head's arrow and the minus sign
-- of a negation; and there are no other uses.
abbrev pub UsesAreWords : Type 0
UsesAreWords =
    (d : Declared) → IsDeclared d → (form : Form) (names : Names) (ts : List Token) (t : Node) (first : Kinds)
    → IsText form names (marked (terms d) ts) t
    → map spot_of (uses (terms d) first t) ≡ used_words (marked (terms d) ts)

-- numbers from one on, each greater than the one before
abbrev pub AscendFrom : ℕ → List ℕ → Type 0
AscendFrom n [] = Unit {0}
AscendFrom n (x ∷ xs) = (n ≤ x) × AscendFrom (x + 1) xs

-- So where tokens stand one behind another, so do the uses.
abbrev pub UsesAscend : Type 0
UsesAscend =
    (d : Declared) → IsDeclared d → (form : Form) (names : Names) (ts : List Token) (t : Node) (first : Kinds)
    → IsText form names (marked (terms d) ts) t
    → AscendFrom 0 (map (λ (k : Token). k.span.start) ts)
    → AscendFrom 0 (map (λ (u : Use). u.span.start) (uses (terms d) first t))
