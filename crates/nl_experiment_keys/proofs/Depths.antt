-- A literal nests at least as deep as lists are open while it is read.
use Rattle.std.proofs.Common.{◌≡◌, ℕ, ◌+◌, ◌≤◌, ◌<◌, List, [], ◌∷◌, ◌++◌, length, subst, refl, arith}
use Rattle.std.specs.Prelude.{max, Option, Some, None}
use Rattle.std.specs.Option.{option_and_then}
use Rattle.std.proofs.lemmas.Bool.Decides.{nat_tests}
use Rattle.nl_fixed.specs.Nouns.{Bytes}
use Rattle.nl_scan.specs.declared.token.Lexeme.{Lexeme}
use Rattle.nl_scan.specs.declared.token.Lexeme.TheVariants as lexeme
use Rattle.nl_scan.specs.declared.token.Token.{Token}
use Rattle.nl_value.specs.Measures.{depth_of, deepest_of}
use Rattle.nl_value.specs.Plain.{Plain, PlainItems, plains}
use Rattle.nl_value.specs.Limits.{most_depth}
use Rattle.nl_experiment_keys.specs.inner.Taking.{most_open}
use Rattle.nl_experiment_keys.specs.Literals.{fit, literal_from, placed, placed_if, closed, taken, token_value}

-- how deep a list is at least, with what it holds so far
abbrev depth_with : List Plain → ℕ
depth_with items = depth_of (PlainItems (plains items))

-- how deep a literal nests at least in which these lists are open
abbrev reach : List (List Plain) → ℕ
reach [] = 0
reach (items ∷ outer) = max (length outer + depth_with items) (reach outer)

deepest_more : (items : List Plain) (value : Plain) → deepest_of (plains (items ++ value ∷ [])) ≡ max (deepest_of (plains items)) (depth_of value)
deepest_more [] value = omega arith
deepest_more (item ∷ items) value = omega (arith, deepest_more items value)

-- no step makes it less
opens : (lists : List (List Plain)) → reach lists ≤ reach ([] ∷ lists)
opens lists = omega arith

grows : (items : List Plain) (value : Plain) (outer : List (List Plain)) → reach (items ∷ outer) ≤ reach ((items ++ value ∷ []) ∷ outer)
grows items value outer = omega (arith, deepest_more items value)

closes : (items next : List Plain) (outer : List (List Plain))
    → reach (items ∷ next ∷ outer) ≤ reach ((next ++ PlainItems (plains items) ∷ []) ∷ outer)
closes items next outer = omega (arith, deepest_more next (PlainItems (plains items)))

trans : {a b c : ℕ} → a ≤ b → b ≤ c → a ≤ c
trans ab bc = omega (arith, ab, bc)

Later : (List (List Plain) → Option Plain) → Plain → Type 0
Later next v = (now : List (List Plain)) → next now ≡ Some v → reach now ≤ depth_of v

places : (lists : List (List Plain)) (value : Plain) (tokens : List Token) (next : List (List Plain) → Option Plain) (v : Plain)
    → Later next v → placed lists value tokens next ≡ Some v → reach lists ≤ depth_of v
unfolding Later
places [] value tokens next v later is = omega arith
places (items ∷ outer) value tokens next v later is = trans (grows items value outer) (later ((items ++ value ∷ []) ∷ outer) is)

places_if : (lists : List (List Plain)) (found : Option Plain) (tokens : List Token) (next : List (List Plain) → Option Plain) (v : Plain)
    → Later next v → placed_if lists found tokens next ≡ Some v → reach lists ≤ depth_of v
unfolding Later
places_if lists None tokens next v later is = let bad : None ≡ Some v = is in cc
places_if lists (Some value) tokens next v later is = places lists value tokens next v later is

ends : (lists : List (List Plain)) (tokens : List Token) (next : List (List Plain) → Option Plain) (v : Plain)
    → Later next v → closed lists tokens next ≡ Some v → reach lists ≤ depth_of v
unfolding Later
ends [] tokens next v later is = let bad : None ≡ Some v = is in cc
ends (items ∷ []) [] next v later is =
    let same : PlainItems (plains items) ≡ v = cc in
    subst (λ w. reach (items ∷ []) ≤ depth_of w) same (omega arith)
ends (items ∷ []) (token ∷ tokens) next v later is = let bad : None ≡ Some v = is in cc
ends (items ∷ inner ∷ outer) tokens next v later is =
    trans (closes items inner outer) (later ((inner ++ PlainItems (plains items) ∷ []) ∷ outer) is)

steps : (text : Bytes) (token : Token) (l : Lexeme) (lists : List (List Plain)) (tokens : List Token) (next : List (List Plain) → Option Plain) (v : Plain)
    → Later next v → taken text token l lists tokens next ≡ Some v → reach lists ≤ depth_of v
unfolding Later
steps text token lexeme.Open lists tokens next v later is = trans (opens lists) (later ([] ∷ lists) is)
steps text token lexeme.Close lists tokens next v later is = ends lists tokens next v later is
steps text token lexeme.Word lists tokens next v later is = places_if lists (token_value text token lexeme.Word) tokens next v later is
steps text token (lexeme.Number count) lists tokens next v later is = places_if lists (token_value text token (lexeme.Number count)) tokens next v later is
steps text token lexeme.Text lists tokens next v later is = places_if lists (token_value text token lexeme.Text) tokens next v later is
steps text token lexeme.OpenParen lists tokens next v later is = places_if lists (token_value text token lexeme.OpenParen) tokens next v later is
steps text token lexeme.CloseParen lists tokens next v later is = places_if lists (token_value text token lexeme.CloseParen) tokens next v later is

pub nests_as_deep : (text : Bytes) (tokens : List Token) (lists : List (List Plain)) (v : Plain) → literal_from text tokens lists ≡ Some v → reach lists ≤ depth_of v
unfolding Later
nests_as_deep text [] lists v is = let bad : None ≡ Some v = is in cc
nests_as_deep text (token ∷ tokens) lists v is =
    steps text token token.lexeme lists tokens (λ now. literal_from text tokens now) v (λ now. nests_as_deep text tokens now v) is

-- a value that nests deeper than the limit isn't fit
unfit : (v : Plain) → most_depth < depth_of v → fit v ≡ None
unfit v deep = grind (arith, nat_tests, deep)

-- where as many lists are open as may be, a further one makes no literal within the limits
pub too_deep : (text : Bytes) (tokens : List Token) (lists : List (List Plain)) → most_open ≤ length lists → option_and_then fit (literal_from text tokens ([] ∷ lists)) ≡ None
too_deep text tokens lists many = by (literal_from text tokens ([] ∷ lists)) refl
  where
    deeper : (v : Plain) → reach ([] ∷ lists) ≤ depth_of v → most_depth < depth_of v
    deeper v reached = omega (arith, reached, many)

    by : (found : Option Plain) → literal_from text tokens ([] ∷ lists) ≡ found → option_and_then fit found ≡ None
    by None is = refl
    by (Some v) is = unfit v (deeper v (nests_as_deep text tokens ([] ∷ lists) v is))
