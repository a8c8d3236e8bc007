-- A text has few tokens, and so its declarations have few.
use Rattle.std.proofs.Common.{◌≡◌, ℕ, ◌+◌, ◌<◌, ◌≤◌, ◌^◌, List, [], ◌∷◌, length, Ok, arith}
use Rattle.nl_scan.specs.declared.token.Token.{Token}
use Rattle.nl_scan.specs.declared.token.Lexeme.TheVariants as scanned
use Rattle.nl_scan.specs.declared.token.Lexeme.{Lexeme as Scanned}
use Rattle.nl_scan.specs.Tokens.{text_limit, tokens_of, least_length, AreInOrder}
use Rattle.nl_scan.proofs.Order.{tokens_of-in_order, tokens_of-is_text}
use Rattle.nl_decl_outline.specs.declared.declaration.Declaration.{Declaration}
use Rattle.nl_decl_outline.specs.Declarations.{AreDeclarations}
use Rattle.nl_decl_outline.specs.Lengths.{total_length}
use Rattle.nl_parse_grammar.specs.Texts.{lexemes_of}
use Rattle.nl_decl_outline.proofs.Lengths.{all_length}
use Rattle.nl_decl_outline.proofs.Places.{lexemes-length}

least_one : (l : Scanned) → 1 ≤ least_length l
least_one scanned.Word = omega arith
least_one (scanned.Number n) = omega arith
least_one scanned.Text = omega arith
least_one scanned.Open = omega arith
least_one scanned.Close = omega arith
least_one scanned.OpenParen = omega arith
least_one scanned.CloseParen = omega arith

-- each token has a byte of its own
as_many : (from end : ℕ) (ts : List Token) → AreInOrder from end ts → from + length ts ≤ end
as_many from end [] h = omega (arith, h)
as_many from end (t ∷ ts) (before, least, rest) =
    let more = as_many (t.span.start + t.span.len) end ts rest in
    let one = least_one t.lexeme in omega (arith, before, least, more, one)

-- a text has no more tokens than it may have bytes
pub few_tokens : (text : List ℕ) (ts : List Token) → tokens_of text ≡ Ok ts → length (lexemes_of text ts) ≤ text_limit
few_tokens text ts e =
    let order = as_many 0 (length text) ts (tokens_of-in_order text ts e) in
    let short = (tokens_of-is_text text ts e).0 in
    let same = lexemes-length text ts in
    omega (arith, order, short, same)

-- so its declarations end within a number
pub few_declared : (text : List ℕ) (ts : List Token) (ds : List Declaration) → tokens_of text ≡ Ok ts → AreDeclarations (lexemes_of text ts) ds → total_length ds < 2 ^ 62
few_declared text ts ds e are =
    let few = few_tokens text ts e in
    let same = all_length [] ds (lexemes_of text ts) are in
    omega (arith, few, same)
