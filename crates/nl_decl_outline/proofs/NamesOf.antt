-- Each name that is declared is a word of the text.
use Rattle.std.proofs.Common.{◌≡◌, ℕ, List, [], ◌∷◌, ◌++◌, Option, Some, None, Ok, subst, IsTrue}
use Rattle.std.specs.Prelude.{codes, All}
use Rattle.std.proofs.lemmas.List.Elements.{All-nil, All-cons, All-head, All-tail, All-append}
use Rattle.nl_words.specs.Table.{is_name}
use Rattle.nl_decl_outline.specs.declared.declaration.Declaration.{Declaration}
use Rattle.nl_decl_outline.specs.declared.declaration.Declaration.TheVariants.{Globals, Own, Breed, Procedure}
use Rattle.nl_scan.specs.declared.token.Token.{Token}
use Rattle.nl_tree.specs.Tokens.{Lexeme, Word, Open, Close, IsLexeme, IsToken}
use Rattle.nl_parse_grammar.specs.Texts.{lexeme_of, lexemes_of, plain_token, plain_tokens}
use Rattle.nl_decl_outline.specs.Declarations.{plural_of, words, listed, listed_or_none, Spells, SpellAll, AreDeclarations}
use Rattle.nl_decl_outline.specs.Laws.{NamesAreNames}
use Rattle.nl_decl_outline.specs.Named.{names_of_inputs}
use Rattle.nl_decl_outline.specs.Named.{names_of, names_in}

abbrev IsName : List ℕ → Type 0
IsName name = IsTrue (is_name name)

front_of : (xs ys : List Lexeme) → All IsLexeme (xs ++ ys) → All IsLexeme xs
front_of [] ys h = All-nil IsLexeme
front_of (x ∷ xs) ys h = All-cons IsLexeme x xs (All-head IsLexeme x (xs ++ ys) h) (front_of xs ys (All-tail IsLexeme x (xs ++ ys) h))

rest_of : (xs ys : List Lexeme) → All IsLexeme (xs ++ ys) → All IsLexeme ys
rest_of [] ys h = h
rest_of (x ∷ xs) ys h = rest_of xs ys (All-tail IsLexeme x (xs ++ ys) h)

of_words : (names : List (List ℕ)) → All IsLexeme (words names) → All IsName names
of_words [] h = All-nil IsName
of_words (w ∷ names) h = All-cons IsName w names (All-head IsLexeme (Word w) (words names) h) (of_words names (All-tail IsLexeme (Word w) (words names) h))

of_listed : (names : List (List ℕ)) → All IsLexeme (listed names) → All IsName names
of_listed names h = of_words names (front_of (words names) (Close ∷ []) (All-tail IsLexeme Open (words names ++ Close ∷ []) h))

of_inputs : (inputs : Option (List (List ℕ))) → All IsLexeme (listed_or_none inputs) → All IsName (names_of_inputs inputs)
of_inputs None h = All-nil IsName
of_inputs (Some names) h = of_listed names h

of_one : (breeds : List (List ℕ)) (d : Declaration) (ls : List Lexeme) → Spells breeds d ls → All IsLexeme ls → All IsName (names_of d)
of_one breeds (Globals names) ls h a = of_listed names (All-tail IsLexeme _ (listed names) (subst (All IsLexeme) h a))
of_one breeds (Own o names) ls h a = of_listed names (All-tail IsLexeme _ (listed names) (subst (All IsLexeme) h.1.1 a))
of_one breeds (Breed s plural singular) ls h a = of_listed (plural ∷ singular ∷ []) (All-tail IsLexeme _ (listed (plural ∷ singular ∷ [])) (subst (All IsLexeme) h a))
of_one breeds (Procedure r name inputs tokens) ls h a =
    let rest : List Lexeme = listed_or_none inputs ++ h.0 ++ Word (codes "end") ∷ [] in
    let b = All-tail IsLexeme _ (Word name ∷ rest) (subst (All IsLexeme) h.1.2 a) in
    All-cons IsName name (names_of_inputs inputs) (All-head IsLexeme (Word name) rest b)
    (of_inputs inputs (front_of (listed_or_none inputs) h.0 (front_of (listed_or_none inputs ++ h.0) _ (All-tail IsLexeme (Word name) rest b))))

of_all : (ds : List Declaration) (breeds : List (List ℕ)) (ls : List Lexeme) → SpellAll breeds ds ls → All IsLexeme ls → All IsName (names_in ds)
of_all [] breeds ls h a = All-nil IsName
of_all (d ∷ ds) breeds ls h a =
    let b = subst (All IsLexeme) h.2.0 a in
    All-append IsName (names_of d) (names_in ds) (of_one breeds d h.0 h.2.1 (front_of h.0 h.1 b)) (of_all ds (breeds ++ plural_of d) h.1 h.2.2 (rest_of h.0 h.1 b))

pub names_are_names : NamesAreNames
names_are_names ls ds h a = of_all ds [] ls h a

-- the lexemes of a text are what a text can have
pub lexemes_plain : (text : List ℕ) (ts : List Token) → All IsToken (plain_tokens text ts) → All IsLexeme (lexemes_of text ts)
lexemes_plain text [] h = All-nil IsLexeme
lexemes_plain text (t ∷ ts) h =
    All-cons IsLexeme (lexeme_of text t) (lexemes_of text ts) (All-head IsToken (plain_token text t) (plain_tokens text ts) h)
    (lexemes_plain text ts (All-tail IsToken (plain_token text t) (plain_tokens text ts) h))
