-- Declarations, and the tokens that spell them.
-- Which declarations there are, and that a procedure's body ends at the next word `end`, is that of the NetLogo Programming Guide
-- ("Procedures", "Variables", "Breeds"). That a bracket behind a procedure's name opens its inputs, that the variables of a breed are declared
-- behind the breed, and where a text that is no list of declarations is refused, is this project's own choice.
use Rattle.std.specs.Prelude.{◌≡◌, ℕ, ◌+◌, ◌<◌, Bool, true, false, not, ◌&&◌, ◌⊎◌, if◌then◌else◌, IsTrue, List, [], ◌∷◌, ◌++◌, Option, Some, None, length, map, take, bytes_eq, codes}
use Rattle.std.specs.List.{list_all}
use Rattle.nl_fixed.specs.Nouns.{Name, Names}
use Rattle.nl_decl_outline.specs.declared.declaration.Sort.{Sort}
use Rattle.nl_decl_outline.specs.declared.declaration.Sort.TheVariants as sort
use Rattle.nl_decl_outline.specs.declared.declaration.Owner.{Owner}
use Rattle.nl_decl_outline.specs.declared.declaration.Owner.TheVariants as owner
use Rattle.nl_decl_outline.specs.declared.declaration.Declaration.{Declaration}
use Rattle.nl_decl_outline.specs.declared.declaration.Declaration.TheVariants.{Globals, Own, Breed, Procedure}
use Rattle.nl_tree.specs.Tokens.{Lexeme, Word, Number, Text, Open, Close, OpenParen, CloseParen, End}

-- the plurals of the breeds that these declare, in order
abbrev pub plural_of : Declaration → Names
plural_of (Breed s plural singular) = plural ∷ []
plural_of (Globals names) = []
plural_of (Own o names) = []
plural_of (Procedure reporter name inputs tokens) = []

abbrev pub plurals : List Declaration → Names
plurals [] = []
plurals (d ∷ ds) = plural_of d ++ plurals ds

-- `-own` behind a plural
abbrev pub owning : Name → Name
owning plural = plural ++ codes "-own"

-- the place of the first breed of these whose variables the word declares
abbrev pub one_later : Option ℕ → Option ℕ
one_later None = None
one_later (Some n) = Some (n + 1)

abbrev pub breed_owning : Names → Name → Option ℕ
breed_owning [] word = None
breed_owning (p ∷ ps) word = if bytes_eq (owning p) word then Some 0 else one_later (breed_owning ps word)

abbrev pub owner_of_breed : Option ℕ → Option Owner
owner_of_breed None = None
owner_of_breed (Some n) = Some (owner.BreedAt n)

-- whose variables a word declares, where these breeds are declared before it
abbrev pub owner_by : Names → Name → Option Owner
owner_by breeds word =
    if bytes_eq word (codes "turtles-own") then Some owner.AllTurtles
    else (if bytes_eq word (codes "patches-own") then Some owner.AllPatches
    else (if bytes_eq word (codes "links-own") then Some owner.AllLinks
    else owner_of_breed (breed_owning breeds word)))

abbrev pub word_of_sort : Sort → Name
word_of_sort sort.Turtles = codes "breed"
word_of_sort sort.Directed = codes "directed-link-breed"
word_of_sort sort.Undirected = codes "undirected-link-breed"

abbrev pub word_of_procedure : Bool → Name
word_of_procedure true = codes "to-report"
word_of_procedure false = codes "to"

-- names between brackets
abbrev pub words : Names → List Lexeme
words names = map Word names

abbrev pub listed : Names → List Lexeme
listed names = Open ∷ words names ++ Close ∷ []

abbrev pub listed_or_none : Option (Names) → List Lexeme
listed_or_none None = []
listed_or_none (Some names) = listed names

abbrev pub is_end : Lexeme → Bool
is_end (Word w) = bytes_eq w (codes "end")
is_end (Number n) = false
is_end (Text bytes) = false
is_end Open = false
is_end Close = false
is_end OpenParen = false
is_end CloseParen = false
is_end End = false

abbrev pub is_open : Lexeme → Bool
is_open Open = true
is_open (Word w) = false
is_open (Number n) = false
is_open (Text bytes) = false
is_open Close = false
is_open OpenParen = false
is_open CloseParen = false
is_open End = false

abbrev pub begins_open : List Lexeme → Bool
begins_open [] = false
begins_open (l ∷ ls) = is_open l

-- A body has no word `end`. A bracket at its start would be that of inputs, where there are none.
abbrev pub is_body : Option (Names) → List Lexeme → Bool
is_body None body = not (begins_open body) && list_all (λ l. not (is_end l)) body
is_body (Some names) body = list_all (λ l. not (is_end l)) body

-- the tokens are this declaration's, behind breeds with these plurals
abbrev pub Spells : Names → Declaration → List Lexeme → Type 0
Spells breeds (Globals names) ls = ls ≡ Word (codes "globals") ∷ listed names
Spells breeds (Own o names) ls = (word : Name) × ((owner_by breeds word ≡ Some o) × (ls ≡ Word word ∷ listed names))
Spells breeds (Breed s plural singular) ls = ls ≡ Word (word_of_sort s) ∷ listed (plural ∷ singular ∷ [])
Spells breeds (Procedure reporter name inputs tokens) ls =
    (body : List Lexeme)
    × (IsTrue (is_body inputs body) × (length body ≡ tokens)
    × (ls ≡ Word (word_of_procedure reporter) ∷ Word name ∷ listed_or_none inputs ++ body ++ Word (codes "end") ∷ []))

-- the tokens are these declarations', one after another, behind breeds with these plurals
abbrev pub SpellAll : Names → List Declaration → List Lexeme → Type 0
SpellAll breeds [] ls = ls ≡ []
SpellAll breeds (d ∷ ds) ls =
    (front : List Lexeme) × (rest : List Lexeme) × ((ls ≡ front ++ rest) × Spells breeds d front × SpellAll (breeds ++ plural_of d) ds rest)

abbrev pub AreDeclarations : List Lexeme → List Declaration → Type 0
AreDeclarations ls ds = SpellAll [] ds ls

-- tokens that begin a list of declarations
abbrev pub BeginsDeclarations : List Lexeme → Type 0
BeginsDeclarations ls = (more : List Lexeme) × (ds : List Declaration) × AreDeclarations (ls ++ more) ds

-- The first token with which the tokens begin no list of declarations, or the text's end where they only begin one.
abbrev pub IsBadPlace : List Lexeme → ℕ → Type 0
IsBadPlace ls k =
    BeginsDeclarations (take k ls)
    × (((k < length ls) × (BeginsDeclarations (take (k + 1) ls) → ⊥))
    ⊎ ((k ≡ length ls) × ((ds : List Declaration) → AreDeclarations ls ds → ⊥)))
