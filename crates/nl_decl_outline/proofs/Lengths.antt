-- Declarations have as many tokens as they are read from.
use Rattle.std.proofs.Common.{◌≡◌, ℕ, suc, ◌+◌, List, [], ◌∷◌, ◌++◌, Option, Some, None, length, refl, ◌∙◌, ap, arith, length-append}
use Rattle.std.specs.Prelude.{codes}
use Rattle.nl_tree.specs.Tokens.{Lexeme, Word, Close}
use Rattle.nl_decl_outline.specs.declared.declaration.Declaration.{Declaration}
use Rattle.nl_decl_outline.specs.declared.declaration.Declaration.TheVariants.{Globals, Own, Breed, Procedure}
use Rattle.nl_decl_outline.specs.Declarations.{plural_of, words, listed, listed_or_none, Spells, SpellAll}
use Rattle.nl_decl_outline.specs.Laws.{DeclarationsHaveLengths}
use Rattle.nl_decl_outline.specs.Lengths.{inputs_length, length_of, total_length}

pub words_length : (names : List (List ℕ)) → length (words names) ≡ length names
words_length [] = refl
words_length (w ∷ names) = ap suc (words_length names)

pub listed_length : (names : List (List ℕ)) → length (listed names) ≡ length names + 2
listed_length names = omega (arith, words_length names, length-append (words names) (Close ∷ []))

pub inputs_long : (inputs : Option (List (List ℕ))) → length (listed_or_none inputs) ≡ inputs_length inputs
inputs_long None = refl
inputs_long (Some names) = listed_length names

pub size : (breeds : List (List ℕ)) (d : Declaration) (ls : List Lexeme) → Spells breeds d ls → length ls ≡ length_of d
size breeds (Globals names) ls h = ap length h ∙ (omega (arith, listed_length names))
size breeds (Own o names) ls h = ap length h.1.1 ∙ (omega (arith, listed_length names))
size breeds (Breed s plural singular) ls h = ap length h
size breeds (Procedure r name inputs tokens) ls h =
    ap length h.1.2
    ∙ omega (arith, h.1.1, inputs_long inputs, length-append (listed_or_none inputs ++ h.0) (Word (codes "end") ∷ []), length-append (listed_or_none inputs) h.0)

pub all_length : (breeds : List (List ℕ)) (ds : List Declaration) (ls : List Lexeme) → SpellAll breeds ds ls → length ls ≡ total_length ds
all_length breeds [] ls is = ap length is
all_length breeds (d ∷ ds) ls (front, rest, (is, spelled, more)) =
    let one = size breeds d front spelled in
    let others = all_length (breeds ++ plural_of d) ds rest more in
    ap length is ∙ length-append front rest ∙ omega (arith, one, others)

pub have_lengths : DeclarationsHaveLengths
have_lengths ls ds are = all_length [] ds ls are
