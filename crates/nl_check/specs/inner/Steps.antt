-- A text as a row of steps.
use Rattle.std.specs.Prelude.{ℕ, Bool, true, false, not, ◌||◌, List, [], ◌∷◌, ◌++◌, Option, Some, None}
use Rattle.nl_fixed.specs.declared.span.Span.{Span}
use Rattle.nl_words.specs.declared.entry.Kinds.{Kinds}
use Rattle.nl_words.specs.declared.entry.Manner.{Manner}
use Rattle.nl_words.specs.declared.entry.Manner.TheVariants as manner
use Rattle.nl_words.specs.Kinds.{everyone}
use Rattle.nl_tree.specs.declared.declared.What.{What}
use Rattle.nl_tree.specs.declared.declared.What.TheVariants as what
use Rattle.nl_tree.specs.Term.{Term}
use Rattle.nl_tree.specs.Vocabulary.{term_named}
use Rattle.nl_tree.specs.Context.{Piece, Pieces, use_of, block_of, no_piece, a_piece, packed, row_of_term, fixed_by, leaving_by, is_on_patches}
use Rattle.nl_check.specs.declared.step.Use.{Use}
use Rattle.nl_check.specs.declared.step.Step.{Step}
use Rattle.nl_check.specs.declared.step.Step.TheVariants as step

abbrev pub runs_of : Option Term → Kinds
runs_of None = everyone
runs_of (Some t) = t.runs

abbrev pub call_of : What → Option ℕ
call_of (what.Procedure n) = Some n
call_of (what.Base code) = None
call_of (what.Global n) = None
call_of (what.Own n) = None
call_of (what.Made n code) = None

abbrev pub calls_of : Option Term → Option ℕ
calls_of None = None
calls_of (Some t) = call_of t.what

-- the row that counts for who may run the text
abbrev pub counted : Manner → Option Term → Option Term
counted manner.Run o = o
counted manner.Set o = o
counted manner.Spread o = None

-- the word is a variable that may not stand there
abbrev pub unsettable_by : Manner → Option Term → Bool
unsettable_by manner.Run o = false
unsettable_by manner.Set o = fixed_by (row_of_term o)
unsettable_by manner.Spread o = fixed_by (row_of_term o) || not (is_on_patches o)

-- a word of this row in its place
abbrev pub used_as : Option Term → Bool → Span → Manner → Use
used_as o inner s m =
    record {
      span = s;
      runs = runs_of (counted m o);
      calls = calls_of (counted m o);
      unsettable = unsettable_by m o;
      leaving = leaving_by (row_of_term o);
      inner = inner;
    }

abbrev mutual
  pub piece_steps : List Term → Bool → Piece → List Step
  piece_steps table inner (use_of w s m) = step.Word (used_as (term_named table w) inner s m) ∷ []
  piece_steps table inner (block_of first ps) = step.Open first ∷ (pieces_steps table true ps ++ step.Close ∷ [])

  pub pieces_steps : List Term → Bool → Pieces → List Step
  pieces_steps table inner no_piece = []
  pieces_steps table inner (a_piece p ps) = piece_steps table inner p ++ pieces_steps table inner ps

-- the steps of a text's pieces; whether these stand in a block that other agents run
abbrev pub steps_of : List Term → Bool → List Piece → List Step
steps_of table inner ps = pieces_steps table inner (packed ps)
