-- Where the machine stops, and why.
use Rattle.std.specs.Prelude.{ℕ, Bool, true, false, List, ◌∷◌, take}
use Rattle.nl_fixed.specs.Nouns.{Names}
use Rattle.nl_tree.specs.declared.declared.Form.{Form}
use Rattle.nl_tree.specs.Term.{Term}
use Rattle.nl_tree.specs.Vocabulary.{among}
use Rattle.nl_tree.specs.Tokens.{Unknown, Tok, word, Token, marked}
use Rattle.nl_tree.specs.Grammar.{top, span_of_first}
use Rattle.nl_tree.specs.declared.faults.BodyKind.{BodyKind}
use Rattle.nl_tree.specs.declared.faults.BodyKind.TheVariants.{UnknownName, Unexpected}
use Rattle.nl_parse_grammar.specs.Machine.{InLet, Have, State, st, Step, Got, got, settle, run, start}

-- the step to which the first `k` of the tokens lead
abbrev pub reading_to : Form → Names → List Term → List Token → ℕ → Step
reading_to form names table ts k = run (start form names (span_of_first (marked table ts))) (take k (marked table ts))

-- The names that are known in a reading that is still open: where a chain is the value of a `let`, and may be all of it, the new name is
-- known behind it.
abbrev pub known_got : Names → Got → Names
known_got e (got x t (InLet w s n r ∷ K)) = n ∷ e
known_got e g = e

abbrev pub known : State → Names
known (st (Have x t) e K) = known_got e (settle top x t K)
known (st m e K) = e

abbrev pub unknown_kind : Bool → BodyKind
unknown_kind true = Unexpected
unknown_kind false = UnknownName

-- why a token can't follow
abbrev pub kind_at : State → Tok → BodyKind
kind_at s (word w Unknown r) = unknown_kind (among w (known s))
kind_at s tok = Unexpected
