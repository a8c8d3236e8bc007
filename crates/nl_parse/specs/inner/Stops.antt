-- Where the reader stops, and the machine with it.
use Rattle.std.specs.Prelude.{◌≡◌, ℕ, ◌<◌, ◌≤◌, List, [], ◌∷◌, take, slice_get, Some}
use Rattle.nl_fixed.specs.Nouns.{Bytes}
use Rattle.nl_fixed.specs.declared.span.Span.{Span}
use Rattle.nl_scan.specs.declared.token.Token.{Token as Scanned}
use Rattle.nl_tree.specs.declared.faults.BodyKind.{BodyKind}
use Rattle.nl_tree.specs.Term.{Term}
use Rattle.nl_tree.specs.Tokens.{Tok, mark, marked}
use Rattle.nl_tree.specs.BodyFault.{deepest}
use Rattle.nl_parse_grammar.specs.Texts.{plain_token, plain_tokens}
use Rattle.nl_parse_grammar.specs.Machine.{State, go, stop, feed, run_from}
use Rattle.nl_parse_grammar.specs.Depth.{least_depth}
use Rattle.nl_parse_grammar.specs.Fault.{kind_at}
use Rattle.nl_parse.specs.declared.body.BodyRefusal.{BodyRefusal}

-- the machine stops at the token for this reason, or goes to where no tree is allowed any more
abbrev pub Stops : State → Tok → BodyKind → Type 0
Stops s tok BodyKind.TooDeep = (z : State) × ((feed s tok ≡ go z) × (deepest < least_depth z))
Stops s tok kind = (feed s tok ≡ stop) × (kind_at s tok ≡ kind)

-- and it does so at the token that stands at this place
abbrev pub StopsAt : State → Tok → ℕ → BodyRefusal → Type 0
StopsAt s tok place (BodyRefusal.Fault kind k) = (k ≡ place) × Stops s tok kind
StopsAt s tok place BodyRefusal.NoMemory = Unit {0}

-- and it goes to there from an earlier state, over the tokens of a text before that place
abbrev pub StopsIn : List Term → Bytes → State → List Scanned → BodyRefusal → Type 0
StopsIn table text s ts (BodyRefusal.Fault kind k) =
    (z : State) × (t : Scanned)
    × ((slice_get ts k ≡ Some t) × (run_from (go s) (take k (marked table (plain_tokens text ts))) ≡ go z) × (least_depth z ≤ deepest) × Stops z (mark table (plain_token text t)) kind)
StopsIn table text s ts BodyRefusal.NoMemory = Unit {0}

-- where the first token stands, or what ends them
abbrev pub first_span : List Scanned → Span → Span
first_span [] e = e
first_span (t ∷ ts) e = t.span
