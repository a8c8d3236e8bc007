-- What is told of names that the reader's frames make.
use Rattle.std.specs.Prelude.{◌≡◌, Bool, ◌||◌, List, [], ◌∷◌}
use Rattle.nl_fixed.specs.Nouns.{Name, Names}
use Rattle.nl_tree.specs.Tree.{Node}
use Rattle.nl_tree.specs.Grammar.{top}
use Rattle.nl_tree.specs.Vocabulary.{among}
use Rattle.nl_parse_grammar.specs.Fault.{known_got}
use Rattle.nl_parse_grammar.specs.Machine as M
use Rattle.nl_parse_grammar.specs.Machine.{settle, got}
use Rattle.nl_parse_reading.specs.inner.Reading.{frame_of, frames_onto}
use Rattle.nl_parse_grammar.specs.declared.pending.Shape.{Shape}
use Rattle.nl_parse_reading.specs.declared.frames.Frame.{Frame}

-- with names over others this name is known where it is one of the others or, as told, one of these
abbrev pub Makes : Name → Bool → (Names → Names) → Type 0
Makes name told over = (e : Names) → among name (over e) ≡ (told || among name e)

-- behind a tree that these frames wait for it is known where it was or, as told, by a `let` whose value the tree ends
abbrev pub MakesNext : Name → Bool → List Frame → Type 0
MakesNext name told frames =
    (e known : Names) (x : Shape) (t : Node) → among name (known_got known (settle top x t (frames_onto frames e []))) ≡ (told || among name known)

-- and behind one that this frame waits for
abbrev pub MakesBehind : Name → Bool → Frame → Type 0
MakesBehind name told frame =
    (e known : Names) (below : List M.Frame) (x : Shape) (t : Node) → among name (known_got known (got x t (frame_of e frame ∷ below))) ≡ (told || among name known)
