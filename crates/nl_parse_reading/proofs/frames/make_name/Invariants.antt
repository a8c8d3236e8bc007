use Rattle.std.proofs.Common.{◌≡◌, ℕ, List, take}
use Rattle.nl_tree.specs.Vocabulary.{among}
use Rattle.nl_parse_reading.specs.inner.Reading.{names_onto}
use Rattle.nl_parse_reading.proofs.frames.make_name.Given as goal

abbrev pub invariant-frames : goal.invariant-frames
invariant-frames l = (e : List (List ℕ)) → among l.name (names_onto (take l.frame-index l.frames) e) ≡ among l.name e
