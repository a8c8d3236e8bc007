-- Depths that are told of the reader's frames, up to the first one that is too great.
use Rattle.std.specs.Prelude.{◌≡◌, ℕ, List, [], ◌∷◌}
use Rattle.nl_fixed.specs.Nouns.{Names}
use Rattle.nl_parse_grammar.specs.Machine as M
use Rattle.nl_parse_reading.specs.inner.Limit.{capped}
use Rattle.nl_parse_reading.specs.inner.Reading.{frame_of, frames_onto, names_onto}
use Rattle.nl_parse_reading.specs.declared.frames.Frame.{Frame}

-- this is a depth of what a frame is to the machine
abbrev pub IsFrameDepth : ℕ → (M.Frame → ℕ) → Frame → Type 0
IsFrameDepth told of f = (e : Names) → told ≡ capped (of (frame_of e f))

-- and one of what frames are to it
abbrev pub IsDepth : ℕ → (List M.Frame → ℕ) → List Frame → Type 0
IsDepth told of frames = (e : Names) → told ≡ capped (of (frames_onto frames e []))

-- and one of them with another frame on top
abbrev pub IsDepthOn : ℕ → (List M.Frame → ℕ) → Frame → List Frame → Type 0
IsDepthOn told of f below = (e : Names) → told ≡ capped (of (frame_of (names_onto below e) f ∷ frames_onto below e []))
