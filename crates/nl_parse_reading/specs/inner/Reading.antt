-- What a reader between two tokens stands for.
use Rattle.std.specs.Prelude.{List, [], ◌∷◌, Option, Some, None}
use Rattle.nl_fixed.specs.Nouns.{Name, Names}
use Rattle.nl_parse_grammar.specs.Machine as M
use Rattle.nl_parse_reading.specs.inner.View.{needs_of}
use Rattle.nl_parse_reading.specs.declared.frames.Frame.{Frame}
use Rattle.nl_parse_reading.specs.declared.frames.Mode.{Mode}

-- a frame, with the names that are known outside of it
abbrev pub frame_of : Names → Frame → M.Frame
frame_of e (Frame.Binary l h t) = M.InBinary l h.name h.place t
frame_of e (Frame.With h t) = M.InWith h.name h.place t
frame_of e (Frame.Near h ts n) = M.InNear h.name h.place ts n
frame_of e (Frame.Of h t) = M.InOf h.name h.place t
frame_of e (Frame.Call h ts i is last) = M.InCall h.name h.place ts i (needs_of is) last
frame_of e (Frame.LastItem h ts) = M.InLastItem h.name h.place ts
frame_of e (Frame.LastBlock h ts b) = M.InLastBlock h.name h.place ts b
frame_of e (Frame.Many h ts n) = M.InMany h.name h.place ts n
frame_of e (Frame.Items p l s ts) = M.InItems p l s ts
frame_of e (Frame.Paren p) = M.InParen p
frame_of e (Frame.Minus p s) = M.InMinus p s
frame_of e (Frame.Reporter s) = M.InReporter s
frame_of e (Frame.NoHead s n) = M.InNoHead s n
frame_of e (Frame.ArrowReporter s ns) = M.InArrowReporter s e ns
frame_of e (Frame.ArrowCommands s ns made ts) = M.InArrowCommands s e ns ts
frame_of e (Frame.Bracket s) = M.InBracket s
frame_of e (Frame.List s ts) = M.InList s ts
frame_of e (Frame.Let h n) = M.InLet h.name h.place n.name n.place
frame_of e (Frame.StatementParen p) = M.InStatementParen p
frame_of e (Frame.Statements s k made ts) = M.InStatements s k e ts

-- these names, the newest last, and those known before
abbrev pub made_over : Names → Names → Names
made_over [] e = e
made_over (n ∷ ns) e = made_over ns (n ∷ e)

-- the names known inside a frame
abbrev pub names_with : Frame → Names → Names
names_with (Frame.Statements s k made ts) e = made_over made e
names_with (Frame.ArrowReporter s ns) e = made_over ns e
names_with (Frame.ArrowCommands s ns made ts) e = made_over made e
names_with f e = e

abbrev pub names_within : Option Frame → Names → Names
names_within None e = e
names_within (Some f) e = names_with f e

-- a name that may have been made
abbrev pub maybe_over : Option Name → Names → Names
maybe_over None e = e
maybe_over (Some n) e = n ∷ e

-- a mode, with the names that are known in the newest frame
abbrev pub mode_of : Names → Mode → M.Mode
mode_of e Mode.Begin = M.Begin
mode_of e (Mode.Opening b) = M.Opening b
mode_of e (Mode.Heading k n s) = M.Heading k n s
mode_of e (Mode.InHead k n s ns) = M.InHead k n s e ns
mode_of e (Mode.Behind k s ns) = M.Behind k s e ns
mode_of e Mode.Optional = M.Optional
mode_of e Mode.Choosing = M.Choosing
mode_of e (Mode.Have x t) = M.Have x t
mode_of e (Mode.Blocked t) = M.Blocked t
mode_of e (Mode.Shut x t) = M.Shut x t
mode_of e Mode.Listing = M.Listing
mode_of e Mode.Stating = M.Stating
mode_of e (Mode.Naming h) = M.Naming h.name h.place
mode_of e (Mode.Ended t made) = M.Ended t
mode_of e (Mode.Over t) = M.Over t
mode_of e (Mode.Dead f made) = M.Dead

abbrev pub mode_names : Mode → Names → Names
mode_names (Mode.InHead k n s ns) e = made_over ns e
mode_names (Mode.Behind k s ns) e = made_over ns e
mode_names (Mode.Ended t made) e = maybe_over made e
mode_names (Mode.Dead f made) e = maybe_over made (names_within f e)
mode_names m e = e

-- frames, the newest last in the code and first in the machine, over those below and the names known there
abbrev pub frames_onto : List Frame → Names → List M.Frame → List M.Frame
frames_onto [] e K = K
frames_onto (f ∷ fs) e K = frames_onto fs (names_with f e) (frame_of e f ∷ K)

abbrev pub names_onto : List Frame → Names → Names
names_onto [] e = e
names_onto (f ∷ fs) e = names_onto fs (names_with f e)
