-- What holds of all that is held while a text runs: values and agents fit the world, and a walk's last step is shorter than 1.
use Rattle.std.specs.Prelude.{◌≡◌, false, ⊤, ℕ, ◌<◌, ◌++◌, IsTrue, List, [], ◌∷◌, drop}
use Rattle.std.specs.List.{list_all}
use Rattle.std.specs.List.Sorted.{IsStrictlyIncreasing}
use Rattle.nl_fixed.specs.Numbers.{one}
use Rattle.nl_value.specs.Views.{plain}
use Rattle.nl_agents.specs.declared.store.Store.{Ghosts}
use Rattle.nl_exec_meaning.specs.Kept.{Kept}
use Rattle.nl_value.specs.declared.sets.AgentKind.{AgentKind}
use Rattle.nl_value.specs.declared.sets.AgentKind.TheVariants as kind
use Rattle.nl_exec_meaning.specs.Ground.{Ground, fits, all_fit, patch_in, SiteFits}
use Rattle.nl_exec_meaning.specs.declared.rounds.Rounds.{Rounds}
use Rattle.nl_exec_meaning.specs.declared.words.Arrow.{Arrow}
use Rattle.nl_exec_meaning.specs.declared.turns.Turns.{Turns}
use Rattle.nl_exec_meaning.specs.Walks.{Answer as Told, members_kept}
use Rattle.nl_exec_meaning.specs.declared.turns.Gathered.{Gathered}
use Rattle.nl_exec_meaning.specs.declared.turns.Gathered.TheVariants as gathered
use Rattle.nl_exec_meaning.specs.Rounds.{RoundsStand, is_over}
use Rattle.nl_exec_meaning.specs.Sound.{MakingStands}
use Rattle.nl_exec_meaning.specs.Seen.{ground}
use Rattle.nl_exec_meaning.specs.declared.exits.Exit.{Exit}
use Rattle.nl_exec_meaning.specs.declared.exits.Exit.TheVariants.{Gives, Stopped, Reported, Left, Error}
use Rattle.nl_exec_meaning.specs.declared.hands.Hands.{Hands}
use Rattle.nl_exec_meaning.specs.declared.frames.Frame.{Frame}
use Rattle.nl_exec_meaning.specs.declared.frames.Frame.TheVariants as frame
use Rattle.nl_exec_meaning.specs.declared.frames.Next.{Next}
use Rattle.nl_exec_meaning.specs.declared.frames.Next.TheVariants.{Answer, Go, Want, Tick}

abbrev pub LocalsFit : Ground → List Kept → Type 0
LocalsFit g ks = IsTrue (list_all (λ k. fits g k.value) ks)

abbrev pub ExitFits : Ground → Exit → Type 0
ExitFits g (Gives value) = IsTrue (fits g (plain value))
ExitFits g (Reported value) = IsTrue (fits g (plain value))
ExitFits g Stopped = ⊤
ExitFits g Left = ⊤
ExitFits g (Error kind at body) = ⊤

-- members that are patches are patches of the world
abbrev pub MembersFit : Ground → AgentKind → List ℕ → Type 0
MembersFit g kind.Patch numbers = IsTrue (list_all (patch_in g) numbers)
MembersFit g kind.Turtle numbers = ⊤
MembersFit g kind.Link numbers = ⊤

pub record TurnsFit (g : Ground) (turns : Turns) : Type 0 where
  pub members : MembersFit g turns.which turns.members
  pub site : SiteFits g turns.site

-- members of which a set is made ascend
abbrev pub MembersAscend : Gathered → List ℕ → Type 0
MembersAscend (gathered.OfSet word) numbers = IsStrictlyIncreasing numbers
MembersAscend (gathered.Several up number) numbers = IsStrictlyIncreasing numbers
MembersAscend (gathered.OfAll several) numbers = ⊤

-- the turns fit, and so do those who answered, with their values, and the one who answers now
pub record AnsweringFits (g : Ground) (member : ℕ) (ts : Turns) (made : List Told) : Type 0 where
  pub turns : TurnsFit g ts
  pub values : IsTrue (list_all (λ a. fits g a.value) made)
  pub members : MembersFit g ts.which (members_kept made ++ member ∷ [])

-- the places of turns are those of what they go over
pub record RoundsFit (g : Ground) (word : Arrow) (rounds : Rounds) : Type 0 where
  pub over : IsTrue (all_fit g rounds.over)
  pub made : IsTrue (all_fit g rounds.made)
  pub stand : RoundsStand word rounds

abbrev pub FrameFits : Ground → Frame → Type 0
FrameFits g (frame.Part node at made) = IsTrue (all_fit g made)
FrameFits g (frame.Body node reporter saved site) = LocalsFit g saved × SiteFits g site
FrameFits g (frame.SomeSet node word up number) = IsTrue (fits g number)
FrameFits g (frame.Asked node index turns) = TurnsFit g turns
FrameFits g (frame.Answering node index word member turns made what) =
    AnsweringFits g member turns made × MembersAscend what (members_kept made ++ member ∷ drop turns.at turns.members)
FrameFits g (frame.MakingInput node word breed runs) = MakingStands g.layout runs breed word
FrameFits g (frame.Step node turtle by left rest way) = rest < one
FrameFits g (frame.ArrowInput node word at made) = IsTrue (all_fit g made)
FrameFits g (frame.RoundWanted node index word rounds) = RoundsFit g word rounds × (is_over word rounds ≡ false)
FrameFits g (frame.Round node index word kept rounds) = RoundsFit g word rounds × (is_over word rounds ≡ false)
FrameFits g f = ⊤

-- nothing has to hold of what is in the frame
abbrev pub HoldsNothing : Frame → Type 0
HoldsNothing (frame.Part node at made) = ⊥
HoldsNothing (frame.Body node reporter saved site) = ⊥
HoldsNothing (frame.SomeSet node word up number) = ⊥
HoldsNothing (frame.Asked node index turns) = ⊥
HoldsNothing (frame.Answering node index word member turns made what) = ⊥
HoldsNothing (frame.MakingInput node word breed runs) = ⊥
HoldsNothing (frame.Step node turtle by left rest way) = ⊥
HoldsNothing (frame.ArrowInput node word at made) = ⊥
HoldsNothing (frame.RoundWanted node index word rounds) = ⊥
HoldsNothing (frame.Round node index word kept rounds) = ⊥
HoldsNothing f = ⊤

abbrev pub NextFits : Ground → Next → Type 0
NextFits g (Answer exit) = ExitFits g exit
NextFits g (Go f node) = FrameFits g f
NextFits g (Want f node) = FrameFits g f
NextFits g (Tick f) = FrameFits g f

pub record HandsFit {S : Type 0} {G : Ghosts S} (h : Hands S G) : Type 0 where
  pub locals : LocalsFit (ground h) h.locals
  pub site : SiteFits (ground h) h.site
