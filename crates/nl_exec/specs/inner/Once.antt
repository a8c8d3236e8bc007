-- That levels fit the world can be shown in one way only, so that a machine may keep it as a fact.
use Rattle.std.specs.Prelude.{Bool, ℕ, true, false, IsTrue, List, [], ◌∷◌, ◌++◌, drop, Option}
use Rattle.std.specs.Coded.{×_prop, Π_prop, Unit-prop, le_prop, Coded-set, coded_bool, coded_ℕ}
use Rattle.std.specs.List.{list_all}
use Rattle.std.specs.List.Sorted.{IsStrictlyIncreasing}
use Rattle.nl_words.specs.declared.entry.Kinds.{Kinds}
use Rattle.nl_value.specs.declared.sets.AgentKind.{AgentKind}
use Rattle.nl_value.specs.declared.sets.AgentKind.TheVariants as kind
use Rattle.nl_agents_layout.specs.Nouns.{BreedNumber}
use Rattle.nl_agents_layout.specs.declared.layout.Layout.{Layout}
use Rattle.nl_agents.specs.declared.store.Store.{Ghosts}
use Rattle.nl_exec_meaning.specs.declared.words.Making.{Making}
use Rattle.nl_exec_meaning.specs.declared.words.Making.TheVariants as making
use Rattle.nl_exec_meaning.specs.declared.sites.Site.{Site}
use Rattle.nl_exec_meaning.specs.Walks.{Answer as Told, members_kept}
use Rattle.nl_exec_meaning.specs.Ground.{Ground, SiteFits, fits, all_fit, agent_fits}
use Rattle.nl_exec_meaning.specs.Seen.{ground}
use Rattle.nl_exec_meaning.specs.Sound.{MakingStands}
use Rattle.nl_exec_meaning.specs.Standing.{AnsweringFits, FrameFits, MembersAscend, MembersFit, RoundsFit, TurnsFit}
use Rattle.nl_exec_meaning.specs.Rounds.{RoundsStand, is_over}
use Rattle.nl_exec_meaning.specs.declared.rounds.Rounds.{Rounds}
use Rattle.nl_exec_meaning.specs.declared.words.Arrow.{Arrow}
use Rattle.nl_exec_meaning.specs.declared.words.Arrow.TheVariants as arrow
use Rattle.nl_exec_meaning.specs.declared.hands.Hands.{Hands}
use Rattle.nl_exec_meaning.specs.declared.frames.Frame.{Frame}
use Rattle.nl_exec_meaning.specs.declared.frames.Frame.TheVariants as frame
use Rattle.nl_exec_meaning.specs.declared.turns.Gathered.{Gathered}
use Rattle.nl_exec_meaning.specs.declared.turns.Gathered.TheVariants as gathered
use Rattle.nl_exec_meaning.specs.declared.turns.Turns.{Turns}
use Rattle.nl_exec_levels.specs.declared.levels.Level.{Level}
use Rattle.nl_exec.specs.declared.phase.Phase.{Phase}
use Rattle.nl_exec_levels.specs.Steady.{LevelsFit}
use Rattle.nl_exec.specs.Keeping.{HeldIn}

true_once : (b : Bool) → IsProp (IsTrue b)
true_once b = Coded-set coded_bool b true

site_once : (g : Ground) (site : Site) → IsProp (SiteFits g site)
site_once g site = λ x y i. record {
  agent = true_once (agent_fits g site.agent) x.agent y.agent i;
  asker = true_once (agent_fits g site.asker) x.asker y.asker i;
}

members_once : (g : Ground) (which : AgentKind) (numbers : List ℕ) → IsProp (MembersFit g which numbers)
members_once g kind.Patch numbers = true_once _
members_once g kind.Turtle numbers = Unit-prop
members_once g kind.Link numbers = Unit-prop

turns_once : (g : Ground) (turns : Turns) → IsProp (TurnsFit g turns)
turns_once g turns = λ x y i. record {
  members = members_once g turns.which turns.members x.members y.members i;
  site = site_once g turns.site x.site y.site i;
}

answering_once : (g : Ground) (member : ℕ) (turns : Turns) (made : List Told) → IsProp (AnsweringFits g member turns made)
answering_once g member turns made = λ x y i. record {
  turns = turns_once g turns x.turns y.turns i;
  values = true_once (list_all (λ a. fits g a.value) made) x.values y.values i;
  members = members_once g turns.which (members_kept made ++ member ∷ []) x.members y.members i;
}

increasing_once : (numbers : List ℕ) → IsProp (IsStrictlyIncreasing numbers)
increasing_once numbers = Π_prop (λ k. Π_prop (λ within. le_prop))

ascend_once : (what : Gathered) (numbers : List ℕ) → IsProp (MembersAscend what numbers)
ascend_once (gathered.OfSet word) numbers = increasing_once numbers
ascend_once (gathered.Several up number) numbers = increasing_once numbers
ascend_once (gathered.OfAll several) numbers = Unit-prop

making_once : (layout : Layout) (runs : Kinds) (breed : Option BreedNumber) (word : Making) → IsProp (MakingStands layout runs breed word)
making_once layout runs breed (making.Create ordered) = true_once _
making_once layout runs breed making.Hatch = ×_prop (true_once _) (true_once _)
making_once layout runs breed making.Sprout = ×_prop (true_once _) (true_once _)
making_once layout runs breed (making.Link way one) = ×_prop (true_once _) (true_once _)

stand_once : (word : Arrow) (rounds : Rounds) → IsProp (RoundsStand word rounds)
stand_once arrow.ForEach rounds = true_once _
stand_once arrow.Map rounds = true_once _
stand_once arrow.Filter rounds = Coded-set coded_ℕ _ _
stand_once arrow.Reduce rounds = Coded-set coded_ℕ _ _
stand_once arrow.SortBy rounds = ×_prop (Coded-set coded_ℕ _ _) (Π_prop (λ within. ×_prop le_prop (Coded-set coded_bool _ false)))
stand_once arrow.NValues rounds = le_prop

rounds_once : (g : Ground) (word : Arrow) (rounds : Rounds) → IsProp (RoundsFit g word rounds)
rounds_once g word rounds = λ x y i. record {
  over = true_once (all_fit g rounds.over) x.over y.over i;
  made = true_once (all_fit g rounds.made) x.made y.made i;
  stand = stand_once word rounds x.stand y.stand i;
}

frame_once : (g : Ground) (f : Frame) → IsProp (FrameFits g f)
frame_once g (frame.Part node at made) = true_once _
frame_once g (frame.Body node reporter saved site) = ×_prop (true_once _) (site_once g site)
frame_once g (frame.SomeSet node word up number) = true_once _
frame_once g (frame.Asked node index turns) = turns_once g turns
frame_once g (frame.Answering node index word member turns made what) =
    ×_prop (answering_once g member turns made) (ascend_once what (members_kept made ++ member ∷ drop turns.at turns.members))
frame_once g (frame.MakingInput node word breed runs) = making_once g.layout runs breed word
frame_once g (frame.Step node turtle by left rest way) = le_prop
frame_once g (frame.ArrowInput node word at made) = true_once _
frame_once g (frame.RoundWanted node index word rounds) = ×_prop (rounds_once g word rounds) (Coded-set coded_bool (is_over word rounds) false)
frame_once g (frame.Round node index word kept rounds) = ×_prop (rounds_once g word rounds) (Coded-set coded_bool (is_over word rounds) false)
frame_once g f = Unit-prop

levels_once : (g : Ground) (levels : List Level) → IsProp (LevelsFit g levels)
levels_once g [] = Unit-prop
levels_once g (l ∷ ls) = ×_prop (frame_once g l.frame) (levels_once g ls)

pub held_once : {S : Type 0} {G : Ghosts S} (p : Phase) (h : Hands S G) (levels : List Level) → IsProp (HeldIn p h levels)
held_once p h levels = Π_prop (λ well. levels_once (ground h) levels)
