-- What frames mean: the rest of a node's case, once the child that runs has ended. The limits on values, which hold for all cases alike, are
-- not in it.
use Rattle.std.specs.Prelude.{ℕ, ◌++◌, ◌||◌, Bool, true, false, neg_ℤ, ℤ, List, [], ◌∷◌, drop, map, slice_get}
use Rattle.nl_fixed.specs.declared.span.Span.{Span}
use Rattle.nl_value.specs.Plain.{Plain, PlainNumber, PlainTruth, PlainItems, plains}
use Rattle.nl_value.specs.Sets.{set_kind}
use Rattle.nl_value.specs.declared.sets.AgentKind.{AgentKind}
use Rattle.nl_value.specs.declared.sets.AgentSet.{AgentSet}
use Rattle.nl_tree.specs.Tree.{Node, label, span, parts}
use Rattle.nl_tree.specs.Checked.{Checked}
use Rattle.nl_birth.specs.Births.{count_of}
use Rattle.nl_motion.specs.Motion.{step_end}
use Rattle.nl_motion.specs.Diffusion.{diffused, diffuse_fault}
use Rattle.nl_exec_acts.specs.declared.fail.ErrorKind.TheVariants.{NoReport, WrongType}
use Rattle.nl_exec_acts.specs.Stage.{bare, changed}
use Rattle.nl_exec_meaning.specs.declared.words.Built.TheVariants as built
use Rattle.nl_exec_meaning.specs.declared.words.Over.{Over}
use Rattle.nl_exec_meaning.specs.declared.words.Over.TheVariants as over
use Rattle.nl_exec_meaning.specs.Cases.{Case, case_of}
use Rattle.nl_exec_meaning.specs.Cases as case
use Rattle.nl_exec_meaning.specs.Code.{Code, node_at, name_of}
use Rattle.nl_exec_meaning.specs.State.{State, Outcome, Eval, Reported, ends, gives, goes_on, fails, come_to, choose, spend, with_part, with_number, with_truth, with_stage, rest_of, ◌>>=◌}
use Rattle.nl_exec_meaning.specs.Running.{staying}
use Rattle.nl_exec_meaning.specs.Acting.{performed}
use Rattle.nl_exec_meaning.specs.Variables.{make_local, assign}
use Rattle.nl_exec_meaning.specs.Blocks.{values, leaving, statements, tested, part_of, chosen, turns, while_tested, while_case, loop_case}
use Rattle.nl_exec_meaning.specs.Calls.{called, returned_by}
use Rattle.nl_exec_meaning.specs.Walks.{Answer as Told, Chosen, Several, One, agents_in, set_in, with_turns, walk, walk_group, turn_over, ascending, collect, collect_group, valued, replied, reply_to, listed_members, all_true, listed_extremes, one_extreme, some_extremes, sorted_on, value_of_one}
use Rattle.nl_exec_meaning.specs.Makings.{made_of, kind_made, run_by_new}
use Rattle.nl_exec_meaning.specs.Steps.{step_made, steps, walked}
use Rattle.nl_exec_meaning.specs.Arrows.{after_turn}
use Rattle.nl_exec_meaning.specs.Rounds.{inputs_from, turn_begun, turn_over as round_over}
use Rattle.nl_exec_meaning.specs.Meaning.{text_statements, is_stopped, unless}
use Rattle.nl_exec_meaning.specs.Kept.{all_held}
use Rattle.nl_exec_meaning.specs.Seen.{ended}
use Rattle.nl_exec_meaning.specs.declared.turns.Turns.{Turns}
use Rattle.nl_exec_meaning.specs.declared.turns.Gathered.{Gathered}
use Rattle.nl_exec_meaning.specs.declared.turns.Gathered.TheVariants as gathered
use Rattle.nl_exec_meaning.specs.declared.frames.Frame.{Frame}
use Rattle.nl_exec_meaning.specs.declared.frames.Frame.TheVariants as frame
use Rattle.nl_exec_meaning.specs.declared.frames.Next.{Next}
use Rattle.nl_exec_meaning.specs.declared.frames.Next.TheVariants.{Answer, Go, Want, Tick}

-- what a node makes of the values of all its parts: a literal list, a call, or an act
abbrev pub parts_done : Checked → Case → Eval → Node → List Plain → State → Outcome
parts_done p case.Items prev t made s = gives (PlainItems (plains made)) s
parts_done p (case.Procedure index) prev t made s = called p index prev (span t) made s
parts_done p (case.Word runs breed (built.Act act)) prev t made s =
    staying runs s (
    come_to (performed act breed s.site.agent s.site.asker made s.stage) (span t) s (λ answer. gives answer.0 (with_stage answer.1 s)))
parts_done p other prev t made s = fails WrongType (span t) s

-- the values of the parts from an index on, behind those that were made, and what the node makes of them
abbrev pub parts_from : Code → Eval → Node → ℕ → List Plain → State → Outcome
parts_from c prev t at made s =
    values prev (drop at (parts t)) made s (λ all s1. parts_done c.program (case_of c.program.declared (label t)) prev t all s1)

-- a distance ahead, or back
abbrev pub way_of : Bool → ℤ → ℤ
way_of true by = neg_ℤ by
way_of false by = by

-- what is made of all answers of agents of a kind
abbrev pub finished : Gathered → AgentKind → Span → List Told → State → Outcome
finished (gathered.OfSet over.With) which place made s = listed_members which made s
finished (gathered.OfSet over.All) which place made s = all_true which made s
finished (gathered.OfSet over.WithMax) which place made s = listed_extremes true which made s
finished (gathered.OfSet over.WithMin) which place made s = listed_extremes false which made s
finished (gathered.OfSet over.MaxOneOf) which place made s = one_extreme true which made s
finished (gathered.OfSet over.MinOneOf) which place made s = one_extreme false which made s
finished (gathered.OfSet over.SortOn) which place made s = sorted_on which made place s
finished (gathered.OfSet other) which place made s = fails WrongType place s
finished (gathered.Several up number) which place made s = some_extremes up which number made place s
finished (gathered.OfAll true) which place made s = gives (PlainItems (plains (map (λ a. a.value) made))) s
finished (gathered.OfAll false) which place made s = value_of_one made place s

-- the answers of the turns that are left, behind these, and what is made of them all
abbrev pub gathered_from : Eval → Node → ℕ → Over → Gathered → Turns → List Told → State → Outcome
gathered_from prev t index word what turns made s =
    collect word prev t index turns.site turns.which (drop turns.at turns.members) made s (λ all s1.
    finished what turns.which (span t) all s1)

-- the turns that are left
abbrev pub walked_on : Eval → Node → ℕ → Turns → State → Outcome
walked_on prev t index turns s = walk prev t index turns.site turns.which (drop turns.at turns.members) s

abbrev pub several : Chosen → Bool
several (Several set) = true
several (One which number) = false

-- the answers of a set's members, or of so many extremes of it, from the first one on
abbrev pub answers_of_set : Over → Eval → Node → ℕ → Gathered → AgentSet → State → Outcome
answers_of_set word prev t index what set s =
    collect_group word prev t index (ascending (rest_of s) set) s (λ all s1. finished what (set_kind set) (span t) all s1)

abbrev pub some_of_set : Over → Bool → Eval → Node → Plain → Plain → State → Outcome
some_of_set word up prev t n value s =
    with_number n (span t) s (λ number. come_to (set_in value) (span t) s (λ set.
    answers_of_set word prev t 2 (gathered.Several up number) set s))

-- what is told where no block is chosen: a word that has a value has none then
abbrev pub none_chosen : Bool → Span → State → Outcome
none_chosen true place s = fails NoReport place s
none_chosen false place s = goes_on s

-- the conditions that are left, with their blocks
abbrev pub choices_left : Eval → Node → Bool → List Node → State → Outcome
choices_left prev t valued left s = chosen prev (span t) (none_chosen valued (span t)) left s

abbrev pub resumed : Code → Eval → Frame → Outcome → Outcome
resumed c prev (frame.Part node at made) o = o >>= λ v s. parts_from c prev (node_at c node) at (made ++ v ∷ []) s
resumed c prev (frame.Inside node) o = o
resumed c prev (frame.Negated node) o =
    o >>= λ v s. with_number v (span (node_at c node)) s (λ count. gives (PlainNumber (neg_ℤ count)) s)
resumed c prev (frame.Statement node at kept) o = leaving kept o (λ v s. statements prev kept (drop at (parts (node_at c node))) s)
resumed c prev (frame.TextStatement node at stopped) o =
    leaving 0 o (λ v s. text_statements prev (drop at (parts (node_at c node))) (stopped || is_stopped v) s)
resumed c prev (frame.LetValue node id) o = o >>= λ v s. goes_on (make_local (name_of c.names id) v s)
resumed c prev (frame.SetValue node variable) o =
    o >>= λ v s. assign (case_of c.program.declared (label (node_at c variable))) (span (node_at c variable)) (span (node_at c node)) v s
resumed c prev (frame.ReportValue node) o = o >>= λ v s. ends (Reported v) s
resumed c prev (frame.AndLeft node) o =
    o >>= λ v s. with_truth v (span (node_at c node)) s (λ truth.
    choose truth (tested prev (node_at c node) 1 s (λ right s1. gives (PlainTruth right) s1)) (gives (PlainTruth false) s))
resumed c prev (frame.OrLeft node) o =
    o >>= λ v s. with_truth v (span (node_at c node)) s (λ truth.
    choose truth (gives (PlainTruth true) s) (tested prev (node_at c node) 1 s (λ right s1. gives (PlainTruth right) s1)))
resumed c prev (frame.RightSide node) o =
    o >>= λ v s. with_truth v (span (node_at c node)) s (λ right. gives (PlainTruth right) s)
resumed c prev (frame.IfTest node) o =
    o >>= λ v s. with_truth v (span (node_at c node)) s (λ truth. choose truth (part_of prev (node_at c node) 1 s) (goes_on s))
resumed c prev (frame.EitherTest node at valued) o =
    o >>= λ v s. with_truth v (span (node_at c node)) s (λ truth.
    choose truth (part_of prev (node_at c node) at s) (choices_left prev (node_at c node) valued (drop 1 (drop at (parts (node_at c node)))) s))
resumed c prev (frame.RepeatCount node) o =
    o >>= λ v s. with_number v (span (node_at c node)) s (λ number. turns (count_of number) prev (node_at c node) s)
resumed c prev (frame.RepeatTurn node left) o = o >>= λ v s. turns left prev (node_at c node) s
resumed c prev (frame.WhileTest node) o = while_tested prev (node_at c node) (while_case prev (node_at c node)) o
resumed c prev (frame.WhileTurn node) o = o >>= λ v s. while_case prev (node_at c node) s
resumed c prev (frame.LoopTurn node) o = o >>= λ v s. loop_case prev (node_at c node) s
resumed c prev (frame.Distance node runs back) o =
    o >>= λ v s. staying runs s (with_number v (span (node_at c node)) s (λ by. walked (way_of back by) (span (node_at c node)) s))
resumed c prev (frame.Step node turtle by left rest way) o =
    o >>= λ v s. step_made turtle (span (node_at c node)) s (step_end turtle by (bare (rest_of s)))
    (λ s1. steps left turtle rest way (span (node_at c node)) s1)
resumed c prev (frame.Body node reporter saved site) o = returned_by reporter (span (node_at c node)) (all_held c.names saved) site o
resumed c prev (frame.AskWho node) o =
    o >>= λ v s. come_to (agents_in (rest_of s) v) (span (node_at c node)) s (λ agents. with_turns agents s (walk_group prev (node_at c node) 1))
resumed c prev (frame.Asked node index turns) o = turn_over turns.site o (λ s. walked_on prev (node_at c node) index turns s)
resumed c prev (frame.SetWho node word index) o =
    o >>= λ v s. come_to (set_in v) (span (node_at c node)) s (λ set.
    answers_of_set word prev (node_at c node) index (gathered.OfSet word) set s)
resumed c prev (frame.SomeNumber node word up) o =
    o >>= λ n s. with_part (node_at c node) 1 (span (node_at c node)) s (λ second.
    prev second s >>= λ v s1. some_of_set word up prev (node_at c node) n v s1)
resumed c prev (frame.SomeSet node word up number) o =
    o >>= λ v s. some_of_set word up prev (node_at c node) number v s
resumed c prev (frame.OfWho node) o =
    o >>= λ v s. come_to (agents_in (rest_of s) v) (span (node_at c node)) s (λ agents. with_turns agents s (λ group s1.
    collect_group over.Of prev (node_at c node) 0 group s1 (λ all s2.
    finished (gathered.OfAll (several agents)) group.which (span (node_at c node)) all s2)))
resumed c prev (frame.Answering node index word member turns made what) o =
    valued turns.site (span (node_at c node)) o (λ v s. replied (reply_to word v) (span (node_at c node)) member v made s (λ more s1.
    gathered_from prev (node_at c node) index word what turns more s1))
resumed c prev (frame.MakingInput node word breed runs) o =
    o >>= λ v s. staying runs s (made_of word breed v (span (node_at c node)) s (λ made s1.
    run_by_new prev (node_at c node) 1 (kind_made word) made (slice_get (parts (node_at c node)) 1) s1))
resumed c prev (frame.Share node runs slot four) o =
    o >>= λ v s. staying runs s (with_number v (span (node_at c node)) s (λ share.
    unless (diffuse_fault slot share four (bare (rest_of s))) (span (node_at c node)) s
    (goes_on (with_stage (changed (diffused slot share four) s.stage) s))))
resumed c prev (frame.ArrowInput node word at made) o = o >>= λ v s. inputs_from word prev (node_at c node) at (made ++ v ∷ []) s
resumed c prev (frame.RoundWanted node index word rounds) o = o >>= λ v s. turn_begun word prev (node_at c node) index rounds s
resumed c prev (frame.Round node index word kept rounds) o = after_turn kept o (λ v s. round_over word prev (node_at c node) index rounds v s)

-- the node of which a frame is the rest
abbrev pub node_of : Frame → ℕ
node_of (frame.Part node at made) = node
node_of (frame.Inside node) = node
node_of (frame.Negated node) = node
node_of (frame.Statement node at kept) = node
node_of (frame.TextStatement node at stopped) = node
node_of (frame.LetValue node id) = node
node_of (frame.SetValue node variable) = node
node_of (frame.ReportValue node) = node
node_of (frame.AndLeft node) = node
node_of (frame.OrLeft node) = node
node_of (frame.RightSide node) = node
node_of (frame.IfTest node) = node
node_of (frame.EitherTest node at valued) = node
node_of (frame.RepeatCount node) = node
node_of (frame.RepeatTurn node left) = node
node_of (frame.WhileTest node) = node
node_of (frame.WhileTurn node) = node
node_of (frame.LoopTurn node) = node
node_of (frame.Distance node runs back) = node
node_of (frame.Step node turtle by left rest way) = node
node_of (frame.Body node reporter saved site) = node
node_of (frame.AskWho node) = node
node_of (frame.Asked node index turns) = node
node_of (frame.SetWho node word index) = node
node_of (frame.SomeNumber node word up) = node
node_of (frame.SomeSet node word up number) = node
node_of (frame.OfWho node) = node
node_of (frame.Answering node index word member turns made what) = node
node_of (frame.MakingInput node word breed runs) = node
node_of (frame.Share node runs slot four) = node
node_of (frame.ArrowInput node word at made) = node
node_of (frame.RoundWanted node index word rounds) = node
node_of (frame.Round node index word kept rounds) = node

-- what is next: an answer, or a child and the frame behind it, or the same behind a unit, or a unit and the frame
abbrev pub going : Code → Eval → Next → State → Outcome
going c prev (Answer exit) s = ended exit s
going c prev (Go f node) s = resumed c prev f (prev (node_at c node) s)
going c prev (Want f node) s = spend s (λ s1. resumed c prev f (prev (node_at c node) s1))
going c prev (Tick f) s = spend s (λ s1. resumed c prev f (goes_on s1))
