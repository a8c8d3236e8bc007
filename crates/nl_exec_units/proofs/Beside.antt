-- What a state comes to beside the same with more units: so many, and one.
--
-- Each combinator of meanings has a lemma here and stands in the ruleset `steadies`.
use Rattle.std.proofs.Common.{◌≡◌, ℕ, zero, suc, ◌≤◌, ◌<◌, ℤ, Bool, true, false, IsTrue, Option, Some, None, Result, Ok, Err, List, [], ◌∷◌, refl, arith}
use Rattle.nl_fixed.specs.declared.number.NumFault.{NumFault}
use Rattle.nl_fixed.specs.declared.span.Span.{Span}
use Rattle.nl_grid.specs.declared.point.Point.{Point}
use Rattle.nl_value.specs.Nouns.{Serials}
use Rattle.nl_value.specs.Plain.{Plain, PlainNumber, PlainTruth, PlainWords, PlainItems, PlainTurtle, PlainPatch, PlainLink, PlainNobody, PlainSet}
use Rattle.nl_value.specs.Limits.{within_limits}
use Rattle.nl_motion.specs.declared.faults.MoveFault.{MoveFault}
use Rattle.nl_birth.specs.Outcomes as births
use Rattle.nl_exec_acts.specs.declared.fail.ErrorKind.{ErrorKind}
use Rattle.nl_exec_acts.specs.declared.fail.ErrorKind.TheVariants.{WrongType}
use Rattle.nl_exec_acts.specs.Stage.{Stage}
use Rattle.nl_exec_meaning.specs.declared.sites.Site.{Site}
use Rattle.nl_exec_meaning.specs.State.{Held, State, Exit, Outcome, Gives, Stopped, Reported, Left, Budget, Error, ends, next_by, spend_by, choose, found, come_to, with_number, with_truth}
use Rattle.nl_exec_meaning.specs.Blocks.{leave_by, cut_to}
use Rattle.nl_exec_meaning.specs.Arrows.{after_turn_by, are_as_long, gives_kept, lists_in, with_lists}
use Rattle.nl_exec_meaning.specs.Calls.{command_by, reporter_by, returned_by}
use Rattle.nl_exec_meaning.specs.Steps.{step_made}
use Rattle.nl_exec_meaning.specs.Walks.{Group, Chosen, Several, One, with_turns, turn_by, Answer, value_by, Reply, Keep, Pass, Decide, Refuse, replied, value_of_one, of_answers}
use Rattle.nl_exec_meaning.specs.Makings.{made_by}
use Rattle.nl_exec_meaning.specs.Meaning.{unless, limited_by, text_end}

-- so many more units, and one
abbrev pub up : ℕ → ℕ → ℕ
up zero k = suc k
up (suc n) k = suc (up n k)

abbrev pub richer : ℕ → State → State
richer k s = record s { units = up s.units k }

pub still : (n : ℕ) → n ≤ n
still n = omega arith

-- not for want of units
abbrev pub by_itself : Exit → Bool
by_itself (Gives value) = true
by_itself Stopped = true
by_itself (Reported value) = true
by_itself Left = true
by_itself Budget = false
by_itself (Error kind place body) = true

-- Of no more than `n` units: whole, or cut for want of units, where the same with `k` and one more leaves at most `k`.
pub data Beside (k n : ℕ) : Outcome → Outcome → Type 0 where
  whole : {e : Exit} {s : State} → IsTrue (by_itself e) → s.units ≤ n → Beside k n (ends e s) (ends e (richer k s))
  cut : {s : State} {e : Exit} {s1 : State} → s.units ≡ 0 → s1.units ≤ k → Beside k n (ends Budget s) (ends e s1)

pub wider : {k n m : ℕ} {o o1 : Outcome} → n ≤ m → Beside k n o o1 → Beside k m o o1
wider more (whole itself few) = whole itself (omega (arith, more, few))
wider more (cut none after) = cut none after

pub few-left : {k n : ℕ} {o o1 : Outcome} → Beside k n o o1 → o.state.units ≤ n
few-left (whole itself few) = few
few-left (cut none after) = omega (arith, none)

-- whatever comes next is whole or cut, with however many units
abbrev pub Good : ℕ → (State → Outcome) → Type 0
Good k next = (n : ℕ) (s : State) → s.units ≤ n → Beside k n (next s) (next (richer k s))

-- ---- an outcome, and what follows it

-- `next` has to be whole or cut with at most `n` units, and thrifty with at most `k`
pub bind-at : {k n : ℕ} {o o1 : Outcome} (next : Plain → State → Outcome) → Beside k n o o1 →
    ((value : Plain) (s : State) → s.units ≤ n → Beside k n (next value s) (next value (richer k s))) →
    ((value : Plain) (s : State) → s.units ≤ k → (next value s).state.units ≤ k) →
    Beside k n (next_by o.exit o.state next) (next_by o1.exit o1.state next)
bind-at next (whole {e = Gives value} {s = s} itself few) keeps thrift = keeps value s few
bind-at next (whole {e = Stopped} itself few) keeps thrift = whole refl few
bind-at next (whole {e = Reported value} itself few) keeps thrift = whole refl few
bind-at next (whole {e = Left} itself few) keeps thrift = whole refl few
bind-at next (whole {e = Budget} itself few) keeps thrift = cc
bind-at next (whole {e = Error kind place body} itself few) keeps thrift = whole refl few
bind-at next (cut {e = Gives value} {s1 = s1} none after) keeps thrift = cut none (thrift value s1 after)
bind-at next (cut {e = Stopped} none after) keeps thrift = cut none after
bind-at next (cut {e = Reported value} none after) keeps thrift = cut none after
bind-at next (cut {e = Left} none after) keeps thrift = cut none after
bind-at next (cut {e = Budget} none after) keeps thrift = cut none after
bind-at next (cut {e = Error kind place body} none after) keeps thrift = cut none after

pub bind-beside : {k n : ℕ} {o o1 : Outcome} (next : Plain → State → Outcome) → Beside k n o o1 → ((value : Plain) → Good k (next value)) →
    Beside k n (next_by o.exit o.state next) (next_by o1.exit o1.state next)
bind-beside {k} {n} next first good = bind-at next first (λ value s few. good value n s few) (λ value s few. few-left (good value k s few))

pub leave-beside : {k n : ℕ} {o o1 : Outcome} (kept : ℕ) (next : Plain → State → Outcome) → Beside k n o o1 → ((value : Plain) → Good k (next value)) →
    Beside k n (leave_by o.exit kept o.state next) (leave_by o1.exit kept o1.state next)
leave-beside {n = n} kept next (whole {e = Gives value} {s = s} itself few) good = good value n s few
leave-beside kept next (whole {e = Stopped} itself few) good = whole refl few
leave-beside kept next (whole {e = Reported value} itself few) good = whole refl few
leave-beside kept next (whole {e = Left} itself few) good = whole refl few
leave-beside kept next (whole {e = Budget} itself few) good = cc
leave-beside kept next (whole {e = Error kind place body} itself few) good = whole refl few
leave-beside {k} kept next (cut {e = Gives value} {s1 = s1} none after) good = cut none (few-left (good value k s1 after))
leave-beside kept next (cut {e = Stopped} none after) good = cut none after
leave-beside kept next (cut {e = Reported value} none after) good = cut none after
leave-beside kept next (cut {e = Left} none after) good = cut none after
leave-beside kept next (cut {e = Budget} none after) good = cut none after
leave-beside kept next (cut {e = Error kind place body} none after) good = cut none after

pub after-beside : {k n : ℕ} {o o1 : Outcome} (kept : ℕ) (next : Plain → State → Outcome) → Beside k n o o1 → ((value : Plain) → Good k (next value)) →
    Beside k n (after_turn_by o.exit kept o.state next) (after_turn_by o1.exit kept o1.state next)
after-beside {n = n} kept next (whole {e = Gives value} {s = s} itself few) good = good value n (cut_to kept s) few
after-beside kept next (whole {e = Stopped} itself few) good = whole refl few
after-beside kept next (whole {e = Reported value} itself few) good = whole refl few
after-beside kept next (whole {e = Left} itself few) good = whole refl few
after-beside kept next (whole {e = Budget} itself few) good = cc
after-beside kept next (whole {e = Error kind place body} itself few) good = whole refl few
after-beside {k} kept next (cut {e = Gives value} {s1 = s1} none after) good = cut none (few-left (good value k (cut_to kept s1) after))
after-beside kept next (cut {e = Stopped} none after) good = cut none after
after-beside kept next (cut {e = Reported value} none after) good = cut none after
after-beside kept next (cut {e = Left} none after) good = cut none after
after-beside kept next (cut {e = Budget} none after) good = cut none after
after-beside kept next (cut {e = Error kind place body} none after) good = cut none after

command-beside : {k n : ℕ} {o o1 : Outcome} (saved : List Held) (site : Site) → Beside k n o o1 →
    Beside k n (command_by o.exit saved site o.state) (command_by o1.exit saved site o1.state)
command-beside saved site (whole {e = Gives value} itself few) = whole refl few
command-beside saved site (whole {e = Stopped} itself few) = whole refl few
command-beside saved site (whole {e = Reported value} itself few) = whole refl few
command-beside saved site (whole {e = Left} itself few) = whole refl few
command-beside saved site (whole {e = Budget} itself few) = cc
command-beside saved site (whole {e = Error kind place body} itself few) = whole refl few
command-beside saved site (cut {e = Gives value} none after) = cut none after
command-beside saved site (cut {e = Stopped} none after) = cut none after
command-beside saved site (cut {e = Reported value} none after) = cut none after
command-beside saved site (cut {e = Left} none after) = cut none after
command-beside saved site (cut {e = Budget} none after) = cut none after
command-beside saved site (cut {e = Error kind place body} none after) = cut none after

reporter-beside : {k n : ℕ} {o o1 : Outcome} (place : Span) (saved : List Held) (site : Site) → Beside k n o o1 →
    Beside k n (reporter_by o.exit place saved site o.state) (reporter_by o1.exit place saved site o1.state)
reporter-beside place saved site (whole {e = Gives value} itself few) = whole refl few
reporter-beside place saved site (whole {e = Stopped} itself few) = whole refl few
reporter-beside place saved site (whole {e = Reported value} itself few) = whole refl few
reporter-beside place saved site (whole {e = Left} itself few) = whole refl few
reporter-beside place saved site (whole {e = Budget} itself few) = cc
reporter-beside place saved site (whole {e = Error kind at body} itself few) = whole refl few
reporter-beside place saved site (cut {e = Gives value} none after) = cut none after
reporter-beside place saved site (cut {e = Stopped} none after) = cut none after
reporter-beside place saved site (cut {e = Reported value} none after) = cut none after
reporter-beside place saved site (cut {e = Left} none after) = cut none after
reporter-beside place saved site (cut {e = Budget} none after) = cut none after
reporter-beside place saved site (cut {e = Error kind at body} none after) = cut none after

pub returned-beside : {k n : ℕ} {o o1 : Outcome} (reports : Bool) (place : Span) (saved : List Held) (site : Site) → Beside k n o o1 →
    Beside k n (returned_by reports place saved site o) (returned_by reports place saved site o1)
returned-beside true place saved site first = reporter-beside place saved site first
returned-beside false place saved site first = command-beside saved site first

pub turn-beside : {k n : ℕ} {o o1 : Outcome} (site : Site) (next : State → Outcome) → Beside k n o o1 → Good k next →
    Beside k n (turn_by o.exit site o.state next) (turn_by o1.exit site o1.state next)
turn-beside {n = n} site next (whole {e = Gives value} {s = s} itself few) good = good n (record s { site = site }) few
turn-beside {n = n} site next (whole {e = Stopped} {s = s} itself few) good = good n (record s { site = site }) few
turn-beside site next (whole {e = Reported value} itself few) good = whole refl few
turn-beside {n = n} site next (whole {e = Left} {s = s} itself few) good = good n (record s { site = site }) few
turn-beside site next (whole {e = Budget} itself few) good = cc
turn-beside site next (whole {e = Error kind place body} itself few) good = whole refl few
turn-beside {k} site next (cut {e = Gives value} {s1 = s1} none after) good = cut none (few-left (good k (record s1 { site = site }) after))
turn-beside {k} site next (cut {e = Stopped} {s1 = s1} none after) good = cut none (few-left (good k (record s1 { site = site }) after))
turn-beside site next (cut {e = Reported value} none after) good = cut none after
turn-beside {k} site next (cut {e = Left} {s1 = s1} none after) good = cut none (few-left (good k (record s1 { site = site }) after))
turn-beside site next (cut {e = Budget} none after) good = cut none after
turn-beside site next (cut {e = Error kind place body} none after) good = cut none after

pub value-beside : {k n : ℕ} {o o1 : Outcome} (site : Site) (place : Span) (next : Plain → State → Outcome) → Beside k n o o1 →
    ((value : Plain) → Good k (next value)) → Beside k n (value_by o.exit site place o.state next) (value_by o1.exit site place o1.state next)
value-beside {n = n} site place next (whole {e = Gives value} {s = s} itself few) good = good value n (record s { site = site }) few
value-beside site place next (whole {e = Stopped} itself few) good = whole refl few
value-beside site place next (whole {e = Reported value} itself few) good = whole refl few
value-beside site place next (whole {e = Left} itself few) good = whole refl few
value-beside site place next (whole {e = Budget} itself few) good = cc
value-beside site place next (whole {e = Error kind at body} itself few) good = whole refl few
value-beside {k} site place next (cut {e = Gives value} {s1 = s1} none after) good = cut none (few-left (good value k (record s1 { site = site }) after))
value-beside site place next (cut {e = Stopped} none after) good = cut none after
value-beside site place next (cut {e = Reported value} none after) good = cut none after
value-beside site place next (cut {e = Left} none after) good = cut none after
value-beside site place next (cut {e = Budget} none after) good = cut none after
value-beside site place next (cut {e = Error kind at body} none after) good = cut none after

-- ---- choices, and what is found or taken

pub choose-beside : {k n : ℕ} (truth : Bool) {a a1 b b1 : Outcome} → Beside k n a a1 → Beside k n b b1 → Beside k n (choose truth a b) (choose truth a1 b1)
choose-beside true first second = first
choose-beside false first second = second

choose-few : (n : ℕ) (truth : Bool) (a b : Outcome) → a.state.units ≤ n → b.state.units ≤ n → (choose truth a b).state.units ≤ n
choose-few n true a b first second = first
choose-few n false a b first second = second

pub limited-beside : {k n : ℕ} {o o1 : Outcome} (place : Span) → Beside k n o o1 → Beside k n (limited_by o.exit place o.state) (limited_by o1.exit place o1.state)
limited-beside place (whole {e = Gives value} itself few) = choose-beside (within_limits value) (whole refl few) (whole refl few)
limited-beside place (whole {e = Stopped} itself few) = whole refl few
limited-beside place (whole {e = Reported value} itself few) = whole refl few
limited-beside place (whole {e = Left} itself few) = whole refl few
limited-beside place (whole {e = Budget} itself few) = cc
limited-beside place (whole {e = Error kind at body} itself few) = whole refl few
limited-beside {k} place (cut {e = Gives value} {s1 = s1} none after) = cut none (choose-few k (within_limits value) _ _ after after)
limited-beside place (cut {e = Stopped} none after) = cut none after
limited-beside place (cut {e = Reported value} none after) = cut none after
limited-beside place (cut {e = Left} none after) = cut none after
limited-beside place (cut {e = Budget} none after) = cut none after
limited-beside place (cut {e = Error kind at body} none after) = cut none after

-- with none left, what one more allows has at most `k` units; `next` is asked with fewer units alone
pub spend-at : {k n : ℕ} (units : ℕ) (s : State) (next : State → Outcome) → s.units ≡ units → s.units ≤ n →
    ((m : ℕ) → m < n → (s1 : State) → s1.units ≤ m → Beside k m (next s1) (next (richer k s1))) →
    ((s1 : State) → s1.units ≤ k → (next s1).state.units ≤ k) → Beside k n (spend_by units s next) (spend_by (up units k) (richer k s) next)
spend-at {k} zero s next has few keeps thrift = cut has (thrift (record s { units = k }) (still k))
spend-at (suc units) s next has few keeps thrift =
    wider (omega (arith, has, few)) (keeps units (omega (arith, has, few)) (record s { units = units }) (still units))

pub spend-beside : {k n : ℕ} (units : ℕ) (s : State) (next : State → Outcome) → s.units ≡ units → s.units ≤ n → Good k next →
    Beside k n (spend_by units s next) (spend_by (up units k) (richer k s) next)
spend-beside {k} units s next has few good = spend-at units s next has few (λ m less s1 fewer. good m s1 fewer) (λ s1 fewer. few-left (good k s1 fewer))

pub found-beside : {X : Type 0} {k n : ℕ} (o : Option X) (kind : ErrorKind) (place : Span) (s : State) (next next1 : X → Outcome) → s.units ≤ n →
    ((x : X) → Beside k n (next x) (next1 x)) → Beside k n (found o kind place s next) (found o kind place (richer k s) next1)
found-beside None kind place s next next1 few keeps = whole refl few
found-beside (Some x) kind place s next next1 few keeps = keeps x

pub come-beside : {X : Type 0} {k n : ℕ} (o : Result X ErrorKind) (place : Span) (s : State) (next next1 : X → Outcome) → s.units ≤ n →
    ((x : X) → Beside k n (next x) (next1 x)) → Beside k n (come_to o place s next) (come_to o place (richer k s) next1)
come-beside (Ok x) place s next next1 few keeps = keeps x
come-beside (Err kind) place s next next1 few keeps = whole refl few

pub number-beside : {k n : ℕ} (value : Plain) (place : Span) (s : State) (next next1 : ℤ → Outcome) → s.units ≤ n →
    ((count : ℤ) → Beside k n (next count) (next1 count)) → Beside k n (with_number value place s next) (with_number value place (richer k s) next1)
number-beside (PlainNumber count) place s next next1 few keeps = keeps count
number-beside (PlainTruth truth) place s next next1 few keeps = whole refl few
number-beside (PlainWords bytes) place s next next1 few keeps = whole refl few
number-beside (PlainItems items) place s next next1 few keeps = whole refl few
number-beside (PlainTurtle turtle) place s next next1 few keeps = whole refl few
number-beside (PlainPatch patch) place s next next1 few keeps = whole refl few
number-beside (PlainLink link) place s next next1 few keeps = whole refl few
number-beside PlainNobody place s next next1 few keeps = whole refl few
number-beside (PlainSet set) place s next next1 few keeps = whole refl few

pub truth-beside : {k n : ℕ} (value : Plain) (place : Span) (s : State) (next next1 : Bool → Outcome) → s.units ≤ n →
    ((truth : Bool) → Beside k n (next truth) (next1 truth)) → Beside k n (with_truth value place s next) (with_truth value place (richer k s) next1)
truth-beside (PlainTruth truth) place s next next1 few keeps = keeps truth
truth-beside (PlainNumber count) place s next next1 few keeps = whole refl few
truth-beside (PlainWords bytes) place s next next1 few keeps = whole refl few
truth-beside (PlainItems items) place s next next1 few keeps = whole refl few
truth-beside (PlainTurtle turtle) place s next next1 few keeps = whole refl few
truth-beside (PlainPatch patch) place s next next1 few keeps = whole refl few
truth-beside (PlainLink link) place s next next1 few keeps = whole refl few
truth-beside PlainNobody place s next next1 few keeps = whole refl few
truth-beside (PlainSet set) place s next next1 few keeps = whole refl few

pub unless-beside : {k n : ℕ} (why : Option MoveFault) (place : Span) (s : State) {o o1 : Outcome} → s.units ≤ n → Beside k n o o1 →
    Beside k n (unless why place s o) (unless why place (richer k s) o1)
unless-beside None place s few keeps = keeps
unless-beside (Some why) place s few keeps = whole refl few

pub kept-beside : {k n : ℕ} (made : Option (List Plain)) (place : Span) (s : State) → s.units ≤ n →
    Beside k n (gives_kept made place s) (gives_kept made place (richer k s))
kept-beside (Some made) place s few = whole refl few
kept-beside None place s few = whole refl few

pub lists-beside : {k n : ℕ} (made : List Plain) (place : Span) (s : State) (next next1 : List (List Plain) → Outcome) → s.units ≤ n →
    ((lists : List (List Plain)) → Beside k n (next lists) (next1 lists)) → Beside k n (with_lists made place s next) (with_lists made place (richer k s) next1)
lists-beside made place s next next1 few keeps =
    found-beside (lists_in made) WrongType place s _ _ few (λ lists. choose-beside (are_as_long lists) (keeps lists) (whole refl few))

one-beside : {k n : ℕ} (made : List Answer) (place : Span) (s : State) → s.units ≤ n →
    Beside k n (value_of_one made place s) (value_of_one made place (richer k s))
one-beside [] place s few = whole refl few
one-beside (a ∷ others) place s few = whole refl few

pub answers-beside : {k n : ℕ} (agents : Chosen) (made : List Answer) (place : Span) (s : State) → s.units ≤ n →
    Beside k n (of_answers agents made place s) (of_answers agents made place (richer k s))
answers-beside (Several set) made place s few = whole refl few
answers-beside (One which number) made place s few = one-beside made place s few

pub text_end-beside : {k n : ℕ} (stopped : Bool) (s : State) → s.units ≤ n → Beside k n (text_end stopped s) (text_end stopped (richer k s))
text_end-beside true s few = whole refl few
text_end-beside false s few = whole refl few

-- ---- what goes on from another state

pub step-beside : {k n : ℕ} (turtle : ℕ) (place : Span) (s : State) (to : Result (Option Point) NumFault) (next : State → Outcome) → s.units ≤ n →
    Good k next → Beside k n (step_made turtle place s to next) (step_made turtle place (richer k s) to next)
step-beside {n = n} turtle place s (Ok (Some to)) next few good = good n _ few
step-beside turtle place s (Ok None) next few good = whole refl few
step-beside turtle place s (Err fault) next few good = whole refl few

pub chosen-beside : {k n : ℕ} (agents : Chosen) (s : State) (next : Group → State → Outcome) → s.units ≤ n → ((group : Group) → Good k (next group)) →
    Beside k n (with_turns agents s next) (with_turns agents (richer k s) next)
chosen-beside {n = n} (Several set) s next few good = good _ n _ few
chosen-beside {n = n} (One which number) s next few good = good _ n s few

pub replied-beside : {k n : ℕ} (reply : Reply) (place : Span) (m : ℕ) (value : Plain) (made : List Answer) (s : State)
    (next : List Answer → State → Outcome) → s.units ≤ n → ((more : List Answer) → Good k (next more)) →
    Beside k n (replied reply place m value made s next) (replied reply place m value made (richer k s) next)
replied-beside {n = n} Keep place m value made s next few good = good _ n s few
replied-beside {n = n} Pass place m value made s next few good = good made n s few
replied-beside (Decide answer) place m value made s next few good = whole refl few
replied-beside Refuse place m value made s next few good = whole refl few

pub made-beside : {X : Type 0} {k n : ℕ} (outcome : births.BirthOutcome X) (after : X → Stage → Stage) (place : Span) (s : State)
    (next : Serials → State → Outcome) → s.units ≤ n → ((made : Serials) → Good k (next made)) →
    Beside k n (made_by outcome after place s next) (made_by outcome after place (richer k s) next)
made-beside {n = n} (births.Made made now) after place s next few good = good made n _ few
made-beside (births.Filled now) after place s next few good = whole refl few
made-beside (births.Refused now) after place s next few good = whole refl few

pub ruleset steadies = (bind-beside, leave-beside, after-beside, kept-beside, lists-beside, returned-beside, turn-beside, value-beside, choose-beside, spend-beside, found-beside, come-beside, number-beside, truth-beside, step-beside, unless-beside, chosen-beside, replied-beside, answers-beside, made-beside, text_end-beside, whole, refl)
