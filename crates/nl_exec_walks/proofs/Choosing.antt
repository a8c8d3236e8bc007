-- Which part is the set of a word, and what `of` makes of one agent.
use Rattle.std.proofs.Common.{◌≡◌, ℕ, refl, Option, Some, None, slice_get, Result, Ok, Err}
use Rattle.nl_tree.specs.Tree.{Node, span, parts}
use Rattle.nl_exec_acts.specs.declared.fail.ErrorKind.{ErrorKind}
use Rattle.nl_exec_acts.specs.declared.fail.ErrorKind.TheVariants.{WrongType}
use Rattle.nl_exec_meaning.specs.declared.words.Over.{Over}
use Rattle.nl_exec_meaning.specs.declared.words.Over.TheVariants as over
use Rattle.nl_exec_meaning.specs.Code.{Code, node_at}
use Rattle.nl_exec_meaning.specs.State.{State, Outcome, Eval, Exit, Gives, Stopped, Reported, Left, Budget, Error, come_to, found, next_by, rest_of, with_part, ◌>>=◌}
use Rattle.nl_exec_meaning.specs.Walks.{Chosen, Several, One, agents_in, collect_group, of_answers, of_case, over_case, with_turns}
use Rattle.nl_exec_meaning.specs.Frames.{finished, resumed, several}
use Rattle.nl_exec_meaning.specs.declared.frames.Frame.TheVariants as frame
use Rattle.nl_exec_meaning.specs.declared.turns.Gathered.TheVariants as gathered
use Rattle.nl_exec_walks.specs.Turns.{IsOfSet}

pub set_first : (c : Code) (node : ℕ) (word : Over) (prev : Eval) (s : State) → IsOfSet word → (word ≡ over.SortOn → ⊥) →
    with_part (node_at c node) 0 (span (node_at c node)) s (λ part. resumed c prev (frame.SetWho node word 1) (prev part s)) ≡ over_case word prev (node_at c node) s
set_first c node over.With prev s is other = refl
set_first c node over.All prev s is other = refl
set_first c node over.WithMax prev s is other = refl
set_first c node over.WithMin prev s is other = refl
set_first c node over.MaxOneOf prev s is other = refl
set_first c node over.MinOneOf prev s is other = refl
set_first c node over.SortOn prev s is other = absurd (other refl)
set_first c node over.Ask prev s is other = absurd is
set_first c node over.Of prev s is other = absurd is
set_first c node over.MaxNOf prev s is other = absurd is
set_first c node over.MinNOf prev s is other = absurd is

-- ---- `of`

module _ (prev : Eval) (t : Node) where
  -- what is asked, and what is made of it, as the frame has it
  abbrev framed : Result Chosen ErrorKind → State → Outcome
  framed chosen s =
      come_to chosen (span t) s (λ agents. with_turns agents s (λ group s1.
      collect_group over.Of prev t 0 group s1 (λ made s2. finished (gathered.OfAll (several agents)) group.which (span t) made s2)))

  abbrev meant : Result Chosen ErrorKind → State → Outcome
  meant chosen s =
      come_to chosen (span t) s (λ agents. with_turns agents s (λ group s1.
      collect_group over.Of prev t 0 group s1 (λ made s2. of_answers agents made (span t) s2)))

  chosen_same : (chosen : Result Chosen ErrorKind) (s : State) → framed chosen s ≡ meant chosen s
  chosen_same (Ok (Several set)) s = refl
  chosen_same (Ok (One which number)) s = refl
  chosen_same (Err kind) s = refl

  ended_same : (exit : Exit) (s : State) → next_by exit s (λ value s1. framed (agents_in (rest_of s1) value) s1) ≡ next_by exit s (λ value s1. meant (agents_in (rest_of s1) value) s1)
  ended_same (Gives value) s = chosen_same (agents_in (rest_of s) value) s
  ended_same Stopped s = refl
  ended_same (Reported value) s = refl
  ended_same Left s = refl
  ended_same Budget s = refl
  ended_same (Error kind at body) s = refl

  found_same : (part : Option Node) (s : State) →
      found part WrongType (span t) s (λ child. prev child s >>= λ value s1. framed (agents_in (rest_of s1) value) s1)
      ≡ found part WrongType (span t) s (λ child. prev child s >>= λ value s1. meant (agents_in (rest_of s1) value) s1)
  found_same None s = refl
  found_same (Some child) s = ended_same (prev child s).exit (prev child s).state

pub of_framed : (c : Code) (node : ℕ) (prev : Eval) (s : State) →
    with_part (node_at c node) 1 (span (node_at c node)) s (λ part. resumed c prev (frame.OfWho node) (prev part s)) ≡ of_case prev (node_at c node) s
of_framed c node prev s = found_same prev (node_at c node) (slice_get (parts (node_at c node)) 1) s
