-- What comes next of the turns that are left.
use Rattle.std.proofs.Common.{◌≡◌, ◌+◌, ◌<◌, ℕ, List, Option, Some, None, drop, length, get_or, slice_get, ap, ◌∙◌, sym}
use Rattle.std.specs.Option.{option_map}
use Rattle.std.proofs.lemmas.Option.{slice_get-get_or}
use Rattle.nl_fixed.specs.declared.span.Span.{Span}
use Rattle.nl_value.specs.Plain.{Plain}
use Rattle.nl_tree.specs.Tree.{Node, span, parts}
use Rattle.nl_agents.specs.declared.agents.Owner.{Owner}
use Rattle.nl_exec_acts.specs.declared.fail.ErrorKind.TheVariants.{NoAgent, WrongType}
use Rattle.nl_exec_meaning.specs.Code.{Code, node_at}
use Rattle.nl_exec_meaning.specs.declared.words.Over.{Over}
use Rattle.nl_exec_meaning.specs.State.{State, Eval, Outcome, at_site, fails, found, rest_of, spend}
use Rattle.nl_exec_meaning.specs.Walks.{Answer, asked, owner_of, valued}
use Rattle.nl_exec_meaning.specs.declared.sites.Site.{Site}
use Rattle.nl_exec_meaning.specs.Frames.{finished, gathered_from, resumed}
use Rattle.nl_exec_meaning.specs.Seen.{ended}
use Rattle.nl_exec_meaning.specs.declared.exits.Exit.{Exit}
use Rattle.nl_exec_meaning.specs.declared.exits.Exit.TheVariants.{Left, Error}
use Rattle.nl_exec_meaning.specs.declared.turns.Gathered.{Gathered}
use Rattle.nl_exec_meaning.specs.declared.turns.Turns.{Turns}
use Rattle.nl_exec_meaning.specs.declared.frames.Frame.TheVariants as frame
use Rattle.nl_exec_walks.specs.Turning.{first_of}
use Rattle.nl_exec_walks.proofs.Collecting.{none_left, turn_comes}

pub place_read : (ms : List ℕ) (place : ℕ) → place < length ms → slice_get ms place ≡ Some (get_or ms place 0)
place_read ms place inside = slice_get-get_or ms place 0 inside

module _ (c : Code) (prev : Eval) (node index : ℕ) (word : Over) (what : Gathered) (turns : Turns) (made : List Answer) (s : State) where
  -- what is left to do
  abbrev left : Outcome
  left = gathered_from prev (node_at c node) index word what turns made s

  -- the place of the first that lives, among all members
  abbrev first : Option ℕ
  first = option_map (λ i. turns.at + i) (first_of (rest_of s) turns.which (drop turns.at turns.members))

  -- what comes behind all answers
  abbrev last : List Answer → State → Outcome
  last all s1 = finished what turns.which (span (node_at c node)) all s1

  -- the block of a member's turn, and what comes behind it
  abbrev block_run : ℕ → ℕ → Node → Outcome
  block_run place m block =
      spend (at_site (asked turns.which m turns.site) s) (λ s1.
      resumed c prev (frame.Answering node index word m (record turns { at = place + 1 }) made what) (prev block s1))

  pub all_answered : (o : Option ℕ) → o ≡ None → o ≡ first → finished what turns.which (span (node_at c node)) made s ≡ left
  all_answered o none is =
      sym (none_left word prev (node_at c node) index turns.site turns.which made s last turns.members turns.at o none is)

  comes : (place m : ℕ) (o : Option ℕ) → o ≡ Some place → o ≡ first → slice_get turns.members place ≡ Some m →
      left ≡ found (slice_get (parts (node_at c node)) index) WrongType (span (node_at c node)) s (block_run place m)
  comes place m o some is stands =
      turn_comes word prev (node_at c node) index turns.site turns.which made s last turns.members turns.at place m o some is stands

  pub no_block : (place m : ℕ) (o : Option ℕ) → o ≡ Some place → o ≡ first → slice_get turns.members place ≡ Some m →
      None ≡ slice_get (parts (node_at c node)) index → fails WrongType (span (node_at c node)) s ≡ left
  no_block place m o some is stands none =
      ap (λ (b : Option Node). found b WrongType (span (node_at c node)) s (block_run place m)) none ∙ sym (comes place m o some is stands)

  pub turn_wanted : (after : State) (place m block : ℕ) (agent : Owner) (o : Option ℕ) → o ≡ Some place → o ≡ first → slice_get turns.members place ≡ Some m →
      Some (node_at c block) ≡ slice_get (parts (node_at c node)) index → agent ≡ owner_of turns.which m →
      after ≡ at_site (record turns.site { agent = agent; asker = turns.site.agent }) s →
      spend after (λ s1. resumed c prev (frame.Answering node index word m (record turns { at = place + 1 }) made what) (prev (node_at c block) s1)) ≡ left
  turn_wanted after place m block agent o some is stands there runs now =
      let rest = λ (s1 : State). resumed c prev (frame.Answering node index word m (record turns { at = place + 1 }) made what) (prev (node_at c block) s1) in
      ap (λ (x : State). spend x rest) now
      ∙ ap (λ (a : Owner). spend (at_site (record turns.site { agent = a; asker = turns.site.agent }) s) rest) runs
      ∙ ap (λ (b : Option Node). found b WrongType (span (node_at c node)) s (block_run place m)) there
      ∙ sym (comes place m o some is stands)

-- an agent that left its block has no value
pub left_told : (site : Site) (place : Span) (s : State) (next : Plain → State → Outcome) (exit : Exit) → exit ≡ Error NoAgent place site.body
    → valued site place (ended Left s) next ≡ ended exit (at_site site s)
left_told site place s next exit is = ap (λ (e : Exit). ended e (at_site site s)) (sym is)
