-- A turn wants its unit, and then its block runs.
use Rattle.std.proofs.Common.{◌≡◌, ℕ, Bool, false, Option, Some, None, length, slice_get, refl, ap, ◌∙◌, sym}
use Rattle.nl_value.specs.Plain.{Plain}
use Rattle.nl_tree.specs.Tree.{Node, span, parts}
use Rattle.nl_exec_acts.specs.declared.fail.ErrorKind.TheVariants.{WrongType}
use Rattle.nl_exec_meaning.specs.declared.words.Arrow.{Arrow}
use Rattle.nl_exec_meaning.specs.declared.rounds.Rounds.{Rounds}
use Rattle.nl_exec_meaning.specs.declared.frames.Frame.TheVariants as frame
use Rattle.nl_exec_meaning.specs.Code.{Code, node_at}
use Rattle.nl_exec_meaning.specs.State.{State, Eval, Outcome, fails, found, goes_on, spend}
use Rattle.nl_exec_meaning.specs.Arrows.{after_turn, head_of, turn_with, with_values}
use Rattle.nl_exec_meaning.specs.Frames.{resumed}
use Rattle.nl_exec_meaning.specs.Rounds.{RoundsStand, given, is_over, turn_begun, turn_over, turns_left}
use Rattle.nl_exec_meaning.proofs.Same.{spend-same}
use Rattle.nl_exec_arrows.proofs.Turning.{turn_comes}

module _ (c : Code) (prev : Eval) (node index : ℕ) (word : Arrow) (r : Rounds) (s : State) where
  abbrev t : Node
  t = node_at c node

  abbrev behind : Plain → State → Outcome
  behind value s1 = turn_over word prev t index r value s1

  -- the block of a turn whose unit is spent
  abbrev runs : State → Node → Outcome
  runs s1 block = after_turn (length s1.locals) (prev block (with_values (head_of block) (given word r) s1)) behind

  pub unit_wanted : (block : Node) → RoundsStand word r → is_over word r ≡ false → Some block ≡ slice_get (parts t) index →
      spend s (λ s1. resumed c prev (frame.RoundWanted node index word r) (goes_on s1)) ≡ turns_left word prev t index r s
  unit_wanted block stand more there =
      spend-same s.units s (λ s1. turn_begun word prev t index r s1) (λ s1. runs s1 block)
      (λ left is. ap (λ (o : Option Node). found o WrongType (span t) (record s { units = left }) (runs (record s { units = left }))) (sym there))
      ∙ ap (λ (o : Option Node). found o WrongType (span t) s (λ b. spend s (λ s1. runs s1 b))) there
      ∙ sym (turn_comes prev t index word r s stand more)

  pub no_block : RoundsStand word r → is_over word r ≡ false → None ≡ slice_get (parts t) index → fails WrongType (span t) s ≡ turns_left word prev t index r s
  no_block stand more none =
      ap (λ (o : Option Node). found o WrongType (span t) s (λ b. spend s (λ s1. runs s1 b))) none
      ∙ sym (turn_comes prev t index word r s stand more)

  pub block_runs : (after : State) (block kept : ℕ) → Some (node_at c block) ≡ slice_get (parts t) index → kept ≡ length s.locals →
      after ≡ with_values (head_of (node_at c block)) (given word r) s →
      resumed c prev (frame.Round node index word kept r) (prev (node_at c block) after) ≡ turn_begun word prev t index r s
  block_runs after block kept there many now =
      let b = node_at c block in
      ap (λ (n : ℕ). after_turn n (prev b after) behind) many
      ∙ ap (λ (x : State). after_turn (length s.locals) (prev b x) behind) now
      ∙ ap (λ (o : Option Node). found o WrongType (span t) s (runs s)) there
