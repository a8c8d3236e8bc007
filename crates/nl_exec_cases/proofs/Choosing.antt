-- Conditions with their blocks, one after another.
use Rattle.std.proofs.Common.{◌≡◌, ℕ, ◌+◌, Bool, true, false, List, [], ◌∷◌, Option, Some, drop, slice_get, refl, ap, ◌∙◌, sym}
use Rattle.nl_tree.specs.Tree.{Node, span, parts}
use Rattle.nl_exec_acts.specs.declared.fail.ErrorKind.TheVariants.{WrongType}
use Rattle.nl_exec_meaning.specs.Code.{Code, node_at}
use Rattle.nl_exec_meaning.specs.State.{State, Outcome, Eval, choose, found, with_truth, ◌>>=◌}
use Rattle.nl_exec_meaning.specs.Frames.{choices_left, resumed}
use Rattle.nl_exec_meaning.specs.declared.frames.Frame.TheVariants as frame

module _ (c : Code) (prev : Eval) (node at : ℕ) (valued : Bool) (s : State) where
  abbrev t : Node
  t = node_at c node

  -- a condition comes, and behind it its block
  pub condition_comes : (first block : Node) → drop at (parts t) ≡ first ∷ drop (at + 1) (parts t) → drop (at + 1) (parts t) ≡ block ∷ drop (at + 1 + 1) (parts t) →
      Some block ≡ slice_get (parts t) (at + 1) →
      resumed c prev (frame.EitherTest node (at + 1) valued) (prev first s) ≡ choices_left prev t valued (drop at (parts t)) s
  condition_comes first block here next there =
      let left = drop (at + 1 + 1) (parts t) in
      ap (λ (o : Option Node). prev first s >>= λ v s1. with_truth v (span t) s1 (λ truth.
      choose truth (found o WrongType (span t) s1 (λ part. prev part s1)) (choices_left prev t valued (drop 1 (drop (at + 1) (parts t))) s1))) (sym there)
      ∙ ap (λ (ts : List Node). prev first s >>= λ v s1. with_truth v (span t) s1 (λ truth.
      choose truth (prev block s1) (choices_left prev t valued (drop 1 ts) s1))) next
      ∙ sym (ap (λ (ts : List Node). choices_left prev t valued ts s) (here ∙ ap (λ (ts : List Node). first ∷ ts) next))

  -- the last block comes
  pub last_comes : (last : Node) → drop at (parts t) ≡ last ∷ drop (at + 1) (parts t) → drop (at + 1) (parts t) ≡ [] →
      prev last s ≡ choices_left prev t valued (drop at (parts t)) s
  last_comes last here none = sym (ap (λ (ts : List Node). choices_left prev t valued ts s) (here ∙ ap (λ (ts : List Node). last ∷ ts) none))
