-- What holds of each value that turns can end with.
use Rattle.std.proofs.Common.{◌≡◌, ℕ, zero, suc, ◌≤◌, Bool, true, false, List, [], ◌∷◌, Option, Some, None, length, slice_get, refl, ap, length-take, arith}
use Rattle.nl_fixed.specs.declared.span.Span.{Span}
use Rattle.nl_value.specs.Plain.{Plain}
use Rattle.nl_tree.specs.Tree.{Node, span, parts}
use Rattle.nl_exec_acts.specs.declared.fail.ErrorKind.{ErrorKind}
use Rattle.nl_exec_acts.specs.declared.fail.ErrorKind.TheVariants.{WrongType}
use Rattle.nl_exec_meaning.specs.State.{State, Held, Exit, Outcome, Eval, Gives, Stopped, Reported, Left, Budget, Error, choose, found, gives, spend_by}
use Rattle.nl_exec_meaning.specs.Blocks.{cut_to}
use Rattle.nl_exec_meaning.specs.Arrows.{after_turn_by, all_turns, head_of, turn_with, with_values}
use Rattle.nl_exec_arrows.specs.Laws.{TurnsAreForgotten}

-- if it ends with a value, this holds of the value and of what is left
abbrev pub EndsWith : (Plain → State → Type 0) → Outcome → Type 0
EndsWith R o = (value : Plain) → o.exit ≡ Gives value → R value o.state

module _ (R : Plain → State → Type 0) where
  found_ends : {X : Type 0} (o : Option X) (kind : ErrorKind) (place : Span) (s : State) (next : X → Outcome) →
      ((x : X) → o ≡ Some x → EndsWith R (next x)) → EndsWith R (found o kind place s next)
  found_ends None kind place s next h = λ value is. absurd (cc)
  found_ends (Some x) kind place s next h = h x refl

  spend_ends : (units : ℕ) (s : State) (next : State → Outcome) → ((s1 : State) → s1.locals ≡ s.locals → EndsWith R (next s1)) → EndsWith R (spend_by units s next)
  spend_ends zero s next h = λ value is. absurd (cc)
  spend_ends (suc units) s next h = h (record s { units = units }) refl

  after_ends : (e : Exit) (kept : ℕ) (s : State) (next : Plain → State → Outcome) →
      ((value : Plain) → e ≡ Gives value → EndsWith R (next value (cut_to kept s))) → EndsWith R (after_turn_by e kept s next)
  after_ends (Gives value) kept s next h = h value refl
  after_ends Stopped kept s next h = λ value is. absurd (cc)
  after_ends (Reported value) kept s next h = λ other is. absurd (cc)
  after_ends Left kept s next h = λ value is. absurd (cc)
  after_ends Budget kept s next h = λ value is. absurd (cc)
  after_ends (Error kind place body) kept s next h = λ value is. absurd (cc)

  pub choose_ends : (truth : Bool) (first second : Outcome) → EndsWith R first → EndsWith R second → EndsWith R (choose truth first second)
  choose_ends true first second one other = one
  choose_ends false first second one other = other

-- the block had this value in a turn with these values
pub record HadValue (prev : Eval) (t : Node) (index : ℕ) (values : List Plain) (value : Plain) : Type 0 where
  pub block : Node
  pub begun : State
  pub there : slice_get (parts t) index ≡ Some block
  pub had : (prev block (with_values (head_of block) values begun)).exit ≡ Gives value

module _ (R : Plain → State → Type 0) (prev : Eval) (t : Node) (index : ℕ) where
  pub turn_ends : (values : List Plain) (s : State) (next : Plain → State → Outcome) →
      ((value : Plain) (s1 : State) → HadValue prev t index values value → length s1.locals ≤ length s.locals → EndsWith R (next value s1)) →
      EndsWith R (turn_with prev t index values s next)
  turn_ends values s next h =
      found_ends R (slice_get (parts t) index) WrongType (span t) s _ (λ block there.
      spend_ends R s.units s _ (λ s1 same. ran block there s1 same))
    where
      ran : (block : Node) → slice_get (parts t) index ≡ Some block → (s1 : State) → s1.locals ≡ s.locals →
          EndsWith R (after_turn_by (prev block (with_values (head_of block) values s1)).exit (length s1.locals) (prev block (with_values (head_of block) values s1)).state next)
      ran block there s1 same =
          let o = prev block (with_values (head_of block) values s1) in
          let cut = length-take (length s1.locals) o.state.locals in
          let many = ap (λ (held : List Held). length held) same in
          after_ends R o.exit (length s1.locals) o.state next (λ value had.
          h value (cut_to (length s1.locals) o.state) (record { block = block; begun = s1; there = there; had = had }) (omega (arith, cut, many)))

  module _ {X A : Type 0} (given : A → X → List Plain) (make : A → X → Plain → Option A) (P : List X → A → Type 0) where
    -- what holds of the items that are left and of what was made so far, at the start and behind each turn, holds at the end
    pub turns_end : ((x : X) (xs : List X) (made more : A) (value : Plain) → HadValue prev t index (given made x) value → make made x value ≡ Some more → P (x ∷ xs) made → P xs more) →
        (next : A → State → Outcome) → ((made : A) (s : State) → P [] made → EndsWith R (next made s)) →
        (xs : List X) (made : A) (s : State) → P xs made → EndsWith R (all_turns prev t index given make xs made s next)
    turns_end step next last [] made s p = last made s p
    turns_end step next last (x ∷ xs) made s p =
        turn_ends (given made x) s _ (λ value s1 had less.
        found_ends R (make made x value) WrongType (span t) s1 _ (λ more is.
        turns_end step next last xs more s1 (step x xs made more value had is p)))

pub turns_are_forgotten : TurnsAreForgotten
turns_are_forgotten prev t index values s value is =
    turn_ends (λ given s1. length s1.locals ≤ length s.locals) prev t index values s gives (λ given s1 had less. λ other same. less) value is
