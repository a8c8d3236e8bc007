-- The limit on values beside the state of the stream.
use Rattle.std.proofs.Common.{◌≡◌, ℕ, Bool, true, false, Ok, Err, OnErr, List, refl, sym, ap, ◌∙◌, if◌then◌else◌}
use Rattle.nl_value.specs.declared.values.Value.{Value}
use Rattle.nl_value.specs.Plain.{Plain}
use Rattle.nl_value.specs.Living.{Living}
use Rattle.nl_value.specs.Limits.{within_limits}
use Rattle.nl_value.specs.Views.{plain}
use Rattle.nl_listops_series.specs.declared.fail.ListFail.TheVariants.{TooLarge}
use Rattle.nl_listops_series.specs.Outcomes.{ListOutcome, and_then, outcome_map, kept_within, limited, Gives}
use Rattle.nl_listops.specs.declared.words.ValueWord.{ValueWord}
use Rattle.nl_listops.specs.declared.words.ValueWord.TheVariants as word
use Rattle.nl_listops.specs.declared.words.Draw.{Draw}
use Rattle.nl_listops.specs.Answers.{answer_of, of_many, kept_answer, word_answer, Answers}
use Rattle.nl_listops.specs.inner.Steps.{within_or_not}

abbrev pub beside : ℕ → Plain → Plain × ℕ
beside state value = (value, state)

-- ---- the limit, tested once and again

by_limit : (value : Plain) (state : ℕ) (b : Bool) → (if b then Ok (value, state) else Err TooLarge) ≡ outcome_map (beside state) (if b then Ok value else Err TooLarge)
by_limit value state true = refl
by_limit value state false = refl

kept_beside : (o : ListOutcome Plain) (state : ℕ) → and_then (outcome_map (beside state) o) kept_answer ≡ outcome_map (beside state) (limited o)
kept_beside (Ok value) state = by_limit value state (within_limits value)
kept_beside (Err fail) state = refl

again_by : (value : Plain) (b : Bool) → within_limits value ≡ b → and_then (if b then Ok value else Err TooLarge) kept_within ≡ (if b then Ok value else Err TooLarge)
again_by value true is = ap (λ b. if b then Ok value else Err TooLarge) is
again_by value false is = refl

limited_again : (o : ListOutcome Plain) → limited (limited o) ≡ limited o
limited_again (Ok value) = again_by value (within_limits value) refl
limited_again (Err fail) = refl

-- ---- a word that draws nothing

pub told : (w : Living) (which : ValueWord) (inputs : List Plain) (state : ℕ) → ((draw : Draw) → which ≡ word.Draws draw → ⊥) →
    word_answer w which inputs state ≡ outcome_map (beside state) (limited (within_or_not w which inputs))
told w (word.OfMany which) inputs state never = kept_beside (of_many w which inputs) state ∙ ap (outcome_map (beside state)) (sym (limited_again (of_many w which inputs)))
told w (word.Draws which) inputs state never = absurd (never which refl)
told w (word.Fixed which) inputs state never = kept_beside (answer_of w (word.Fixed which) inputs) state
told w (word.OfNumber which) inputs state never = kept_beside (answer_of w (word.OfNumber which) inputs) state
told w (word.OfNumbers which) inputs state never = kept_beside (answer_of w (word.OfNumbers which) inputs) state
told w word.Not inputs state never = kept_beside (answer_of w word.Not inputs) state
told w (word.OfTruths which) inputs state never = kept_beside (answer_of w (word.OfTruths which) inputs) state
told w (word.Compare which) inputs state never = kept_beside (answer_of w (word.Compare which) inputs) state
told w (word.IsKind which) inputs state never = kept_beside (answer_of w (word.IsKind which) inputs) state
told w (word.OfList which) inputs state never = kept_beside (answer_of w (word.OfList which) inputs) state
told w (word.PutAtEnd which) inputs state never = kept_beside (answer_of w (word.PutAtEnd which) inputs) state
told w (word.OfSeries which) inputs state never = kept_beside (answer_of w (word.OfSeries which) inputs) state
told w (word.AtPlace which) inputs state never = kept_beside (answer_of w (word.AtPlace which) inputs) state
told w (word.PutAtPlace which) inputs state never = kept_beside (answer_of w (word.PutAtPlace which) inputs) state
told w (word.Search which) inputs state never = kept_beside (answer_of w (word.Search which) inputs) state
told w word.Sublist inputs state never = kept_beside (answer_of w word.Sublist inputs) state
told w word.Substring inputs state never = kept_beside (answer_of w word.Substring inputs) state
told w (word.Statistic which) inputs state never = kept_beside (answer_of w (word.Statistic which) inputs) state
told w word.ShadeOf inputs state never = kept_beside (answer_of w word.ShadeOf inputs) state
told w word.ScaleColor inputs state never = kept_beside (answer_of w word.ScaleColor inputs) state

-- what a call gives beside a state that stays
pub gives_beside : (result : ListOutcome Value) (state : ℕ) (o : ListOutcome Plain) → Gives (outcome_map plain result) o → Answers result state (outcome_map (beside state) o)
gives_beside (Ok value) state o is = ap (outcome_map (beside state)) is
gives_beside (Err fail) state o is = λ other. ap (outcome_map (beside state)) (is other)

pub stays_at : (result : ListOutcome Value) (state : ℕ) → OnErr result (state ≡ state)
stays_at (Ok value) state = tt
stays_at (Err fail) state = refl
