-- The answer of a query beside the state of the stream.
use Rattle.std.specs.Prelude.{◌≡◌, ℕ, true, List, Option, Ok, Err, IfOk, OnErr, refl}
use Rattle.std.proofs.Common.{ap, subst}
use Rattle.nl_value.specs.Plain.{Plain}
use Rattle.nl_value.specs.Views.{plain}
use Rattle.nl_value.specs.declared.values.Value.{Value}
use Rattle.nl_agents_layout.specs.Nouns.{BreedNumber}
use Rattle.nl_agents.specs.World.{Rest}
use Rattle.nl_agents.specs.Standing.{fits_rest}
use Rattle.nl_agents.specs.declared.agents.Owner.{Owner}
use Rattle.nl_agentset_query.specs.Outcomes.{QueryOutcome, outcome_map, Gives, Answers}
use Rattle.nl_agentset_query.specs.declared.words.Choice.{Choice}
use Rattle.nl_agentset_query.specs.declared.words.QueryWord.{QueryWord}
use Rattle.nl_agentset_query.specs.declared.words.QueryWord.TheVariants as word
use Rattle.nl_agentset.specs.Queries.{told, query_answer}

pub given_so : {X : Type 0} (P : X → Type 0) (o : QueryOutcome X) (x : X) → IfOk o P → o ≡ Ok x → P x
given_so P (Ok y) x so is = let same : y ≡ x = cc in subst P same so
given_so P (Err fail) x so is = cc

-- what is given fits where the outcome does
pub fits_so : (r : Rest) (result : QueryOutcome Value) (state : ℕ) (o : QueryOutcome (Plain × ℕ)) → Answers result state o
    → IfOk o (λ (answer : Plain × ℕ). fits_rest r answer.0 ≡ true) → IfOk result (λ value. fits_rest r (plain value) ≡ true)
fits_so r (Ok value) state o is fit = given_so (λ (answer : Plain × ℕ). fits_rest r answer.0 ≡ true) o (plain value, state) fit is
fits_so r (Err fail) state o is fit = tt

pub told_fits_so : (r : Rest) (result : QueryOutcome Value) (o : QueryOutcome Plain) → Gives (outcome_map plain result) o
    → IfOk o (λ p. fits_rest r p ≡ true) → IfOk result (λ value. fits_rest r (plain value) ≡ true)
told_fits_so r (Ok value) o is fit = given_so (λ p. fits_rest r p ≡ true) o (plain value) fit is
told_fits_so r (Err fail) o is fit = tt

pub stays_so : (result : QueryOutcome Value) (P : Type 0) → P → OnErr result P
stays_so (Ok value) P is = tt
stays_so (Err fail) P is = is

beside : (result : QueryOutcome Value) (state : ℕ) (o : QueryOutcome Plain) → Gives (outcome_map plain result) o → Answers result state (outcome_map (λ value. (value, state)) o)
beside (Ok value) state o is = ap (outcome_map (λ p. (p, state))) is
beside (Err fail) state o is = λ other. ap (outcome_map (λ p. (p, state))) (is other)

without_draw : (r : Rest) (breed : Option BreedNumber) (caller : Owner) (which : QueryWord) (inputs : List Plain) (state : ℕ) → ((choice : Choice) → which ≡ word.Choice choice → ⊥)
    → outcome_map (λ value. (value, state)) (told r breed caller which inputs) ≡ query_answer r breed caller which inputs state
without_draw r breed caller (word.Choice which) inputs state none = absurd (none which refl)
without_draw r breed caller (word.Whole which) inputs state none = refl
without_draw r breed caller (word.LookUp which) inputs state none = refl
without_draw r breed caller (word.OfBreed which) inputs state none = refl
without_draw r breed caller (word.OfSet which) inputs state none = refl
without_draw r breed caller (word.Union which) inputs state none = refl
without_draw r breed caller (word.Standing which) inputs state none = refl
without_draw r breed caller (word.Around which) inputs state none = refl
without_draw r breed caller (word.PatchBy which) inputs state none = refl
without_draw r breed caller (word.Facing which) inputs state none = refl
without_draw r breed caller (word.Measure which) inputs state none = refl
without_draw r breed caller (word.MeasureXy which) inputs state none = refl
without_draw r breed caller (word.OfEnds which) inputs state none = refl
without_draw r breed caller (word.MyLinks which) inputs state none = refl
without_draw r breed caller (word.Neighbors which) inputs state none = refl
without_draw r breed caller (word.IsNeighbor which) inputs state none = refl
without_draw r breed caller (word.LinkTo which) inputs state none = refl

-- what a word answers that draws nothing
pub told_so : (r : Rest) (breed : Option BreedNumber) (caller : Owner) (which : QueryWord) (inputs : List Plain) (state : ℕ) (result : QueryOutcome Value)
    → ((choice : Choice) → which ≡ word.Choice choice → ⊥) → Gives (outcome_map plain result) (told r breed caller which inputs) → Answers result state (query_answer r breed caller which inputs state)
told_so r breed caller which inputs state result none is =
    subst (λ (o : QueryOutcome (Plain × ℕ)). Answers result state o) (without_draw r breed caller which inputs state none) (beside result state (told r breed caller which inputs) is)
