-- Combinations are the choices of one value for each variable.
use Rattle.std.proofs.Common.{◌≡◌, ℕ, ◌+◌, ◌*◌, ◌/◌, ◌%◌, ◌<◌, List, [], ◌∷◌, refl, sym, ap, ◌∙◌, arith}
use Rattle.std.proofs.lemmas.Nat.{div-add-mod', div_below, mod_below}
use Rattle.std.proofs.Math.Nat.{mod-eq_of_lt}
use Rattle.nl_experiment_sweep.specs.declared.varied.Vary.{Vary}
use Rattle.nl_experiment_sweep.specs.Varied.{AllHaveValues, PlainSetting, count_of, value_of}
use Rattle.nl_experiment_sweep.specs.Sweep.{combinations, index_of, settings_in}
use Rattle.nl_experiment_sweep.specs.Laws.{ChoicesHaveOneCombination, CombinationsAreChoices, IsChoice, IsCombinationOf, SettingsAreTheCombinations, indexes_in, settings_by}
use Rattle.nl_experiment_sweep.proofs.Radix.{index_below, others_have, some_combination}
use Rattle.nl_experiment_sweep.proofs.Digits.{first_index, first_is_slowest, joined_below, low_index, regrouped}

-- ---- a combination has a choice

pub indexes_are_a_choice : (c : ℕ) (vs : List Vary) → AllHaveValues vs → IsChoice vs (indexes_in c vs)
indexes_are_a_choice c [] all = tt
indexes_are_a_choice c (v ∷ vs) all = (index_below c v vs all, indexes_are_a_choice c vs (others_have v vs all))

pub settings_by_indexes : (c : ℕ) (vs : List Vary) → settings_in c vs ≡ settings_by vs (indexes_in c vs)
settings_by_indexes c [] = refl
settings_by_indexes c (v ∷ vs) =
    ap (λ (ss : List PlainSetting). record { name = v.name; value = value_of v.choice (index_of c v vs) } ∷ ss) (settings_by_indexes c vs)

pub combinations_are_choices : CombinationsAreChoices
combinations_are_choices vs c all below =
    (indexes_in c vs, indexes_are_a_choice c vs all, record { below = below; indexes = refl; settings = settings_by_indexes c vs })

-- ---- a choice has a combination

-- what is more than a whole round of the variables doesn't matter
pub indexes_low : (q c : ℕ) (vs : List Vary) → AllHaveValues vs → indexes_in (q * combinations vs + c) vs ≡ indexes_in c vs
indexes_low q c [] all = refl
indexes_low q c (v ∷ vs) all =
    let rest : indexes_in (q * combinations (v ∷ vs) + c) vs ≡ indexes_in c vs =
    ap (λ k. indexes_in (k + c) vs) (regrouped q (count_of v.choice) (combinations vs)) ∙ indexes_low (q * count_of v.choice) c vs (others_have v vs all) in
    ap (λ i. i ∷ indexes_in (q * combinations (v ∷ vs) + c) vs) (low_index q c v vs all) ∙ ap (λ is. index_of c v vs ∷ is) rest

one_more : (i c : ℕ) (v : Vary) (vs : List Vary) (is : List ℕ) → AllHaveValues (v ∷ vs) → i < count_of v.choice → IsCombinationOf vs is c
    → IsCombinationOf (v ∷ vs) (i ∷ is) (i * combinations vs + c)
one_more i c v vs is all low of = record {
  below = joined_below i c (count_of v.choice) (combinations vs) low of.below;
  indexes = ap (λ k. k ∷ indexes_in (i * combinations vs + c) vs) (first_index i c v vs low of.below)
      ∙ ap (λ ks. i ∷ ks) (indexes_low i c vs (others_have v vs all) ∙ of.indexes);
  settings = first_is_slowest v vs i c all low of.below
      ∙ ap (λ (ss : List PlainSetting). record { name = v.name; value = value_of v.choice i } ∷ ss) of.settings;
}

pub settings_are_the_combinations : SettingsAreTheCombinations
settings_are_the_combinations [] [] all of = (0, record { below = omega arith; indexes = refl; settings = refl })
settings_are_the_combinations [] (i ∷ is) all of = absurd of
settings_are_the_combinations (v ∷ vs) [] all of = absurd of
settings_are_the_combinations (v ∷ vs) (i ∷ is) all of =
    let rest = settings_are_the_combinations vs is (others_have v vs all) of.1 in
    (i * combinations vs + rest.0, one_more i rest.0 v vs is all of.0 rest.1)

-- ---- and one only

within_a_round : (c : ℕ) (vs : List Vary) → AllHaveValues vs → indexes_in (c % combinations vs) vs ≡ indexes_in c vs
within_a_round c vs all = sym (indexes_low (c / combinations vs) (c % combinations vs) vs all) ∙ ap (λ k. indexes_in k vs) (div-add-mod' c (combinations vs))

joined : (c d n : ℕ) → c / n ≡ d / n → c % n ≡ d % n → c ≡ d
joined c d n quotients rests = sym (div-add-mod' c n) ∙ ap (λ q. q * n + c % n) quotients ∙ ap (λ r. d / n * n + r) rests ∙ div-add-mod' d n

same_indexes : (vs : List Vary) (c d : ℕ) → AllHaveValues vs → c < combinations vs → d < combinations vs → indexes_in c vs ≡ indexes_in d vs → c ≡ d
same_indexes [] c d all low high same = omega (arith, low, high)
same_indexes (v ∷ vs) c d all low high same =
    let n : ℕ = combinations vs in
    let others = others_have v vs all in
    let some = some_combination vs others in
    let heads : c / n % count_of v.choice ≡ d / n % count_of v.choice = cc in
    let tails : indexes_in c vs ≡ indexes_in d vs = cc in
    let first : c / n ≡ d / n = sym (mod-eq_of_lt (div_below c n (count_of v.choice) some low)) ∙ heads ∙ mod-eq_of_lt (div_below d n (count_of v.choice) some high) in
    let rest : c % n ≡ d % n = same_indexes vs (c % n) (d % n) others (mod_below c n some) (mod_below d n some)
    (within_a_round c vs others ∙ tails ∙ sym (within_a_round d vs others)) in
    joined c d n first rest

pub choices_have_one_combination : ChoicesHaveOneCombination
choices_have_one_combination vs is c d all one other = same_indexes vs c d all one.below other.below (one.indexes ∙ sym other.indexes)
