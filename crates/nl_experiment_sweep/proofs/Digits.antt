-- Settings by the digits of a combination, which are the indexes of values.
use Rattle.std.proofs.Common.{◌≡◌, ℕ, ℤ, ◌+◌, ◌*◌, ◌/◌, ◌%◌, ◌<◌, Bool, true, false, List, [], ◌∷◌, Option, Some, None, if◌then◌else◌, refl, ap, ◌∙◌, arith}
use Rattle.std.specs.Option.{option_and_then, option_map, unwrap_or}
use Rattle.std.specs.Str.{bytes_eq}
use Rattle.std.proofs.lemmas.Nat.{div-mul-add, mul-add-lt}
use Rattle.std.proofs.lemmas.Slice.Eq.{bytes_eq-Decides}
use Rattle.std.proofs.Math.Nat.{mul-add-div_right, mul-add-mod_self_right, mod-eq_of_lt}
use Rattle.nl_fixed.specs.Nouns.{Name}
use Rattle.nl_fixed.specs.Numbers.{whole_part}
use Rattle.nl_experiment_sweep.specs.declared.varied.Choice.{Choice}
use Rattle.nl_experiment_sweep.specs.declared.varied.Vary.{Vary}
use Rattle.nl_experiment_sweep.specs.Varied.{AllHaveValues, PlainSetting, count_in, count_of, number_among, value_of}
use Rattle.nl_experiment_sweep.specs.Sweep.{bound_or, combinations, index_of, settings_in}
use Rattle.nl_experiment_sweep.specs.inner.Bounds.{bound_at, bound_count, choice_among}
use Rattle.nl_experiment_sweep.proofs.Radix.{first_has, has_some, index_below, others_have, some_combination}

-- ---- what is more than a whole round of the variables left doesn't matter

pub regrouped : (q n m : ℕ) → q * (n * m) ≡ q * n * m
regrouped q n m = grind arith

round_index : (q c n m : ℕ) → 0 < m → (q * (n * m) + c) / m % n ≡ c / m % n
round_index q c n m some =
    ap (λ k. (k + c) / m % n) (regrouped q n m) ∙ ap (λ k. k % n) (mul-add-div_right some (q * n) c) ∙ mul-add-mod_self_right q n (c / m)

pub low_index : (q c : ℕ) (v : Vary) (vs : List Vary) → AllHaveValues (v ∷ vs) → index_of (q * combinations (v ∷ vs) + c) v vs ≡ index_of c v vs
low_index q c v vs all = round_index q c (count_of v.choice) (combinations vs) (some_combination vs (others_have v vs all))

pub settings_low : (q c : ℕ) (vs : List Vary) → AllHaveValues vs → settings_in (q * combinations vs + c) vs ≡ settings_in c vs
settings_low q c [] all = refl
settings_low q c (v ∷ vs) all =
    let first = low_index q c v vs all in
    let rest : settings_in (q * combinations (v ∷ vs) + c) vs ≡ settings_in c vs =
    ap (λ k. settings_in (k + c) vs) (regrouped q (count_of v.choice) (combinations vs)) ∙ settings_low (q * count_of v.choice) c vs (others_have v vs all) in
    ap (λ i. record { name = v.name; value = value_of v.choice i } ∷ settings_in (q * combinations (v ∷ vs) + c) vs) first
    ∙ ap (λ (ss : List PlainSetting). record { name = v.name; value = value_of v.choice (index_of c v vs) } ∷ ss) rest

-- the first digit
pub first_index : (i c : ℕ) (v : Vary) (vs : List Vary) → i < count_of v.choice → c < combinations vs → index_of (i * combinations vs + c) v vs ≡ i
first_index i c v vs below low = ap (λ k. k % count_of v.choice) (div-mul-add i (combinations vs) c low) ∙ mod-eq_of_lt below

-- the first variable is the slowest
pub first_is_slowest : (v : Vary) (vs : List Vary) (i c : ℕ) → AllHaveValues (v ∷ vs) → i < count_of v.choice → c < combinations vs
    → settings_in (i * combinations vs + c) (v ∷ vs) ≡ record { name = v.name; value = value_of v.choice i } ∷ settings_in c vs
first_is_slowest v vs i c all below low =
    ap (λ k. record { name = v.name; value = value_of v.choice k } ∷ settings_in (i * combinations vs + c) vs) (first_index i c v vs below low)
    ∙ ap (λ (ss : List PlainSetting). record { name = v.name; value = value_of v.choice i } ∷ ss) (settings_low i c vs (others_have v vs all))

-- ---- the index of the first variable that has a name

abbrev pub index_among : Name → ℕ → List Vary → ℕ
index_among name c [] = 0
index_among name c (v ∷ vs) = if bytes_eq v.name name then index_of c v vs else index_among name c vs

pub number_by_index : (name : Name) (c : ℕ) (vs : List Vary)
    → number_among name (settings_in c vs) ≡ option_and_then (λ choice. count_in (value_of choice (index_among name c vs))) (choice_among name vs)
number_by_index name c [] = refl
number_by_index name c (v ∷ vs) = by (number_by_index name c vs) (bytes_eq v.name name) refl
  where
    by : number_among name (settings_in c vs) ≡ option_and_then (λ choice. count_in (value_of choice (index_among name c vs))) (choice_among name vs) → (named : Bool) → bytes_eq v.name name ≡ named
        → number_among name (settings_in c (v ∷ vs)) ≡ option_and_then (λ choice. count_in (value_of choice (index_among name c (v ∷ vs)))) (choice_among name (v ∷ vs))
    by rest true is = rw is
    by rest false is = rw is rest

bound_by : (usual : ℤ) (choice : Option Choice) (index : ℕ) (number : Option ℤ)
    → number ≡ option_and_then (λ choice. count_in (value_of choice index)) choice → unwrap_or (option_map whole_part number) usual ≡ bound_at usual choice index
bound_by usual None index number is = rw is
bound_by usual (Some choice) index number is = rw is

pub bound_by_index : (usual : ℤ) (name : Name) (c : ℕ) (vs : List Vary) → bound_or usual name (settings_in c vs) ≡ bound_at usual (choice_among name vs) (index_among name c vs)
bound_by_index usual name c vs = bound_by usual (choice_among name vs) (index_among name c vs) (number_among name (settings_in c vs)) (number_by_index name c vs)

-- it is below the count of values
pub index_among_below : (name : Name) (c : ℕ) (vs : List Vary) → AllHaveValues vs → index_among name c vs < bound_count (choice_among name vs)
index_among_below name c [] all = omega arith
index_among_below name c (v ∷ vs) all = by (index_among_below name c vs (others_have v vs all)) (bytes_eq v.name name) refl
  where
    by : index_among name c vs < bound_count (choice_among name vs) → (named : Bool) → bytes_eq v.name name ≡ named → index_among name c (v ∷ vs) < bound_count (choice_among name (v ∷ vs))
    by rest true is = rw is (index_below c v vs all)
    by rest false is = rw is rest

low_among : (q c : ℕ) (name : Name) (vs : List Vary) → AllHaveValues vs → index_among name (q * combinations vs + c) vs ≡ index_among name c vs
low_among q c name [] all = refl
low_among q c name (v ∷ vs) all = by (low_among (q * count_of v.choice) c name vs (others_have v vs all)) (bytes_eq v.name name) refl
  where
    by : index_among name (q * count_of v.choice * combinations vs + c) vs ≡ index_among name c vs → (named : Bool) → bytes_eq v.name name ≡ named → index_among name (q * combinations (v ∷ vs) + c) (v ∷ vs) ≡ index_among name c (v ∷ vs)
    by rest true is = rw is (low_index q c v vs all)
    by rest false is = rw is (ap (λ k. index_among name (k + c) vs) (regrouped q (count_of v.choice) (combinations vs)) ∙ rest)

-- ---- a combination that has given indexes

pub some_values : (name : Name) (vs : List Vary) → AllHaveValues vs → 0 < bound_count (choice_among name vs)
some_values name [] all = omega arith
some_values name (v ∷ vs) all = by (some_values name vs (others_have v vs all)) (bytes_eq v.name name) refl
  where
    by : 0 < bound_count (choice_among name vs) → (named : Bool) → bytes_eq v.name name ≡ named → 0 < bound_count (choice_among name (v ∷ vs))
    by rest true is = rw is (has_some v.choice (first_has v vs all))
    by rest false is = rw is rest

pub record Combined (wanted : Name → ℕ) (vs : List Vary) : Type 0 where
  pub combination : ℕ
  pub below : combination < combinations vs
  pub indexes : (name : Name) → index_among name combination vs ≡ wanted name

abbrev without : Name → (Name → ℕ) → Name → ℕ
without first wanted name = if bytes_eq first name then 0 else wanted name

pub same_name : (a b : Name) → bytes_eq a b ≡ true → a ≡ b
same_name a b is = (bytes_eq-Decides a b).0 is

named_itself : (a : Name) → bytes_eq a a ≡ true
named_itself a = (bytes_eq-Decides a a).1 refl

pub joined_below : (i c n m : ℕ) → i < n → c < m → i * m + c < n * m
joined_below i c n m a b = omega (arith, mul-add-lt i m c n a b)

pub combined : (wanted : Name → ℕ) (vs : List Vary) → AllHaveValues vs → ((name : Name) → wanted name < bound_count (choice_among name vs)) → Combined wanted vs
combined wanted [] all fits = record { combination = 0; below = omega arith; indexes = λ name. omega (arith, fits name) }
combined wanted (v ∷ vs) all fits = join (combined (without v.name wanted) vs (others_have v vs all) fit_without)
  where
    fit_by : (name : Name) (named : Bool) → bytes_eq v.name name ≡ named → without v.name wanted name < bound_count (choice_among name vs)
    fit_by name true is = rw is (some_values name vs (others_have v vs all))
    fit_by name false is =
        let there : wanted name < bound_count (choice_among name (v ∷ vs)) = fits name in
        let fit = rw is at there in
        rw is fit

    fit_without : (name : Name) → without v.name wanted name < bound_count (choice_among name vs)
    fit_without name = fit_by name (bytes_eq v.name name) refl

    first_fits : wanted v.name < count_of v.choice
    first_fits =
        let there : wanted v.name < bound_count (choice_among v.name (v ∷ vs)) = fits v.name in
        let fit = rw (named_itself v.name) at there in
        fit

    index_by : (rest : Combined (without v.name wanted) vs) (name : Name) (named : Bool) → bytes_eq v.name name ≡ named
        → index_among name (wanted v.name * combinations vs + rest.combination) (v ∷ vs) ≡ wanted name
    index_by rest name true is = rw is (first_index (wanted v.name) rest.combination v vs first_fits rest.below ∙ ap wanted (same_name v.name name is))
    index_by rest name false is = rw is (low_among (wanted v.name) rest.combination name vs (others_have v vs all) ∙ rest.indexes name ∙ (rw is))

    join : Combined (without v.name wanted) vs → Combined wanted (v ∷ vs)
    join rest = record {
      combination = wanted v.name * combinations vs + rest.combination;
      below = joined_below (wanted v.name) rest.combination (count_of v.choice) (combinations vs) first_fits rest.below;
      indexes = λ name. index_by rest name (bytes_eq v.name name) refl;
    }
