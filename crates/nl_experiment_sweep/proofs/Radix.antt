-- Combinations as numbers whose digits are the indexes of values.
use Rattle.std.proofs.Common.{◌≡◌, ℕ, ℤ, ◌^◌, false, nat_lt, ◌*◌, ◌/◌, ◌%◌, ◌<◌, ◌≤◌, List, [], ◌∷◌, ◌++◌, length, append_assoc, true, Option, sym, ap, subst, ◌∙◌, arith}
use Rattle.std.proofs.lemmas.List.Elements.{All-head, All-tail}
use Rattle.std.proofs.lemmas.Bool.Decides.{nat_tests}
use Rattle.std.proofs.lemmas.Nat.{mod_below}
use Rattle.std.proofs.Math.Nat.{mul-div_cancel_left, mod-le, div-le_self}
use Rattle.std.specs.Str.{bytes_eq}
use Rattle.nl_fixed.specs.Nouns.{Name}
use Rattle.nl_value.specs.Plain.{Plain}
use Rattle.nl_experiment_sweep.specs.declared.varied.Choice.{Choice}
use Rattle.nl_experiment_sweep.specs.declared.varied.Choice.TheVariants.{Listed, Stepped}
use Rattle.nl_experiment_sweep.specs.declared.varied.Vary.{Vary}
use Rattle.nl_experiment_sweep.specs.Varied.{HasValues, AllHaveValues, count_in, count_of, number_among, value_of, PlainSetting}
use Rattle.nl_experiment_sweep.specs.Sweep.{combinations, index_of, settings_in}

-- a choice that has values has some
pub has_some : (choice : Choice) → HasValues choice → 0 < count_of choice
has_some (Listed values) has = has
has_some (Stepped from step count) has = has.0

pub first_has : (v : Vary) (vs : List Vary) → AllHaveValues (v ∷ vs) → HasValues v.choice
first_has v vs all = All-head (λ (v : Vary). HasValues v.choice) v vs all

pub others_have : (v : Vary) (vs : List Vary) → AllHaveValues (v ∷ vs) → AllHaveValues vs
others_have v vs all = All-tail (λ (v : Vary). HasValues v.choice) v vs all

mul_positive : (m n : ℕ) → 0 < m → 0 < n → 0 < m * n
mul_positive m n a b = grind arith

-- there is a combination
pub some_combination : (vs : List Vary) → AllHaveValues vs → 0 < combinations vs
some_combination [] all = omega arith
some_combination (v ∷ vs) all = mul_positive (count_of v.choice) (combinations vs) (has_some v.choice (first_has v vs all)) (some_combination vs (others_have v vs all))

-- without the first variable there are as many times fewer as it has values
pub combinations_behind : (v : Vary) (vs : List Vary) → AllHaveValues (v ∷ vs) → combinations (v ∷ vs) / count_of v.choice ≡ combinations vs
combinations_behind v vs all = mul-div_cancel_left (combinations vs) (has_some v.choice (first_has v vs all))

pub no_more_behind : (v : Vary) (vs : List Vary) → AllHaveValues (v ∷ vs) → combinations vs ≤ combinations (v ∷ vs)
no_more_behind v vs all = by (count_of v.choice) (combinations vs) (has_some v.choice (first_has v vs all))
  where
    by : (m n : ℕ) → 0 < m → n ≤ m * n
    by m n h = grind arith

pub index_below : (c : ℕ) (v : Vary) (vs : List Vary) → AllHaveValues (v ∷ vs) → index_of c v vs < count_of v.choice
index_below c v vs all = mod_below (c / combinations vs) (count_of v.choice) (has_some v.choice (first_has v vs all))

-- ---- products, by numbers alone

pub carried : (p n m t : ℕ) → p * (n * m) ≡ t → p * n * m ≡ t
carried p n m t h = grind arith

-- a product that is too large stays so, where there is a combination of what is left
pub stays_large : (p m t limit : ℕ) → p * m ≡ t → limit ≤ p → 0 < m → limit ≤ t
stays_large p m t limit h large some = grind arith

-- ---- the loop over variables: what a product comes to

pub product_more : (product total more : ℕ) (left : List Vary) (v : Vary) (behind : List Vary)
    → left ≡ v ∷ behind → product * combinations left ≡ total → AllHaveValues left → product * count_of v.choice ≡ more
    → (more * combinations behind ≡ total) × AllHaveValues behind
product_more product total more left v behind same is all by =
    let is' = rw same at is in
    let all' = subst AllHaveValues same all in
    (ap (λ n. n * combinations behind) (sym by) ∙ carried product (count_of v.choice) (combinations behind) total is', others_have v behind all')

pub product_large : (product total : ℕ) (left : List Vary) (v : Vary) (behind : List Vary)
    → left ≡ v ∷ behind → product * combinations left ≡ total → AllHaveValues left → (product * count_of v.choice < 2 ^ 64 → ⊥) → nat_lt total (2 ^ 64) ≡ false
product_large product total left v behind same is all large =
    let is' = rw same at is in
    let all' = subst AllHaveValues same all in
    let many : 2 ^ 64 ≤ product * count_of v.choice = omega (arith, large) in
    let reached : 2 ^ 64 ≤ total = stays_large (product * count_of v.choice) (combinations behind) total (2 ^ 64) (carried product (count_of v.choice) (combinations behind) total is') many (some_combination behind (others_have v behind all')) in
    grind (arith, nat_tests)

pub product_done : (product total : ℕ) (left : List Vary) → length left ≡ 0 → product * combinations left ≡ total → product ≡ total
product_done product total [] none is = omega (arith, is)
product_done product total (v ∷ left) none is = absurd (omega (arith, none))

-- ---- one variable after the other: what holds at each

pub record Step (c others : ℕ) (v : Vary) (behind : List Vary) : Type 0 where
  pub has : HasValues v.choice
  pub some : 0 < count_of v.choice
  pub others_are : others / count_of v.choice ≡ combinations behind
  pub positive : 0 < others / count_of v.choice
  pub below : c / (others / count_of v.choice) % count_of v.choice < count_of v.choice
  pub few : c / (others / count_of v.choice) % count_of v.choice ≤ c
  pub index : c / (others / count_of v.choice) % count_of v.choice ≡ index_of c v behind
  pub fewer : others / count_of v.choice ≤ others
  pub rest : AllHaveValues behind

no_more : (c m n : ℕ) → c / m % n ≤ c
no_more c m n = omega (arith, mod-le (c / m) n, div-le_self c m)

pub step : (c others : ℕ) (left : List Vary) (v : Vary) (behind : List Vary) → left ≡ v ∷ behind → others ≡ combinations left → AllHaveValues left → Step c others v behind
step c others left v behind same is all =
    let all' = subst AllHaveValues same all in
    let has = first_has v behind all' in
    let some = has_some v.choice has in
    let rest = others_have v behind all' in
    let are : others / count_of v.choice ≡ combinations behind = ap (λ n. n / count_of v.choice) (is ∙ ap combinations same) ∙ combinations_behind v behind all' in
    record {
      has = has;
      some = some;
      others_are = are;
      positive = rw are (some_combination behind rest);
      below = mod_below (c / (others / count_of v.choice)) (count_of v.choice) some;
      few = no_more c (others / count_of v.choice) (count_of v.choice);
      index = ap (λ n. c / n % count_of v.choice) are;
      fewer = div-le_self others (count_of v.choice);
      rest = rest;
    }

pub settings_more : (c index : ℕ) (before after all : List PlainSetting) (left : List Vary) (v : Vary) (behind : List Vary) (name : Name) (value : Plain)
    → left ≡ v ∷ behind → before ++ settings_in c left ≡ all → name ≡ v.name → value ≡ value_of v.choice index → index ≡ index_of c v behind
    → after ≡ before ++ record { name = name; value = value } ∷ [] → after ++ settings_in c behind ≡ all
settings_more c index before after all left v behind name value same whole is_name is_value is_index is_after =
    let one : PlainSetting = record { name = name; value = value } in
    let first : PlainSetting = record { name = v.name; value = value_of v.choice (index_of c v behind) } in
    let is_one : one ≡ first = rw (is_name, is_value, is_index) in
    let joined : before ++ one ∷ [] ++ settings_in c behind ≡ before ++ settings_in c (v ∷ behind) =
    append_assoc before (one ∷ []) (settings_in c behind) ∙ ap (λ (s : PlainSetting). before ++ s ∷ settings_in c behind) is_one in
    ap (λ (ss : List PlainSetting). ss ++ settings_in c behind) is_after ∙ joined ∙ ap (λ vs. before ++ settings_in c vs) (sym same) ∙ whole

pub number_found : (c index : ℕ) (name : Name) (all : Option ℤ) (left : List Vary) (v : Vary) (behind : List Vary)
    → left ≡ v ∷ behind → number_among name (settings_in c left) ≡ all → bytes_eq v.name name ≡ true → index ≡ index_of c v behind
    → count_in (value_of v.choice index) ≡ all
number_found c index name all left v behind same whole named is_index =
    let whole' = rw (same, named) at whole in
    ap (λ i. count_in (value_of v.choice i)) is_index ∙ whole'

pub number_passed : (c : ℕ) (name : Name) (all : Option ℤ) (left : List Vary) (v : Vary) (behind : List Vary)
    → left ≡ v ∷ behind → number_among name (settings_in c left) ≡ all → bytes_eq v.name name ≡ false → number_among name (settings_in c behind) ≡ all
number_passed c name all left v behind same whole named = rw (same, named) at whole
