-- The least unknown key of a table, whose keys ascend.
use Rattle.std.proofs.Common.{◌≡◌, ℕ, Bool, true, false, List, [], ◌∷◌, map, Option, Some, None, IfSome, String, Global, if◌then◌else◌, Less, string_bytes, nat_cmp, refl, sym, ap, ◌∙◌}
use Rattle.std.specs.Cmp.Lexicographic.{slice_cmp}
use Rattle.std.specs.List.{AllByRecursion}
use Rattle.std.specs.List.Sorted.{IsStrictlySortedBy}
use Rattle.std.specs.Map.{keys_of}
use Rattle.std.specs.Ordering.{is_lt, ordering_reverse}
use Rattle.std.specs.String.{string_cmp}
use Rattle.std.proofs.lemmas.Cmp.{nat_list_cmp_total}
use Rattle.toml.specs.View.{members_view}
use Rattle.toml.specs.declared.value.Value.{Value}
use Rattle.nl_experiment_keys.specs.Reading.{is_among, keys_in, least_unknown, lesser}

-- the bytes of keys
abbrev pub bytes_of_keys : List (String Global) → List (List ℕ)
bytes_of_keys keys = map string_bytes keys

pub keys_in-entries : (entries : List (String Global × Value)) → keys_in (members_view entries) ≡ bytes_of_keys (keys_of entries)
keys_in-entries [] = refl
keys_in-entries (entry ∷ entries) = ap (λ (keys : List (List ℕ)). string_bytes entry.0 ∷ keys) (keys_in-entries entries)

-- a key that comes before others is the lesser
lesser-first : (key : List ℕ) (o : Option (List ℕ)) → IfSome o (λ other. slice_cmp nat_cmp key other ≡ Less) → lesser key o ≡ key
lesser-first key None h = refl
lesser-first key (Some other) h =
    let back : slice_cmp nat_cmp other key ≡ ordering_reverse Less = nat_list_cmp_total.antisymm other key ∙ ap ordering_reverse h in
    rw back

holds_of_lesser : (P : List ℕ → Type 0) (key : List ℕ) (o : Option (List ℕ)) → P key → IfSome o P → P (lesser key o)
holds_of_lesser P key None here rest = here
holds_of_lesser P key (Some other) here rest = elim (is_lt (slice_cmp nat_cmp other key)) as (λ b. P (if b then other else key)) [ true ↦ rest | false ↦ here ]

by_known : (P : List ℕ → Type 0) (is : Bool) (key : List ℕ) (o : Option (List ℕ)) → P key → IfSome o P → IfSome (if is then o else Some (lesser key o)) P
by_known P true key o here rest = rest
by_known P false key o here rest = holds_of_lesser P key o here rest

-- what holds of all keys holds of the least
least_unknown-all : (P : List ℕ → Type 0) (known : List (List ℕ)) (keys : List (String Global)) → AllByRecursion (λ other. P (string_bytes other)) keys
    → IfSome (least_unknown known (bytes_of_keys keys)) P
least_unknown-all P known [] all = tt
least_unknown-all P known (key ∷ keys) all =
    by_known P (is_among (string_bytes key) known) (string_bytes key) (least_unknown known (bytes_of_keys keys)) all.0 (least_unknown-all P known keys all.1)

-- the keys that are left of a table
pub record Left (known : List (List ℕ)) (keys : List (String Global)) (all : Option (List ℕ)) : Type 0 where
  pub ascend : IsStrictlySortedBy string_cmp keys
  pub least : least_unknown known (bytes_of_keys keys) ≡ all

pub left_first : (known : List (List ℕ)) (entries : List (String Global × Value)) → IsStrictlySortedBy string_cmp (keys_of entries)
    → Left known (keys_of entries) (least_unknown known (keys_in (members_view entries)))
left_first known entries ascend = record { ascend = ascend; least = ap (least_unknown known) (sym (keys_in-entries entries)) }

pub left_known : (known : List (List ℕ)) (key : String Global) (keys : List (String Global)) (all : Option (List ℕ)) → is_among (string_bytes key) known ≡ true
    → Left known (key ∷ keys) all → Left known keys all
unfolding IsStrictlySortedBy
left_known known key keys all is left = record { ascend = left.ascend.1; least = let least = rw is at left.least in least }

pub left_unknown : (known : List (List ℕ)) (key : String Global) (keys : List (String Global)) (all : Option (List ℕ)) → is_among (string_bytes key) known ≡ false
    → Left known (key ∷ keys) all → Some (string_bytes key) ≡ all
unfolding IsStrictlySortedBy
left_unknown known key keys all is left =
    let P : List ℕ → Type 0 = λ other. slice_cmp nat_cmp (string_bytes key) other ≡ Less in
    let first = lesser-first (string_bytes key) (least_unknown known (bytes_of_keys keys)) (least_unknown-all P known keys left.ascend.0) in
    let least = rw (is, first) at left.least in least

pub left_none : (known : List (List ℕ)) (all : Option (List ℕ)) → Left known [] all → None ≡ all
left_none known all left = left.least
