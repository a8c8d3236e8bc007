-- Where a binary search finds a slot among slots that ascend.
use Rattle.std.specs.Prelude.{◌≡◌, ℕ, ◌+◌, ◌<◌, ◌≤◌, false, Result, Ok, Err, Some, length, slice_get, MatchOption}
use Rattle.std.proofs.Common.{ap, sym, ◌∙◌, get_or, arith}
use Rattle.std.specs.List.Sorted.{IsStrictlyIncreasing, IsBinarySearchResult}
use Rattle.std.specs.Ordering.{nat_cmp}
use Rattle.std.specs.Result.{result_ok}
use Rattle.std.proofs.lemmas.Option.{slice_get-get_or}
use Rattle.std.proofs.lemmas.List.{get_or_default}
use Rattle.std.proofs.lemmas.List.Sorted.{IsNonDecreasingBy-from_all_adjacent, searched}
use Rattle.nl_value.proofs.Searching.{found_any}
use Rattle.nl_agents_layout.specs.Nouns.{Slots}
use Rattle.nl_agents_layout.specs.Layouts.{has_slot}

never_falls : (xs : Slots) → IsStrictlyIncreasing xs → (i j : ℕ) → i ≤ j → j < length xs → get_or xs i 0 ≤ get_or xs j 0
never_falls xs up i j le lt =
    IsNonDecreasingBy-from_all_adjacent (λ (x : ℕ). x) xs
    (λ k d l. let a = up k l in omega (arith, get_or_default xs k d 0 (omega arith), get_or_default xs (k + 1) d 0 l))
    i j 0 le lt

-- its place in the list, or that the list hasn't it
pub placed : (xs : Slots) (x : ℕ) (r : Result ℕ ℕ) → IsStrictlyIncreasing xs → IsBinarySearchResult (λ y. nat_cmp y x) xs r
    → MatchOption (result_ok r) (has_slot xs x ≡ false) (λ at. slice_get xs at ≡ Some x)
placed xs x (Ok i) up h =
    let at = searched xs x (Ok i) h (never_falls xs up) in
    slice_get-get_or xs i 0 at.0 ∙ ap Some at.1
placed xs x (Err i) up h = sym (found_any xs x (Err i) up h)
