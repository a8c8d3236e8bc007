-- Lists as they are walked: the first that passes a test.
use Rattle.std.specs.Prelude.{◌≡◌, ℕ, ◌<◌, ◌≤◌, ◌+◌, Bool, true, false, if◌then◌else◌, List, length, drop, find, Some, None}
use Rattle.std.proofs.Common.{ap, ◌∙◌, get_or}
use Rattle.std.proofs.lemmas.List.{drop_more, drop_all}

pub found_here : (p : ℕ → Bool) (xs : List ℕ) (i : ℕ) → i < length xs → p (get_or xs i 0) ≡ true → find p (drop i xs) ≡ Some (get_or xs i 0)
found_here p xs i inside passes = ap (find p) (drop_more xs i 0 inside) ∙ ap (λ b. if b then Some (get_or xs i 0) else find p (drop (i + 1) xs)) passes

pub found_later : (p : ℕ → Bool) (xs : List ℕ) (i : ℕ) → i < length xs → p (get_or xs i 0) ≡ false → find p (drop i xs) ≡ find p (drop (i + 1) xs)
found_later p xs i inside fails = ap (find p) (drop_more xs i 0 inside) ∙ ap (λ b. if b then Some (get_or xs i 0) else find p (drop (i + 1) xs)) fails

pub found_none : (p : ℕ → Bool) (xs : List ℕ) (i : ℕ) → length xs ≤ i → find p (drop i xs) ≡ None
found_none p xs i over = ap (find p) (drop_all i xs over)
