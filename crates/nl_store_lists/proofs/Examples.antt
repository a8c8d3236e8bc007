-- What the definitions are for three keys, and for lists of other keys.
use Rattle.std.proofs.Common.{◌≡◌, ℕ, List, [], ◌∷◌, Option, Some, None, refl}
use Rattle.nl_store_lists.specs.Chained.{IsOnce, without, at_number, IsWalk, put_last, take_out}
use Rattle.nl_store_lists.specs.Rising.{collect}

-- the border leads to 7, 7 to 3, 3 to 5, and 5 to the border
three : Option ℕ → Option ℕ
three None = Some 7
three (Some key) = at_number (at_number (λ _. None) 3 (Some 5)) 7 (Some 3) key

three_are_walked : IsWalk three None (7 ∷ 3 ∷ 5 ∷ [])
unfolding three
three_are_walked = (refl, (refl, (refl, refl)))

three_are_once : IsOnce (7 ∷ 3 ∷ 5 ∷ [])
three_are_once = (refl, (refl, (refl, tt)))

a_middle_key_is_taken : without 3 (7 ∷ 3 ∷ 5 ∷ []) ≡ 7 ∷ 5 ∷ []
a_middle_key_is_taken = refl

the_last_key_is_taken : without 5 (7 ∷ 3 ∷ 5 ∷ []) ≡ 7 ∷ 3 ∷ []
the_last_key_is_taken = refl

a_missing_key_isn't_taken : without 4 (7 ∷ 3 ∷ 5 ∷ []) ≡ 7 ∷ 3 ∷ 5 ∷ []
a_missing_key_isn't_taken = refl

-- two lists, of which the first has these keys
two : ℕ → List ℕ
two = at_number (λ _. 4 ∷ []) 0 (7 ∷ 3 ∷ [])

a_key_is_put_in_one_list : (put_last two 1 5 0 ≡ 7 ∷ 3 ∷ []) × (put_last two 1 5 1 ≡ 4 ∷ 5 ∷ [])
unfolding two
a_key_is_put_in_one_list = (refl, refl)

a_key_is_taken_from_one_list : (take_out two 0 7 0 ≡ 3 ∷ []) × (take_out two 0 7 1 ≡ 4 ∷ [])
unfolding two
a_key_is_taken_from_one_list = (refl, refl)

-- a function that has keys for the numbers 1 and 2 alone
some : ℕ → Option ℕ
some = at_number (at_number (λ _. None) 1 (Some 9)) 2 (Some 8)

keys_are_collected_by_number : (collect some 2 ≡ 9 ∷ []) × (collect some 9 ≡ 9 ∷ 8 ∷ [])
unfolding some
keys_are_collected_by_number = (refl, refl)
