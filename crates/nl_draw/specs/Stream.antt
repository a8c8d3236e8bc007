-- The random stream of a run. Its words are those of Pcg32 (O'Neill, "PCG: a family of simple fast
-- space-efficient statistically good algorithms for random number generation") on the stream of number
-- 54; how draws, shuffles and choices are made of words is this project's own choice. A stream is its
-- state, a number below 2 ^ 64, and all that is drawn is a function of the state. A shift to the right
-- by k bits is a division by 2 ^ k.
use Rattle.std.specs.Prelude.{ℕ, zero, suc, ◌+◌, ◌-◌, ◌*◌, ◌/◌, ◌%◌, ◌^◌, List, [], ◌∷◌, length, swap, slice_index_or, Option, Some, None, bit_xor}
use Rattle.std.specs.Int.{w32, rotate_right}

-- what a step multiplies the state by
abbrev pub step_factor : ℕ
step_factor = 6364136223846793005

-- what a step adds to the state, which depends on the number of the stream alone
abbrev pub step_addend : ℕ
step_addend = 2 * 54 + 1

-- the state in which the stream of a seed begins
unfoldable pub first_state : ℕ → ℕ
first_state seed = ((seed + step_addend) * step_factor + step_addend) % 2 ^ 64

-- the state after one word
unfoldable pub next_state : ℕ → ℕ
next_state state = (state * step_factor + step_addend) % 2 ^ 64

-- the word of a state, of 32 bits: the high bits folded, and turned by the number in the highest five
unfoldable pub word_of : ℕ → ℕ
word_of state =
    let folded = (bit_xor (state / 2 ^ 18) state / 2 ^ 27) % 2 ^ 32 in
    rotate_right w32 folded (state / 2 ^ 59)

-- the state after so many words
unfoldable pub state_after : ℕ → ℕ → ℕ
state_after zero state = state
state_after (suc k) state = state_after k (next_state state)

-- the words to come at a state, by their number from 0 on
unfoldable pub words_from : ℕ → ℕ → ℕ
words_from state k = word_of (state_after k state)

-- a draw of a number below n takes two words, of which the first is the high half: the number, and the
-- state after
unfoldable pub drawn : ℕ → ℕ → ℕ × ℕ
drawn n state = ((words_from state 0 * 2 ^ 32 + words_from state 1) % n, state_after 2 state)

-- each index from i down to 1 changes with a drawn one, which isn't above it: the list, and the state
-- after
unfoldable pub shuffled_from : {X : Type 0} → ℕ → List X → ℕ → List X × ℕ
shuffled_from zero list state = (list, state)
shuffled_from (suc i) list state =
    let other = drawn (suc i + 1) state in
    shuffled_from i (swap list (suc i) other.0) other.1

-- a shuffle goes from the last index down: the list, and the state after
unfoldable pub shuffled : {X : Type 0} → List X → ℕ → List X × ℕ
shuffled list state = shuffled_from (length list - 1) list state

-- a choice of one of a list takes one draw, also where there is only one: what is chosen, and the state
-- after. An empty list gives none, without a draw
unfoldable pub chosen : {X : Type 0} → List X → ℕ → Option X × ℕ
chosen [] state = (None, state)
chosen (x ∷ xs) state =
    let index = drawn (length (x ∷ xs)) state in
    (Some (slice_index_or (x ∷ xs) index.0 x), index.1)

-- the same choice of an index alone, among so many: the index, and the state after
unfoldable pub chosen_index : ℕ → ℕ → Option ℕ × ℕ
chosen_index zero state = (None, state)
chosen_index (suc n) state =
    let index = drawn (suc n) state in
    (Some index.0, index.1)
