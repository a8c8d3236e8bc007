-- Laws of the random stream.
use Rattle.std.specs.Prelude.{◌≡◌, ℕ, ◌<◌, ◌≤◌, List, [], length, map, slice_get, Contains, MatchOption, IsPermutation}
use Rattle.std.specs.Option.{option_map, option_and_then}
use Rattle.rand_pcg.specs.Lcg.{advance, started, increment_of}
use Rattle.rand_pcg.specs.Pcg.{multiplier_64, pcg32}
use Rattle.nl_draw.specs.Stream.{first_state, words_from, drawn, shuffled, chosen, chosen_index}

-- the words to come at two states are the same, however far they are followed
abbrev pub SameWords : ℕ → ℕ → Type 0
SameWords state other = (k : ℕ) → words_from state k ≡ words_from other k

-- word k of a seed is word k of the kit's Pcg32 with the seed as state and the stream of number 54
abbrev pub WordsArePcg32 : Type 0
WordsArePcg32 =
    (seed k : ℕ) →
    words_from (first_state seed) k
    ≡ (pcg32 (advance 64 multiplier_64 k (started 64 multiplier_64 seed (increment_of 64 54)))).0

-- what is drawn below a number is below it
abbrev pub DrawsAreBelow : Type 0
DrawsAreBelow = (n state : ℕ) → 1 ≤ n → (drawn n state).0 < n

-- ---- over lists of any items

-- a shuffle changes the order of a list and nothing else
abbrev pub ShufflesPermute : Type 0 → Type 0
ShufflesPermute X = (list : List X) (state : ℕ) → IsPermutation list (shuffled list state).0

-- a shuffle goes by indices alone: items that are mapped come into the order that the items come into
abbrev pub ShufflesMap : Type 0 → Type 0 → Type 0
ShufflesMap X Y =
    (f : X → Y) (list : List X) (state : ℕ) →
    shuffled (map f list) state ≡ (map f (shuffled list state).0, (shuffled list state).1)

-- a list of none or one is shuffled without a draw
abbrev pub ShortListsDrawNothing : Type 0 → Type 0
ShortListsDrawNothing X =
    (list : List X) (state : ℕ) → length list ≤ 1 → shuffled list state ≡ (list, state)

-- what is chosen is one of the list, and only an empty list gives none
abbrev pub ChoicesAreMembers : Type 0 → Type 0
ChoicesAreMembers X =
    (list : List X) (state : ℕ) → MatchOption (chosen list state).0 (list ≡ []) (Contains list)

-- what is chosen stands at the index that is chosen among as many
abbrev pub ChoicesAreAtIndices : Type 0 → Type 0
ChoicesAreAtIndices X =
    (list : List X) (state : ℕ) →
    let index = chosen_index (length list) state in
    chosen list state ≡ (option_and_then (slice_get list) index.0, index.1)

-- of mapped items the mapped one is chosen
abbrev pub ChoicesMap : Type 0 → Type 0 → Type 0
ChoicesMap X Y =
    (f : X → Y) (list : List X) (state : ℕ) →
    chosen (map f list) state ≡ (option_map f (chosen list state).0, (chosen list state).1)
