-- Words of the reference code of PCG, so that a wrong constant or step in a definition doesn't check.
use Rattle.std.proofs.Common.{◌≡◌, ℕ, List, [], ◌∷◌, map, refl}
use Rattle.nl_draw.specs.Stream.{first_state, next_state, word_of, state_after, words_from}

abbrev six_words : ℕ → List ℕ
six_words seed = map (words_from (first_state seed)) (0 ∷ 1 ∷ 2 ∷ 3 ∷ 4 ∷ 5 ∷ [])

pub words_of_42 : six_words 42
    ≡ 0xa15c02b7 ∷ 0x7b47f409 ∷ 0xba1d3330 ∷ 0x83d2f293 ∷ 0xbfa4784b ∷ 0xcbed606e ∷ []
unfolding first_state next_state word_of state_after words_from
words_of_42 = refl
