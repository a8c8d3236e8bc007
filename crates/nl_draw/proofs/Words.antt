-- The kit's Pcg32 of stream 54 gives the words of the stream.
use Rattle.std.proofs.Common.{◌≡◌, ℕ, zero, suc, ◌+◌, ◌*◌, ◌%◌, ◌^◌, ◌<◌, bit_or, refl, ap, sym, ◌∙◌, arith}
use Rattle.std.proofs.lemmas.Nat.{mul-mod_first, or_shifted, shl_whole}
use Rattle.std.proofs.Math.Nat.{mod-add-mod}
use Rattle.rand_pcg.specs.Lcg as kit
use Rattle.rand_pcg.specs.Lcg.{Lcg, next, advance, started, increment_of}
use Rattle.rand_pcg.specs.Pcg.{multiplier_64, pcg32}
use Rattle.nl_draw.specs.Stream.{first_state, next_state, word_of, state_after, words_from, step_addend, step_factor}

-- one step of the kit's generator, whose factor and addend are those of the stream
pub next-state : (g : Lcg) → g.increment ≡ step_addend → (next 64 multiplier_64 g).state ≡ next_state g.state
unfolding next_state
next-state g at_54 = rw at_54 (mod-add-mod (g.state * step_factor) (2 ^ 64) step_addend)

-- the word that the kit's generator gives, and the state that it is then at
pub pcg32-word : (g : Lcg) → (pcg32 g).0 ≡ word_of g.state
unfolding word_of
pcg32-word g = refl

pub pcg32-state : (g : Lcg) → g.increment ≡ step_addend → (pcg32 g).1.state ≡ next_state g.state
pcg32-state g at_54 = next-state g at_54

-- a generator that has just been made
pub started_state : (seed : ℕ) → (started 64 multiplier_64 seed (increment_of 64 54)).state ≡ first_state seed
unfolding first_state
started_state seed =
    ap (λ (n : ℕ). (n + step_addend) % 2 ^ 64) (mul-mod_first (seed + step_addend) step_factor (2 ^ 64))
    ∙ mod-add-mod ((seed + step_addend) * step_factor) (2 ^ 64) step_addend

-- two words side by side
pub or-words : (high low : ℕ) → high < 2 ^ 32 → low < 2 ^ 32
    → bit_or (high * 2 ^ 32 % 2 ^ 64) low ≡ high * 2 ^ 32 + low
or-words high low high_fits low_fits =
    rw (shl_whole high 32 32 64 high_fits (omega arith)) (or_shifted high 32 low low_fits)

-- the next two words, and the state after them
pub words_from-0 : (state : ℕ) → words_from state 0 ≡ word_of state
unfolding words_from state_after
words_from-0 state = refl

pub words_from-1 : (state : ℕ) → words_from state 1 ≡ word_of (next_state state)
unfolding words_from state_after
words_from-1 state = refl

pub state_after-2 : (state : ℕ) → state_after 2 state ≡ next_state (next_state state)
unfolding state_after
state_after-2 state = refl

-- so many words on
pub advance-words : (k : ℕ) (g : Lcg) → g.increment ≡ step_addend
    → (pcg32 (advance 64 multiplier_64 k g)).0 ≡ words_from g.state k
unfolding words_from state_after kit.state_after
advance-words zero g at_54 = pcg32-word g
advance-words (suc k) g at_54 =
    advance-words k (next 64 multiplier_64 g) at_54
    ∙ ap (λ (state : ℕ). words_from state k) (next-state g at_54)

-- word k of a seed
pub started-words : (seed k : ℕ)
    → words_from (first_state seed) k
    ≡ (pcg32 (advance 64 multiplier_64 k (started 64 multiplier_64 seed (increment_of 64 54)))).0
started-words seed k =
    sym (advance-words k (started 64 multiplier_64 seed (increment_of 64 54)) refl
    ∙ ap (λ (state : ℕ). words_from state k) (started_state seed))
