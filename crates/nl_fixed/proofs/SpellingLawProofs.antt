-- The laws of the spelling of numbers.
use Rattle.std.proofs.Common.{true, is_some, ◌≡◌, ℕ, ◌+◌, ℤ, pos, negsuc, ◌+ℤ◌, ◌-ℤ◌, cond, nat_le, List, ◌++◌, length, Option, Some, None, Ok, Err, ap, sym, refl, ◌∙◌, arith}
use Rattle.std.specs.Option.{option_map}
use Rattle.std.specs.Str.Parse.{digits_value}
use Rattle.std.proofs.lemmas.Int.{ints}
use Rattle.nl_fixed.specs.declared.number.NumFault.TheVariants.{Overflow}
use Rattle.nl_fixed.specs.Numbers.{as_number}
use Rattle.nl_fixed.specs.Spelling.{Parts, IsSpelled, parts_of, is_number_form, value_of, exponent_value, signed, most_digits, read_of}
use Rattle.nl_fixed.specs.SpellingLaws.{moves_right, moves_left, rounded_value, PartsFollowTheForm, FormIsComputed, PartsAreUnique, WordsReadAsRounded, OthersReadAsNothing, TextsReadBack, TextsDiffer}
use Rattle.nl_fixed.proofs.Forms.{parts_from_form, form_from_parts}
use Rattle.nl_fixed.proofs.ReadBack.{text_reads_back}
use Rattle.nl_fixed.proofs.Shifts.{shifted}

pub parts_follow_the_form : PartsFollowTheForm
parts_follow_the_form word p = (form_from_parts word p, parts_from_form word p)

some_form : (word : List ℕ) (o : Option Parts) → parts_of word ≡ o → is_some o ≡ true → (p : Parts) × IsSpelled word p
some_form word None e some = cc
some_form word (Some p) e some = (p, form_from_parts word p e)

pub form_is_computed : FormIsComputed
unfolding is_number_form
form_is_computed word =
    (λ some. some_form word (parts_of word) refl some, λ (p, spelled). ap is_some (parts_from_form word p spelled))

pub parts_are_unique : PartsAreUnique
parts_are_unique word p q s t =
    let same : Some p ≡ Some q = sym (parts_from_form word p s) ∙ parts_from_form word q t in cc

-- ---- reading

power_is : (x : ℤ) (f : ℕ) → (pos 6 +ℤ x) -ℤ pos f ≡ pos (6 + moves_right x) -ℤ pos (f + moves_left x)
power_is (pos n) f = omega (arith, ints)
power_is (negsuc n) f = omega (arith, ints)

value_is_rounded : (p : Parts) → value_of p ≡ rounded_value p
value_is_rounded p =
    let x = exponent_value p.exponent in
    let n = signed p.minus (digits_value 10 (p.whole ++ p.fraction)) in
    ap (λ c. cond (nat_le (length p.whole + length p.fraction) most_digits) (as_number c) (Err Overflow))
    (shifted n ((pos 6 +ℤ x) -ℤ pos (length p.fraction)) (6 + moves_right x) (length p.fraction + moves_left x) (power_is x (length p.fraction)))

pub words_read_as_rounded : WordsReadAsRounded
unfolding read_of
words_read_as_rounded word p spelled = ap (option_map value_of) (parts_from_form word p spelled) ∙ ap Some (value_is_rounded p)

none_at : (word : List ℕ) (o : Option Parts) → parts_of word ≡ o → ((p : Parts) → IsSpelled word p → ⊥) → option_map value_of o ≡ None
none_at word None e none = refl
none_at word (Some p) e none = absurd (none p (form_from_parts word p e))

pub others_read_as_nothing : OthersReadAsNothing
unfolding read_of
others_read_as_nothing word none = none_at word (parts_of word) refl none

-- ---- texts

pub texts_read_back : TextsReadBack
texts_read_back = text_reads_back

pub texts_differ : TextsDiffer
texts_differ a b in_a in_b e =
    let same : Some (Ok a) ≡ Some (Ok b) = sym (text_reads_back a in_a) ∙ ap read_of e ∙ text_reads_back b in_b in cc
