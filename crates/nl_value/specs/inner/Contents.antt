-- What the private tests of equality tell of a value: that it is of a kind, with this content.
use Rattle.std.specs.Prelude.{ℕ, ℤ, Bool, false, ◌==◌, Option, Some, None}
use Rattle.std.specs.Cmp.Lexicographic.{slice_cmp}
use Rattle.std.specs.declared.cmp.Ordering.{Ordering}
use Rattle.std.specs.Ordering.{int_eq, nat_cmp}
use Rattle.std.specs.Str.{bytes_eq}
use Rattle.std.specs.Bool.{beq}
use Rattle.nl_fixed.specs.Nouns.{Bytes}
use Rattle.nl_value.specs.Plain.{Plain, PlainNumber, PlainTruth, PlainWords, PlainTurtle, PlainPatch, PlainLink}

abbrev pub equals_number : ℤ → Plain → Bool
equals_number m (PlainNumber n) = int_eq m n
equals_number m b = false

abbrev pub equals_truth : Bool → Plain → Bool
equals_truth m (PlainTruth n) = beq m n
equals_truth m b = false

abbrev pub equals_words : Bytes → Plain → Bool
equals_words m (PlainWords n) = bytes_eq m n
equals_words m b = false

abbrev pub equals_turtle : ℕ → Plain → Bool
equals_turtle m (PlainTurtle n) = m == n
equals_turtle m b = false

abbrev pub equals_patch : ℕ → Plain → Bool
equals_patch m (PlainPatch n) = m == n
equals_patch m b = false

abbrev pub equals_link : ℕ → Plain → Bool
equals_link m (PlainLink n) = m == n
equals_link m b = false

-- texts compare by their bytes
abbrev pub compared_texts : Plain → Plain → Option Ordering
compared_texts (PlainWords a) (PlainWords b) = Some (slice_cmp nat_cmp a b)
compared_texts a b = None
