-- Steps of a reading, each of which may end it.
use Rattle.std.specs.Prelude.{◌≡◌, Option, Some, None, Result, Ok, Err}

-- the next step, or the end of an earlier one
infixl 10 ◌>>=◌
abbrev pub ◌>>=◌ : {A B E : Type 0} → Result A E → (A → Result B E) → Result B E
Ok x >>= f = f x
Err e >>= f = Err e

-- what is said of a result, where an earlier step may end it
abbrev pub Goes : {A B E : Type 0} → Result A E → Result B E → (A → Type 0) → Type 0
Goes (Ok x) result next = next x
Goes (Err e) result next = result ≡ Err e

-- a value that is there, or else this end
abbrev pub or_else : {X E : Type 0} → E → Option X → Result X E
or_else e (Some x) = Ok x
or_else e None = Err e

-- the same reading with its faults named otherwise
abbrev pub with_fault : {X D E : Type 0} → (D → E) → Result X D → Result X E
with_fault f (Ok x) = Ok x
with_fault f (Err d) = Err (f d)
