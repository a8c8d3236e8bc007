-- What rows make of words, where the inputs are those that are listed and then so many values.
use Rattle.std.proofs.Common.{◌≡◌, ℕ, zero, suc, ◌+◌, ◌-◌, ◌<◌, ◌≤◌, take, get_or, true, false, List, [], ◌∷◌, ◌++◌, map, nat_eq, length, append-nil, refl, sym, subst, ap, ◌∙◌, ◌||◌, if◌then◌else◌, arith}
use Rattle.std.specs.List.{list_any}
use Rattle.std.proofs.lemmas.List.{take_more, take_all}
use Rattle.nl_words.specs.declared.entry.Input.{Input}
use Rattle.nl_words.specs.declared.entry.Input.TheVariants as input
use Rattle.nl_tree.specs.Tokens.{Prefix, Many, Closing, Command, Let, With, Nowhere, need_of_command, need_of_reporter, repeated, before, last_need, is_new, reporter_of, reporter_class, one_more, many_class, command_class, near_class}
use Rattle.nl_tree.specs.declared.needs.Block.TheVariants as blocks
use Rattle.nl_tree.specs.declared.needs.Content.TheVariants as contents
use Rattle.nl_parse_reading.specs.inner.View.{need_by}
use Rattle.nl_parse_reading.specs.inner.Counts.{are_values, is_let, is_value, is_with, near_by}

abbrev NoCount : List Input → Type 0
NoCount is = (n : ℕ) → is ≡ repeated n → ⊥

abbrev NotThese : ℕ → List Input → Type 0
NotThese n is = is ≡ repeated n → ⊥

-- Commands.

pub no_let : (n : ℕ) → is_let (repeated n) ≡ false
no_let zero = refl
no_let (suc n) = refl

pub let_class : (m : ℕ) (is : List Input) → is_let is ≡ true → command_class m is ≡ Let
let_class m [] h = cc h
let_class m (input.Fresh ∷ []) h = cc h
let_class m (input.Fresh ∷ input.Value ∷ []) h = refl
let_class m (input.Fresh ∷ input.Value ∷ i ∷ is) h = cc h
let_class m (input.Fresh ∷ input.Expression ∷ is) h = cc h
let_class m (input.Fresh ∷ input.Commands ∷ is) h = cc h
let_class m (input.Fresh ∷ input.MaybeCommands ∷ is) h = cc h
let_class m (input.Fresh ∷ input.Reporter ∷ is) h = cc h
let_class m (input.Fresh ∷ input.Variable ∷ is) h = cc h
let_class m (input.Fresh ∷ input.ArrowCommands ∷ is) h = cc h
let_class m (input.Fresh ∷ input.ArrowReporter ∷ is) h = cc h
let_class m (input.Fresh ∷ input.Cases ∷ is) h = cc h
let_class m (input.Fresh ∷ input.Fresh ∷ is) h = cc h
let_class m (input.Value ∷ is) h = cc h
let_class m (input.Expression ∷ is) h = cc h
let_class m (input.Commands ∷ is) h = cc h
let_class m (input.MaybeCommands ∷ is) h = cc h
let_class m (input.Reporter ∷ is) h = cc h
let_class m (input.Variable ∷ is) h = cc h
let_class m (input.ArrowCommands ∷ is) h = cc h
let_class m (input.ArrowReporter ∷ is) h = cc h
let_class m (input.Cases ∷ is) h = cc h

-- values are no new names
pub new_listed : (is : List Input) (n : ℕ) → list_any is_new (is ++ repeated n) ≡ list_any is_new is
new_listed [] zero = refl
new_listed [] (suc n) = new_listed [] n
new_listed (i ∷ is) n = ap (λ b. is_new i || b) (new_listed is n)

guarded : (m : ℕ) (is : List Input) → is_let is ≡ false → command_class m is ≡ (if list_any is_new is then Nowhere else Command (map (need_of_command m) is))
guarded m [] h = refl
guarded m (input.Fresh ∷ []) h = refl
guarded m (input.Fresh ∷ input.Value ∷ []) h = cc h
guarded m (input.Fresh ∷ input.Value ∷ i ∷ is) h = refl
guarded m (input.Fresh ∷ input.Expression ∷ is) h = refl
guarded m (input.Fresh ∷ input.Commands ∷ is) h = refl
guarded m (input.Fresh ∷ input.MaybeCommands ∷ is) h = refl
guarded m (input.Fresh ∷ input.Reporter ∷ is) h = refl
guarded m (input.Fresh ∷ input.Variable ∷ is) h = refl
guarded m (input.Fresh ∷ input.ArrowCommands ∷ is) h = refl
guarded m (input.Fresh ∷ input.ArrowReporter ∷ is) h = refl
guarded m (input.Fresh ∷ input.Cases ∷ is) h = refl
guarded m (input.Fresh ∷ input.Fresh ∷ is) h = refl
guarded m (input.Value ∷ is) h = refl
guarded m (input.Expression ∷ is) h = refl
guarded m (input.Commands ∷ is) h = refl
guarded m (input.MaybeCommands ∷ is) h = refl
guarded m (input.Reporter ∷ is) h = refl
guarded m (input.Variable ∷ is) h = refl
guarded m (input.ArrowCommands ∷ is) h = refl
guarded m (input.ArrowReporter ∷ is) h = refl
guarded m (input.Cases ∷ is) h = refl

pub other_class : (m : ℕ) (is : List Input) (n : ℕ) → is_let (is ++ repeated n) ≡ false → list_any is_new is ≡ false → command_class m (is ++ repeated n) ≡ Command (map (need_of_command m) (is ++ repeated n))
other_class m is n h k = guarded m (is ++ repeated n) h ∙ ap (λ b. if b then Nowhere else Command (map (need_of_command m) (is ++ repeated n))) (new_listed is n ∙ k)

pub new_command : (m : ℕ) (is : List Input) (n : ℕ) → is_let (is ++ repeated n) ≡ false → list_any is_new is ≡ true → command_class m (is ++ repeated n) ≡ Nowhere
new_command m is n h k = guarded m (is ++ repeated n) h ∙ ap (λ b. if b then Nowhere else Command (map (need_of_command m) (is ++ repeated n))) (new_listed is n ∙ k)

pub new_reporter : (m : ℕ) (is : List Input) (n : ℕ) → list_any is_new is ≡ true → reporter_class m (is ++ repeated n) ≡ Nowhere
new_reporter m is n k = ap (λ b. if b then Nowhere else reporter_of m (is ++ repeated n)) (new_listed is n ∙ k)

pub other_reporter : (m : ℕ) (is : List Input) (n : ℕ) → list_any is_new is ≡ false → reporter_class m (is ++ repeated n) ≡ reporter_of m (is ++ repeated n)
other_reporter m is n k = ap (λ b. if b then Nowhere else reporter_of m (is ++ repeated n)) (new_listed is n ∙ k)

pub one_count : (is : List Input) (n : ℕ) → is ≡ repeated n → is_value is ≡ nat_eq n 1
one_count is n q = subst (λ js. is_value js ≡ nat_eq n 1) (sym q) (at n)
  where
    at : (n : ℕ) → is_value (repeated n) ≡ nat_eq n 1
    at zero = refl
    at (suc zero) = refl
    at (suc (suc n)) = search arith

pub no_count : (is : List Input) → NoCount is → is_value is ≡ false
no_count [] h = refl
no_count (input.Value ∷ []) h = absurd (h 1 refl)
no_count (input.Value ∷ i ∷ is) h = refl
no_count (input.Expression ∷ is) h = refl
no_count (input.Commands ∷ is) h = refl
no_count (input.MaybeCommands ∷ is) h = refl
no_count (input.Reporter ∷ is) h = refl
no_count (input.Variable ∷ is) h = refl
no_count (input.ArrowCommands ∷ is) h = refl
no_count (input.ArrowReporter ∷ is) h = refl
no_count (input.Cases ∷ is) h = refl
no_count (input.Fresh ∷ is) h = refl

-- Counts of values.

pub repeated_length : (n : ℕ) → length (repeated n) ≡ n
repeated_length zero = refl
repeated_length (suc n) = ap suc (repeated_length n)

pub same_count : (n m : ℕ) → repeated n ≡ repeated m → n ≡ m
same_count n m h = sym (repeated_length n) ∙ ap length h ∙ repeated_length m

pub all_repeated : (is : List Input) (n : ℕ) → are_values is ≡ true → is ++ repeated n ≡ repeated (length is + n)
all_repeated [] n h = let e : n ≡ 0 + n = omega arith in let P : ℕ → Type 0 = λ k. repeated n ≡ repeated k in subst P e refl
all_repeated (input.Value ∷ is) n h = let e : suc (length is + n) ≡ suc (length is) + n = omega arith in let P : ℕ → Type 0 = λ k. (input.Value ∷ (is ++ repeated n)) ≡ repeated k in subst P e (ap (λ js. input.Value ∷ js) (all_repeated is n h))
all_repeated (input.Expression ∷ is) n h = cc h
all_repeated (input.Commands ∷ is) n h = cc h
all_repeated (input.MaybeCommands ∷ is) n h = cc h
all_repeated (input.Reporter ∷ is) n h = cc h
all_repeated (input.Variable ∷ is) n h = cc h
all_repeated (input.ArrowCommands ∷ is) n h = cc h
all_repeated (input.ArrowReporter ∷ is) n h = cc h
all_repeated (input.Cases ∷ is) n h = cc h
all_repeated (input.Fresh ∷ is) n h = cc h

pub not_repeated : (is : List Input) (n m : ℕ) → are_values is ≡ false → is ++ repeated n ≡ repeated m → ⊥
not_repeated [] n m h q = cc h
not_repeated (i ∷ is) n zero h q = cc q
not_repeated (input.Value ∷ is) n (suc m) h q = not_repeated is n m h (tail q)
  where
    tail : (input.Value ∷ (is ++ repeated n)) ≡ (input.Value ∷ repeated m) → is ++ repeated n ≡ repeated m
    tail e = cc e
not_repeated (input.Expression ∷ is) n (suc m) h q = cc q
not_repeated (input.Commands ∷ is) n (suc m) h q = cc q
not_repeated (input.MaybeCommands ∷ is) n (suc m) h q = cc q
not_repeated (input.Reporter ∷ is) n (suc m) h q = cc q
not_repeated (input.Variable ∷ is) n (suc m) h q = cc q
not_repeated (input.ArrowCommands ∷ is) n (suc m) h q = cc q
not_repeated (input.ArrowReporter ∷ is) n (suc m) h q = cc q
not_repeated (input.Cases ∷ is) n (suc m) h q = cc q
not_repeated (input.Fresh ∷ is) n (suc m) h q = cc q

-- Reporters of any number of values.

pub many_of : (n : ℕ) → many_class (repeated (suc n)) ≡ Many n
many_of zero = refl
many_of (suc n) = ap one_more (many_of n) ∙ ap Many (omega arith)

pub many_none : (is : List Input) → NoCount is → many_class is ≡ Nowhere
many_none [] h = refl
many_none (input.Value ∷ []) h = absurd (h 1 refl)
many_none (input.Value ∷ i ∷ is) h = ap one_more (many_none (i ∷ is) (λ n q. h (suc n) (ap (λ js. input.Value ∷ js) q)))
many_none (input.Expression ∷ is) h = refl
many_none (input.Commands ∷ is) h = refl
many_none (input.MaybeCommands ∷ is) h = refl
many_none (input.Reporter ∷ is) h = refl
many_none (input.Variable ∷ is) h = refl
many_none (input.ArrowCommands ∷ is) h = refl
many_none (input.ArrowReporter ∷ is) h = refl
many_none (input.Cases ∷ is) h = refl
many_none (input.Fresh ∷ is) h = refl

-- Reporters.

pub repeated_last : (is : List Input) (n : ℕ) → is ++ repeated (suc n) ≡ (is ++ repeated n) ++ input.Value ∷ []
repeated_last [] zero = refl
repeated_last [] (suc n) = ap (λ js. input.Value ∷ js) (repeated_last [] n)
repeated_last (i ∷ is) n = ap (λ js. i ∷ js) (repeated_last is n)

pub item_last : (m : ℕ) (is : List Input) → reporter_of m (is ++ input.Value ∷ []) ≡ Prefix (map (need_of_reporter m) is)
item_last m [] = refl
item_last m (j ∷ []) = refl
item_last m (j ∷ k ∷ is) = ap (before (need_of_reporter m j)) (item_last m (k ∷ is))

pub commands_last : (m : ℕ) (is : List Input) → reporter_of m (is ++ input.Commands ∷ []) ≡ Closing (map (need_of_reporter m) is) blocks.Commands
commands_last m [] = refl
commands_last m (j ∷ []) = refl
commands_last m (j ∷ k ∷ is) = ap (before (need_of_reporter m j)) (commands_last m (k ∷ is))

pub reporter_last : (m : ℕ) (is : List Input) → reporter_of m (is ++ input.Reporter ∷ []) ≡ Closing (map (need_of_reporter m) is) blocks.Reporter
reporter_last m [] = refl
reporter_last m (j ∷ []) = refl
reporter_last m (j ∷ k ∷ is) = ap (before (need_of_reporter m j)) (reporter_last m (k ∷ is))

pub arrow_commands_last : (m : ℕ) (is : List Input) → reporter_of m (is ++ input.ArrowCommands ∷ []) ≡ Closing (map (need_of_reporter m) is) (blocks.Arrow contents.Commands m)
arrow_commands_last m [] = refl
arrow_commands_last m (j ∷ []) = refl
arrow_commands_last m (j ∷ k ∷ is) = ap (before (need_of_reporter m j)) (arrow_commands_last m (k ∷ is))

pub arrow_reporter_last : (m : ℕ) (is : List Input) → reporter_of m (is ++ input.ArrowReporter ∷ []) ≡ Closing (map (need_of_reporter m) is) (blocks.Arrow contents.Reporter m)
arrow_reporter_last m [] = refl
arrow_reporter_last m (j ∷ []) = refl
arrow_reporter_last m (j ∷ k ∷ is) = ap (before (need_of_reporter m j)) (arrow_reporter_last m (k ∷ is))

pub other_last : (m : ℕ) (is : List Input) (i : Input) → last_need (need_of_reporter m i) ≡ Nowhere → reporter_of m (is ++ i ∷ []) ≡ Nowhere
other_last m [] i h = h
other_last m (j ∷ []) i h = ap (before (need_of_reporter m j)) h
other_last m (j ∷ k ∷ is) i h = ap (before (need_of_reporter m j)) (other_last m (k ∷ is) i h)

-- the same of inputs that are listed, with no values behind them
pub item_closed : (m : ℕ) (is : List Input) → Prefix (map (need_by false m) (is ++ repeated 0)) ≡ reporter_of m (is ++ input.Value ∷ [])
item_closed m is = ap (λ js. Prefix (map (need_of_reporter m) js)) (append-nil is) ∙ sym (item_last m is)

pub commands_closed : (m : ℕ) (is : List Input) → Closing (map (need_by false m) (is ++ repeated 0)) blocks.Commands ≡ reporter_of m (is ++ input.Commands ∷ [])
commands_closed m is = ap (λ js. Closing (map (need_of_reporter m) js) blocks.Commands) (append-nil is) ∙ sym (commands_last m is)

pub reporter_closed : (m : ℕ) (is : List Input) → Closing (map (need_by false m) (is ++ repeated 0)) blocks.Reporter ≡ reporter_of m (is ++ input.Reporter ∷ [])
reporter_closed m is = ap (λ js. Closing (map (need_of_reporter m) js) blocks.Reporter) (append-nil is) ∙ sym (reporter_last m is)

pub arrow_commands_closed : (m : ℕ) (is : List Input) → Closing (map (need_by false m) (is ++ repeated 0)) (blocks.Arrow contents.Commands m) ≡ reporter_of m (is ++ input.ArrowCommands ∷ [])
arrow_commands_closed m is = ap (λ js. Closing (map (need_of_reporter m) js) (blocks.Arrow contents.Commands m)) (append-nil is) ∙ sym (arrow_commands_last m is)

pub arrow_reporter_closed : (m : ℕ) (is : List Input) → Closing (map (need_by false m) (is ++ repeated 0)) (blocks.Arrow contents.Reporter m) ≡ reporter_of m (is ++ input.ArrowReporter ∷ [])
arrow_reporter_closed m is = ap (λ js. Closing (map (need_of_reporter m) js) (blocks.Arrow contents.Reporter m)) (append-nil is) ∙ sym (arrow_reporter_last m is)

-- the last of inputs that are listed stands apart
pub apart : (is : List Input) (n : ℕ) → 1 ≤ length is → n ≤ 0 → take (length is - 1) is ++ get_or is (length is - 1) input.Value ∷ [] ≡ is ++ repeated n
apart is zero h k =
    let e : length is - 1 + 1 ≡ length is = omega (arith, h) in
    sym (take_more is (length is - 1) input.Value (omega (arith, h))) ∙ ap (λ m. take m is) e ∙ take_all (length is) is (omega arith) ∙ sym (append-nil is)
apart is (suc n) h k = absurd (omega (arith, k))

-- Operators of level 1.

pub near_none : (is : List Input) → is_with is ≡ false → NotThese 2 is → NotThese 3 is → near_class is ≡ Nowhere
near_none [] a b c = refl
near_none (input.Value ∷ []) a b c = refl
near_none (input.Value ∷ input.Value ∷ []) a b c = absurd (b refl)
near_none (input.Value ∷ input.Value ∷ input.Value ∷ []) a b c = absurd (c refl)
near_none (input.Value ∷ input.Value ∷ input.Value ∷ j ∷ is) a b c = refl
near_none (input.Value ∷ input.Value ∷ input.Expression ∷ is) a b c = refl
near_none (input.Value ∷ input.Value ∷ input.Commands ∷ is) a b c = refl
near_none (input.Value ∷ input.Value ∷ input.MaybeCommands ∷ is) a b c = refl
near_none (input.Value ∷ input.Value ∷ input.Reporter ∷ is) a b c = refl
near_none (input.Value ∷ input.Value ∷ input.Variable ∷ is) a b c = refl
near_none (input.Value ∷ input.Value ∷ input.ArrowCommands ∷ is) a b c = refl
near_none (input.Value ∷ input.Value ∷ input.ArrowReporter ∷ is) a b c = refl
near_none (input.Value ∷ input.Value ∷ input.Cases ∷ is) a b c = refl
near_none (input.Value ∷ input.Value ∷ input.Fresh ∷ is) a b c = refl
near_none (input.Value ∷ input.Reporter ∷ []) a b c = cc a
near_none (input.Value ∷ input.Reporter ∷ j ∷ is) a b c = refl
near_none (input.Value ∷ input.Expression ∷ is) a b c = refl
near_none (input.Value ∷ input.Commands ∷ is) a b c = refl
near_none (input.Value ∷ input.MaybeCommands ∷ is) a b c = refl
near_none (input.Value ∷ input.Variable ∷ is) a b c = refl
near_none (input.Value ∷ input.ArrowCommands ∷ is) a b c = refl
near_none (input.Value ∷ input.ArrowReporter ∷ is) a b c = refl
near_none (input.Value ∷ input.Cases ∷ is) a b c = refl
near_none (input.Value ∷ input.Fresh ∷ is) a b c = refl
near_none (input.Expression ∷ is) a b c = refl
near_none (input.Commands ∷ is) a b c = refl
near_none (input.MaybeCommands ∷ is) a b c = refl
near_none (input.Reporter ∷ is) a b c = refl
near_none (input.Variable ∷ is) a b c = refl
near_none (input.ArrowCommands ∷ is) a b c = refl
near_none (input.ArrowReporter ∷ is) a b c = refl
near_none (input.Cases ∷ is) a b c = refl
near_none (input.Fresh ∷ is) a b c = refl

pub near_count : (is : List Input) (n : ℕ) → is ≡ repeated n → near_class is ≡ near_by n
near_count is n q = subst (λ js. near_class js ≡ near_by n) (sym q) (at n)
  where
    at : (n : ℕ) → near_class (repeated n) ≡ near_by n
    at zero = refl
    at (suc zero) = refl
    at (suc (suc zero)) = refl
    at (suc (suc (suc zero))) = refl
    at (suc (suc (suc (suc n)))) = refl

pub near_nothing : (is : List Input) → is_with is ≡ false → NoCount is → near_class is ≡ Nowhere
near_nothing is a h = near_none is a (h 2) (h 3)

pub with_there : (is : List Input) → is_with is ≡ true → near_class (is ++ repeated 0) ≡ With
with_there [] h = cc h
with_there (input.Value ∷ []) h = cc h
with_there (input.Value ∷ input.Reporter ∷ []) h = refl
with_there (input.Value ∷ input.Reporter ∷ j ∷ is) h = cc h
with_there (input.Value ∷ input.Value ∷ is) h = cc h
with_there (input.Value ∷ input.Expression ∷ is) h = cc h
with_there (input.Value ∷ input.Commands ∷ is) h = cc h
with_there (input.Value ∷ input.MaybeCommands ∷ is) h = cc h
with_there (input.Value ∷ input.Variable ∷ is) h = cc h
with_there (input.Value ∷ input.ArrowCommands ∷ is) h = cc h
with_there (input.Value ∷ input.ArrowReporter ∷ is) h = cc h
with_there (input.Value ∷ input.Cases ∷ is) h = cc h
with_there (input.Value ∷ input.Fresh ∷ is) h = cc h
with_there (input.Expression ∷ is) h = cc h
with_there (input.Commands ∷ is) h = cc h
with_there (input.MaybeCommands ∷ is) h = cc h
with_there (input.Reporter ∷ is) h = cc h
with_there (input.Variable ∷ is) h = cc h
with_there (input.ArrowCommands ∷ is) h = cc h
with_there (input.ArrowReporter ∷ is) h = cc h
with_there (input.Cases ∷ is) h = cc h
with_there (input.Fresh ∷ is) h = cc h

with_missing : (is : List Input) (n : ℕ) → false ≡ is_with (is ++ repeated (suc n))
with_missing [] zero = refl
with_missing [] (suc n) = refl
with_missing (input.Value ∷ []) n = refl
with_missing (input.Value ∷ input.Reporter ∷ []) n = refl
with_missing (input.Value ∷ input.Reporter ∷ j ∷ is) n = refl
with_missing (input.Value ∷ input.Value ∷ is) n = refl
with_missing (input.Value ∷ input.Expression ∷ is) n = refl
with_missing (input.Value ∷ input.Commands ∷ is) n = refl
with_missing (input.Value ∷ input.MaybeCommands ∷ is) n = refl
with_missing (input.Value ∷ input.Variable ∷ is) n = refl
with_missing (input.Value ∷ input.ArrowCommands ∷ is) n = refl
with_missing (input.Value ∷ input.ArrowReporter ∷ is) n = refl
with_missing (input.Value ∷ input.Cases ∷ is) n = refl
with_missing (input.Value ∷ input.Fresh ∷ is) n = refl
with_missing (input.Expression ∷ is) n = refl
with_missing (input.Commands ∷ is) n = refl
with_missing (input.MaybeCommands ∷ is) n = refl
with_missing (input.Reporter ∷ is) n = refl
with_missing (input.Variable ∷ is) n = refl
with_missing (input.ArrowCommands ∷ is) n = refl
with_missing (input.ArrowReporter ∷ is) n = refl
with_missing (input.Cases ∷ is) n = refl
with_missing (input.Fresh ∷ is) n = refl

pub near_with : (is : List Input) → is_with is ≡ true → near_class is ≡ With
near_with is h = ap near_class (sym (append-nil is)) ∙ with_there is h

pub with_none : (is : List Input) (n : ℕ) → n ≤ 0 → is_with is ≡ is_with (is ++ repeated n)
with_none is zero h = ap is_with (sym (append-nil is))
with_none is (suc n) h = absurd (omega (arith, h))

pub with_more : (is : List Input) (n : ℕ) → 0 < n → false ≡ is_with (is ++ repeated n)
with_more is zero h = absurd (omega (arith, h))
with_more is (suc n) h = with_missing is n
