-- What the inputs of a word stand for.
use Rattle.std.proofs.Common.{◌≡◌, ℕ, zero, suc, ◌-◌, Bool, true, false, List, [], ◌∷◌, ◌++◌, map, refl, ap, sym, arith}
use Rattle.nl_words.specs.declared.entry.Input.{Input}
use Rattle.nl_words.specs.declared.entry.Input.TheVariants as input
use Rattle.nl_tree.specs.Tokens as T
use Rattle.nl_parse_reading.specs.inner.View.{need_by, behind_maybes}
use Rattle.nl_parse_grammar.specs.Machine.{without_maybes}

pub one_less_value : (n : ℕ) → (n ≡ 0 → ⊥) → T.repeated n ≡ input.Value ∷ T.repeated (n - 1)
one_less_value zero h = absurd (h refl)
one_less_value (suc n) h = ap (λ k. input.Value ∷ T.repeated k) (omega arith)

values_stay : (w : Bool) (m n : ℕ) → without_maybes (map (need_by w m) (T.repeated n)) ≡ map (need_by w m) (T.repeated n)
values_stay w m zero = refl
values_stay true m (suc n) = refl
values_stay false m (suc n) = refl

pub without_maybes_view : (w : Bool) (m : ℕ) (is : List Input) (n : ℕ) → map (need_by w m) (behind_maybes is ++ T.repeated n) ≡ without_maybes (map (need_by w m) (is ++ T.repeated n))
without_maybes_view w m [] n = sym (values_stay w m n)
without_maybes_view true m (input.Value ∷ is) n = refl
without_maybes_view true m (input.Expression ∷ is) n = refl
without_maybes_view true m (input.Commands ∷ is) n = refl
without_maybes_view true m (input.MaybeCommands ∷ is) n = without_maybes_view true m is n
without_maybes_view true m (input.Reporter ∷ is) n = refl
without_maybes_view true m (input.Variable ∷ is) n = refl
without_maybes_view true m (input.ArrowCommands ∷ is) n = refl
without_maybes_view true m (input.ArrowReporter ∷ is) n = refl
without_maybes_view true m (input.Cases ∷ is) n = refl
without_maybes_view true m (input.Fresh ∷ is) n = refl
without_maybes_view false m (input.Value ∷ is) n = refl
without_maybes_view false m (input.Expression ∷ is) n = refl
without_maybes_view false m (input.Commands ∷ is) n = refl
without_maybes_view false m (input.MaybeCommands ∷ is) n = without_maybes_view false m is n
without_maybes_view false m (input.Reporter ∷ is) n = refl
without_maybes_view false m (input.Variable ∷ is) n = refl
without_maybes_view false m (input.ArrowCommands ∷ is) n = refl
without_maybes_view false m (input.ArrowReporter ∷ is) n = refl
without_maybes_view false m (input.Cases ∷ is) n = refl
without_maybes_view false m (input.Fresh ∷ is) n = refl

pub one_less : (n : ℕ) → (n ≡ 0 → ⊥) → n ≡ suc (n - 1)
one_less n h = grind (arith, h)
