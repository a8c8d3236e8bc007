-- A code for the rows of a word table, by which a proof tells them apart.
use Rattle.std.specs.Prelude.{◌≡◌, ℕ, zero, suc, Bool, List, refl}
use Rattle.std.specs.Coded.{Coded, code_by, coded_list, coded_ℕ, coded_bool, coded×}
use Rattle.nl_words.specs.declared.entry.Role.{Role}
use Rattle.nl_words.specs.declared.entry.Input.{Input}
use Rattle.nl_words.specs.declared.entry.Kinds.{Kinds}
use Rattle.nl_words.specs.declared.entry.Turns.{Turns}
use Rattle.nl_tree.specs.declared.declared.What.{What}
use Rattle.nl_tree.specs.declared.declared.What.TheVariants as what
use Rattle.nl_words.specs.RowCode.{role_code, input_code, kinds_code, turns_code}
use Rattle.nl_tree.specs.Term.{Term}

abbrev what_written : What → ℕ × (ℕ × ℕ)
what_written (what.Base code) = (0, (code, 0))
what_written (what.Global n) = (1, (n, 0))
what_written (what.Own n) = (2, (n, 0))
what_written (what.Procedure n) = (3, (n, 0))
what_written (what.Made n code) = (4, (n, code))

abbrev what_of : ℕ → ℕ → ℕ → What
what_of zero n code = what.Base n
what_of (suc zero) n code = what.Global n
what_of (suc (suc zero)) n code = what.Own n
what_of (suc (suc (suc zero))) n code = what.Procedure n
what_of (suc (suc (suc (suc k)))) n code = what.Made n code

pub what_again : (w : What) → what_of (what_written w).0 (what_written w).1.0 (what_written w).1.1 ≡ w
what_again (what.Base code) = refl
what_again (what.Global n) = refl
what_again (what.Own n) = refl
what_again (what.Procedure n) = refl
what_again (what.Made n code) = refl

abbrev what_code : Coded What
what_code = code_by (ℕ × (ℕ × ℕ)) (coded× coded_ℕ (coded× coded_ℕ coded_ℕ)) what_written (λ c. what_of c.0 c.1.0 c.1.1) what_again

abbrev pub term_code : Coded Term
term_code = code_by (List ℕ × (Role × (List Input × (ℕ × (Bool × (Turns × (Kinds × (Kinds × What))))))))
    (coded× (coded_list coded_ℕ) (coded× role_code (coded× (coded_list input_code) (coded× coded_ℕ (coded× coded_bool (coded× turns_code (coded× kinds_code (coded× kinds_code what_code))))))))
    (λ t. (t.name, (t.role, (t.inputs, (t.values, (t.many, (t.turns, (t.runs, (t.gives, t.what)))))))))
    (λ c. record { name = c.0; role = c.1.0; inputs = c.1.1.0; values = c.1.1.1.0; many = c.1.1.1.1.0; turns = c.1.1.1.1.1.0; runs = c.1.1.1.1.1.1.0; gives = c.1.1.1.1.1.1.1.0; what = c.1.1.1.1.1.1.1.1 })
    (λ _. refl)
