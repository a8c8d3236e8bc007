-- Codes, by which a proof tells rows, and what runs come to, apart.
use Rattle.std.specs.Prelude.{◌≡◌, ℕ, zero, suc, List, [], Option, refl}
use Rattle.std.specs.Coded.{Coded, code_by, coded_list, coded_option, coded_ℕ, coded×}
use Rattle.nl_fixed.specs.Nouns.{Bytes, Texts}
use Rattle.nl_experiment_sweep.specs.Varied.{PlainSetting}
use Rattle.nl_experiment_sweep.specs.inner.Codes.{setting_code}
use Rattle.nl_run.specs.declared.rows.Row.{Row}
use Rattle.nl_run.specs.declared.rows.RunEnd.{RunEnd}
use Rattle.nl_run.specs.declared.rows.RunEnd.TheVariants as end_

abbrev coded_bytes : Coded Bytes
coded_bytes = coded_list coded_ℕ

-- an end is its place among the variants, and a text
abbrev parts_of : RunEnd → ℕ × Bytes
parts_of end_.Open = (0, [])
parts_of end_.Steps = (1, [])
parts_of end_.Condition = (2, [])
parts_of end_.Stop = (3, [])
parts_of end_.Budget = (4, [])
parts_of (end_.Error text) = (5, text)

abbrev end_at : ℕ → Bytes → RunEnd
end_at zero text = end_.Open
end_at (suc zero) text = end_.Steps
end_at (suc (suc zero)) text = end_.Condition
end_at (suc (suc (suc zero))) text = end_.Stop
end_at (suc (suc (suc (suc zero)))) text = end_.Budget
end_at (suc (suc (suc (suc (suc place))))) text = end_.Error text

abbrev again : (how : RunEnd) → end_at (parts_of how).0 (parts_of how).1 ≡ how
again end_.Open = refl
again end_.Steps = refl
again end_.Condition = refl
again end_.Stop = refl
again end_.Budget = refl
again (end_.Error text) = refl

abbrev pub end_code : Coded RunEnd
end_code = code_by (ℕ × Bytes) (coded× coded_ℕ coded_bytes) parts_of (λ c. end_at c.0 c.1) again

abbrev pub row_code : Coded Row
row_code = code_by (ℕ × (List PlainSetting × (ℕ × (Option Texts × RunEnd))))
    (coded× coded_ℕ (coded× (coded_list setting_code) (coded× coded_ℕ (coded× (coded_option (coded_list coded_bytes)) end_code))))
    (λ r. (r.number, (r.settings, (r.step, (r.cells, r.end)))))
    (λ c. record { number = c.0; settings = c.1.0; step = c.1.1.0; cells = c.1.1.1.0; end = c.1.1.1.1 })
    (λ _. refl)
