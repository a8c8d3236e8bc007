-- Locals as they are kept: by the numbers of their names.
use Rattle.std.specs.Prelude.{ℕ, Bool, List, map, refl}
use Rattle.std.specs.Coded.{Coded, code_by, coded_bool, coded_list, coded_ℕ, coded×}
use Rattle.nl_fixed.specs.Nouns.{Names}
use Rattle.nl_value.specs.Plain.{Plain}
use Rattle.nl_value.specs.inner.Codes.{plain_code}
use Rattle.nl_exec_meaning.specs.Code.{name_of}
use Rattle.nl_exec_meaning.specs.State.{Held}
use Rattle.nl_exec_meaning.specs.Walks.{Answer}
use Rattle.nl_exec_meaning.specs.declared.rounds.Rounds.{Rounds}

-- the number of a local's name, and its value
pub record Kept : Type 0 where
  pub id : ℕ
  pub value : Plain

-- the local that it is
abbrev pub held : Names → Kept → Held
held names k = record { name = name_of names k.id; value = k.value }

abbrev pub all_held : Names → List Kept → List Held
all_held names ks = map (held names) ks

-- a code, by which a proof tells them apart
abbrev pub kept_code : Coded Kept
kept_code = code_by (ℕ × Plain) (coded× coded_ℕ plain_code) (λ k. (k.id, k.value)) (λ c. record { id = c.0; value = c.1 }) (λ _. refl)

abbrev pub answer_code : Coded Answer
answer_code = code_by (ℕ × Plain) (coded× coded_ℕ plain_code) (λ a. (a.member, a.value)) (λ c. record { member = c.0; value = c.1 }) (λ _. refl)

abbrev pub rounds_code : Coded Rounds
rounds_code = code_by (List Plain × (ℕ × (ℕ × (ℕ × (List Plain × (Bool × List ℕ))))))
    (coded× (coded_list plain_code) (coded× coded_ℕ (coded× coded_ℕ (coded× coded_ℕ (coded× (coded_list plain_code) (coded× coded_bool (coded_list coded_ℕ)))))))
    (λ r. (r.over, (r.at, (r.place, (r.many, (r.made, (r.past, r.ranks)))))))
    (λ c. record { over = c.0; at = c.1.0; place = c.1.1.0; many = c.1.1.1.0; made = c.1.1.1.1.0; past = c.1.1.1.1.1.0; ranks = c.1.1.1.1.1.1 })
    (λ _. refl)
