-- Unions, as the numbers of agents are gathered one after another.
use Rattle.std.specs.Prelude.{◌≡◌, ℕ, ◌<◌, ◌≤◌, ◌+◌, List, [], ◌++◌, length, map, drop, Ok, Err, refl}
use Rattle.std.proofs.Common.{ap, sym, ◌∙◌, get_or, append_assoc}
use Rattle.std.proofs.lemmas.List.{drop_more, drop_all, append-nil}
use Rattle.nl_value.specs.Plain.{plains}
use Rattle.nl_value.specs.Views.{plain}
use Rattle.nl_value.specs.declared.values.Value.{Value}
use Rattle.nl_value.specs.declared.sets.AgentKind.{AgentKind}
use Rattle.nl_agents.specs.World.{Rest}
use Rattle.nl_agentset_query.specs.declared.fail.QueryFail.{QueryFail}
use Rattle.nl_agentset_query.specs.Outcomes.{QueryOutcome, and_then, outcome_map}
use Rattle.nl_agentset_query.specs.Unions.{united, all_united}
use Rattle.nl_agentset_query.specs.Reads.{united_reads, all_united_reads}

-- numbers, and behind them those of an outcome
abbrev pub behind : List ℕ → QueryOutcome (List ℕ) → QueryOutcome (List ℕ)
behind numbers outcome = outcome_map (λ more. numbers ++ more) outcome

-- the outcome of the values from a place on, behind what is gathered, is that of all behind what was there
abbrev pub rest_of : Rest → AgentKind → List Value → ℕ → QueryOutcome (List ℕ)
rest_of r which values i = all_united r which (plains (map plain (drop i values)))

nothing_more : (o : QueryOutcome (List ℕ)) (x : List ℕ) → o ≡ Ok [] → behind x o ≡ Ok x
nothing_more o x is = ap (behind x) is ∙ ap Ok (append-nil x)

pub at_end : (r : Rest) (which : AgentKind) (values : List Value) (i : ℕ) (x : List ℕ) → length values ≤ i → behind x (rest_of r which values i) ≡ Ok x
at_end r which values i x over = nothing_more (rest_of r which values i) x (ap (λ vs. all_united r which (plains (map plain vs))) (drop_all i values over))

one_first : (numbers : List ℕ) (first : QueryOutcome (List ℕ)) (rest : QueryOutcome (List ℕ)) (some : List ℕ) → first ≡ Ok some
    → behind numbers (and_then first (λ one. and_then rest (λ more. Ok (one ++ more)))) ≡ behind (numbers ++ some) rest
one_first numbers first rest some is = ap (λ o. behind numbers (and_then o (λ one. and_then rest (λ more. Ok (one ++ more))))) is ∙ by rest
  where
    by : (o : QueryOutcome (List ℕ)) → behind numbers (and_then o (λ more. Ok (some ++ more))) ≡ behind (numbers ++ some) o
    by (Ok more) = ap Ok (sym (append_assoc numbers some more))
    by (Err fail) = refl

split : (r : Rest) (which : AgentKind) (values : List Value) (i : ℕ) (v : Value) → i < length values → v ≡ get_or values i v
    → rest_of r which values i ≡ and_then (united r which (plain v)) (λ one. and_then (rest_of r which values (i + 1)) (λ more. Ok (one ++ more)))
split r which values i v inside is =
    ap (λ vs. all_united r which (plains (map plain vs))) (drop_more values i v inside)
    ∙ ap (λ u. and_then (united r which (plain u)) (λ one. and_then (rest_of r which values (i + 1)) (λ more. Ok (one ++ more)))) (sym is)

given_of : (numbers now : List ℕ) (o : QueryOutcome (List ℕ)) → behind numbers o ≡ Ok now → (some : List ℕ) × ((o ≡ Ok some) × (now ≡ numbers ++ some))
given_of numbers now (Ok some) is = (some, (refl, let same : numbers ++ some ≡ now = cc in sym same))
given_of numbers now (Err fail) is = cc

failed_of : (numbers : List ℕ) (o : QueryOutcome (List ℕ)) (fail : QueryFail) → behind numbers o ≡ Err fail → o ≡ Err fail
failed_of numbers (Ok some) fail is = cc
failed_of numbers (Err other) fail is = let same : other ≡ fail = cc in ap Err same

-- one value more
pub goes_on : (r : Rest) (which : AgentKind) (values : List Value) (i : ℕ) (v : Value) (before now : List ℕ) → i < length values → v ≡ get_or values i v
    → behind before (united r which (plain v)) ≡ Ok now → behind before (rest_of r which values i) ≡ behind now (rest_of r which values (i + 1))
goes_on r which values i v before now inside is given =
    let (some, parts) = given_of before now (united r which (plain v)) given in
    ap (behind before) (split r which values i v inside is)
    ∙ one_first before (united r which (plain v)) (rest_of r which values (i + 1)) some parts.0
    ∙ ap (λ l. behind l (rest_of r which values (i + 1))) (sym parts.1)

pub fails_here : (r : Rest) (which : AgentKind) (values : List Value) (i : ℕ) (v : Value) (before : List ℕ) (fail : QueryFail) → i < length values → v ≡ get_or values i v
    → behind before (united r which (plain v)) ≡ Err fail → behind before (rest_of r which values i) ≡ Err fail
fails_here r which values i v before fail inside is given =
    ap (behind before) (split r which values i v inside is)
    ∙ ap (λ o. behind before (and_then o (λ one. and_then (rest_of r which values (i + 1)) (λ more. Ok (one ++ more))))) (failed_of before (united r which (plain v)) fail given)

-- ---- what is read for the values from a place on

abbrev pub reads_left : Rest → List Value → ℕ → ℕ
reads_left r values i = all_united_reads r (plains (map plain (drop i values)))

pub reads_split : (r : Rest) (values : List Value) (i : ℕ) (v : Value) → i < length values → v ≡ get_or values i v
    → reads_left r values i ≡ united_reads r (plain v) + reads_left r values (i + 1)
reads_split r values i v inside is =
    ap (λ vs. all_united_reads r (plains (map plain vs))) (drop_more values i v inside)
    ∙ ap (λ u. united_reads r (plain u) + reads_left r values (i + 1)) (sym is)
