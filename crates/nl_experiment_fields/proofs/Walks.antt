-- Walks that gather a list, one item after another.
use Rattle.std.proofs.Common.{◌≡◌, List, [], ◌∷◌, ◌++◌, length, Result, Ok, Err, append_assoc, refl, sym, ap, ◌∙◌, arith}
use Rattle.std.proofs.lemmas.List.{append-nil}
use Rattle.toml.specs.Data.{Data}
use Rattle.toml.specs.View.{items_view}
use Rattle.toml.specs.declared.value.Value.{Value}
use Rattle.nl_experiment_keys.specs.Reading.{◌>>=◌, each_item}
use Rattle.nl_experiment_keys.specs.declared.faults.PlanKind.{PlanKind}

-- what is gathered so far stands before what is left
abbrev pub behind : {X E : Type 0} → List X → Result (List X) E → Result (List X) E
behind so_far rest = rest >>= λ more. Ok (so_far ++ more)

pub behind_none : {X E : Type 0} (so_far : List X) (rest : Result (List X) E) → so_far ≡ [] → behind so_far rest ≡ rest
behind_none so_far (Ok more) none = ap (λ xs. Ok (xs ++ more)) none
behind_none so_far (Err e) none = refl

pub behind_one : {X E : Type 0} (so_far : List X) (x : X) (rest : Result (List X) E)
    → behind (so_far ++ x ∷ []) rest ≡ behind so_far (rest >>= λ more. Ok (x ∷ more))
behind_one so_far x (Ok more) = ap Ok (append_assoc so_far (x ∷ []) more)
behind_one so_far x (Err e) = refl

pub behind_all : {X E : Type 0} (so_far : List X) (rest : Result (List X) E) → rest ≡ Ok [] → behind so_far rest ≡ Ok so_far
behind_all so_far (Ok []) is = ap Ok (append-nil so_far)
behind_all so_far (Ok (x ∷ more)) is = cc
behind_all so_far (Err e) is = cc

-- where no item is left, all are gathered
pub all_gathered : {X : Type 0} (read : Data → Result X PlanKind) (so_far : List X) (left : List Value) (total : Result (List X) PlanKind)
    → length left ≡ 0 → behind so_far (each_item read (items_view left)) ≡ total → total ≡ Ok so_far
all_gathered read so_far [] total none is = sym is ∙ behind_all so_far (Ok []) refl
all_gathered read so_far (v ∷ left) total none is = absurd (omega (arith, none))
