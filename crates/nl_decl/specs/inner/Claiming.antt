-- What the parts of the collection of claims owe to each other.
use Rattle.std.specs.Prelude.{◌≡◌, ℕ, ◌+◌, List, ◌++◌, map, length, Option, if◌then◌else◌}
use Rattle.nl_fixed.specs.Nouns.{Name, Names}
use Rattle.nl_tree.specs.Vocabulary.{Pattern}
use Rattle.nl_decl_outline.specs.Lengths.{length_of}
use Rattle.nl_decl.specs.Made.{name_by}
use Rattle.nl_decl_outline.specs.declared.declaration.Declaration.{Declaration}
use Rattle.nl_decl.specs.declared.claims.Claim.{Claim}
use Rattle.nl_decl.specs.declared.claims.Claim.TheVariants as claim
use Rattle.nl_decl.specs.declared.claims.Claimed.{Claimed}
use Rattle.nl_decl.specs.declared.claims.Claims.{Claims}
use Rattle.nl_decl.specs.Claims.{claimed_from, inputs_claims, claims_of, sorts_of, procedures_of}

-- the claims of words that are made of two names
abbrev pub made_from_one : ℕ → Name → Name → Pattern → Claimed
made_from_one at plural singular p = record {
  name = name_by p plural singular;
  claim = claim.Word;
  place = if p.plural then at else at + 1;
}

abbrev pub made_from : ℕ → Name → Name → List Pattern → List Claimed
made_from at plural singular ps = map (made_from_one at plural singular) ps

-- the claims of one more declaration are there
abbrev pub Adds : Claims → Declaration → Claims → Type 0
Adds old d new =
    (new.list.items ≡ old.list.items ++ claims_of old.sorts.items old.procedures old.tokens d)
    × (new.sorts.items ≡ old.sorts.items ++ sorts_of d)
    × (new.procedures ≡ old.procedures + procedures_of d)
    × (new.tokens ≡ old.tokens + length_of d)

-- the claims of names in brackets are there
abbrev pub AddsNames : Claims → Claim → Names → Claims → Type 0
AddsNames old c names new =
    (new.list.items ≡ old.list.items ++ claimed_from (old.tokens + 2) c names)
    × (new.sorts.items ≡ old.sorts.items)
    × (new.procedures ≡ old.procedures)
    × (new.tokens ≡ old.tokens + (length names + 3))

-- the claims of a procedure's inputs are there
abbrev pub AddsInputs : Claims → Option (Names) → Claims → Type 0
AddsInputs old inputs new =
    (new.list.items ≡ old.list.items ++ inputs_claims (old.tokens + 2) old.procedures inputs)
    × (new.sorts.items ≡ old.sorts.items)
    × (new.procedures ≡ old.procedures)
    × (new.tokens ≡ old.tokens)
