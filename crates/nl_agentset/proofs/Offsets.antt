-- Offsets among items, and the patches at them, taken one after another.
use Rattle.std.specs.Prelude.{◌≡◌, ℕ, ◌<◌, ◌≤◌, ◌+◌, ℤ, List, [], ◌∷◌, ◌++◌, length, map, drop, Option, Some, None, Ok, Err, refl}
use Rattle.std.proofs.Common.{ap, sym, ◌∙◌, get_or, append_assoc}
use Rattle.std.proofs.lemmas.List.{drop_more, drop_all, append-nil}
use Rattle.nl_value.specs.Views.{plain}
use Rattle.nl_value.specs.declared.values.Value.{Value}
use Rattle.nl_agents.specs.World.{Rest}
use Rattle.nl_agents.specs.declared.agents.Owner.{Owner}
use Rattle.nl_agentset_query.specs.declared.fail.QueryFail.{QueryFail}
use Rattle.nl_agentset_query.specs.Outcomes.{QueryOutcome, and_then}
use Rattle.nl_agentset.specs.Places.{as_offset, offsets_in, patch_beside, patches_at, with_patch}

-- items, and behind them those of an outcome
abbrev pub behind : {X : Type 0} → List X → QueryOutcome (List X) → QueryOutcome (List X)
behind xs outcome = and_then outcome (λ rest. Ok (xs ++ rest))

behind_none : {X : Type 0} (o : QueryOutcome (List X)) → o ≡ behind [] o
behind_none (Ok xs) = refl
behind_none (Err fail) = refl

behind_one : {X : Type 0} (xs : List X) (x : X) (o : QueryOutcome (List X)) → behind xs (and_then o (λ rest. Ok (x ∷ rest))) ≡ behind (xs ++ x ∷ []) o
behind_one xs x (Ok rest) = ap Ok (sym (append_assoc xs (x ∷ []) rest))
behind_one xs x (Err fail) = refl

-- ---- offsets

pub from_first : (values : List Value) → offsets_in (map plain values) ≡ behind [] (offsets_in (map plain values))
from_first values = behind_none (offsets_in (map plain values))

rest_is : (values : List Value) (i : ℕ) (v : Value) → i < length values → v ≡ get_or values i v
    → offsets_in (map plain (drop i values)) ≡ and_then (as_offset (plain v)) (λ n. and_then (offsets_in (map plain (drop (i + 1) values))) (λ ns. Ok (n ∷ ns)))
rest_is values i v h is =
    ap (λ vs. offsets_in (map plain vs)) (drop_more values i v h)
    ∙ ap (λ u. and_then (as_offset (plain u)) (λ n. and_then (offsets_in (map plain (drop (i + 1) values))) (λ ns. Ok (n ∷ ns)))) (sym is)

pub one_offset : (values : List Value) (ns : List (ℤ × ℤ)) (i : ℕ) (v : Value) (n : ℤ × ℤ) → i < length values → v ≡ get_or values i v → as_offset (plain v) ≡ Ok n
    → behind ns (offsets_in (map plain (drop i values))) ≡ behind (ns ++ n ∷ []) (offsets_in (map plain (drop (i + 1) values)))
one_offset values ns i v n h is given =
    ap (behind ns) (rest_is values i v h is ∙ ap (λ o. and_then o (λ m. and_then (offsets_in (map plain (drop (i + 1) values))) (λ ms. Ok (m ∷ ms)))) given)
    ∙ behind_one ns n (offsets_in (map plain (drop (i + 1) values)))

pub no_offset : (values : List Value) (ns : List (ℤ × ℤ)) (i : ℕ) (v : Value) (fail : QueryFail) → i < length values → v ≡ get_or values i v → as_offset (plain v) ≡ Err fail
    → behind ns (offsets_in (map plain (drop i values))) ≡ Err fail
no_offset values ns i v fail h is given =
    ap (behind ns) (rest_is values i v h is ∙ ap (λ o. and_then o (λ m. and_then (offsets_in (map plain (drop (i + 1) values))) (λ ms. Ok (m ∷ ms)))) given)

pub all_offsets : (values : List Value) (ns : List (ℤ × ℤ)) (i : ℕ) → length values ≤ i → behind ns (offsets_in (map plain (drop i values))) ≡ Ok ns
all_offsets values ns i h = ap (λ vs. behind ns (offsets_in (map plain vs))) (drop_all i values h) ∙ ap Ok (append-nil ns)

-- ---- patches

module _ (r : Rest) (caller : Owner) (offsets : List (ℤ × ℤ)) where
  abbrev pub left : ℕ → QueryOutcome (List ℕ)
  left i = patches_at r caller (drop i offsets)

  pub begins : patches_at r caller offsets ≡ behind [] (left 0)
  begins = behind_none (patches_at r caller offsets)

  next_is : (i : ℕ) (o : ℤ × ℤ) → i < length offsets → o ≡ get_or offsets i o
      → left i ≡ and_then (patch_beside r caller o.0 o.1) (λ found. and_then (left (i + 1)) (λ patches. Ok (with_patch found patches)))
  next_is i o h is =
      ap (patches_at r caller) (drop_more offsets i o h)
      ∙ ap (λ u. and_then (patch_beside r caller u.0 u.1) (λ found. and_then (left (i + 1)) (λ patches. Ok (with_patch found patches)))) (sym is)

  given_is : (ps : List ℕ) (i : ℕ) (o : ℤ × ℤ) (given : QueryOutcome (Option ℕ)) → i < length offsets → o ≡ get_or offsets i o → patch_beside r caller o.0 o.1 ≡ given
      → behind ps (left i) ≡ behind ps (and_then given (λ found. and_then (left (i + 1)) (λ patches. Ok (with_patch found patches))))
  given_is ps i o given h is same =
      ap (behind ps) (next_is i o h is ∙ ap (λ g. and_then g (λ found. and_then (left (i + 1)) (λ patches. Ok (with_patch found patches)))) same)

  none_more : (ps : List ℕ) (o : QueryOutcome (List ℕ)) → behind ps (and_then o (λ patches. Ok patches)) ≡ behind ps o
  none_more ps (Ok rest) = refl
  none_more ps (Err fail) = refl

  pub one_found : (ps : List ℕ) (i : ℕ) (o : ℤ × ℤ) (patch : ℕ) → i < length offsets → o ≡ get_or offsets i o → patch_beside r caller o.0 o.1 ≡ Ok (Some patch)
      → behind ps (left i) ≡ behind (ps ++ patch ∷ []) (left (i + 1))
  one_found ps i o patch h is same = given_is ps i o (Ok (Some patch)) h is same ∙ behind_one ps patch (left (i + 1))

  pub none_found : (ps : List ℕ) (i : ℕ) (o : ℤ × ℤ) → i < length offsets → o ≡ get_or offsets i o → patch_beside r caller o.0 o.1 ≡ Ok None → behind ps (left i) ≡ behind ps (left (i + 1))
  none_found ps i o h is same = given_is ps i o (Ok None) h is same ∙ none_more ps (left (i + 1))

  pub failed : (ps : List ℕ) (i : ℕ) (o : ℤ × ℤ) (fail : QueryFail) → i < length offsets → o ≡ get_or offsets i o → patch_beside r caller o.0 o.1 ≡ Err fail → behind ps (left i) ≡ Err fail
  failed ps i o fail h is same = given_is ps i o (Err fail) h is same

  pub all_found : (ps : List ℕ) (i : ℕ) → length offsets ≤ i → behind ps (left i) ≡ Ok ps
  all_found ps i h = ap (λ os. behind ps (patches_at r caller os)) (drop_all i offsets h) ∙ ap Ok (append-nil ps)
