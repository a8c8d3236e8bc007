-- Values that are the same have one digest.
use Rattle.std.proofs.Common.{◌≡◌, ℕ, zero, suc, ◌<◌, List, [], ◌∷◌, length, map, get_or, arith, Bool, true, false, ◌&&◌, refl, ap, ◌∙◌}
use Rattle.std.specs.Prelude.{unsigned_abs, fold}
use Rattle.std.proofs.lemmas.Bool.{false≢true, eqb-true}
use Rattle.std.proofs.lemmas.Bool.Decides.{Decides-int_eq}
use Rattle.std.proofs.lemmas.Slice.Eq.{bytes_eq-Decides}
use Rattle.nl_value.specs.Plain.{Plain, Plains, PlainNumber, PlainTruth, PlainWords, PlainItems, PlainTurtle, PlainPatch, PlainLink, PlainNobody, PlainSet, no_items, item_then}
use Rattle.nl_value.specs.declared.values.Value.{Value}
use Rattle.nl_value.specs.Views.{plain}
use Rattle.nl_value.specs.inner.Weights.{weight, list_weight}
use Rattle.nl_value.specs.Living.{Living}
use Rattle.nl_value.specs.Equality.{settled, alike, all_alike, same_values}
use Rattle.nl_listops_series.specs.inner.Digests.{stirred, digest_of, digests_of}

both : (p q : Bool) → (p && q) ≡ true → (p ≡ true) × (q ≡ true)
both true q e = (refl, e)
both false q e = absurd (false≢true e)

truths : (w : Living) (m n : Bool) → alike w (PlainTruth m) (PlainTruth n) ≡ true → digest_of (PlainTruth m) ≡ digest_of (PlainTruth n)
truths w true true e = refl
truths w false false e = refl
truths w true false e = absurd (false≢true e)
truths w false true e = absurd (false≢true e)

mutual
  alike_digests : (w : Living) (a b : Plain) → alike w a b ≡ true → digest_of a ≡ digest_of b
  alike_digests w (PlainNumber m) (PlainNumber n) e = ap (λ k. stirred 0 (unsigned_abs k)) ((Decides-int_eq m n).0 e)
  alike_digests w (PlainTruth m) (PlainTruth n) e = truths w m n e
  alike_digests w (PlainWords m) (PlainWords n) e = ap (fold stirred 3) ((bytes_eq-Decides m n).0 e)
  alike_digests w (PlainItems m) (PlainItems n) e = all_alike_digests w 4 m n e
  alike_digests w (PlainTurtle m) (PlainTurtle n) e = ap (stirred 5) (eqb-true m n e)
  alike_digests w (PlainPatch m) (PlainPatch n) e = ap (stirred 6) (eqb-true m n e)
  alike_digests w (PlainLink m) (PlainLink n) e = ap (stirred 7) (eqb-true m n e)
  alike_digests w PlainNobody PlainNobody e = refl
  alike_digests w (PlainSet m) (PlainSet n) e = refl
  alike_digests w a b e = absurd (false≢true e)

  all_alike_digests : (w : Living) (digest : ℕ) (ms ns : Plains) → all_alike w ms ns ≡ true → digests_of digest ms ≡ digests_of digest ns
  all_alike_digests w digest no_items no_items e = refl
  all_alike_digests w digest no_items (item_then n ns) e = absurd (false≢true e)
  all_alike_digests w digest (item_then m ms) no_items e = absurd (false≢true e)
  all_alike_digests w digest (item_then m ms) (item_then n ns) e =
      let parts = both (alike w m n) (all_alike w ms ns) e in
      ap (λ d. digests_of (stirred digest d) ms) (alike_digests w m n parts.0) ∙ all_alike_digests w (stirred digest (digest_of n)) ms ns parts.1

pub same_digests : (w : Living) (a b : Plain) → same_values w a b ≡ true → digest_of (settled w a) ≡ digest_of (settled w b)
same_digests w a b e = alike_digests w (settled w a) (settled w b) e

-- an item weighs less than its list
pub lighter : (values : List Value) (i : ℕ) (v : Value) → i < length values → v ≡ get_or values i v → weight (plain v) < list_weight (map plain values)
lighter [] i v h is = absurd (omega (arith, h))
lighter (value ∷ values) zero v h is = let same = ap (λ x. weight (plain x)) is in omega arith
lighter (value ∷ values) (suc i) v h is = let rest = lighter values i v (omega (arith, h)) is in omega arith
