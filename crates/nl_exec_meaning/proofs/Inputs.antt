-- The numbers of the inputs of procedures.
use Rattle.std.proofs.Common.{◌≡◌, ℕ, suc, ◌<◌, inl, inr, List, [], ◌∷◌, ◌++◌, Option, Some, None, length, slice_get, map, refl, ap, ◌∙◌, sym, arith, length-append}
use Rattle.std.specs.Option.{option_map}
use Rattle.std.proofs.lemmas.Option.{slice_get_within, slice_get-map, slice_get_cases}
use Rattle.std.proofs.lemmas.List.{map-append}
use Rattle.nl_tree.specs.declared.declared.Procedure.{Procedure}
use Rattle.nl_exec_meaning.specs.Code.{name_or, name_of, inputs_of}
use Rattle.nl_exec_meaning.specs.inner.Arena.{IsInputs, AreInputs, Grows}
use Rattle.nl_fixed.specs.Nouns.{Name, Names}
use Rattle.nl_exec_meaning.proofs.Lists.{get_snoc, grown_length, grown_get}

none_some : {A : Type 0} (x : A) → None ≡ Some x → ⊥
none_some x e = cc

-- what is said of a procedure at a place is said of its numbers
abbrev pub ids_of : Option (List ℕ) → List ℕ
ids_of None = []
ids_of (Some is) = is

inputs_by : (names : Names) (ids : List (List ℕ)) (ps : List Procedure) (i : ℕ) (o : Option (List ℕ)) (q : Option Procedure) → AreInputs names ids ps → slice_get ids i ≡ o → slice_get ps i ≡ q → map (name_of names) (ids_of o) ≡ inputs_of q
inputs_by names ids ps i None None h e f = refl
inputs_by names ids ps i (Some is) (Some p) h e f = (h.1 i is p e f).0
inputs_by names ids ps i (Some is) None h e f =
    elim (slice_get_cases ps i).1 [
      | inl g ↦ absurd (none_some g.0 (sym f ∙ g.2))
      | inr (le, n) ↦ absurd (let lt = slice_get_within ids i is e in let same = h.0 in omega (arith, lt, le, same))
    ]
inputs_by names ids ps i None (Some p) h e f =
    elim (slice_get_cases ids i).1 [
      | inl g ↦ absurd (none_some g.0 (sym e ∙ g.2))
      | inr (le, n) ↦ absurd (let lt = slice_get_within ps i p f in let same = h.0 in omega (arith, lt, le, same))
    ]

pub inputs_right : (names : Names) (ids : List (List ℕ)) (ps : List Procedure) (i : ℕ) (o : Option (List ℕ)) → AreInputs names ids ps → slice_get ids i ≡ o → map (name_of names) (ids_of o) ≡ inputs_of (slice_get ps i)
inputs_right names ids ps i o h e = inputs_by names ids ps i o (slice_get ps i) h e refl

pub input_right : (names : Names) (ids : List (List ℕ)) (ps : List Procedure) (i at : ℕ) (is : List ℕ) → AreInputs names ids ps → slice_get ids i ≡ Some is → option_map (name_of names) (slice_get is at) ≡ slice_get (inputs_of (slice_get ps i)) at
input_right names ids ps i at is h e = sym (slice_get-map (name_of names) is at) ∙ ap (λ xs. slice_get xs at) (inputs_right names ids ps i (Some is) h e)

pub no_inputs : (names : Names) (ids : List (List ℕ)) (ps : List Procedure) (i : ℕ) → AreInputs names ids ps → slice_get ids i ≡ None → inputs_of (slice_get ps i) ≡ []
no_inputs names ids ps i h e = sym (inputs_right names ids ps i None h e)

pub names_map_grown : (names more : Names) → Grows names more → (ids : List ℕ) → ((k id : ℕ) → slice_get ids k ≡ Some id → id < length names) → map (name_of more) ids ≡ map (name_of names) ids
names_map_grown names more g [] h = refl
names_map_grown names more g (id ∷ ids) h =
    let first : name_of more id ≡ name_of names id = ap (λ o. name_or o id) (grown_get names more id g (h 0 id refl)) in
    rw first (ap (λ xs. name_of names id ∷ xs) (names_map_grown names more g ids (λ k i e. h (suc k) i e)))

pub is_inputs_grown : (names more : Names) → Grows names more → (ids : List ℕ) (ins : Names) → IsInputs names ids ins → IsInputs more ids ins
is_inputs_grown names more g ids ins h =
    (names_map_grown names more g ids h.1 ∙ h.0, λ k id e. let a = h.1 k id e in let b = grown_length names more g in omega (arith, a, b))

pub inputs_grown : (names more : Names) → Grows names more → (ids : List (List ℕ)) (rs : List Procedure) → AreInputs names ids rs → AreInputs more ids rs
inputs_grown names more g ids rs h = (h.0, λ i is r e f. is_inputs_grown names more g is r.inputs (h.1 i is r e f))

pub is_inputs_push : (names more : Names) → Grows names more → (ids next : List ℕ) (ins : Names) (id : ℕ) (name : Name) → IsInputs names ids ins → slice_get more id ≡ Some name → next ≡ ids ++ id ∷ [] → IsInputs more next (ins ++ name ∷ [])
is_inputs_push names more g ids next ins id name h at is =
    let old = is_inputs_grown names more g ids ins h in
    let this : name_of more id ≡ name = ap (λ o. name_or o id) at in (
      rw (is, map-append (name_of more) ids (id ∷ []), this, old.0) refl,
      λ k i e. elim (get_snoc ids id k i (rw is at e)) [ inl a ↦ old.1 k i a | inr (a, b) ↦ (let lt = slice_get_within more id name at in omega (arith, lt, b)) ],
    )

pub inputs_push : (names more : Names) → Grows names more → (ids next : List (List ℕ)) (rs : List Procedure) (is : List ℕ) (r : Procedure) → AreInputs names ids rs → IsInputs more is r.inputs → next ≡ ids ++ is ∷ [] → AreInputs more next (rs ++ r ∷ [])
inputs_push names more g ids next rs is r h new grown =
    let old = inputs_grown names more g ids rs h in (
      rw grown (omega (arith, length-append ids (is ∷ []), length-append rs (r ∷ []), old.0)),
      λ i js q e f. elim (get_snoc ids is i js (rw grown at e)) [
        | inl a ↦ elim (get_snoc rs r i q f) [ inl b ↦ old.1 i js q a b | inr (b, d) ↦ absurd (let lt = slice_get_within ids i js a in let same = old.0 in omega (arith, lt, b, same)) ]
        | inr (a, b) ↦ elim (get_snoc rs r i q f) [ inl d ↦ absurd (let lt = slice_get_within rs i q d in let same = old.0 in omega (arith, lt, a, same)) | inr (d, k) ↦ rw (← b, ← k) new ]
      ],
    )
