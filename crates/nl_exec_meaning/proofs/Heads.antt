-- The numbers of the names that heads of blocks have.
use Rattle.std.proofs.Common.{◌≡◌, ℕ, zero, suc, ◌<◌, ◌≤◌, inl, inr, List, [], ◌∷◌, ◌++◌, Option, Some, None, length, map, take, slice_get, ap, ◌∙◌, sym, arith, length-append, refl}
use Rattle.std.proofs.lemmas.Option.{slice_get_within, slice_get_cases, slice_get_past}
use Rattle.nl_fixed.specs.Nouns.{Names}
use Rattle.nl_tree.specs.Tree.{Node}
use Rattle.nl_exec_meaning.specs.Arrows.{head_of}
use Rattle.nl_exec_meaning.specs.Code.{name_of, node_or}
use Rattle.nl_exec_meaning.specs.inner.Arena.{AreHeads, Grows, IsInputs}
use Rattle.nl_exec_meaning.proofs.Inputs.{ids_of, is_inputs_grown}
use Rattle.nl_exec_meaning.proofs.Lists.{get_of_take, get_snoc, take_past}

none_some : {A : Type 0} (x : A) → None ≡ Some x → ⊥
none_some x e = cc

heads_by : (names : Names) (heads : List (List ℕ)) (ts : List Node) (i : ℕ) (o : Option (List ℕ)) (q : Option Node) → AreHeads names heads ts → slice_get heads i ≡ o → slice_get ts i ≡ q → map (name_of names) (ids_of o) ≡ head_of (node_or q)
heads_by names heads ts i None None h e f = refl
heads_by names heads ts i (Some ids) (Some t) h e f = (h.1 i ids t e f).0
heads_by names heads ts i (Some ids) None h e f =
    elim (slice_get_cases ts i).1 [
      | inl g ↦ absurd (none_some g.0 (sym f ∙ g.2))
      | inr (le, n) ↦ absurd (let lt = slice_get_within heads i ids e in let same = h.0 in omega (arith, lt, le, same))
    ]
heads_by names heads ts i None (Some t) h e f =
    elim (slice_get_cases heads i).1 [
      | inl g ↦ absurd (none_some g.0 (sym e ∙ g.2))
      | inr (le, n) ↦ absurd (let lt = slice_get_within ts i t f in let same = h.0 in omega (arith, lt, le, same))
    ]

-- the numbers at a place are those of the node's head
pub heads_right : (names : Names) (heads : List (List ℕ)) (ts : List Node) (i : ℕ) (o : Option (List ℕ)) → AreHeads names heads ts → slice_get heads i ≡ o → map (name_of names) (ids_of o) ≡ head_of (node_or (slice_get ts i))
heads_right names heads ts i o h e = heads_by names heads ts i o (slice_get ts i) h e refl

pub heads_grown : (names more : Names) → Grows names more → (heads : List (List ℕ)) (ts : List Node) → AreHeads names heads ts → AreHeads more heads ts
heads_grown names more g heads ts h = (h.0, λ i ids t e f. is_inputs_grown names more g ids (head_of t) (h.1 i ids t e f))

as_long : {A B : Type 0} (n : ℕ) (xs : List A) (ys : List B) → length xs ≡ length ys → length (take n xs) ≡ length (take n ys)
as_long zero xs ys same = refl
as_long (suc n) [] [] same = refl
as_long (suc n) [] (y ∷ ys) same = absurd (omega (arith, same))
as_long (suc n) (x ∷ xs) [] same = absurd (omega (arith, same))
as_long (suc n) (x ∷ xs) (y ∷ ys) same = ap suc (as_long n xs ys (omega (arith, same)))

pub heads_take : (names : Names) (n : ℕ) (heads : List (List ℕ)) (ts : List Node) → AreHeads names heads ts → AreHeads names (take n heads) (take n ts)
heads_take names n heads ts h = (as_long n heads ts h.0, λ i ids t e f. h.1 i ids t (get_of_take n heads i ids e) (get_of_take n ts i t f))

pub heads_push : (names more : Names) → Grows names more → (heads next : List (List ℕ)) (ts : List Node) (ids : List ℕ) (t : Node) → AreHeads names heads ts → IsInputs more ids (head_of t) → next ≡ heads ++ ids ∷ [] → AreHeads more next (ts ++ t ∷ [])
heads_push names more g heads next ts ids t h new grown =
    let old = heads_grown names more g heads ts h in (
      rw grown (omega (arith, length-append heads (ids ∷ []), length-append ts (t ∷ []), old.0)),
      λ i js q e f. elim (get_snoc heads ids i js (rw grown at e)) [
        | inl a ↦ elim (get_snoc ts t i q f) [ inl b ↦ old.1 i js q a b | inr (b, d) ↦ absurd (let lt = slice_get_within heads i js a in let same = old.0 in omega (arith, lt, b, same)) ]
        | inr (a, b) ↦ elim (get_snoc ts t i q f) [ inl d ↦ absurd (let lt = slice_get_within ts i q d in let same = old.0 in omega (arith, lt, a, same)) | inr (d, k) ↦ rw (← b, ← k) new ]
      ],
    )

-- the trees that have heads already, where these are as many as all
pub heads_of_all : (names : Names) (heads : List (List ℕ)) (ts : List Node) → AreHeads names heads ts → AreHeads names heads (take (length heads) ts)
heads_of_all names heads ts h = rw (take_past ts (length heads) (let n = h.0 in omega (arith, n))) h

-- and of those that are put behind them there are none yet
pub heads_of_grown : (names : Names) (heads : List (List ℕ)) (ts us : List Node) → AreHeads names heads ts → Grows ts us → AreHeads names heads (take (length heads) us)
heads_of_grown names heads ts us h g = let e : take (length heads) us ≡ ts = ap (λ n. take n us) h.0 ∙ g in rw e h

pub no_heads : (names : Names) (ts : List Node) → AreHeads names [] (take 0 ts)
no_heads names ts = (refl, λ i ids t e f. absurd (none_some ids e))
