-- Sizes and depths of lists that grow by an item.
use Rattle.std.specs.Prelude.{◌≡◌, ℕ, zero, ◌+◌, ◌-◌, ◌<◌, ◌≤◌, max, List, [], ◌∷◌, ◌++◌, length, map, take, slice_get, Option, Some, option_map, refl}
use Rattle.std.proofs.Common.{arith, get_or, set, suc, option_to_list, ap, ◌∙◌, sym}
use Rattle.std.proofs.lemmas.List.{take_more, map-append, length-map}
use Rattle.nl_value.specs.declared.values.Value.{Value}
use Rattle.nl_value.specs.Plain.{Plain, PlainNumber, PlainTruth, PlainWords, PlainItems, PlainTurtle, PlainPatch, PlainLink, PlainNobody, PlainSet, plains}
use Rattle.nl_value.specs.Views.{plain}
use Rattle.nl_value.specs.Measures.{size_of, sizes_of, depth_of, deepest_of}

sizes_of-push : (ps : List Plain) (q : Plain) → sizes_of (plains (ps ++ q ∷ [])) ≡ sizes_of (plains ps) + size_of q
sizes_of-push [] q = omega arith
sizes_of-push (p ∷ ps) q = omega (arith, sizes_of-push ps q)

deepest_of-push : (ps : List Plain) (q : Plain) → deepest_of (plains (ps ++ q ∷ [])) ≡ max (deepest_of (plains ps)) (depth_of q)
deepest_of-push [] q = omega arith
deepest_of-push (p ∷ ps) q = omega (arith, deepest_of-push ps q)

-- the first values of a list and one more, seen as plain data
pub seen_more : (vs : List Value) (i : ℕ) (v : Value) → i < length vs → v ≡ get_or vs i v → map plain (take (i + 1) vs) ≡ map plain (take i vs) ++ plain v ∷ []
seen_more vs i v h e =
    ap (map plain) (take_more vs i v h) ∙ map-append plain (take i vs) (get_or vs i v ∷ []) ∙ ap (λ (u : Value). map plain (take i vs) ++ plain u ∷ []) (sym e)

pub sizes_more : (vs : List Value) (i : ℕ) (v : Value) → i < length vs → v ≡ get_or vs i v → sizes_of (plains (map plain (take (i + 1) vs))) ≡ sizes_of (plains (map plain (take i vs))) + size_of (plain v)
sizes_more vs i v h e = ap (λ (ps : List Plain). sizes_of (plains ps)) (seen_more vs i v h e) ∙ sizes_of-push (map plain (take i vs)) (plain v)

pub deepest_more : (vs : List Value) (i : ℕ) (v : Value) → i < length vs → v ≡ get_or vs i v → deepest_of (plains (map plain (take (i + 1) vs))) ≡ max (deepest_of (plains (map plain (take i vs)))) (depth_of (plain v))
deepest_more vs i v h e = ap (λ (ps : List Plain). deepest_of (plains ps)) (seen_more vs i v h e) ∙ deepest_of-push (map plain (take i vs)) (plain v)

-- a list that has a value more at its end, seen as plain data
more_at_end : (vs : List Value) (v : Value) → map plain (vs ++ v ∷ []) ≡ map plain vs ++ plain v ∷ []
more_at_end vs v = map-append plain vs (v ∷ [])

pub sizes_end : (vs : List Value) (v : Value) → sizes_of (plains (map plain (vs ++ v ∷ []))) ≡ sizes_of (plains (map plain vs)) + size_of (plain v)
sizes_end vs v = ap (λ (ps : List Plain). sizes_of (plains ps)) (more_at_end vs v) ∙ sizes_of-push (map plain vs) (plain v)

pub deepest_end : (vs : List Value) (v : Value) → deepest_of (plains (map plain (vs ++ v ∷ []))) ≡ max (deepest_of (plains (map plain vs))) (depth_of (plain v))
deepest_end vs v = ap (λ (ps : List Plain). deepest_of (plains ps)) (more_at_end vs v) ∙ deepest_of-push (map plain vs) (plain v)

-- a value in the place of another one: what came and what went, on both sides
pub sizes_set : (vs : List Value) (k : ℕ) (v w : Value) → k < length vs → w ≡ get_or vs k w → sizes_of (plains (map plain (set vs k v))) + size_of (plain w) ≡ sizes_of (plains (map plain vs)) + size_of (plain v)
sizes_set [] k v w h e = absurd (omega (arith, h))
sizes_set (u ∷ us) zero v w h e = omega (arith, ap (λ (x : Value). size_of (plain x)) e)
sizes_set (u ∷ us) (suc k) v w h e = omega (arith, sizes_set us k v w (omega (arith, h)) e)

pub deepest_set : (vs : List Value) (k : ℕ) (v w : Value) → k < length vs → w ≡ get_or vs k w → max (deepest_of (plains (map plain (set vs k v)))) (depth_of (plain w)) ≡ max (deepest_of (plains (map plain vs))) (depth_of (plain v))
deepest_set [] k v w h e = absurd (omega (arith, h))
deepest_set (u ∷ us) zero v w h e = omega (arith, ap (λ (x : Value). depth_of (plain x)) e)
deepest_set (u ∷ us) (suc k) v w h e = omega (arith, deepest_set us k v w (omega (arith, h)) e)

-- no value is of depth 0
depth_some : (p : Plain) → 1 ≤ depth_of p
depth_some (PlainNumber count) = omega arith
depth_some (PlainTruth truth) = omega arith
depth_some (PlainWords bytes) = omega arith
depth_some (PlainItems items) = omega arith
depth_some (PlainTurtle turtle) = omega arith
depth_some (PlainPatch patch) = omega arith
depth_some (PlainLink link) = omega arith
depth_some PlainNobody = omega arith
depth_some (PlainSet set) = omega arith

pub deepest_some : (vs : List Value) → 0 < length vs → 1 ≤ deepest_of (plains (map plain vs))
deepest_some [] h = absurd (omega (arith, h))
deepest_some (v ∷ vs) h = omega (arith, depth_some (plain v))

-- a list whose last value was taken away
parted : (vs us ws : List Value) (o : Option Value) (v : Value) → vs ≡ us ++ option_to_list o → o ≡ Some v → ws ≡ us → vs ≡ ws ++ v ∷ []
parted vs us ws o v e f g = e ∙ ap (λ (o1 : Option Value). us ++ option_to_list o1) f ∙ ap (λ (xs : List Value). xs ++ v ∷ []) (sym g)

pub without_sizes : (vs us ws : List Value) (o : Option Value) (v : Value) → vs ≡ us ++ option_to_list o → o ≡ Some v → ws ≡ us → sizes_of (plains (map plain vs)) ≡ sizes_of (plains (map plain ws)) + size_of (plain v)
without_sizes vs us ws o v e f g = ap (λ (xs : List Value). sizes_of (plains (map plain xs))) (parted vs us ws o v e f g) ∙ sizes_end ws v

pub without_deepest : (vs us ws : List Value) (o : Option Value) (v : Value) → vs ≡ us ++ option_to_list o → o ≡ Some v → ws ≡ us → deepest_of (plains (map plain vs)) ≡ max (deepest_of (plains (map plain ws))) (depth_of (plain v))
without_deepest vs us ws o v e f g = ap (λ (xs : List Value). deepest_of (plains (map plain xs))) (parted vs us ws o v e f g) ∙ deepest_end ws v

-- the last one of plain data
one_longer : (ps : List Plain) (p : Plain) → length (ps ++ p ∷ []) ≡ length ps + 1
one_longer [] p = omega arith
one_longer (q ∷ ps) p = omega (arith, one_longer ps p)

behind_all : (ps : List Plain) (p : Plain) → slice_get (ps ++ p ∷ []) (length ps) ≡ Some p
behind_all [] p = refl
behind_all (q ∷ ps) p = behind_all ps p

last_of : (ps : List Plain) (p : Plain) → slice_get (ps ++ p ∷ []) (length (ps ++ p ∷ []) - 1) ≡ Some p
last_of ps p =
    let place : length (ps ++ p ∷ []) - 1 ≡ length ps = omega (arith, one_longer ps p) in
    ap (slice_get (ps ++ p ∷ [])) place ∙ behind_all ps p

pub was_last : (vs us : List Value) (ps : List Plain) (o : Option Value) (v : Value) → vs ≡ us ++ option_to_list o → o ≡ Some v → map plain vs ≡ ps → option_map plain o ≡ slice_get ps (length ps - 1)
was_last vs us ps o v e f g =
    let parts : ps ≡ map plain us ++ plain v ∷ [] = sym g ∙ ap (map plain) (parted vs us us o v e f refl) ∙ more_at_end us v in
    ap (option_map plain) f ∙ sym (last_of (map plain us) (plain v)) ∙ ap (λ (qs : List Plain). slice_get qs (length qs - 1)) (sym parts)

-- what came and what went where a value was put in the place of another one
pub replaced_sizes : (vs us : List Value) (ps : List Plain) (k : ℕ) (v d r w : Value) → map plain vs ≡ ps → k < length ps → us ≡ set vs k d → d ≡ v → r ≡ w → w ≡ get_or vs k w → sizes_of (plains (map plain us)) + size_of (plain r) ≡ sizes_of (plains (map plain vs)) + size_of (plain v)
replaced_sizes vs us ps k v d r w e h f g i j =
    let inside : k < length vs = omega (arith, simp length-map at (ap length e)) in
    ap (λ (xs : List Value). sizes_of (plains (map plain xs)) + size_of (plain r)) f
    ∙ ap (λ (u : Value). sizes_of (plains (map plain (set vs k u))) + size_of (plain r)) g
    ∙ ap (λ (u : Value). sizes_of (plains (map plain (set vs k v))) + size_of (plain u)) i
    ∙ sizes_set vs k v w inside j

pub replaced_deepest : (vs us : List Value) (ps : List Plain) (k : ℕ) (v d r w : Value) → map plain vs ≡ ps → k < length ps → us ≡ set vs k d → d ≡ v → r ≡ w → w ≡ get_or vs k w → max (deepest_of (plains (map plain us))) (depth_of (plain r)) ≡ max (deepest_of (plains (map plain vs))) (depth_of (plain v))
replaced_deepest vs us ps k v d r w e h f g i j =
    let inside : k < length vs = omega (arith, simp length-map at (ap length e)) in
    ap (λ (xs : List Value). max (deepest_of (plains (map plain xs))) (depth_of (plain r))) f
    ∙ ap (λ (u : Value). max (deepest_of (plains (map plain (set vs k u)))) (depth_of (plain r))) g
    ∙ ap (λ (u : Value). max (deepest_of (plains (map plain (set vs k v)))) (depth_of (plain u))) i
    ∙ deepest_set vs k v w inside j
