-- Names of locals and their numbers.
use Rattle.std.proofs.Common.{suc, zero, Bool, true, false, ◌||◌, bytes_eq, ◌≡◌, ℕ, ◌+◌, ◌<◌, inl, inr, List, [], ◌∷◌, ◌++◌, Option, Some, None, slice_get, slice_index, refl, ap, ◌∙◌, sym, arith, if◌then◌else◌}
use Rattle.std.proofs.lemmas.Slice.Eq.{bytes_eq-Decides}
use Rattle.std.proofs.lemmas.List.{map-append}
use Rattle.std.proofs.lemmas.Option.{slice_get-map}
use Rattle.std.specs.Borrow.{Bor}
use Rattle.std.specs.List.{list_any}
use Rattle.std.specs.Option.{option_map}
use Rattle.indexmap.specs.IndexSet.{insert_key}
use Rattle.nl_fixed.specs.Nouns.{Bytes, Name, Names}
use Rattle.nl_exec_meaning.specs.Code.{IsOneToOne, name_or}
use Rattle.nl_exec_meaning.specs.inner.Arena.{AreNames, Grows, names_seen}
use Rattle.nl_exec_meaning.proofs.Lists.{get_snoc, grows_by, grows_same}

-- a text isn't what a number without a name stands for
text_or_number : (n : Name) (b : ℕ) → slice_index n 0 < 256 → n ≡ (256 + b) ∷ [] → ⊥
text_or_number n b h e = let k : slice_index n 0 ≡ 256 + b = ap (λ xs. slice_index xs 0) e in omega (arith, h, k)

apart : (names : Names) → AreNames names → (a b : ℕ) (o p : Option Name) → slice_get names a ≡ o → slice_get names b ≡ p → name_or o a ≡ name_or p b → a ≡ b
apart names h a b None None e f g = let k : 256 + a ≡ 256 + b = ap (λ xs. slice_index xs 0) g in omega (arith, k)
apart names h a b None (Some n) e f g = absurd (text_or_number n a (h.1 b n f) (sym g))
apart names h a b (Some m) None e f g = absurd (text_or_number m b (h.1 a m e) g)
apart names h a b (Some m) (Some n) e f g = h.0 a b m e (f ∙ ap Some (sym g))

pub one_to_one : (names : Names) → AreNames names → IsOneToOne names
one_to_one names h a b e = apart names h a b (slice_get names a) (slice_get names b) refl refl e

names_push : (names : Names) (name : Name) → AreNames names → ((i : ℕ) → slice_get names i ≡ Some name → ⊥) → slice_index name 0 < 256 → AreNames (names ++ name ∷ [])
names_push names name h new text = (
  (λ i j n e f. elim (get_snoc names name i n e) [
    | inl a ↦ elim (get_snoc names name j n f) [ inl b ↦ h.0 i j n a b | inr (b, c) ↦ absurd (new i (a ∙ ap Some (sym c))) ]
    | inr (a, b) ↦ elim (get_snoc names name j n f) [ inl c ↦ absurd (new j (c ∙ ap Some (sym b))) | inr (c, d) ↦ omega (arith, a, c) ]
  ]),
  (λ i n e. elim (get_snoc names name i n e) [ inl a ↦ h.1 i n a | inr (a, b) ↦ rw (← b) text ]),
)

none_some : {A : Type 0} (x : A) → None ≡ Some x → ⊥
none_some x e = cc

some_same : {A : Type 0} (a b : A) → Some a ≡ Some b → a ≡ b
some_same a b e = cc

pub no_names : (names : Names) → names ≡ [] → AreNames names
no_names names is = rw is ((λ i j n e f. absurd (none_some n e)), (λ i n e. absurd (none_some n e)))

-- names are the same by their bytes
abbrev pub same : Bor Bytes → Bor Bytes → Bool
same a b = bytes_eq a.now b.now

true_false : true ≡ false → ⊥
true_false e = cc

left_false : (a b : Bool) → (a || b) ≡ false → a ≡ false
left_false true b e = absurd (true_false e)
left_false false b e = refl

right_false : (a b : Bool) → (a || b) ≡ false → b ≡ false
right_false true b e = absurd (true_false e)
right_false false b e = e

-- a name that none of the keys is stands at no place
stranger : (ks : List (Bor Bytes)) (k : Bor Bytes) → list_any (same k) ks ≡ false → (i : ℕ) → slice_get (names_seen ks) i ≡ Some k.now → ⊥
stranger [] k none i e = none_some k.now e
stranger (x ∷ ks) k none zero e =
    true_false (sym ((bytes_eq-Decides k.now x.now).1 (sym (some_same x.now k.now e))) ∙ left_false (same k x) (list_any (same k) ks) none)
stranger (x ∷ ks) k none (suc i) e = stranger ks k (right_false (same k x) (list_any (same k) ks) none) i e

seen_push : (ks : List (Bor Bytes)) (k : Bor Bytes) → names_seen (ks ++ k ∷ []) ≡ names_seen ks ++ k.now ∷ []
seen_push ks k = map-append (λ (m : Bor Bytes). m.now) ks (k ∷ [])

inserted_by : (ks : List (Bor Bytes)) (k : Bor Bytes) (b : Bool) → list_any (same k) ks ≡ b → AreNames (names_seen ks) → slice_index k.now 0 < 256 → AreNames (names_seen (if b then ks else ks ++ k ∷ []))
inserted_by ks k true e h text = h
inserted_by ks k false e h text = rw (seen_push ks k) (names_push (names_seen ks) k.now h (stranger ks k e) text)

-- one name more, or the same names
pub inserted : (ks new : List (Bor Bytes)) (k : Bor Bytes) → new ≡ insert_key same ks k → AreNames (names_seen ks) → slice_index k.now 0 < 256 → AreNames (names_seen new)
inserted ks new k is h text = rw is (inserted_by ks k (list_any (same k) ks) refl h text)

grown_by : (ks : List (Bor Bytes)) (k : Bor Bytes) (b : Bool) → Grows (names_seen ks) (names_seen (if b then ks else ks ++ k ∷ []))
grown_by ks k true = grows_same (names_seen ks)
grown_by ks k false = rw (seen_push ks k) (grows_by (names_seen ks) (k.now ∷ []))

pub inserted_grows : (ks new : List (Bor Bytes)) (k : Bor Bytes) → new ≡ insert_key same ks k → Grows (names_seen ks) (names_seen new)
inserted_grows ks new k is = rw is (grown_by ks k (list_any (same k) ks))

-- the key at a place is the name there
pub stored_name : (ks : List (Bor Bytes)) (at : ℕ) (k found : Bor Bytes) → slice_get ks at ≡ Some found → same k found ≡ true → slice_get (names_seen ks) at ≡ Some k.now
stored_name ks at k found there e =
    slice_get-map (λ (m : Bor Bytes). m.now) ks at ∙ ap (option_map (λ (m : Bor Bytes). m.now)) there ∙ ap Some (sym ((bytes_eq-Decides k.now found.now).0 e))
