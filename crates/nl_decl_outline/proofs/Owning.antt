-- What one breed more leaves of the words that declare the variables of breeds.
use Rattle.std.proofs.Common.{◌≡◌, ℕ, suc, Bool, true, false, cond, if◌then◌else◌, List, [], ◌∷◌, ◌++◌, Option, Some, None, length, refl, sym, ◌∙◌, ap, subst, arith}
use Rattle.std.specs.Prelude.{bytes_eq, is_some}
use Rattle.std.specs.Cmp.Lexicographic.{nat_list_eq_equiv}
use Rattle.std.proofs.lemmas.Slice.Eq.{bytes_eq-Decides}
use Rattle.std.specs.Map.{lookup, KeepsOthers}
use Rattle.nl_decl_outline.specs.Declarations.{owning, one_later, breed_owning}

-- the first of two places
abbrev behind : Option ℕ → Option ℕ → Option ℕ
behind (Some n) o = Some n
behind None o = o

abbrev place_if : Bool → ℕ → Option ℕ
place_if b n = if b then Some n else None

push : (breeds : List (List ℕ)) (p w : List ℕ) → breed_owning (breeds ++ p ∷ []) w ≡ behind (breed_owning breeds w) (place_if (bytes_eq (owning p) w) (length breeds))
push [] p w = refl
push (q ∷ breeds) p w = at (bytes_eq (owning q) w) (push breeds p w)
  where
    later : (x : Option ℕ) (b : Bool) (n : ℕ) → one_later (behind x (place_if b n)) ≡ behind (one_later x) (place_if b (suc n))
    later (Some m) b n = refl
    later None true n = ap Some (omega arith)
    later None false n = refl

    at : (b : Bool) → breed_owning (breeds ++ p ∷ []) w ≡ behind (breed_owning breeds w) (place_if (bytes_eq (owning p) w) (length breeds))
        → (if b then Some 0 else one_later (breed_owning (breeds ++ p ∷ []) w)) ≡ behind (if b then Some 0 else one_later (breed_owning breeds w)) (place_if (bytes_eq (owning p) w) (suc (length breeds)))
    at true e = refl
    at false e = ap one_later e ∙ later (breed_owning breeds w) (bytes_eq (owning p) w) (length breeds)

same : (w v : List ℕ) → bytes_eq w v ≡ true → w ≡ v
same w v h = (bytes_eq-Decides w v).0 h

-- a breed whose word is another's too
pub again : (breeds : List (List ℕ)) (p w : List ℕ) → is_some (breed_owning breeds (owning p)) ≡ true → breed_owning (breeds ++ p ∷ []) w ≡ breed_owning breeds w
again breeds p w h = push breeds p w ∙ at (breed_owning breeds w) (bytes_eq (owning p) w) refl refl
  where
    at : (x : Option ℕ) (b : Bool) → breed_owning breeds w ≡ x → bytes_eq (owning p) w ≡ b → behind x (place_if b (length breeds)) ≡ x
    at (Some n) b e f = refl
    at None false e f = refl
    at None true e f = let g : owning p ≡ w = same (owning p) w f in cc

-- a breed whose word no other has
pub anew : (breeds : List (List ℕ)) (p w : List ℕ) → is_some (breed_owning breeds (owning p)) ≡ false
    → breed_owning (breeds ++ p ∷ []) w ≡ cond (bytes_eq (owning p) w) (Some (length breeds)) (breed_owning breeds w)
anew breeds p w h = push breeds p w ∙ at (breed_owning breeds w) (bytes_eq (owning p) w) refl refl
  where
    at : (x : Option ℕ) (b : Bool) → breed_owning breeds w ≡ x → bytes_eq (owning p) w ≡ b → behind x (place_if b (length breeds)) ≡ cond b (Some (length breeds)) x
    at None b e f = either b
      where
        either : (b : Bool) → place_if b (length breeds) ≡ cond b (Some (length breeds)) None
        either true = refl
        either false = refl
    at (Some n) false e f = refl
    at (Some n) true e f = let g : owning p ≡ w = same (owning p) w f in cc

-- ---- a table whose keys are bytes, with one key more

others : {K X : Type 0} (bytes : K → List ℕ) (old new : List (K × X)) (test : K → Bool) → KeepsOthers (λ x y. bytes_eq (bytes x) (bytes y)) test old new
    → (other : K → Bool) → ((x y : K) → other x ≡ true → other y ≡ bytes_eq (bytes x) (bytes y)) → ((k : K) → test k ≡ true → other k ≡ false) → lookup other new ≡ lookup other old
unfolding KeepsOthers
others bytes old new test h = h

pub updated : {K X : Type 0} (bytes : K → List ℕ) (k : K) (x : X) (old new : List (K × X)) → KeepsOthers (λ x y. bytes_eq (bytes x) (bytes y)) (λ y. bytes_eq (bytes k) (bytes y)) old new
    → lookup (λ y. bytes_eq (bytes k) (bytes y)) new ≡ Some x
    → (w : List ℕ) → lookup (λ y. bytes_eq w (bytes y)) new ≡ cond (bytes_eq (bytes k) w) (Some x) (lookup (λ y. bytes_eq w (bytes y)) old)
updated {K} {X} bytes k x old new keeps here w = at (bytes_eq (bytes k) w) refl
  where
    at : (b : Bool) → bytes_eq (bytes k) w ≡ b → lookup (λ y. bytes_eq w (bytes y)) new ≡ cond b (Some x) (lookup (λ y. bytes_eq w (bytes y)) old)
    at true e = subst (λ (v : List ℕ). lookup (λ y. bytes_eq v (bytes y)) new ≡ Some x) (same (bytes k) w e) here
    at false e =
        others bytes old new (λ y. bytes_eq (bytes k) (bytes y)) keeps (λ y. bytes_eq w (bytes y)) (λ y z. nat_list_eq_equiv.congr w (bytes y) (bytes z))
        (λ y f. nat_list_eq_equiv.symm w (bytes y) ∙ sym (nat_list_eq_equiv.congr (bytes k) (bytes y) w f) ∙ e)
