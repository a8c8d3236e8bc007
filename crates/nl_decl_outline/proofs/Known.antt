-- What the code knows of the breeds, with one breed more.
use Rattle.std.proofs.Common.{◌≡◌, ℕ, ◌+◌, true, false, cond, List, [], ◌∷◌, ◌++◌, Some, length, sym, ◌∙◌, ap, arith, length-append}
use Rattle.std.specs.Prelude.{bytes_eq, is_some}
use Rattle.std.specs.HashMap.{get_by}
use Rattle.nl_decl_outline.specs.declared.owners.Owners.{Owners}
use Rattle.nl_decl_outline.specs.Declarations.{owning, breed_owning}
use Rattle.nl_decl_outline.specs.inner.Owners.{Knows}
use Rattle.nl_decl_outline.proofs.Owning.{again, anew}

one_longer : (breeds : List (List ℕ)) (p : List ℕ) → length (breeds ++ p ∷ []) ≡ length breeds + 1
one_longer breeds p = omega (arith, length-append breeds (p ∷ []))

-- it is found already
pub knows_again : (breeds : List (List ℕ)) (p word : List ℕ) (o : Owners) → word ≡ owning p → Knows breeds o
    → true ≡ is_some (get_by (λ key. bytes_eq word key.items) o.places)
    → Knows (breeds ++ p ∷ []) (record { places = o.places; count = o.count + 1 })
knows_again breeds p word o e known found =
    record {
      places = λ w. known.places w ∙ sym (again breeds p w (sym (found ∙ ap is_some (known.places word) ∙ ap (λ v. is_some (breed_owning breeds v)) e)));
      count = ap (λ n. n + 1) known.count ∙ sym (one_longer breeds p);
    }

-- it is found from now on
pub knows_anew : (breeds : List (List ℕ)) (p word : List ℕ) (o n : Owners) → word ≡ owning p → Knows breeds o
    → false ≡ is_some (get_by (λ key. bytes_eq word key.items) o.places)
    → n.count ≡ o.count + 1
    → ((w : List ℕ) → get_by (λ key. bytes_eq w key.items) n.places ≡ cond (bytes_eq word w) (Some o.count) (get_by (λ key. bytes_eq w key.items) o.places))
    → Knows (breeds ++ p ∷ []) n
knows_anew breeds p word o n e known found next updated =
    record {
      places = λ w.
          updated w
          ∙ ap (λ v. cond (bytes_eq v w) (Some o.count) (get_by (λ key. bytes_eq w key.items) o.places)) e
          ∙ ap (λ k. cond (bytes_eq (owning p) w) (Some k) (get_by (λ key. bytes_eq w key.items) o.places)) known.count
          ∙ ap (λ x. cond (bytes_eq (owning p) w) (Some (length breeds)) x) (known.places w)
          ∙ sym (anew breeds p w (sym (found ∙ ap is_some (known.places word) ∙ ap (λ v. is_some (breed_owning breeds v)) e)));
      count = next ∙ ap (λ n. n + 1) known.count ∙ sym (one_longer breeds p);
    }
