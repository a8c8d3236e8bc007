-- How the marks of the names so far grow, and what they tell of the first name that is declared twice.
use Rattle.std.proofs.Common.{◌≡◌, ℕ, Bool, true, false, ◌||◌, if◌then◌else◌, List, [], ◌∷◌, ◌++◌, Option, Some, None, sym, ap, ◌∙◌, refl, Bor}
use Rattle.std.specs.List.{list_any}
use Rattle.std.specs.Option.{is_some, option_map, option_copied}
use Rattle.std.proofs.lemmas.List.Folds.{list_any-append}
use Rattle.nl_words.specs.Row.{row_of}
use Rattle.nl_words.specs.declared.entry.Entry.{Entry}
use Rattle.nl_decl.specs.declared.claims.Claim.{Claim}
use Rattle.nl_decl.specs.declared.claims.Claimed.{Claimed}
use Rattle.nl_decl.specs.declared.marks.Marked.{Marked}
use Rattle.nl_decl.specs.Claims.{is_taken, first_clash}
use Rattle.nl_decl.specs.inner.Ledger.{leaves_on, Holds, Notes}

-- the row of an entry is there where the entry is
pub as_there : (r : Option (Bor Entry)) → is_some (option_map row_of (option_copied r)) ≡ is_some r
as_there None = refl
as_there (Some e) = refl

module _ (seen : List Claimed) (has new : Marked → Bool) (name : List ℕ) (c : Claim) (place : ℕ) (holds : Holds seen has) (notes : Notes name c has new) where
  pub held_before : Holds (record { name = name; claim = c; place = place } ∷ seen) new
  held_before q = notes q ∙ ap (λ b. leaves_on name c q || b) (holds q)

  flip : (a b : Bool) → (a || b) ≡ (b || (a || false))
  flip true true = refl
  flip true false = refl
  flip false true = refl
  flip false false = refl

  pub held_behind : Holds (seen ++ record { name = name; claim = c; place = place } ∷ []) new
  held_behind q =
      notes q ∙ ap (λ b. leaves_on name c q || b) (holds q) ∙ flip (leaves_on name c q) (list_any (λ e. leaves_on e.name e.claim q) seen)
      ∙ sym (list_any-append (λ e. leaves_on e.name e.claim q) seen (record { name = name; claim = c; place = place } ∷ []))

-- where the next one is taken, it is the first; else the search goes on behind it
pub is_first : (seen cs : List Claimed) (c : Claimed) → is_taken seen c ≡ true → first_clash seen (c ∷ cs) ≡ Some c.place
is_first seen cs c taken = ap (λ b. if b then Some c.place else first_clash (c ∷ seen) cs) taken

pub goes_on : (seen cs : List Claimed) (c : Claimed) → is_taken seen c ≡ false → first_clash seen (c ∷ cs) ≡ first_clash (c ∷ seen) cs
goes_on seen cs c free = ap (λ b. if b then Some c.place else first_clash (c ∷ seen) cs) free
