-- Lemmas on the chains that keys are in.
use Rattle.std.proofs.Common.{◌≡◌, ◌≢◌, ℕ, Bool, true, false, Option, Some, None, cond, refl, sym, ap, ◌∙◌, inl, inr}
use Rattle.std.proofs.lemmas.Bool.{cases_eq}
use Rattle.nl_store_lists.specs.Chained.{at_number}
use Rattle.nl_store_lists.proofs.Places.{at-here, at-other}
use Rattle.nl_store_records.specs.Records.{fields_at}
use Rattle.nl_store_records.specs.declared.fields.Fields.{Fields}
use Rattle.nl_store_records.specs.declared.record.Record.{Record}
use Rattle.nl_index.specs.Index.{chain_of, home_by}

pub at-twice : {A : Type 0} (f : ℕ → A) (key : ℕ) (one two : A) (k : ℕ) → at_number (at_number f key one) key two k ≡ at_number f key two k
at-twice f key one two k = elim (cases_eq k key) [
  | inl e ↦ ap (at_number (at_number f key one) key two) e ∙ at-here (at_number f key one) key two ∙ sym (at-here f key two) ∙ ap (at_number f key two) (sym e)
  | inr ne ↦ at-other (at_number f key one) key two k ne ∙ at-other f key one k ne ∙ sym (at-other f key two k ne)
]

pub at-same : {A : Type 0} (f : ℕ → A) (key : ℕ) (value : A) → f key ≡ value → (k : ℕ) → f k ≡ at_number f key value k
at-same f key value h k = elim (cases_eq k key) [
  | inl e ↦ ap f e ∙ h ∙ sym (at-here f key value) ∙ ap (at_number f key value) (sym e)
  | inr ne ↦ sym (at-other f key value k ne)
]

pub home-here : (number : Fields → Option ℕ) (filed : ℕ → Bool) (at : ℕ → Option Record) (key : ℕ) → filed key ≡ true → home_by number filed at key ≡ chain_of number (fields_at at key)
home-here number filed at key h = ap (λ b. cond b (chain_of number (fields_at at key)) None) h

pub home-away : (number : Fields → Option ℕ) (filed : ℕ → Bool) (at : ℕ → Option Record) (key : ℕ) → filed key ≡ false → home_by number filed at key ≡ None
home-away number filed at key h = ap (λ b. cond b (chain_of number (fields_at at key)) None) h

pub home-filed : (number : Fields → Option ℕ) (filed : ℕ → Bool) (at : ℕ → Option Record) (key n : ℕ) → home_by number filed at key ≡ Some n → filed key ≡ true
home-filed number filed at key n h = go (filed key) refl
  where
    go : (b : Bool) → filed key ≡ b → filed key ≡ true
    go true e = e
    go false e = let z = home-away number filed at key e in absurd (cc)

-- homes by other tests and other fields
pub home-changed : (number : Fields → Option ℕ) (filed filed' : ℕ → Bool) (old new : ℕ → Option Record) (key : ℕ) (to : Option ℕ) →
    ((k : ℕ) → k ≢ key → filed' k ≡ filed k) → ((k : ℕ) → k ≢ key → fields_at new k ≡ fields_at old k) → home_by number filed' new key ≡ to →
    (k : ℕ) → at_number (home_by number filed old) key to k ≡ home_by number filed' new k
home-changed number filed filed' old new key to f e h k = elim (cases_eq k key) [
  | inl s ↦ ap (at_number (home_by number filed old) key to) s ∙ at-here (home_by number filed old) key to ∙ sym h ∙ ap (home_by number filed' new) (sym s)
  | inr ne ↦ at-other (home_by number filed old) key to k ne ∙ sym (ap (λ b. cond b (chain_of number (fields_at new k)) None) (f k ne) ∙ ap (λ o. cond (filed k) (chain_of number o) None) (e k ne))
]
