-- A turtle that keeps other variables and then is of another breed.
use Rattle.std.proofs.Common.{◌≡◌, ℕ, Bool, true, false, List, [], ◌∷◌, find, map, Option, Some, None, IsSome, is_some, eqb, cond, refl, sym, ap, ap₂, ◌∙◌}
use Rattle.std.specs.Option.{option_map}
use Rattle.nl_agents.specs.Nouns.{Vars}
use Rattle.nl_agents.specs.Changes.{is_turtle}
use Rattle.nl_agents.specs.declared.agents.Turtle as living
use Rattle.nl_agents.proofs.Finding.{found_changed}
use Rattle.nl_store_files.specs.Agents.{turtles_filled}

module _ (serial breed : ℕ) (change : Vars → Vars) where
  abbrev filled : living.Turtle → living.Turtle
  filled t = cond (eqb t.serial serial) (record t { vars = change t.vars }) t

  abbrev turned : living.Turtle → living.Turtle
  turned t = cond (eqb t.serial serial) (record t { breed = breed }) t

  abbrev both : living.Turtle → living.Turtle
  both t = cond (eqb t.serial serial) (record t { breed = breed; vars = change t.vars }) t

  one : (t : living.Turtle) (b : Bool) → eqb t.serial serial ≡ b → turned (filled t) ≡ both t
  one t true e =
      ap turned (ap (λ b. cond b (record t { vars = change t.vars }) t) e)
      ∙ ap (λ b. cond b (record t { breed = breed; vars = change t.vars }) (record t { vars = change t.vars })) e
      ∙ sym (ap (λ b. cond b (record t { breed = breed; vars = change t.vars }) t) e)
  one t false e =
      ap turned (ap (λ b. cond b (record t { vars = change t.vars }) t) e)
      ∙ ap (λ b. cond b (record t { breed = breed }) t) e
      ∙ sym (ap (λ b. cond b (record t { breed = breed; vars = change t.vars }) t) e)

  pub rebred-twice : (ts : List living.Turtle) → map turned (map filled ts) ≡ map both ts
  rebred-twice [] = refl
  rebred-twice (t ∷ ts) = ap₂ (λ x xs. x ∷ xs) (one t (eqb t.serial serial) refl) (rebred-twice ts)

  serial-filled : (t : living.Turtle) (b : Bool) → (cond b (record t { vars = change t.vars }) t).serial ≡ t.serial
  serial-filled t true = refl
  serial-filled t false = refl

  some-mapped : (o : Option living.Turtle) → is_some (option_map filled o) ≡ is_some o
  some-mapped None = refl
  some-mapped (Some t) = refl

  -- it lives as before
  pub filled-lives : (ts : List living.Turtle) → IsSome (find (is_turtle serial) ts) → IsSome (find (is_turtle serial) (turtles_filled change serial ts))
  filled-lives ts h =
      ap is_some (found_changed (is_turtle serial) filled (λ t. ap (λ n. eqb n serial) (serial-filled t (eqb t.serial serial))) ts) ∙ some-mapped (find (is_turtle serial) ts) ∙ h
