-- The first key of a chain.
use Rattle.std.proofs.Common.{◌≡◌, ℕ, ◌≤◌, Bool, true, false, List, [], ◌∷◌, ◌++◌, length, Option, Some, None, refl, sym, ap, ◌∙◌, subst}
use Rattle.std.specs.Option.{option_or}
use Rattle.std.specs.List.{list_any}
use Rattle.nl_store_lists.specs.Chained.{has}
use Rattle.nl_store_lists.proofs.Members.{has-first}
use Rattle.nl_store_records.specs.declared.record.Record.{Record}
use Rattle.nl_index.specs.Index.{breeds_in, first_of}
use Rattle.nl_index.specs.declared.chains.Chains.{Chains}
use Rattle.nl_links.specs.declared.ends.Ends.{Ends}
use Rattle.nl_store_lists.specs.Rolls.{passes, roll}
use Rattle.nl_store_lists.proofs.Rolls.{is_roll-skipped, roll-skipped}
use Rattle.nl_store_files.specs.Agents.{link_at, link_serial, turtle_at, turtle_serial}
use Rattle.nl_store_files.specs.Keys.{key_in}
use Rattle.nl_store_files.specs.declared.keys.Keys.{Keys}
use Rattle.nl_store_files.specs.Standing.{agents_of, AreCounted, IsFiles}
use Rattle.nl_store_files.proofs.Filed.{made}
use Rattle.nl_store_files.proofs.Members.{roll-none}

no-first : (ks : List ℕ) → first_of ks ≡ None → ks ≡ []
no-first [] e = refl
no-first (k ∷ ks) e = absurd (cc)

first-has : (ks : List ℕ) (k : ℕ) → first_of ks ≡ Some k → has ks k ≡ true
first-has [] k e = absurd (cc)
first-has (j ∷ ks) k e = let s : j ≡ k = cc in subst (λ i. has (j ∷ ks) i ≡ true) s (has-first j ks)

-- the first of two lists
pub first-both : (xs ys : List ℕ) → first_of (xs ++ ys) ≡ option_or (first_of xs) (first_of ys)
first-both [] ys = refl
first-both (x ∷ xs) ys = refl

pub none-any : {X : Type 0} (xs : List X) → list_any (λ (x : X). true) xs ≡ false → xs ≡ []
none-any [] e = refl
none-any (x ∷ xs) e = absurd (cc)

module _ {X : Type 0} (p : X → Bool) (item : ℕ → Option X) (key_of : ℕ → Option ℕ) (n : ℕ) (ks : List ℕ) (members : (k : ℕ) → has ks k ≡ passes p (item k)) where
  -- where there is no first key no item passes the test
  pub none-listed : first_of ks ≡ None → list_any p (roll item key_of n) ≡ false
  none-listed e = roll-none p item key_of n (λ k x h. sym (ap (passes p) h) ∙ sym (members k) ∙ ap (λ xs. has xs k) (no-first ks e))

  -- the first key's item passes it
  pub record IsChosen (k : ℕ) : Type 0 where
    pub chosen : X
    pub is : item k ≡ Some chosen
    pub passes_it : p chosen ≡ true

  chosen-item : (k : ℕ) (o : Option X) → item k ≡ o → passes p o ≡ true → IsChosen k
  chosen-item k None e h = absurd (cc)
  chosen-item k (Some x) e h = record { chosen = x; is = e; passes_it = h }

  pub some-listed : (k : ℕ) → first_of ks ≡ Some k → IsChosen k
  some-listed k e = chosen-item k (item k) refl (sym (members k) ∙ first-has ks k e)

-- ---- serials that are given away

module _ (chains : Chains) (ends : Ends) (at : ℕ → Option Record) (tk lk : Keys) (tg lg : ℕ)
    (d : IsFiles chains ends at (key_in tk) (key_in lk) tg lg) (n : AreCounted at tk lk tg lg) where
  module _ (to : ℕ) (le : tg ≤ to) where
    pub turtles-skipped : IsFiles chains ends at (key_in tk) (key_in lk) to lg
    turtles-skipped = record { lists = d.lists; joined = d.joined; index = d.index; ended = d.ended; turtles = is_roll-skipped turtle_serial (turtle_at at) (key_in tk) tg d.turtles to le; links = d.links; entered = d.entered; apart = d.apart }

    turtles-stay : roll (turtle_at at) (key_in tk) to ≡ roll (turtle_at at) (key_in tk) tg
    turtles-stay = roll-skipped turtle_serial (turtle_at at) (key_in tk) tg d.turtles to le

    pub turtles-counted : AreCounted at tk lk to lg
    turtles-counted = record { turtles = n.turtles ∙ sym (ap length turtles-stay); links = n.links }

    pub turtles-agents : agents_of chains at tk lk to lg ≡ record (agents_of chains at tk lk tg lg) { turtles_given = to }
    turtles-agents = made chains.shape chains.shape (breeds_in chains) (breeds_in chains) _ _ _ _ to lg refl refl turtles-stay refl

  module _ (to : ℕ) (le : lg ≤ to) where
    pub links-skipped : IsFiles chains ends at (key_in tk) (key_in lk) tg to
    links-skipped = record { lists = d.lists; joined = d.joined; index = d.index; ended = d.ended; turtles = d.turtles; links = is_roll-skipped link_serial (link_at at) (key_in lk) lg d.links to le; entered = d.entered; apart = d.apart }

    links-stay : roll (link_at at) (key_in lk) to ≡ roll (link_at at) (key_in lk) lg
    links-stay = roll-skipped link_serial (link_at at) (key_in lk) lg d.links to le

    pub links-counted : AreCounted at tk lk tg to
    links-counted = record { turtles = n.turtles; links = n.links ∙ sym (ap length links-stay) }

    pub links-agents : agents_of chains at tk lk tg to ≡ record (agents_of chains at tk lk tg lg) { links_given = to }
    links-agents = made chains.shape chains.shape (breeds_in chains) (breeds_in chains) _ _ _ _ tg to refl refl refl links-stay
