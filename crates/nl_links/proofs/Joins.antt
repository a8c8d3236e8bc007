-- Lemmas on links that come, go, and whose records, or whose test, are others.
use Rattle.std.proofs.Common.{◌≡◌, ℕ, Bool, true, false, List, Option, Some, None, IsSome, IsSomeAnd, is_some, cond, refl, sym, ap, ◌∙◌, subst}
use mathlib.Core.Path.{fun_ext}
use Rattle.nl_store_lists.specs.Chained.{IsPlace}
use Rattle.nl_store_lists.proofs.Threaded.{stays_threaded}
use Rattle.nl_store_records.specs.Records.{fields_at}
use Rattle.nl_store_records.specs.Filed.{after, before, IsFiled}
use Rattle.nl_store_records.specs.declared.fields.Fields.{Fields}
use Rattle.nl_store_records.specs.declared.places.Border.{Border}
use Rattle.nl_store_records.specs.declared.record.Record.{Record}
use Rattle.nl_store_records.proofs.Filing.{filed-home}
use Rattle.nl_index.specs.Index.{chain_of, home_by}
use Rattle.nl_index.proofs.Moves.{home-filed}
use Rattle.nl_links.specs.declared.ends.Ends.{Ends}
use Rattle.nl_links.specs.declared.sides.Side.TheVariants.{First, Second}
use Rattle.nl_links.specs.Sides.{border_in, sides_at, HoldsSame, SameSides}
use Rattle.nl_links.specs.Ends.{by_first, by_second, HasEnds, IsEnded, LinkLists}
use Rattle.nl_links.proofs.Holding.{some-ends-stay, filed-borders}

-- the same turtles are held
pub fit-holds : (old new : Ends) (o : Option Fields) → HoldsSame old new → IsSomeAnd o (HasEnds old) → IsSomeAnd o (HasEnds new)
fit-holds old new o same h = some-ends-stay old new o (λ t _ g. same t ∙ g) (λ t _ g. same t ∙ g) h

-- the same entries
pub ended-sides : (old new : Ends) (at : ℕ → Option Record) (filed : ℕ → Bool) (lists : LinkLists) → SameSides (sides_at old) (sides_at new) → IsEnded old at filed lists → IsEnded new at filed lists
ended-sides old new at filed lists same d = record {
  first = filed-borders 3 _ _ at _ lists.first (λ t. ap (border_in First) (same t)) d.first;
  second = filed-borders 4 _ _ at _ lists.second (λ t. ap (border_in Second) (same t)) d.second;
  fit = λ k h. fit-holds old new (fields_at at k) (λ t. ap is_some (same t)) (d.fit k h);
}

-- the same keys pass the test
pub ended-tests : (ends : Ends) (at : ℕ → Option Record) (filed filed' : ℕ → Bool) (lists : LinkLists) → ((k : ℕ) → filed k ≡ filed' k) → IsEnded ends at filed lists → IsEnded ends at filed' lists
ended-tests ends at filed filed' lists same x = subst (λ t. IsEnded ends at t lists) (fun_ext same) x

-- the same places of the keys that are filed
filed-where : (chain : ℕ) (borders : ℕ → Border) (old new : ℕ → Option Record) (home : ℕ → Option ℕ) (lists : ℕ → List ℕ) → ((k n : ℕ) → home k ≡ Some n → new k ≡ old k) → IsFiled chain borders old home lists → IsFiled chain borders new home lists
filed-where chain borders old new home lists same d = record {
  threaded = stays_threaded home (after chain borders old) (before chain borders old) (after chain borders new) (before chain borders new) lists d.threaded after-same before-same;
  held = λ k n h. subst IsSome (sym (same k n h)) (d.held k n h);
}
  where
    after-same : (n : ℕ) (a : Option ℕ) → IsPlace home n a → after chain borders new n a ≡ after chain borders old n a
    after-same n None na = refl
    after-same n (Some k) na = ap (λ r. after chain borders (λ _. r) n (Some k)) (same k n na)

    before-same : (n : ℕ) (a : Option ℕ) → IsPlace home n a → before chain borders new n a ≡ before chain borders old n a
    before-same n None na = refl
    before-same n (Some k) na = ap (λ r. before chain borders (λ _. r) n (Some k)) (same k n na)

one-where : (chain : ℕ) (number : Fields → Option ℕ) (borders : ℕ → Border) (old new : ℕ → Option Record) (filed : ℕ → Bool) (lists : ℕ → List ℕ) → ((k : ℕ) → filed k ≡ true → new k ≡ old k) → IsFiled chain borders old (home_by number filed old) lists → IsFiled chain borders new (home_by number filed new) lists
one-where chain number borders old new filed lists same d = filed-home chain borders new _ _ lists homes (filed-where chain borders old new (home_by number filed old) lists (λ k n h. same k (home-filed number filed old k n h)) d)
  where
    homes : (k : ℕ) → home_by number filed old k ≡ home_by number filed new k
    homes k = go (filed k) refl
      where
        go : (b : Bool) → filed k ≡ b → home_by number filed old k ≡ home_by number filed new k
        go true e = ap (λ r. cond (filed k) (chain_of number (fields_at (λ _. r) k)) None) (sym (same k e))
        go false e = ap (λ b. cond b (chain_of number (fields_at old k)) None) e ∙ sym (ap (λ b. cond b (chain_of number (fields_at new k)) None) e)

-- the same records of the keys that are filed
pub ended-where : (ends : Ends) (old new : ℕ → Option Record) (filed : ℕ → Bool) (lists : LinkLists) → ((k : ℕ) → filed k ≡ true → new k ≡ old k) → IsEnded ends old filed lists → IsEnded ends new filed lists
ended-where ends old new filed lists same x = record {
  first = one-where 3 by_first _ old new filed lists.first same x.first;
  second = one-where 4 by_second _ old new filed lists.second same x.second;
  fit = λ k h. subst (λ r. IsSomeAnd (fields_at (λ _. r) k) (HasEnds ends)) (sym (same k h)) (x.fit k h);
}
