-- Lemmas on an index whose records, or whose test, are others.
use Rattle.std.proofs.Common.{◌≡◌, ℕ, Bool, true, false, List, Option, Some, None, IsSome, IsSomeAnd, cond, refl, sym, ap, ◌∙◌, subst}
use mathlib.Core.Path.{fun_ext}
use Rattle.nl_store_lists.specs.Chained.{has, IsPlace}
use Rattle.nl_store_lists.proofs.Threaded.{home-of, stays_threaded}
use Rattle.nl_store_lists.proofs.Rising.{rising-same}
use Rattle.nl_store_records.specs.Records.{fields_at}
use Rattle.nl_store_records.specs.Filed.{after, before, IsFiled}
use Rattle.nl_store_records.specs.declared.fields.Fields.{Fields}
use Rattle.nl_store_records.specs.declared.places.Border.{Border}
use Rattle.nl_store_records.specs.declared.record.Record.{Record}
use Rattle.nl_store_records.proofs.Filing.{filed-home}
use Rattle.nl_index.specs.Index.{Fits, IsIndex, Lists, by_birth, by_breed, by_patch, chain_of, home_by, serial_at, serial_in}
use Rattle.nl_index.specs.declared.chains.Chains.{Chains}
use Rattle.nl_index.proofs.Moves.{home-filed}

-- the same keys pass the test
pub index-tests : (chains : Chains) (at : ℕ → Option Record) (filed filed' : ℕ → Bool) (lists : Lists) → ((k : ℕ) → filed k ≡ filed' k) → IsIndex chains at filed lists → IsIndex chains at filed' lists
index-tests chains at filed filed' lists same x = subst (λ t. IsIndex chains at t lists) (fun_ext same) x

-- the same records
pub index-records : (chains : Chains) (old new : ℕ → Option Record) (filed : ℕ → Bool) (lists : Lists) → ((k : ℕ) → old k ≡ new k) → IsIndex chains old filed lists → IsIndex chains new filed lists
index-records chains old new filed lists same x = subst (λ at. IsIndex chains at filed lists) (fun_ext same) x

-- the same records of the keys that are in a chain
filed-where : (chain : ℕ) (borders : ℕ → Border) (old new : ℕ → Option Record) (home : ℕ → Option ℕ) (lists : ℕ → List ℕ) → ((k n : ℕ) → home k ≡ Some n → new k ≡ old k) → IsFiled chain borders old home lists → IsFiled chain borders new home lists
filed-where chain borders old new home lists same d = record {
  threaded = stays_threaded home (after chain borders old) (before chain borders old) (after chain borders new) (before chain borders new) lists d.threaded after-same before-same;
  held = λ k n h. subst IsSome (sym (same k n h)) (d.held k n h);
}
  where
    after-same : (n : ℕ) (a : Option ℕ) → IsPlace home n a → after chain borders new n a ≡ after chain borders old n a
    after-same n None na = refl
    after-same n (Some k) na = ap (λ r. after chain borders (λ _. r) n (Some k)) (same k n na)

    before-same : (n : ℕ) (a : Option ℕ) → IsPlace home n a → before chain borders new n a ≡ before chain borders old n a
    before-same n None na = refl
    before-same n (Some k) na = ap (λ r. before chain borders (λ _. r) n (Some k)) (same k n na)

one-where : (chain : ℕ) (number : Fields → Option ℕ) (borders : ℕ → Border) (old new : ℕ → Option Record) (filed : ℕ → Bool) (lists : ℕ → List ℕ) → ((k : ℕ) → filed k ≡ true → new k ≡ old k) → IsFiled chain borders old (home_by number filed old) lists → IsFiled chain borders new (home_by number filed new) lists
one-where chain number borders old new filed lists same d = filed-home chain borders new _ _ lists homes (filed-where chain borders old new (home_by number filed old) lists (λ k n h. same k (home-filed number filed old k n h)) d)
  where
    homes : (k : ℕ) → home_by number filed old k ≡ home_by number filed new k
    homes k = go (filed k) refl
      where
        go : (b : Bool) → filed k ≡ b → home_by number filed old k ≡ home_by number filed new k
        go true e = ap (λ r. cond (filed k) (chain_of number (fields_at (λ _. r) k)) None) (sym (same k e))
        go false e = ap (λ b. cond b (chain_of number (fields_at old k)) None) e ∙ sym (ap (λ b. cond b (chain_of number (fields_at new k)) None) e)

-- the same records of the keys that are filed
pub index-where : (chains : Chains) (old new : ℕ → Option Record) (filed : ℕ → Bool) (lists : Lists) → ((k : ℕ) → filed k ≡ true → new k ≡ old k) → IsIndex chains old filed lists → IsIndex chains new filed lists
index-where chains old new filed lists same x =
    let serials : (n j : ℕ) → has (lists.births n) j ≡ true → serial_at new j ≡ serial_at old j = λ n j h.
    let home = home-of (home_by by_birth filed old) _ _ lists.births n j x.births.threaded h in
    ap (λ r. serial_in (fields_at (λ _. r) j)) (same j (home-filed by_birth filed old j n home)) in
    record {
      births = one-where 0 by_birth _ old new filed lists.births same x.births;
      patches = one-where 1 (by_patch chains.shape) _ old new filed lists.patches same x.patches;
      breeds = one-where 2 by_breed _ old new filed lists.breeds same x.breeds;
      rising = λ n. rising-same (serial_at old) (serial_at new) (lists.births n) (serials n) (x.rising n);
      fit = λ k h. subst (λ r. IsSomeAnd (fields_at (λ _. r) k) (Fits chains)) (sym (same k h)) (x.fit k h);
      whole = x.whole;
    }
