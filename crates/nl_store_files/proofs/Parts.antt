-- What chains need of a record, which changes of other places and of variables leave.
use Rattle.std.proofs.Common.{◌≡◌, ◌≢◌, ℕ, Bool, true, false, List, [], Option, Some, None, IsSomeAnd, is_some, eqb, cond, refl, sym, ap, ◌∙◌, arith, subst}
use Rattle.std.specs.Option.{option_map}
use Rattle.nl_grid.specs.Geometry.{Plane}
use Rattle.nl_store_lists.specs.Chained.{has, IsPlace}
use Rattle.nl_store_lists.proofs.Threaded.{home-of, stays_threaded}
use Rattle.nl_store_lists.proofs.Rising.{rising-same}
use Rattle.nl_store_records.specs.Records.{fields_at, no_place, with_fields}
use Rattle.nl_store_records.specs.Filed.{after, before, next_of, previous_of, IsFiled}
use Rattle.nl_store_records.specs.declared.fields.Fields.{Fields}
use Rattle.nl_store_records.specs.declared.places.Border.{Border}
use Rattle.nl_store_records.specs.declared.record.Record.{Record}
use Rattle.nl_store_records.proofs.Filing.{filed-home}
use Rattle.nl_index.specs.Index.{bare, by_birth, by_breed, by_patch, chain_of, home_by, serial_at, serial_in, Fits, IsIndex, Lists, SameBare}
use Rattle.nl_index.specs.declared.chains.Chains.{Chains}
use Rattle.nl_index.proofs.Moves.{home-filed}
use Rattle.nl_links.specs.Ends.{by_first, by_second, unjoined, HasEnds, IsEnded, LinkLists, SameUnjoined}
use Rattle.nl_links.specs.declared.ends.Ends.{Ends}

abbrev pub fields_in : Option Record → Option Fields
fields_in r = option_map (λ (x : Record). x.fields) r

-- ---- a key that is set

module _ {A : Type 0} (old new : ℕ → A) (key : ℕ) (slot : A) (sets : (k : ℕ) → new k ≡ cond (eqb k key) slot (old k)) where
  pub set-here : new key ≡ slot
  set-here = sets key ∙ (let e : eqb key key ≡ true = grind arith in ap (λ b. cond b slot (old key)) e)

  pub set-other : (k : ℕ) → k ≢ key → new k ≡ old k
  set-other k ne = sets k ∙ (let e : eqb k key ≡ false = grind arith in ap (λ b. cond b slot (old k)) e)

pub set-behind : {A : Type 0} (old mid new : ℕ → A) (key : ℕ) (slot : A) → ((k : ℕ) → mid k ≡ old k) → ((k : ℕ) → new k ≡ cond (eqb k key) slot (mid k)) → (k : ℕ) → new k ≡ cond (eqb k key) slot (old k)
set-behind old mid new key slot same sets k = sets k ∙ ap (λ r. cond (eqb k key) slot r) (same k)

-- ---- parts

-- the record apart from its variables and its places by end
abbrev pub index_part : Option Record → Option Record
index_part r = option_map (λ (x : Record). record x { fields = record x.fields { vars = [] }; end1 = no_place; end2 = no_place }) r

-- the record apart from its variables and its other places
abbrev pub end_part : Option Record → Option Record
end_part r = option_map (λ (x : Record). record x { fields = record x.fields { vars = [] }; births = no_place; patch = no_place; breed = no_place }) r

-- what is told by a part is the same where the part is
pub by-part : {A : Type 0} (part : Option Record → Option Record) (h : Option Record → A) → ((r : Option Record) → h (part r) ≡ h r) → (new old : Option Record) → part new ≡ part old → h new ≡ h old
by-part part h same new old e = sym (same new) ∙ ap h e ∙ same old

fields-bare : (r : Option Record) → fields_in (bare r) ≡ fields_in r
fields-bare None = refl
fields-bare (Some r) = refl

fields-unjoined : (r : Option Record) → fields_in (unjoined r) ≡ fields_in r
fields-unjoined None = refl
fields-unjoined (Some r) = refl

held-bare : (r : Option Record) → is_some (bare r) ≡ is_some r
held-bare None = refl
held-bare (Some r) = refl

held-unjoined : (r : Option Record) → is_some (unjoined r) ≡ is_some r
held-unjoined None = refl
held-unjoined (Some r) = refl

end-bare : (r : Option Record) → end_part (bare r) ≡ end_part r
end-bare None = refl
end-bare (Some r) = refl

index-unjoined : (r : Option Record) → index_part (unjoined r) ≡ index_part r
index-unjoined None = refl
index-unjoined (Some r) = refl

pub fields-of-bare : (old new : ℕ → Option Record) → SameBare old new → (k : ℕ) → fields_at new k ≡ fields_at old k
fields-of-bare old new e k = by-part bare fields_in fields-bare (new k) (old k) (e k)

pub fields-of-unjoined : (old new : ℕ → Option Record) → SameUnjoined old new → (k : ℕ) → fields_at new k ≡ fields_at old k
fields-of-unjoined old new e k = by-part unjoined fields_in fields-unjoined (new k) (old k) (e k)

pub held-of-bare : (old new : ℕ → Option Record) → SameBare old new → (k : ℕ) → is_some (new k) ≡ is_some (old k)
held-of-bare old new e k = by-part bare is_some held-bare (new k) (old k) (e k)

pub held-of-unjoined : (old new : ℕ → Option Record) → SameUnjoined old new → (k : ℕ) → is_some (new k) ≡ is_some (old k)
held-of-unjoined old new e k = by-part unjoined is_some held-unjoined (new k) (old k) (e k)

pub end-of-bare : (new old : Option Record) → bare new ≡ bare old → end_part new ≡ end_part old
end-of-bare new old e = by-part bare end_part end-bare new old e

pub index-of-unjoined : (old new : ℕ → Option Record) → SameUnjoined old new → (k : ℕ) → index_part (new k) ≡ index_part (old k)
index-of-unjoined old new e k = by-part unjoined index_part index-unjoined (new k) (old k) (e k)

-- other variables
pub index-of-fields : (f : Fields) (r : Record) → record r.fields { vars = [] } ≡ record f { vars = [] } → index_part (Some (with_fields f r)) ≡ index_part (Some r)
index-of-fields f r e = ap (λ (x : Fields). Some (record r { fields = x; end1 = no_place; end2 = no_place })) (sym e)

pub end-of-fields : (f : Fields) (r : Record) → record r.fields { vars = [] } ≡ record f { vars = [] } → end_part (Some (with_fields f r)) ≡ end_part (Some r)
end-of-fields f r e = ap (λ (x : Fields). Some (record r { fields = x; births = no_place; patch = no_place; breed = no_place })) (sym e)

-- ---- chains of one kind

filed-alike : (chain : ℕ) (borders : ℕ → Border) (old new : ℕ → Option Record) (home : ℕ → Option ℕ) (lists : ℕ → List ℕ) →
    ((k n : ℕ) → home k ≡ Some n → next_of chain (new k) ≡ next_of chain (old k)) → ((k n : ℕ) → home k ≡ Some n → previous_of chain (new k) ≡ previous_of chain (old k)) →
    ((k n : ℕ) → home k ≡ Some n → is_some (new k) ≡ is_some (old k)) → IsFiled chain borders old home lists → IsFiled chain borders new home lists
filed-alike chain borders old new home lists next previous held d = record {
  threaded = stays_threaded home (after chain borders old) (before chain borders old) (after chain borders new) (before chain borders new) lists d.threaded after-same before-same;
  held = λ k n h. held k n h ∙ d.held k n h;
}
  where
    after-same : (n : ℕ) (a : Option ℕ) → IsPlace home n a → after chain borders new n a ≡ after chain borders old n a
    after-same n None na = refl
    after-same n (Some k) na = next k n na

    before-same : (n : ℕ) (a : Option ℕ) → IsPlace home n a → before chain borders new n a ≡ before chain borders old n a
    before-same n None na = refl
    before-same n (Some k) na = previous k n na

homes-alike : (number : Fields → Option ℕ) (filed : ℕ → Bool) (old new : ℕ → Option Record) → ((k : ℕ) → filed k ≡ true → chain_of number (fields_at new k) ≡ chain_of number (fields_at old k)) → (k : ℕ) → home_by number filed old k ≡ home_by number filed new k
homes-alike number filed old new same k = go (filed k) refl
  where
    go : (b : Bool) → filed k ≡ b → home_by number filed old k ≡ home_by number filed new k
    go true e = ap (λ o. cond (filed k) o None) (sym (same k e))
    go false e = ap (λ b. cond b (chain_of number (fields_at old k)) None) e ∙ sym (ap (λ b. cond b (chain_of number (fields_at new k)) None) e)

-- the part tells the places of the kind, in which chain the record is, and whether there is one
record Tells (part : Option Record → Option Record) (chain : ℕ) (number : Fields → Option ℕ) : Type 0 where
  next : (r : Option Record) → next_of chain (part r) ≡ next_of chain r
  previous : (r : Option Record) → previous_of chain (part r) ≡ previous_of chain r
  home : (r : Option Record) → chain_of number (fields_in (part r)) ≡ chain_of number (fields_in r)
  held : (r : Option Record) → is_some (part r) ≡ is_some r

kind-alike : (part : Option Record → Option Record) (chain : ℕ) (number : Fields → Option ℕ) (borders : ℕ → Border) (old new : ℕ → Option Record) (filed : ℕ → Bool) (lists : ℕ → List ℕ) → Tells part chain number →
    ((k : ℕ) → filed k ≡ true → part (new k) ≡ part (old k)) → IsFiled chain borders old (home_by number filed old) lists → IsFiled chain borders new (home_by number filed new) lists
kind-alike part chain number borders old new filed lists t same d =
    let there = λ (k n : ℕ) (h : home_by number filed old k ≡ Some n). same k (home-filed number filed old k n h) in
    filed-home chain borders new _ _ lists
    (homes-alike number filed old new (λ k h. by-part part (λ r. chain_of number (fields_in r)) t.home (new k) (old k) (same k h)))
    (filed-alike chain borders old new (home_by number filed old) lists
    (λ k n h. by-part part (next_of chain) t.next (new k) (old k) (there k n h))
    (λ k n h. by-part part (previous_of chain) t.previous (new k) (old k) (there k n h))
    (λ k n h. by-part part is_some t.held (new k) (old k) (there k n h)) d)

index_next-0 : (r : Option Record) → next_of 0 (index_part r) ≡ next_of 0 r
index_next-0 None = refl
index_next-0 (Some r) = refl

index_next-1 : (r : Option Record) → next_of 1 (index_part r) ≡ next_of 1 r
index_next-1 None = refl
index_next-1 (Some r) = refl

index_next-2 : (r : Option Record) → next_of 2 (index_part r) ≡ next_of 2 r
index_next-2 None = refl
index_next-2 (Some r) = refl

index_previous-0 : (r : Option Record) → previous_of 0 (index_part r) ≡ previous_of 0 r
index_previous-0 None = refl
index_previous-0 (Some r) = refl

index_previous-1 : (r : Option Record) → previous_of 1 (index_part r) ≡ previous_of 1 r
index_previous-1 None = refl
index_previous-1 (Some r) = refl

index_previous-2 : (r : Option Record) → previous_of 2 (index_part r) ≡ previous_of 2 r
index_previous-2 None = refl
index_previous-2 (Some r) = refl

index_held : (r : Option Record) → is_some (index_part r) ≡ is_some r
index_held None = refl
index_held (Some r) = refl

index_birth : (r : Option Record) → chain_of by_birth (fields_in (index_part r)) ≡ chain_of by_birth (fields_in r)
index_birth None = refl
index_birth (Some r) = refl

index_patch : (shape : Plane) (r : Option Record) → chain_of (by_patch shape) (fields_in (index_part r)) ≡ chain_of (by_patch shape) (fields_in r)
index_patch shape None = refl
index_patch shape (Some r) = refl

index_breed : (r : Option Record) → chain_of by_breed (fields_in (index_part r)) ≡ chain_of by_breed (fields_in r)
index_breed None = refl
index_breed (Some r) = refl

index_serial : (r : Option Record) → serial_in (fields_in (index_part r)) ≡ serial_in (fields_in r)
index_serial None = refl
index_serial (Some r) = refl

index_fits-to : (chains : Chains) (r : Option Record) → IsSomeAnd (fields_in r) (Fits chains) → IsSomeAnd (fields_in (index_part r)) (Fits chains)
index_fits-to chains None h = h
index_fits-to chains (Some r) h = h

index_fits-from : (chains : Chains) (r : Option Record) → IsSomeAnd (fields_in (index_part r)) (Fits chains) → IsSomeAnd (fields_in r) (Fits chains)
index_fits-from chains None h = h
index_fits-from chains (Some r) h = h

-- records of which an index needs the same
pub index-alike : (chains : Chains) (old new : ℕ → Option Record) (filed : ℕ → Bool) (lists : Lists) → ((k : ℕ) → filed k ≡ true → index_part (new k) ≡ index_part (old k)) → IsIndex chains old filed lists → IsIndex chains new filed lists
index-alike chains old new filed lists same x =
    let serials : (n j : ℕ) → has (lists.births n) j ≡ true → serial_at new j ≡ serial_at old j = λ n j h.
    let home = home-of (home_by by_birth filed old) _ _ lists.births n j x.births.threaded h in
    by-part index_part (λ r. serial_in (fields_in r)) index_serial (new j) (old j) (same j (home-filed by_birth filed old j n home)) in
    record {
      births = kind-alike index_part 0 by_birth _ old new filed lists.births (record { next = index_next-0; previous = index_previous-0; home = index_birth; held = index_held }) same x.births;
      patches = kind-alike index_part 1 (by_patch chains.shape) _ old new filed lists.patches (record { next = index_next-1; previous = index_previous-1; home = index_patch chains.shape; held = index_held }) same x.patches;
      breeds = kind-alike index_part 2 by_breed _ old new filed lists.breeds (record { next = index_next-2; previous = index_previous-2; home = index_breed; held = index_held }) same x.breeds;
      rising = λ n. rising-same (serial_at old) (serial_at new) (lists.births n) (serials n) (x.rising n);
      fit = λ k h. index_fits-from chains (new k) (subst (λ r. IsSomeAnd (fields_in r) (Fits chains)) (sym (same k h)) (index_fits-to chains (old k) (x.fit k h)));
      whole = x.whole;
    }

end_next-3 : (r : Option Record) → next_of 3 (end_part r) ≡ next_of 3 r
end_next-3 None = refl
end_next-3 (Some r) = refl

end_next-4 : (r : Option Record) → next_of 4 (end_part r) ≡ next_of 4 r
end_next-4 None = refl
end_next-4 (Some r) = refl

end_previous-3 : (r : Option Record) → previous_of 3 (end_part r) ≡ previous_of 3 r
end_previous-3 None = refl
end_previous-3 (Some r) = refl

end_previous-4 : (r : Option Record) → previous_of 4 (end_part r) ≡ previous_of 4 r
end_previous-4 None = refl
end_previous-4 (Some r) = refl

end_held : (r : Option Record) → is_some (end_part r) ≡ is_some r
end_held None = refl
end_held (Some r) = refl

end_first : (r : Option Record) → chain_of by_first (fields_in (end_part r)) ≡ chain_of by_first (fields_in r)
end_first None = refl
end_first (Some r) = refl

end_second : (r : Option Record) → chain_of by_second (fields_in (end_part r)) ≡ chain_of by_second (fields_in r)
end_second None = refl
end_second (Some r) = refl

end_fits-to : (ends : Ends) (r : Option Record) → IsSomeAnd (fields_in r) (HasEnds ends) → IsSomeAnd (fields_in (end_part r)) (HasEnds ends)
end_fits-to ends None h = h
end_fits-to ends (Some r) h = h

end_fits-from : (ends : Ends) (r : Option Record) → IsSomeAnd (fields_in (end_part r)) (HasEnds ends) → IsSomeAnd (fields_in r) (HasEnds ends)
end_fits-from ends None h = h
end_fits-from ends (Some r) h = h

-- records of which chains of links need the same
pub ended-alike : (ends : Ends) (old new : ℕ → Option Record) (filed : ℕ → Bool) (lists : LinkLists) → ((k : ℕ) → filed k ≡ true → end_part (new k) ≡ end_part (old k)) → IsEnded ends old filed lists → IsEnded ends new filed lists
ended-alike ends old new filed lists same x = record {
  first = kind-alike end_part 3 by_first _ old new filed lists.first (record { next = end_next-3; previous = end_previous-3; home = end_first; held = end_held }) same x.first;
  second = kind-alike end_part 4 by_second _ old new filed lists.second (record { next = end_next-4; previous = end_previous-4; home = end_second; held = end_held }) same x.second;
  fit = λ k h. end_fits-from ends (new k) (subst (λ r. IsSomeAnd (fields_in r) (HasEnds ends)) (sym (same k h)) (end_fits-to ends (old k) (x.fit k h)));
}
