-- Lemmas on agents that are put in chains, taken out or moved.
use Rattle.std.proofs.Common.{◌≡◌, ◌≢◌, ℕ, ◌<◌, Bool, true, false, List, [], ◌∷◌, ◌++◌, Option, Some, None, IsSome, IsSomeAnd, eqb, cond, refl, sym, ap, ◌∙◌, inl, inr, arith, subst}
use Rattle.std.specs.Option.{option_map}
use Rattle.std.proofs.lemmas.Grind.{common_steps}
use Rattle.std.proofs.lemmas.Bool.{cases_eq}
use Rattle.nl_grid.specs.Geometry.{Plane}
use Rattle.nl_store_lists.specs.Chained.{at_number, has, without}
use Rattle.nl_store_lists.specs.Rising.{IsRisingBy}
use Rattle.nl_store_lists.proofs.Places.{at-here, at-other, at-each}
use Rattle.nl_store_lists.proofs.Threaded.{home-of}
use Rattle.nl_store_lists.proofs.Rising.{rising-append, rising-same, rising-without}
use Rattle.nl_store_records.specs.Records.{fields_at, settled, Sets}
use Rattle.nl_store_records.specs.Filed.{after, before, apart_from, next_of, previous_of, IsFiled, KeepsOthers}
use Rattle.nl_store_records.specs.declared.fields.Body.{Body}
use Rattle.nl_store_records.specs.declared.fields.Fields.{Fields}
use Rattle.nl_store_records.specs.declared.places.Border.{Border}
use Rattle.nl_store_records.specs.declared.record.Record.{Record}
use Rattle.nl_store_records.proofs.Filing.{filed-home, filed-places}
use Rattle.nl_index.specs.Rows.{put_in, take_from}
use Rattle.nl_index.specs.Index.{IsAbove, StandsOn, HasBreedChain, by_birth, chain_of, home_by, serial_at, serial_in}
use Rattle.nl_index.proofs.Moves.{home-here, home-filed, home-changed}

-- ---- fields

fields-apart : (c : ℕ) (r : Option Record) → option_map (λ (x : Record). x.fields) (apart_from c r) ≡ option_map (λ (x : Record). x.fields) r
fields-apart c None = refl
fields-apart c (Some r) = grind (arith, common_steps)

pub fields-kept : (c : ℕ) (old new : ℕ → Option Record) → KeepsOthers c old new → (k : ℕ) → fields_at new k ≡ fields_at old k
fields-kept c old new e k = sym (fields-apart c (new k)) ∙ ap (λ o. option_map (λ (x : Record). x.fields) o) (e k) ∙ fields-apart c (old k)

pub fits-kept : (shape : Plane) (old new : ℕ) (o : Option Fields) → new ≡ old → IsSomeAnd o (λ f. StandsOn shape f.body × HasBreedChain old f.breed f.body) → IsSomeAnd o (λ f. StandsOn shape f.body × HasBreedChain new f.breed f.body)
fits-kept shape old new o e h = subst (λ n. IsSomeAnd o (λ f. StandsOn shape f.body × HasBreedChain n f.breed f.body)) (sym e) h

-- ---- one kind of chains

module _ (chain : ℕ) (number : Fields → Option ℕ) (borders : ℕ → Border) (filed : ℕ → Bool) (old new : ℕ → Option Record)
    (lists : ℕ → List ℕ) (key : ℕ) (n : Option ℕ) (f : Fields) (kept : (k : ℕ) → fields_at new k ≡ fields_at old k)
    (is_f : fields_at old key ≡ Some f) (is_n : chain_of number (fields_at old key) ≡ n) where
  n-is : n ≡ number f
  n-is = sym is_n ∙ ap (chain_of number) is_f

  pub added-one : IsFiled chain borders new (at_number (home_by number filed old) key n) (put_in n key lists) → IsFiled chain borders new (home_by number (at_number filed key true) new) (put_in (number f) key lists)
  added-one d =
      let filed' = at_number filed key true in
      let here : home_by number filed' new key ≡ n = home-here number filed' new key (at-here filed key true) ∙ ap (chain_of number) (kept key) ∙ is_n in
      subst (λ (m : Option ℕ). IsFiled chain borders new (home_by number filed' new) (put_in m key lists)) n-is
      (filed-home chain borders new _ _ (put_in n key lists) (home-changed number filed filed' old new key n (at-other filed key true) (λ k ne. kept k) here) d)

  pub removed-one : IsFiled chain borders new (at_number (home_by number filed old) key None) (take_from n key lists) → IsFiled chain borders new (home_by number (at_number filed key false) new) (take_from (number f) key lists)
  removed-one d =
      let filed' = at_number filed key false in
      let gone : home_by number filed' new key ≡ None = ap (λ b. cond b (chain_of number (fields_at new key)) None) (at-here filed key false) in
      subst (λ (m : Option ℕ). IsFiled chain borders new (home_by number filed' new) (take_from m key lists)) n-is
      (filed-home chain borders new _ _ (take_from n key lists) (home-changed number filed filed' old new key None (at-other filed key false) (λ k ne. kept k) gone) d)

-- a key that moves to another chain of the kind
pub moved-one : (chain : ℕ) (number : Fields → Option ℕ) (borders : ℕ → Border) (filed : ℕ → Bool) (old new : ℕ → Option Record) (lists : ℕ → List ℕ) (key to : ℕ) (n : Option ℕ) (f u : Fields) →
    ((k : ℕ) → k ≢ key → fields_at new k ≡ fields_at old k) → filed key ≡ true → fields_at old key ≡ Some f → chain_of number (fields_at old key) ≡ n → fields_at new key ≡ Some u → number u ≡ Some to →
    IsFiled chain borders new (at_number (home_by number filed old) key (Some to)) (put_in (Some to) key (take_from n key lists)) →
    IsFiled chain borders new (home_by number filed new) (put_in (Some to) key (take_from (number f) key lists))
moved-one chain number borders filed old new lists key to n f u others here is_f is_n is_u is_to d =
    let at_home : home_by number filed new key ≡ Some to = home-here number filed new key here ∙ ap (chain_of number) is_u ∙ is_to in
    let n-was : n ≡ number f = sym is_n ∙ ap (chain_of number) is_f in
    subst (λ (m : Option ℕ). IsFiled chain borders new (home_by number filed new) (put_in (Some to) key (take_from m key lists))) n-was
    (filed-home chain borders new _ _ _ (home-changed number filed filed old new key (Some to) (λ k ne. refl) others at_home) d)

-- ---- order of birth

serial-kept : (old new : ℕ → Option Record) (k : ℕ) → fields_at new k ≡ fields_at old k → serial_at new k ≡ serial_at old k
serial-kept old new k e = ap serial_in e

pub rising-added : (borders : ℕ → Border) (filed : ℕ → Bool) (old new : ℕ → Option Record) (lists : ℕ → List ℕ) (key : ℕ) (f : Fields) →
    ((k : ℕ) → fields_at new k ≡ fields_at old k) → fields_at old key ≡ Some f → IsAbove old filed key → IsFiled 0 borders old (home_by by_birth filed old) lists →
    ((n : ℕ) → IsRisingBy (serial_at old) (lists n)) → (n : ℕ) → IsRisingBy (serial_at new) (put_in (by_birth f) key lists n)
rising-added borders filed old new lists key f kept is_f above d rises = go (by_birth f) (ap (chain_of by_birth) is_f)
  where
    same : (xs : List ℕ) → IsRisingBy (serial_at old) xs → IsRisingBy (serial_at new) xs
    same xs r = rising-same (serial_at old) (serial_at new) xs (λ j h. serial-kept old new j (kept j)) r

    below : (b j : ℕ) → chain_of by_birth (fields_at old key) ≡ Some b → has (lists b) j ≡ true → serial_at new j < serial_at new key
    below b j e h =
        let home = home-of (home_by by_birth filed old) (after 0 borders old) (before 0 borders old) lists b j d.threaded h in
        let there = home-filed by_birth filed old j b home in
        let l = above j there (sym (home-here by_birth filed old j there) ∙ home ∙ sym e) in
        let x = serial-kept old new j (kept j) in
        let y = serial-kept old new key (kept key) in
        rw (x, y) l

    go : (o : Option ℕ) → chain_of by_birth (fields_at old key) ≡ o → (n : ℕ) → IsRisingBy (serial_at new) (put_in o key lists n)
    go None e n = same (lists n) (rises n)
    go (Some b) e n = at-each (λ (_ : ℕ) (xs : List ℕ). IsRisingBy (serial_at new) xs) lists b (lists b ++ key ∷ []) (rising-append (serial_at new) (lists b) key (same (lists b) (rises b)) (λ j h. below b j e h)) (λ m _. same (lists m) (rises m)) n

pub rising-removed : (old new : ℕ → Option Record) (lists : ℕ → List ℕ) (key : ℕ) (o : Option ℕ) →
    ((k : ℕ) → fields_at new k ≡ fields_at old k) → ((n : ℕ) → IsRisingBy (serial_at old) (lists n)) → (n : ℕ) → IsRisingBy (serial_at new) (take_from o key lists n)
rising-removed old new lists key o kept rises = go o
  where
    same : (xs : List ℕ) → IsRisingBy (serial_at old) xs → IsRisingBy (serial_at new) xs
    same xs r = rising-same (serial_at old) (serial_at new) xs (λ j h. serial-kept old new j (kept j)) r

    go : (o : Option ℕ) → (n : ℕ) → IsRisingBy (serial_at new) (take_from o key lists n)
    go None n = same (lists n) (rises n)
    go (Some b) n = at-each (λ (_ : ℕ) (xs : List ℕ). IsRisingBy (serial_at new) xs) lists b (without key (lists b)) (rising-without (serial_at new) (lists b) key (same (lists b) (rises b))) (λ m _. same (lists m) (rises m)) n

-- ---- an agent that is settled

module _ (old new : ℕ → Option Record) (key : ℕ) (body : Body) (breed : ℕ) (sets : Sets old new key (option_map (settled body breed) (old key))) where
  pub settled-other : (k : ℕ) → k ≢ key → new k ≡ old k
  settled-other k ne = sets k ∙ (let e : eqb k key ≡ false = grind arith in ap (λ b. cond b (option_map (settled body breed) (old key)) (old k)) e)

  settled-key : new key ≡ option_map (settled body breed) (old key)
  settled-key = sets key ∙ (let e : eqb key key ≡ true = grind arith in ap (λ b. cond b (option_map (settled body breed) (old key)) (old key)) e)

  settled-each : (P : Option Record → Option Record → Type 0) → ((o : Option Record) → P o o) → ((o : Option Record) → P (option_map (settled body breed) o) o) → (k : ℕ) → P (new k) (old k)
  settled-each P stay turn k = elim (cases_eq k key) [
    | inl e ↦ subst (λ x. P (new x) (old x)) (sym e) (subst (λ o. P o (old key)) (sym settled-key) (turn (old key)))
    | inr ne ↦ subst (λ o. P o (old k)) (sym (settled-other k ne)) (stay (old k))
  ]

  next-settled : (chain : ℕ) (o : Option Record) → next_of chain (option_map (settled body breed) o) ≡ next_of chain o
  next-settled chain None = refl
  next-settled chain (Some r) = refl

  previous-settled : (chain : ℕ) (o : Option Record) → previous_of chain (option_map (settled body breed) o) ≡ previous_of chain o
  previous-settled chain None = refl
  previous-settled chain (Some r) = refl

  held-settled : (o : Option Record) → IsSome o → IsSome (option_map (settled body breed) o)
  held-settled None h = absurd (cc)
  held-settled (Some r) h = refl

  serial-settled : (o : Option Record) → serial_in (option_map (λ (x : Record). x.fields) (option_map (settled body breed) o)) ≡ serial_in (option_map (λ (x : Record). x.fields) o)
  serial-settled None = refl
  serial-settled (Some r) = refl

  pub filed-settled : (chain : ℕ) (borders : ℕ → Border) (home : ℕ → Option ℕ) (lists : ℕ → List ℕ) → IsFiled chain borders old home lists → IsFiled chain borders new home lists
  filed-settled chain borders home lists d = filed-places chain borders old new home lists
      (settled-each (λ a b. next_of chain a ≡ next_of chain b) (λ o. refl) (next-settled chain))
      (settled-each (λ a b. previous_of chain a ≡ previous_of chain b) (λ o. refl) (previous-settled chain))
      (settled-each (λ a b. IsSome b → IsSome a) (λ o h. h) held-settled) d

  pub serials-settled : (k : ℕ) → serial_at new k ≡ serial_at old k
  serials-settled = settled-each (λ a b. serial_in (option_map (λ (x : Record). x.fields) a) ≡ serial_in (option_map (λ (x : Record). x.fields) b)) (λ o. refl) serial-settled

  pub fields-settled : (f : Fields) → fields_at old key ≡ Some f → fields_at new key ≡ Some (record f { body = body; breed = breed })
  fields-settled f h = ap (λ o. option_map (λ (x : Record). x.fields) o) settled-key ∙ go (old key) h
    where
      go : (o : Option Record) → option_map (λ (x : Record). x.fields) o ≡ Some f → option_map (λ (x : Record). x.fields) (option_map (settled body breed) o) ≡ Some (record f { body = body; breed = breed })
      go None e = absurd (cc)
      go (Some r) e = let s : r.fields ≡ f = cc in ap (λ (x : Fields). Some (record x { body = body; breed = breed })) s

pub rising-settled : (old new : ℕ → Option Record) (xs : List ℕ) → ((k : ℕ) → serial_at new k ≡ serial_at old k) → IsRisingBy (serial_at old) xs → IsRisingBy (serial_at new) xs
rising-settled old new xs same r = rising-same (serial_at old) (serial_at new) xs (λ j h. same j) r
