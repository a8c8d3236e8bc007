-- Lemmas on agents that come, move and go.
use Rattle.std.proofs.Common.{◌≡◌, ◌≢◌, ℕ, ◌+◌, Bool, true, false, Option, Some, None, IsSome, is_some, eqb, cond, refl, sym, ap, ◌∙◌, inl, inr, arith, subst}
use mathlib.Core.Path.{fun_ext}
use Rattle.std.specs.Option.{option_map, IsSomeAnd}
use Rattle.std.proofs.lemmas.Bool.{cases_eq}
use Rattle.nl_grid.specs.Geometry.{Plane}
use Rattle.nl_grid.specs.declared.point.Point.{Point}
use Rattle.nl_store_lists.specs.Chained.{at_number}
use Rattle.nl_store_lists.proofs.Places.{at-here, at-other}
use Rattle.nl_store_records.specs.Records.{fields_at, settled, SameRecords, Sets}
use Rattle.nl_store_records.specs.declared.fields.Body.{Body}
use Rattle.nl_store_records.specs.declared.fields.Fields.{Fields}
use Rattle.nl_store_records.specs.declared.record.Record.{Record}
use Rattle.nl_index.specs.Index.{Fits, HasBreedChain, IsAbove, IsIndex, IsSized, Lists, MayAdd, MovesBare, SameBare, StandsOn, bare, breeds_in, lists_added, lists_refiled, lists_removed, no_lists, serial_at, serial_in}
use Rattle.nl_index.specs.declared.chains.Chains.{Chains}
use Rattle.nl_index.proofs.Indexes.{index-tests, index-where}
use Rattle.trial_index.specs.Filings.{held, IsFiling}

pub filing-same : (chains : Chains) (old new : ℕ → Option Record) (shape : Plane) (breeds next : ℕ) → SameRecords old new → IsFiling chains old shape breeds next → IsFiling chains new shape breeds next
filing-same chains old new shape breeds next same f = subst (λ at. IsFiling chains at shape breeds next) (fun_ext (λ k. sym (same k))) f

pub filing-new : (chains : Chains) (at : ℕ → Option Record) (shape : Plane) (breeds : ℕ) → ((k : ℕ) → at k ≡ None) → IsIndex chains at (λ _. false) no_lists → IsSized shape breeds chains → IsFiling chains at shape breeds 0
filing-new chains at shape breeds none index sized = record {
  lists = no_lists;
  index = index-tests chains at (λ _. false) (held at) no_lists (λ k. sym (ap is_some (none k))) index;
  below = λ k h. (let z = ap is_some (none k) in absurd (cc));
  sized = sized;
}

sized-on : (shape : Plane) (breeds : ℕ) (chains chains' : Chains) → IsSized shape breeds chains → IsSized chains.shape (breeds_in chains) chains' → IsSized shape breeds chains'
sized-on shape breeds chains chains' s t = record { shape_is = t.shape_is ∙ s.shape_is; breeds_are = t.breeds_are ∙ s.breeds_are }

-- ---- records apart from their places

held-bare : (r : Option Record) → is_some (bare r) ≡ is_some r
held-bare None = refl
held-bare (Some r) = refl

-- the serial in a record
abbrev serial_of : Option Record → ℕ
serial_of r = serial_in (option_map (λ (x : Record). x.fields) r)

serial-bare : (r : Option Record) → serial_of (bare r) ≡ serial_of r
serial-bare None = refl
serial-bare (Some r) = refl

bare-held : (old new : ℕ → Option Record) → SameBare old new → (k : ℕ) → held new k ≡ held old k
bare-held old new e k = sym (held-bare (new k)) ∙ ap is_some (e k) ∙ held-bare (old k)

bare-serial : (old new : ℕ → Option Record) → SameBare old new → (k : ℕ) → serial_at new k ≡ serial_at old k
bare-serial old new e k = sym (serial-bare (new k)) ∙ ap serial_of (e k) ∙ serial-bare (old k)

module _ (body : Body) (breed : ℕ) where
  abbrev turned : Bool → Option Record → Option Record
  turned b o = cond b (option_map (settled body breed) o) o

  turned-held : (b : Bool) (o : Option Record) → is_some (turned b o) ≡ is_some o
  turned-held true None = refl
  turned-held true (Some r) = refl
  turned-held false o = refl

  turned-serial : (b : Bool) (o : Option Record) → serial_of (turned b o) ≡ serial_of o
  turned-serial true None = refl
  turned-serial true (Some r) = refl
  turned-serial false o = refl

-- ---- a key that is set

module _ (old new : ℕ → Option Record) (key : ℕ) (slot : Option Record) (sets : Sets old new key slot) where
  set-here : new key ≡ slot
  set-here = sets key ∙ (let e : eqb key key ≡ true = grind arith in ap (λ b. cond b slot (old key)) e)

  set-other : (k : ℕ) → k ≢ key → new k ≡ old k
  set-other k ne = sets k ∙ (let e : eqb k key ≡ false = grind arith in ap (λ b. cond b slot (old k)) e)

-- ---- an agent comes

pub fits-put : (chains : Chains) (at0 at1 : ℕ → Option Record) (shape : Plane) (breeds key : ℕ) (entry : Record) (f : Fields) → IsSized shape breeds chains → Sets at0 at1 key (Some entry) → entry.fields ≡ f → StandsOn shape f.body → HasBreedChain breeds f.breed f.body → IsSomeAnd (fields_at at1 key) (Fits chains)
fits-put chains at0 at1 shape breeds key entry f sized sets is stands bred =
    subst (λ o. IsSomeAnd o (Fits chains)) (sym (ap (option_map (λ (r : Record). r.fields)) (set-here at0 at1 key (Some entry) sets) ∙ ap Some is))
    (subst (λ p. StandsOn p f.body) (sym sized.shape_is) stands, subst (λ n. HasBreedChain n f.breed f.body) (sym sized.breeds_are) bred)

pub may-add : (chains : Chains) (at0 at1 : ℕ → Option Record) (shape : Plane) (breeds next key : ℕ) (entry : Record) → IsFiling chains at0 shape breeds next → at0 key ≡ None → Sets at0 at1 key (Some entry) → entry.fields.serial ≡ next → MayAdd chains at1 key
may-add chains at0 at1 shape breeds next key entry f vacant sets serial =
    let stays : (k : ℕ) → held at0 k ≡ true → at1 k ≡ at0 k = λ k h. set-other at0 at1 key (Some entry) sets k (λ e. (let z : held at0 key ≡ true = subst (λ i. held at0 i ≡ true) e h in let y = ap is_some vacant in absurd (cc))) in
    record {
      filed = held at0;
      lists = f.lists;
      index = index-where chains at0 at1 (held at0) f.lists stays f.index;
      away = ap is_some vacant;
      above = λ other h _.
          (let l = f.below other h in
          let a : serial_at at1 other ≡ serial_at at0 other = ap serial_of (stays other h) in
          let b : serial_at at1 key ≡ next = ap serial_of (set-here at0 at1 key (Some entry) sets) ∙ serial in
          rw (a, b) l);
    }

pub filing-more : (chains chains' : Chains) (at0 at1 at2 : ℕ → Option Record) (shape : Plane) (breeds next key : ℕ) (entry : Record) → IsFiling chains at0 shape breeds next → at0 key ≡ None → Sets at0 at1 key (Some entry) → entry.fields.serial ≡ next →
    ((filed : ℕ → Bool) (lists : Lists) (f : Fields) → IsIndex chains at1 filed lists → filed key ≡ false → IsAbove at1 filed key → fields_at at1 key ≡ Some f → IsIndex chains' at2 (at_number filed key true) (lists_added chains.shape f key lists)) →
    SameBare at1 at2 → IsSized chains.shape (breeds_in chains) chains' → IsFiling chains' at2 shape breeds (next + 1)
unfolding may-add
filing-more chains chains' at0 at1 at2 shape breeds next key entry f vacant sets serial added same size =
    let m = may-add chains at0 at1 shape breeds next key entry f vacant sets serial in
    let here = set-here at0 at1 key (Some entry) sets in
    let x = added m.filed m.lists entry.fields m.index m.away m.above (ap (λ o. option_map (λ (r : Record). r.fields) o) here) in
    let other = set-other at0 at1 key (Some entry) sets in
    record {
      lists = lists_added chains.shape entry.fields key m.lists;
      index = index-tests chains' at2 (at_number (held at0) key true) (held at2) _ (λ k. elim (cases_eq k key) [
        | inl e ↦ subst (λ i. at_number (held at0) key true i ≡ held at2 i) (sym e) (at-here (held at0) key true ∙ sym (bare-held at1 at2 same key ∙ ap is_some here))
        | inr ne ↦ at-other (held at0) key true k ne ∙ sym (bare-held at1 at2 same k ∙ ap is_some (other k ne))
      ]) x;
      below = λ k h. elim (cases_eq k key) [
        | inl e ↦ (let a : serial_at at2 k ≡ next = bare-serial at1 at2 same k ∙ ap (serial_at at1) e ∙ ap serial_of here ∙ serial in omega arith)
        | inr ne ↦
            (let was : held at0 k ≡ true = sym (bare-held at1 at2 same k ∙ ap is_some (other k ne)) ∙ h in
            let l = f.below k was in
            let a : serial_at at2 k ≡ serial_at at0 k = bare-serial at1 at2 same k ∙ ap serial_of (other k ne) in
            omega (arith, a, l))
      ];
      sized = sized-on shape breeds chains chains' f.sized size;
    }

-- ---- an agent goes

pub filing-less : (chains chains' : Chains) (at0 at1 at2 : ℕ → Option Record) (shape : Plane) (breeds next key : ℕ) → IsFiling chains at0 shape breeds next → IsSome (at0 key) →
    ((filed : ℕ → Bool) (lists : Lists) (f : Fields) → IsIndex chains at0 filed lists → filed key ≡ true → fields_at at0 key ≡ Some f → IsIndex chains' at1 (at_number filed key false) (lists_removed chains.shape f key lists)) →
    SameBare at0 at1 → Sets at1 at2 key None → IsSized chains.shape (breeds_in chains) chains' → IsFiling chains' at2 shape breeds next
filing-less chains chains' at0 at1 at2 shape breeds next key f here removed same sets size = go (at0 key) refl here
  where
    other : (k : ℕ) → k ≢ key → at2 k ≡ at1 k
    other = set-other at1 at2 key None sets

    gone : at2 key ≡ None
    gone = set-here at1 at2 key None sets

    go : (o : Option Record) → at0 key ≡ o → IsSome o → IsFiling chains' at2 shape breeds next
    go None e h = absurd (cc)
    go (Some r) e h =
        let x = removed (held at0) f.lists r.fields f.index (ap is_some e) (ap (λ o. option_map (λ (y : Record). y.fields) o) e) in
        record {
          lists = lists_removed chains.shape r.fields key f.lists;
          index = index-tests chains' at2 (at_number (held at0) key false) (held at2) _ (λ k. elim (cases_eq k key) [
            | inl s ↦ subst (λ i. at_number (held at0) key false i ≡ held at2 i) (sym s) (at-here (held at0) key false ∙ sym (ap is_some gone))
            | inr ne ↦ at-other (held at0) key false k ne ∙ sym (ap is_some (other k ne) ∙ bare-held at0 at1 same k)
          ]) (index-where chains' at1 at2 (at_number (held at0) key false) _ (λ k t. other k (λ s. (let z = subst (λ i. at_number (held at0) key false i ≡ true) s t in let y = at-here (held at0) key false in absurd (cc)))) x);
          below = λ k t.
              (let ne : k ≢ key = λ s. (let z = subst (λ i. held at2 i ≡ true) s t in let y = ap is_some gone in absurd (cc)) in
              let was : held at0 k ≡ true = sym (ap is_some (other k ne) ∙ bare-held at0 at1 same k) ∙ t in
              let l = f.below k was in
              let a : serial_at at2 k ≡ serial_at at0 k = ap serial_of (other k ne) ∙ bare-serial at0 at1 same k in
              rw a l);
          sized = sized-on shape breeds chains chains' f.sized size;
        }

-- ---- a turtle moves

pub filing-moved : (chains chains' : Chains) (at0 at1 : ℕ → Option Record) (shape : Plane) (breeds next key : ℕ) (to : Point) (breed : ℕ) → IsFiling chains at0 shape breeds next → IsSome (at0 key) →
    ((filed : ℕ → Bool) (lists : Lists) (f : Fields) → IsIndex chains at0 filed lists → filed key ≡ true → fields_at at0 key ≡ Some f → IsIndex chains' at1 filed (lists_refiled chains.shape f to breed key lists)) →
    MovesBare key to breed at0 at1 → IsSized chains.shape (breeds_in chains) chains' → IsFiling chains' at1 shape breeds next
filing-moved chains chains' at0 at1 shape breeds next key to breed f here refiled moves size = go (at0 key) refl here
  where
    held-same : (k : ℕ) → held at1 k ≡ held at0 k
    held-same k = sym (held-bare (at1 k)) ∙ ap is_some (moves k) ∙ turned-held _ breed (eqb k key) (bare (at0 k)) ∙ held-bare (at0 k)

    serial-same : (k : ℕ) → serial_at at1 k ≡ serial_at at0 k
    serial-same k = sym (serial-bare (at1 k)) ∙ ap serial_of (moves k) ∙ turned-serial _ breed (eqb k key) (bare (at0 k)) ∙ serial-bare (at0 k)

    go : (o : Option Record) → at0 key ≡ o → IsSome o → IsFiling chains' at1 shape breeds next
    go None e h = absurd (cc)
    go (Some r) e h =
        let x = refiled (held at0) f.lists r.fields f.index (ap is_some e) (ap (λ o. option_map (λ (y : Record). y.fields) o) e) in
        record {
          lists = lists_refiled chains.shape r.fields to breed key f.lists;
          index = index-tests chains' at1 (held at0) (held at1) _ (λ k. sym (held-same k)) x;
          below = λ k t. (let l = f.below k (sym (held-same k) ∙ t) in let a = serial-same k in rw a l);
          sized = sized-on shape breeds chains chains' f.sized size;
        }
