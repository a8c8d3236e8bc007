use Rattle.std.proofs.Common.{◌≡◌, ◌≢◌, ◌∙◌, ℕ, Some, None, sym, ap, subst, refl, inl, inr, arith, cond, IsSomeAnd}
use Rattle.std.proofs.lemmas.Bool.{cases_eq}
use Rattle.nl_store_records.specs.Records.{record_at, fields_at}
use Rattle.nl_store_records.proofs.Filing.{filed-other, filed-home}
use Rattle.nl_index.specs.Index.{by_birth, by_breed, by_patch, chain_of, home_by, Fits}
use Rattle.nl_index.proofs.Moves.{home-here}
use Rattle.nl_store_records.specs.Records.{settled, Sets}
use Rattle.nl_store_records.specs.declared.fields.Body.{Body}
use Rattle.nl_store_records.specs.declared.fields.Body.TheVariants.{Turtle}
use Rattle.nl_store_records.specs.declared.fields.Fields.{Fields}
use Rattle.std.specs.Option.{option_map}
use Rattle.nl_store_records.specs.Filed.{IsFiled}
use Rattle.nl_index.specs.Rows.{borders_in, put_in, take_from}
use Rattle.nl_index.specs.Index.{IsTurtle, birth_chain, serial_at, serial_in}
use Rattle.nl_index.proofs.Filings.{moved-one, fields-kept, fields-settled, filed-settled, fits-kept, rising-settled, serials-settled, settled-other}
use Rattle.nl_index.proofs.chains.Chains.refile.Goals as goal

pub move_last-requires-2-clause-listed : goal.move_last-requires-2-clause-listed
move_last-requires-2-clause-listed c =
    let o = c.requires.listed in
    let at0 = record_at c.args.records.now in
    record {
      home = home_by by_breed o.filed at0;
      lists = o.lists.breeds;
      filed = filed-other 1 2 _ _ _ _ _ (omega arith) (omega arith) (λ e. absurd (omega arith)) c.move_last.ensures.others o.index.breeds;
      here = home-here by_breed o.filed at0 c.args.key o.here ∙ c.homes_at-from.ensures.breed;
    }

pub returns-clause-refiled : goal.returns-clause-refiled
returns-clause-refiled c filed lists f x here is_f =
    let at0 = record_at c.args.records.now in
    let at2 = record_at c.move_last-2.new.records in
    let at3 = record_at c.settle.new.self in
    let key = c.args.key in
    let breed = c.args.breed in
    let shape = c.args.self.now.shape in
    let homes = c.homes_at-from.ensures in
    let body : Body = Turtle c.args.to in
    let u : Fields = record f { body = body; breed = breed } in
    let o1 = c.move_last.ensures.others in
    let o2 = c.move_last-2.ensures.others in
    let kept : (k : ℕ) → fields_at at2 k ≡ fields_at at0 k = λ k. fields-kept 2 _ _ o2 k ∙ fields-kept 1 _ _ o1 k in
    let sets : Sets at2 at3 key (option_map (settled body breed) (at2 key)) = c.settle.ensures in
    let others : (k : ℕ) → k ≢ key → fields_at at3 k ≡ fields_at at0 k = λ k ne. ap (λ o. option_map (λ r. r.fields) o) (settled-other at2 at3 key body breed sets k ne) ∙ kept k in
    let is_u : fields_at at3 key ≡ Some u = fields-settled at2 at3 key body breed sets f (kept key ∙ is_f) in
    let turtle : birth_chain f.body ≡ 0 = subst IsTurtle is_f c.requires.turtle in
    let born : (k : ℕ) → chain_of by_birth (fields_at at0 k) ≡ chain_of by_birth (fields_at at3 k) = λ k. elim (cases_eq k key) [
      | inl e ↦ ap (λ i. chain_of by_birth (fields_at at0 i)) e ∙ ap (chain_of by_birth) is_f ∙ ap Some turtle ∙ sym (ap (chain_of by_birth) is_u) ∙ ap (λ i. chain_of by_birth (fields_at at3 i)) (sym e)
      | inr ne ↦ ap (chain_of by_birth) (sym (others k ne))
    ] in
    let b = filed-settled at2 at3 key body breed sets 0 _ _ _ (filed-other 2 0 _ _ _ _ _ (omega arith) (omega arith) (λ e. absurd (omega arith)) o2 (filed-other 1 0 _ _ _ _ _ (omega arith) (omega arith) (λ e. absurd (omega arith)) o1 x.births)) in
    let p = filed-settled at2 at3 key body breed sets 1 _ _ _ (filed-other 2 1 _ _ _ _ _ (omega arith) (omega arith) (λ e. absurd (omega arith)) o2 (c.move_last.ensures.filed _ _ x.patches (home-here (by_patch shape) filed at0 key here ∙ homes.patch))) in
    let d = filed-settled at2 at3 key body breed sets 2 _ _ _ (c.move_last-2.ensures.filed _ _ (filed-other 1 2 _ _ _ _ _ (omega arith) (omega arith) (λ e. absurd (omega arith)) o1 x.breeds) (home-here by_breed filed at0 key here ∙ homes.breed)) in
    let to_patch : by_patch shape u ≡ Some c.patch_under-patch.result = ap Some (sym c.patch_under-patch.ensures.patch) in
    let serials : (k : ℕ) → serial_at at3 k ≡ serial_at at0 k = λ k. serials-settled at2 at3 key body breed sets k ∙ ap serial_in (kept k) in
    record {
      births = filed-home 0 _ _ _ _ _ (λ k. ap (λ o. cond (filed k) o None) (born k)) b;
      patches = subst (λ (n : ℕ). IsFiled 1 (borders_in c.move_last.new.row.items) at3 (home_by (by_patch shape) filed at3) (put_in (Some n) key (take_from (by_patch shape f) key lists.patches))) c.patch_under-patch.ensures.patch
          (moved-one 1 (by_patch shape) _ filed at0 at3 lists.patches key c.patch_under-patch.result c.homes_at-from.result.patch f u others here is_f homes.patch is_u to_patch p);
      breeds = moved-one 2 by_breed _ filed at0 at3 lists.breeds key breed c.homes_at-from.result.breed f u others here is_f homes.breed is_u refl d;
      rising = λ n. rising-settled at0 at3 (lists.births n) serials (x.rising n);
      fit = λ k h. fits-kept shape _ _ (fields_at at3 k) c.move_last-2.ensures.length (elim (cases_eq k key) [
        | inl e ↦ subst (λ o. IsSomeAnd o (Fits c.args.self.now)) (sym (ap (fields_at at3) e ∙ is_u)) (c.requires.point, c.requires.breed)
        | inr ne ↦ subst (λ o. IsSomeAnd o (Fits c.args.self.now)) (sym (others k ne)) (x.fit k h)
      ]);
      whole = record { births = x.whole.births; patches = c.move_last.ensures.length ∙ x.whole.patches };
    }
