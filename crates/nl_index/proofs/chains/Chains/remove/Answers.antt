use Rattle.std.proofs.Common.{◌≡◌, ◌∙◌, ℕ, true, false, Some, sym, subst, inl, inr, arith, IsSomeAnd}
use Rattle.std.proofs.lemmas.Bool.{cases_eq}
use Rattle.nl_store_lists.specs.Chained.{at_number}
use Rattle.nl_store_lists.proofs.Places.{at-here, at-other}
use Rattle.nl_store_records.specs.Records.{record_at, fields_at}
use Rattle.nl_store_records.proofs.Filing.{filed-other}
use Rattle.nl_index.specs.Index.{by_birth, by_breed, by_patch, home_by, Fits}
use Rattle.nl_index.proofs.Moves.{home-here}
use Rattle.nl_index.proofs.Filings.{removed-one, fields-kept, fits-kept, rising-removed}
use Rattle.nl_index.proofs.chains.Chains.remove.Goals as goal

pub unlink_from-requires-2-clause-listed : goal.unlink_from-requires-2-clause-listed
unlink_from-requires-2-clause-listed c =
    let o = c.requires.listed in
    let at0 = record_at c.args.records.now in
    let number = by_patch c.args.self.now.shape in
    record {
      home = home_by number o.filed at0;
      lists = o.lists.patches;
      filed = filed-other 0 1 _ _ _ _ _ (omega arith) (omega arith) (λ e. absurd (omega arith)) c.unlink_from.ensures.others o.index.patches;
      here = home-here number o.filed at0 c.args.key o.here ∙ c.homes_at-homes.ensures.patch;
    }

pub unlink_from-requires-3-clause-listed : goal.unlink_from-requires-3-clause-listed
unlink_from-requires-3-clause-listed c =
    let o = c.requires.listed in
    let at0 = record_at c.args.records.now in
    record {
      home = home_by by_breed o.filed at0;
      lists = o.lists.breeds;
      filed = filed-other 1 2 _ _ _ _ _ (omega arith) (omega arith) (λ e. absurd (omega arith)) c.unlink_from-2.ensures.others (filed-other 0 2 _ _ _ _ _ (omega arith) (omega arith) (λ e. absurd (omega arith)) c.unlink_from.ensures.others o.index.breeds);
      here = home-here by_breed o.filed at0 c.args.key o.here ∙ c.homes_at-homes.ensures.breed;
    }

pub returns-clause-removed : goal.returns-clause-removed
returns-clause-removed c filed lists f x here is_f =
    let at0 = record_at c.args.records.now in
    let at3 = record_at c.unlink_from-3.new.records in
    let key = c.args.key in
    let shape = c.args.self.now.shape in
    let homes = c.homes_at-homes.ensures in
    let o1 = c.unlink_from.ensures.others in
    let o2 = c.unlink_from-2.ensures.others in
    let o3 = c.unlink_from-3.ensures.others in
    let kept : (k : ℕ) → fields_at at3 k ≡ fields_at at0 k = λ k. fields-kept 2 _ _ o3 k ∙ fields-kept 1 _ _ o2 k ∙ fields-kept 0 _ _ o1 k in
    let b = filed-other 2 0 _ _ _ _ _ (omega arith) (omega arith) (λ e. absurd (omega arith)) o3 (filed-other 1 0 _ _ _ _ _ (omega arith) (omega arith) (λ e. absurd (omega arith)) o2
    (c.unlink_from.ensures.filed _ _ x.births (home-here by_birth filed at0 key here ∙ homes.births))) in
    let p = filed-other 2 1 _ _ _ _ _ (omega arith) (omega arith) (λ e. absurd (omega arith)) o3
    (c.unlink_from-2.ensures.filed _ _ (filed-other 0 1 _ _ _ _ _ (omega arith) (omega arith) (λ e. absurd (omega arith)) o1 x.patches) (home-here (by_patch shape) filed at0 key here ∙ homes.patch)) in
    let d = c.unlink_from-3.ensures.filed _ _ (filed-other 1 2 _ _ _ _ _ (omega arith) (omega arith) (λ e. absurd (omega arith)) o2 (filed-other 0 2 _ _ _ _ _ (omega arith) (omega arith) (λ e. absurd (omega arith)) o1 x.breeds)) (home-here by_breed filed at0 key here ∙ homes.breed) in
    let was : (k : ℕ) → at_number filed key false k ≡ true → filed k ≡ true = λ k h. elim (cases_eq k key) [
      | inl e ↦ (let z = at-here filed key false in let y = subst (λ i. at_number filed key false i ≡ true) e h in absurd (cc))
      | inr ne ↦ sym (at-other filed key false k ne) ∙ h
    ] in
    record {
      births = removed-one 0 by_birth _ filed at0 at3 lists.births key (Some c.homes_at-homes.result.births) f kept is_f homes.births b;
      patches = removed-one 1 (by_patch shape) _ filed at0 at3 lists.patches key c.homes_at-homes.result.patch f kept is_f homes.patch p;
      breeds = removed-one 2 by_breed _ filed at0 at3 lists.breeds key c.homes_at-homes.result.breed f kept is_f homes.breed d;
      rising = rising-removed at0 at3 lists.births key (by_birth f) kept x.rising;
      fit = λ k h. fits-kept shape _ _ (fields_at at3 k) c.unlink_from-3.ensures.length (subst (λ o. IsSomeAnd o (Fits c.args.self.now)) (sym (kept k)) (x.fit k (was k h)));
      whole = record { births = c.unlink_from.ensures.length ∙ x.whole.births; patches = c.unlink_from-2.ensures.length ∙ x.whole.patches };
    }
