use Rattle.std.proofs.Common.{◌≡◌, ◌∙◌, ℕ, true, Some, sym, ap, subst, inl, inr, arith, IsSomeAnd}
use Rattle.std.proofs.lemmas.Bool.{cases_eq}
use Rattle.nl_store_lists.proofs.Places.{at-other}
use Rattle.nl_store_records.specs.Records.{record_at, fields_at}
use Rattle.nl_store_records.proofs.Filing.{filed-other}
use Rattle.nl_index.specs.Index.{by_birth, by_breed, by_patch, home_by, Fits}
use Rattle.nl_index.proofs.Moves.{home-away}
use Rattle.nl_index.proofs.Filings.{added-one, fields-kept, fits-kept, rising-added}
use Rattle.nl_index.proofs.chains.Chains.add.Goals as goal

pub link_in-requires-2-clause-away : goal.link_in-requires-2-clause-away
link_in-requires-2-clause-away c =
    let o = c.requires.away in
    let at0 = record_at c.args.records.now in
    record {
      home = home_by (by_patch c.args.self.now.shape) o.filed at0;
      lists = o.lists.patches;
      filed = filed-other 0 1 _ _ _ _ _ (omega arith) (omega arith) (λ e. absurd (omega arith)) c.link_in.ensures.others o.index.patches;
      here = home-away (by_patch c.args.self.now.shape) o.filed at0 c.args.key o.away;
    }

pub link_in-requires-3-clause-away : goal.link_in-requires-3-clause-away
link_in-requires-3-clause-away c =
    let o = c.requires.away in
    let at0 = record_at c.args.records.now in
    record {
      home = home_by by_breed o.filed at0;
      lists = o.lists.breeds;
      filed = filed-other 1 2 _ _ _ _ _ (omega arith) (omega arith) (λ e. absurd (omega arith)) c.link_in-2.ensures.others (filed-other 0 2 _ _ _ _ _ (omega arith) (omega arith) (λ e. absurd (omega arith)) c.link_in.ensures.others o.index.breeds);
      here = home-away by_breed o.filed at0 c.args.key o.away;
    }

pub returns-clause-added : goal.returns-clause-added
returns-clause-added c filed lists f x away above is_f =
    let at0 = record_at c.args.records.now in
    let at3 = record_at c.link_in-3.new.records in
    let key = c.args.key in
    let shape = c.args.self.now.shape in
    let homes = c.homes_at-homes.ensures in
    let o1 = c.link_in.ensures.others in
    let o2 = c.link_in-2.ensures.others in
    let o3 = c.link_in-3.ensures.others in
    let kept : (k : ℕ) → fields_at at3 k ≡ fields_at at0 k = λ k. fields-kept 2 _ _ o3 k ∙ fields-kept 1 _ _ o2 k ∙ fields-kept 0 _ _ o1 k in
    let b = filed-other 2 0 _ _ _ _ _ (omega arith) (omega arith) (λ e. absurd (omega arith)) o3 (filed-other 1 0 _ _ _ _ _ (omega arith) (omega arith) (λ e. absurd (omega arith)) o2
    (c.link_in.ensures.filed _ _ x.births (home-away by_birth filed at0 key away))) in
    let p = filed-other 2 1 _ _ _ _ _ (omega arith) (omega arith) (λ e. absurd (omega arith)) o3
    (c.link_in-2.ensures.filed _ _ (filed-other 0 1 _ _ _ _ _ (omega arith) (omega arith) (λ e. absurd (omega arith)) o1 x.patches) (home-away (by_patch shape) filed at0 key away)) in
    let d = c.link_in-3.ensures.filed _ _ (filed-other 1 2 _ _ _ _ _ (omega arith) (omega arith) (λ e. absurd (omega arith)) o2 (filed-other 0 2 _ _ _ _ _ (omega arith) (omega arith) (λ e. absurd (omega arith)) o1 x.breeds)) (home-away by_breed filed at0 key away) in
    record {
      births = added-one 0 by_birth _ filed at0 at3 lists.births key (Some c.homes_at-homes.result.births) f kept is_f homes.births b;
      patches = added-one 1 (by_patch shape) _ filed at0 at3 lists.patches key c.homes_at-homes.result.patch f kept is_f homes.patch p;
      breeds = added-one 2 by_breed _ filed at0 at3 lists.breeds key c.homes_at-homes.result.breed f kept is_f homes.breed d;
      rising = rising-added _ filed at0 at3 lists.births key f kept is_f above x.births x.rising;
      fit = λ k h. fits-kept shape _ _ (fields_at at3 k) c.link_in-3.ensures.length (elim (cases_eq k key) [
        | inl e ↦ subst (λ o. IsSomeAnd o (Fits c.args.self.now)) (sym (kept k ∙ ap (fields_at at0) e)) c.requires.fits
        | inr ne ↦ subst (λ o. IsSomeAnd o (Fits c.args.self.now)) (sym (kept k)) (x.fit k (sym (at-other filed key true k ne) ∙ h))
      ]);
      whole = record { births = c.link_in.ensures.length ∙ x.whole.births; patches = c.link_in-2.ensures.length ∙ x.whole.patches };
    }
