use Rattle.std.proofs.Common.{◌≡◌, ◌∙◌, ℕ, true, false, Some, sym, subst, inl, inr, arith, IsSomeAnd}
use Rattle.std.proofs.lemmas.Bool.{cases_eq}
use Rattle.nl_store_lists.specs.Chained.{at_number}
use Rattle.nl_store_lists.proofs.Places.{at-here, at-other}
use Rattle.nl_store_records.specs.Records.{record_at, fields_at}
use Rattle.nl_store_records.proofs.Filing.{filed-other}
use Rattle.nl_index.specs.Index.{home_by}
use Rattle.nl_index.proofs.Moves.{home-here}
use Rattle.nl_index.proofs.Filings.{removed-one, fields-kept}
use Rattle.nl_links.specs.Ends.{by_first, by_second, HasEnds}
use Rattle.nl_links.proofs.Holding.{filed-borders, first-held, is-link, second-held}
use Rattle.nl_links.proofs.Joins.{fit-holds}
use Rattle.nl_links.proofs.ends.Ends.remove.Goals as goal

pub ends_at-ends-requires-clause-link : goal.ends_at-ends-requires-clause-link
ends_at-ends-requires-clause-link c = let o = c.requires.joined in is-link c.args.self.now _ (o.ended.fit c.args.key o.here)

pub unlink-requires-clause-turtle : goal.unlink-requires-clause-turtle
unlink-requires-clause-turtle c = let o = c.requires.joined in first-held c.args.self.now _ _ (o.ended.fit c.args.key o.here) c.ends_at-ends.ensures.first

pub unlink-requires-clause-listed : goal.unlink-requires-clause-listed
unlink-requires-clause-listed c =
    let o = c.requires.joined in
    let at0 = record_at c.args.records.now in
    record {
      home = home_by by_first o.filed at0;
      lists = o.lists.first;
      filed = o.ended.first;
      here = home-here by_first o.filed at0 c.args.key o.here ∙ c.ends_at-ends.ensures.first;
    }

pub unlink-requires-2-clause-turtle : goal.unlink-requires-2-clause-turtle
unlink-requires-2-clause-turtle c =
    let o = c.requires.joined in
    c.unlink.ensures.beside.held c.ends_at-ends.result.second ∙ second-held c.args.self.now _ _ (o.ended.fit c.args.key o.here) c.ends_at-ends.ensures.second

pub unlink-requires-2-clause-listed : goal.unlink-requires-2-clause-listed
unlink-requires-2-clause-listed c =
    let o = c.requires.joined in
    let at0 = record_at c.args.records.now in
    record {
      home = home_by by_second o.filed at0;
      lists = o.lists.second;
      filed = filed-borders 4 _ _ _ _ _ c.unlink.ensures.beside.beside (filed-other 3 4 _ _ _ _ _ (omega arith) (omega arith) (λ e. absurd (omega arith)) c.unlink.ensures.others o.ended.second);
      here = home-here by_second o.filed at0 c.args.key o.here ∙ c.ends_at-ends.ensures.second;
    }

pub returns-clause-parted : goal.returns-clause-parted
returns-clause-parted c filed lists f x here is_f =
    let at0 = record_at c.args.records.now in
    let at2 = record_at c.unlink-2.new.records in
    let key = c.args.key in
    let ends = c.ends_at-ends in
    let o1 = c.unlink.ensures.others in
    let o2 = c.unlink-2.ensures.others in
    let kept : (k : ℕ) → fields_at at2 k ≡ fields_at at0 k = λ k. fields-kept 4 _ _ o2 k ∙ fields-kept 3 _ _ o1 k in
    let one = filed-borders 3 _ _ _ _ _ c.unlink-2.ensures.beside.beside (filed-other 4 3 _ _ _ _ _ (omega arith) (omega arith) (λ e. absurd (omega arith)) o2
    (c.unlink.ensures.filed _ _ x.first (home-here by_first filed at0 key here ∙ ends.ensures.first))) in
    let two = c.unlink-2.ensures.filed _ _
    (filed-borders 4 _ _ _ _ _ c.unlink.ensures.beside.beside (filed-other 3 4 _ _ _ _ _ (omega arith) (omega arith) (λ e. absurd (omega arith)) o1 x.second)) (home-here by_second filed at0 key here ∙ ends.ensures.second) in
    let was : (k : ℕ) → at_number filed key false k ≡ true → filed k ≡ true = λ k h. elim (cases_eq k key) [
      | inl e ↦ (let z = at-here filed key false in let y = subst (λ i. at_number filed key false i ≡ true) e h in absurd (cc))
      | inr ne ↦ sym (at-other filed key false k ne) ∙ h
    ] in
    record {
      first = removed-one 3 by_first _ filed at0 at2 lists.first key (Some ends.result.first) f kept is_f ends.ensures.first one;
      second = removed-one 4 by_second _ filed at0 at2 lists.second key (Some ends.result.second) f kept is_f ends.ensures.second two;
      fit = λ k h. fit-holds c.args.self.now c.unlink-2.new.ends (fields_at at2 k) (λ t. c.unlink-2.ensures.beside.held t ∙ c.unlink.ensures.beside.held t) (subst (λ o. IsSomeAnd o (HasEnds c.args.self.now)) (sym (kept k)) (x.fit k (was k h)));
    }

pub returns-clause-turtles : goal.returns-clause-turtles
returns-clause-turtles c t = c.unlink-2.ensures.beside.held t ∙ c.unlink.ensures.beside.held t
