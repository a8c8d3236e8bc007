use Rattle.std.proofs.Common.{◌≡◌, ◌∙◌, ℕ, true, Some, sym, ap, subst, inl, inr, arith, IsSomeAnd}
use Rattle.std.proofs.lemmas.Bool.{cases_eq}
use Rattle.nl_store_lists.proofs.Places.{at-other}
use Rattle.nl_store_records.specs.Records.{record_at, fields_at}
use Rattle.nl_store_records.proofs.Filing.{filed-other, held-kept}
use Rattle.nl_index.specs.Index.{home_by}
use Rattle.nl_index.proofs.Moves.{home-away}
use Rattle.nl_index.proofs.Filings.{added-one, fields-kept}
use Rattle.nl_links.specs.Ends.{by_first, by_second, HasEnds}
use Rattle.nl_links.proofs.Holding.{filed-borders, first-held, is-link, second-held}
use Rattle.nl_links.proofs.Joins.{fit-holds}
use Rattle.nl_links.proofs.ends.Ends.add.Goals as goal

pub ends_at-ends-requires-clause-link : goal.ends_at-ends-requires-clause-link
ends_at-ends-requires-clause-link c = is-link c.args.self.now _ c.requires.ends

pub link_last-requires-clause-turtle : goal.link_last-requires-clause-turtle
link_last-requires-clause-turtle c = first-held c.args.self.now _ _ c.requires.ends c.ends_at-ends.ensures.first

pub link_last-requires-clause-away : goal.link_last-requires-clause-away
link_last-requires-clause-away c =
    let o = c.requires.away in
    record {
      home = home_by by_first o.filed (record_at c.args.records.now);
      lists = o.lists.first;
      filed = o.ended.first;
      here = home-away by_first o.filed (record_at c.args.records.now) c.args.key o.away;
    }

pub link_last-requires-2-clause-turtle : goal.link_last-requires-2-clause-turtle
link_last-requires-2-clause-turtle c = c.link_last.ensures.beside.held c.ends_at-ends.result.second ∙ second-held c.args.self.now _ _ c.requires.ends c.ends_at-ends.ensures.second

pub link_last-requires-2-clause-held : goal.link_last-requires-2-clause-held
link_last-requires-2-clause-held c = held-kept 3 _ _ c.args.key c.link_last.ensures.others c.requires.held

pub link_last-requires-2-clause-away : goal.link_last-requires-2-clause-away
link_last-requires-2-clause-away c =
    let o = c.requires.away in
    record {
      home = home_by by_second o.filed (record_at c.args.records.now);
      lists = o.lists.second;
      filed = filed-borders 4 _ _ _ _ _ c.link_last.ensures.beside.beside (filed-other 3 4 _ _ _ _ _ (omega arith) (omega arith) (λ e. absurd (omega arith)) c.link_last.ensures.others o.ended.second);
      here = home-away by_second o.filed (record_at c.args.records.now) c.args.key o.away;
    }

pub returns-clause-joined : goal.returns-clause-joined
returns-clause-joined c filed lists f x away is_f =
    let at0 = record_at c.args.records.now in
    let at2 = record_at c.link_last-2.new.records in
    let key = c.args.key in
    let ends = c.ends_at-ends in
    let o1 = c.link_last.ensures.others in
    let o2 = c.link_last-2.ensures.others in
    let kept : (k : ℕ) → fields_at at2 k ≡ fields_at at0 k = λ k. fields-kept 4 _ _ o2 k ∙ fields-kept 3 _ _ o1 k in
    let one = filed-borders 3 _ _ _ _ _ c.link_last-2.ensures.beside.beside (filed-other 4 3 _ _ _ _ _ (omega arith) (omega arith) (λ e. absurd (omega arith)) o2
    (c.link_last.ensures.filed _ _ x.first (home-away by_first filed at0 key away))) in
    let two = c.link_last-2.ensures.filed _ _
    (filed-borders 4 _ _ _ _ _ c.link_last.ensures.beside.beside (filed-other 3 4 _ _ _ _ _ (omega arith) (omega arith) (λ e. absurd (omega arith)) o1 x.second)) (home-away by_second filed at0 key away) in
    record {
      first = added-one 3 by_first _ filed at0 at2 lists.first key (Some ends.result.first) f kept is_f ends.ensures.first one;
      second = added-one 4 by_second _ filed at0 at2 lists.second key (Some ends.result.second) f kept is_f ends.ensures.second two;
      fit = λ k h. fit-holds c.args.self.now c.link_last-2.new.ends (fields_at at2 k) (λ t. c.link_last-2.ensures.beside.held t ∙ c.link_last.ensures.beside.held t) (elim (cases_eq k key) [
        | inl e ↦ subst (λ o. IsSomeAnd o (HasEnds c.args.self.now)) (sym (kept k ∙ ap (fields_at at0) e)) c.requires.ends
        | inr ne ↦ subst (λ o. IsSomeAnd o (HasEnds c.args.self.now)) (sym (kept k)) (x.fit k (sym (at-other filed key true k ne) ∙ h))
      ]);
    }

pub returns-clause-turtles : goal.returns-clause-turtles
returns-clause-turtles c t = c.link_last-2.ensures.beside.held t ∙ c.link_last.ensures.beside.held t
