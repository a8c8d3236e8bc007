-- Chains of links are filters.
use Rattle.std.proofs.Common.{◌≡◌, ℕ, Bool, true, false, Option, Some, None, cond, ◌&&◌, refl, ◌∙◌}
use Rattle.nl_store_lists.specs.Chained.{is_in}
use Rattle.nl_store_lists.proofs.Threaded.{lists_are_one}
use Rattle.nl_store_records.specs.Records.{fields_at}
use Rattle.nl_store_records.specs.declared.fields.Body.{Body}
use Rattle.nl_store_records.specs.declared.fields.Body.TheVariants.{Turtle, Link}
use Rattle.nl_store_records.specs.declared.fields.Fields.{Fields}
use Rattle.nl_store_records.specs.declared.record.Record.{Record}
use Rattle.nl_index.specs.Index.{chain_of}
use Rattle.nl_links.specs.declared.ends.Ends.{Ends}
use Rattle.nl_links.specs.Ends.{by_first, by_second, first_end, second_end, IsEnded, LinkLists}
use Rattle.nl_links.specs.Laws.{begins_at, ends_at, in_body, AreFilters, AreSame}

begins : (turtle : ℕ) (b : Body) → is_in (first_end b) turtle ≡ begins_at turtle b
begins turtle (Turtle at) = refl
begins turtle (Link directed end1 end2) = refl

finishes : (turtle : ℕ) (b : Body) → is_in (second_end b) turtle ≡ ends_at turtle b
finishes turtle (Turtle at) = refl
finishes turtle (Link directed end1 end2) = refl

by-first : (turtle : ℕ) (o : Option Fields) (b : Bool) → is_in (cond b (chain_of by_first o) None) turtle ≡ (b && in_body (begins_at turtle) o)
by-first turtle o false = refl
by-first turtle None true = refl
by-first turtle (Some f) true = begins turtle f.body

by-second : (turtle : ℕ) (o : Option Fields) (b : Bool) → is_in (cond b (chain_of by_second o) None) turtle ≡ (b && in_body (ends_at turtle) o)
by-second turtle o false = refl
by-second turtle None true = refl
by-second turtle (Some f) true = finishes turtle f.body

pub ends_are_filters : (ends : Ends) (at : ℕ → Option Record) (filed : ℕ → Bool) (lists : LinkLists) → IsEnded ends at filed lists → (turtle : ℕ) → AreFilters at filed turtle lists
ends_are_filters ends at filed lists x turtle = record {
  first = record { members = λ k. x.first.threaded.members turtle k ∙ by-first turtle (fields_at at k) (filed k); once = x.first.threaded.once turtle };
  second = record { members = λ k. x.second.threaded.members turtle k ∙ by-second turtle (fields_at at k) (filed k); once = x.second.threaded.once turtle };
}

pub lists_are_told : (ends : Ends) (at : ℕ → Option Record) (filed filed' : ℕ → Bool) (xs ys : LinkLists) → IsEnded ends at filed xs → IsEnded ends at filed' ys → AreSame xs ys
lists_are_told ends at filed filed' xs ys x y = record {
  first = lists_are_one _ _ _ _ _ xs.first ys.first x.first.threaded y.first.threaded;
  second = lists_are_one _ _ _ _ _ xs.second ys.second x.second.threaded y.second.threaded;
}
