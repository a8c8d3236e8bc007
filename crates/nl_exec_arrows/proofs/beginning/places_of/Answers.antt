-- All are lists of one length, or not.
use Rattle.std.proofs.Common.{◌≡◌, ◌==◌, ℕ, Bool, true, false, List, length, ap, ◌∙◌, sym}
use Rattle.std.specs.List.{list_all}
use Rattle.nl_value.specs.Plain.{Plain}
use Rattle.nl_exec_meaning.specs.Arrows.{are_as_long}
use Rattle.nl_exec_meaning.specs.Rounds.{lists_of}
use Rattle.nl_exec_arrows.specs.Lists.{is_list}
use Rattle.nl_exec_arrows.proofs.Ones.{all_lists, one_is_none}
use Rattle.nl_exec_arrows.proofs.beginning.places_of.Goals as goal

abbrev have : ℕ → List Plain → Bool
have many values = list_all (λ xs. length xs == many) (lists_of values)

pub returns-then-not-all_are_lists-clause-meaning : goal.returns-then-not-all_are_lists-clause-meaning
returns-then-not-all_are_lists-clause-meaning c = λ place s next.
    one_is_none c.args.lists.now place s next (sym (ap (list_all is_list) c.as_slice.ensures) ∙ sym c.all_are_lists.ensures ∙ c.if-not-all_are_lists.true)

pub returns-then-all_have_length-clause-meaning : goal.returns-then-all_have_length-clause-meaning
returns-then-all_have_length-clause-meaning c = λ place s next.
    all_lists c.args.lists.now place s next (sym (ap (list_all is_list) c.as_slice.ensures) ∙ sym c.all_are_lists.ensures ∙ c.if-not-all_are_lists.false) true
    (ap (λ (n : ℕ). have n c.args.lists.now) (sym c.first_length-many.ensures) ∙ sym (ap (have c.first_length-many.result) c.as_slice-2.ensures) ∙ sym c.all_have_length.ensures ∙ c.if-all_have_length.true)

pub returns-else-all_have_length-clause-meaning : goal.returns-else-all_have_length-clause-meaning
returns-else-all_have_length-clause-meaning c = λ place s next.
    all_lists c.args.lists.now place s next (sym (ap (list_all is_list) c.as_slice.ensures) ∙ sym c.all_are_lists.ensures ∙ c.if-not-all_are_lists.false) false
    (ap (λ (n : ℕ). have n c.args.lists.now) (sym c.first_length-many.ensures) ∙ sym (ap (have c.first_length-many.result) c.as_slice-2.ensures) ∙ sym c.all_have_length.ensures ∙ c.if-all_have_length.false)
