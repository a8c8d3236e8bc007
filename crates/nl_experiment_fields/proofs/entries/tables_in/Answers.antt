use Rattle.std.proofs.Common.{◌≡◌, Some, Ok, true, false, ap, sym, ◌∙◌, subst, option_map}
use Rattle.toml.specs.Data.{as_array}
use Rattle.toml.specs.View.{array_view, items_view, view}
use Rattle.nl_experiment_keys.specs.Reading.{has_float}
use Rattle.nl_experiment_fields.specs.Entries.{tables_in}
use Rattle.nl_experiment_fields.specs.inner.Tables.{are_tables, tables_of}
use Rattle.nl_experiment_fields.proofs.Tables.{tables_bad, tables_good}
use Rattle.nl_experiment_fields.proofs.entries.tables_in.Goals as goal

pub returns-then-not-are_tables-clause-tables : goal.returns-then-not-are_tables-clause-tables
returns-then-not-are_tables-clause-tables c =
    let items : Some (array_view c.in-Some.items.now) ≡ as_array (view c.args.value.now) =
    ap (option_map (λ v. array_view v.now)) (sym c.in-Some.is) ∙ c.as_array.ensures in
    let none : has_float (array_view c.in-Some.items.now) ≡ false =
    ap (λ vs. has_float (items_view vs)) (sym c.as_slice.ensures.value) ∙ sym c.has_float.ensures ∙ c.if-has_float.false in
    let other : are_tables (array_view c.in-Some.items.now) ≡ false =
    ap (λ vs. are_tables (items_view vs)) (sym c.as_slice-2.ensures.value) ∙ sym c.are_tables.ensures ∙ c.if-not-are_tables.true in
    tables_bad (view c.args.value.now) (array_view c.in-Some.items.now) items none other

pub returns-clause-tables : goal.returns-clause-tables
returns-clause-tables c =
    let items : Some (array_view c.in-Some.items.now) ≡ as_array (view c.args.value.now) =
    ap (option_map (λ v. array_view v.now)) (sym c.in-Some.is) ∙ c.as_array.ensures in
    let none : has_float (array_view c.in-Some.items.now) ≡ false =
    ap (λ vs. has_float (items_view vs)) (sym c.as_slice.ensures.value) ∙ sym c.has_float.ensures ∙ c.if-has_float.false in
    let all : are_tables (array_view c.in-Some.items.now) ≡ true =
    ap (λ vs. are_tables (items_view vs)) (sym c.as_slice-2.ensures.value) ∙ sym c.are_tables.ensures ∙ c.if-not-are_tables.false in
    subst (λ vs. tables_in (view c.args.value.now) ≡ Ok (tables_of (items_view vs))) (sym c.as_slice-3.ensures.value)
    (tables_good (view c.args.value.now) (array_view c.in-Some.items.now) items none all)
