use Rattle.std.proofs.Common.{◌≡◌, ◌+◌, Some, [], ◌∷◌, ◌++◌, ap, sym, ◌∙◌, subst, option_map}
use Rattle.std.proofs.lemmas.List.Elements.{All-push}
use Rattle.toml.specs.Data.{as_table}
use Rattle.toml.specs.View.{items_view, table_view, view}
use Rattle.nl_experiment_sweep.specs.Varied.{AllHaveValues, HasValues}
use Rattle.nl_experiment_fields.specs.Entries.{entries_from}
use Rattle.nl_experiment_fields.specs.inner.Tables.{tables_of}
use Rattle.nl_experiment_fields.proofs.Gathering.{counted_more, entry_more, tables_more}
use Rattle.nl_experiment_fields.proofs.entries.entries_in.Goals as goal

pub entries-preserved : goal.entries-preserved
entries-preserved c =
    let left = c.entries.left.now in
    let rest = c.in-Some.behind.now in
    let value = c.in-Some.value.now in
    let first = c.in-Some.ensures.cases.0 in
    let inside : Some (table_view c.in-Some-as_table.table.now) ≡ as_table (view value) =
    ap (option_map (λ m. table_view m.now)) (sym c.in-Some-as_table.is) ∙ c.as_table.ensures in
    let learned : c.push.new.self ≡ c.entries.known ++ c.in_ok-vary.vary.name ∷ [] = c.in_ok-push.ensures ∙ ap (λ n. c.entries.known ++ n ∷ []) c.in_ok-copy.ensures.ok in
    record {
      tables = tables_more left rest value first c.entries.invariant.tables;
      counted = counted_more left rest value c.entries.number _ first c.entries.invariant.counted;
      read = entry_more (c.entries.number + 1) c.entries.known c.push.new.self c.entries.varies c.push-in-Some.new.self left rest value
          (table_view c.in-Some-as_table.table.now) c.in_ok-vary.vary (entries_from 1 [] (tables_of (items_view c.args.items.now)))
          first inside c.in_ok-vary.ensures.reads c.in_ok-push-2.ensures.ok learned c.entries.invariant.read;
      values = subst AllHaveValues (sym c.in_ok-push-2.ensures.ok) (All-push (λ v. HasValues v.choice) c.entries.varies c.in_ok-vary.vary c.entries.invariant.values c.in_ok-vary.ensures.values);
    }
