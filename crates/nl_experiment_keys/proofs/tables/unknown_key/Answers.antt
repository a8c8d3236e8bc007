use Rattle.std.proofs.Common.{List, String, Global, Some, ◌≡◌, sym, ap, ◌∙◌, subst, string_bytes, true, false, map, ℕ}
use Rattle.std.proofs.lemmas.Map.Iter.{rest_more}
use Rattle.std.specs.Map.Iter.{deref}
use Rattle.toml.specs.View.{table_view}
use Rattle.nl_experiment_keys.specs.Reading.{keys_in, least_unknown, is_among}
use Rattle.nl_experiment_keys.proofs.Keys.{Left, left_first, left_known, left_unknown}
use Rattle.nl_experiment_keys.proofs.tables.unknown_key.Goals as goal

pub keys-init : goal.keys-init
keys-init c =
    let known : List (List ℕ) = map (λ name. name.now) c.args.known.now in
    let P : List (String Global) → Type 0 = λ keys. Left known keys (least_unknown known (keys_in (table_view c.args.table.now))) in
    (tt, tt, subst P (sym (c.into_iter-key-iterator.ensures.into_iter_gives ∙ c.keys-key-items.ensures.rest)) (left_first known c.args.table.now.entries c.keys-key-items.ensures.ordered))

pub returns-then-not-is_among : goal.returns-then-not-is_among
returns-then-not-is_among c =
    let known : List (List ℕ) = map (λ name. name.now) c.args.known.now in
    let P : List (String Global) → Type 0 = λ keys. Left known keys (least_unknown known (keys_in (table_view c.args.table.now))) in
    let left = subst P (rest_more deref c.keys.key-iterator c.next.new.self c.next.result c.in-Some.key c.in-Some.is c.next.ensures.steps) c.keys.invariant.2 in
    let unknown : is_among (string_bytes c.in-Some.key.now) known ≡ false = ap (λ key. is_among key known) (sym c.as_str.ensures.value) ∙ sym c.is_among.ensures ∙ c.if-not-is_among.true in
    ap Some c.as_str-then-not-is_among.ensures.value ∙ left_unknown known c.in-Some.key.now c.next.new.self _ unknown left

pub keys-preserved : goal.keys-preserved
keys-preserved c =
    let known : List (List ℕ) = map (λ name. name.now) c.args.known.now in
    let P : List (String Global) → Type 0 = λ keys. Left known keys (least_unknown known (keys_in (table_view c.args.table.now))) in
    let left = subst P (rest_more deref c.keys.key-iterator c.next.new.self c.next.result c.in-Some.key c.in-Some.is c.next.ensures.steps) c.keys.invariant.2 in
    let known' : is_among (string_bytes c.in-Some.key.now) known ≡ true = ap (λ key. is_among key known) (sym c.as_str.ensures.value) ∙ sym c.is_among.ensures ∙ c.if-not-is_among.false in
    (tt, tt, left_known known c.in-Some.key.now c.next.new.self _ known' left)
