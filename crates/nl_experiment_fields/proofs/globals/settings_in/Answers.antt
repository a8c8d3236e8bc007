use Rattle.std.proofs.Common.{◌≡◌, [], ◌∷◌, ◌++◌, ap, sym, ◌∙◌, string_bytes}
use Rattle.std.proofs.lemmas.Map.Iter.{rest_more}
use Rattle.std.specs.Map.Iter.{deref_pair}
use Rattle.toml.specs.View.{table_view}
use Rattle.nl_experiment_sweep.specs.Varied.{plain_setting}
use Rattle.nl_experiment_fields.specs.Entries.{settings_in}
use Rattle.nl_experiment_fields.specs.Names.{lowered}
use Rattle.nl_experiment_fields.proofs.Gathering.{setting_more}
use Rattle.nl_experiment_fields.proofs.globals.settings_in.Goals as goal

pub keys-preserved : goal.keys-preserved
keys-preserved c =
    let first = rest_more deref_pair c.keys.key-iterator c.next.new.self c.next.result (c.in-Some.key, c.in-Some.value) c.in-Some.is c.next.ensures.steps in
    let named : c.as_str-in-keys.result.now ≡ lowered (string_bytes c.in-Some.key.now) =
    c.as_str-in-keys.ensures.value ∙ c.in_ok-name.ensures ∙ ap lowered c.as_str.ensures.value in
    let learned : c.push-in-keys.new.self ≡ c.keys.known ++ c.as_str-in-keys.result.now ∷ [] =
    c.in_ok-push-2.ensures ∙ ap (λ n. c.keys.known ++ n ∷ []) (c.in_ok-name-2.ensures.ok ∙ c.as_bytes.ensures.value ∙ sym c.as_str-in-keys.ensures.value) in
    setting_more c.keys.known c.push-in-keys.new.self c.keys.settings c.push.new.self c.keys.key-iterator c.next.new.self c.in-Some.key.now c.in-Some.value.now
    c.as_str-in-keys.result.now (plain_setting c.in_ok-setting.setting) (settings_in [] (table_view c.args.table.now))
    first named c.in_ok-setting.ensures c.in_ok-push.ensures.ok learned c.keys.invariant
