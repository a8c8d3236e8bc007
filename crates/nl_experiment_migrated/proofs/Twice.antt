-- What is in format 2 is its own text in format 2, and the only one.
use Rattle.std.proofs.Common.{◌≡◌, Bool, true, false, Ok, sym, subst, ap, refl, ◌∙◌}
use Rattle.std.specs.Prelude.{if◌then◌else◌}
use Rattle.toml.specs.Data.{Members, get_member}
use Rattle.toml.specs.Text.{IsDocumentText}
use Rattle.nl_experiment_fields.specs.Keys.{format_key}
use Rattle.nl_experiment_migrated.specs.Laws.{TextsAreOne, TextsStay}
use Rattle.nl_experiment_migrated.specs.Migrated.{IsTextOf, from_first, is_second, migrated}
use Rattle.nl_experiment_migrated.proofs.OneText.{one_text}
use Rattle.nl_experiment_migrated.proofs.Saying.{format_there, text_held}

twice_by : (b : Bool) (ms : Members) → is_second (get_member format_key.name ms) ≡ b → migrated (if b then ms else from_first ms) ≡ (if b then ms else from_first ms)
twice_by true ms is = ap (λ b. if b then ms else from_first ms) is
twice_by false ms is = ap (λ o. if is_second o then from_first ms else from_first (from_first ms)) (format_there ms)

twice : (ms : Members) → migrated (migrated ms) ≡ migrated ms
twice ms = twice_by (is_second (get_member format_key.name ms)) ms refl

pub texts_stay : TextsStay
texts_stay file text f said wrote short = record {
  members = migrated wrote.members;
  held = text_held text (migrated wrote.members) wrote.wrote.reads short;
  wrote = subst (λ ms. IsTextOf ms text) (sym (twice wrote.members)) wrote.wrote;
}

pub texts_are_one : TextsAreOne
texts_are_one file x y f said a b =
    let both : Ok b.members ≡ Ok a.members = sym b.held ∙ a.held in
    let same : b.members ≡ a.members = cc in
    one_text (migrated a.members) x y a.wrote.plain.plain a.wrote.written (subst (λ ms. IsDocumentText false (migrated ms) y) same b.wrote.written)
