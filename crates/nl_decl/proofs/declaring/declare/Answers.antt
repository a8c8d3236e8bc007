use Rattle.std.proofs.Common.{◌≡◌, None, map, sym, ap, subst, ◌∙◌}
use Rattle.nl_scan.proofs.Order.{tokens_of-in_order}
use Rattle.nl_parse_grammar.proofs.Meant.{tokens_are_plain}
use Rattle.nl_parse_grammar.specs.Texts.{lexemes_of}
use Rattle.nl_decl_outline.proofs.NamesOf.{lexemes_plain}
use Rattle.nl_decl.specs.Claims.{first_clash, widget_claim, claims, duplicate_in}
use Rattle.nl_decl.specs.Gathered.{Gathers, procedures_in}
use Rattle.nl_decl.proofs.Accepted.{declared_fits}
use Rattle.nl_decl.proofs.BodyOrder.{procedures_in_order}
use Rattle.nl_decl.proofs.Within.{few_tokens, few_declared}
use Rattle.nl_decl.proofs.declaring.declare.Goals as goal

pub outline-requires : goal.outline-requires
outline-requires c = tokens_of-in_order c.args.source.now.text.now c.args.source.now.tokens.now c.args.source.now.scanned

pub claims_of-requires : goal.claims_of-requires
claims_of-requires c =
    rw c.as_slice.ensures.value
    (few_declared c.args.source.now.text.now c.args.source.now.tokens.now c.in_ok-declarations.declarations.items c.args.source.now.scanned c.in_ok-declarations.ensures.ok)

pub gather-requires-clause-within : goal.gather-requires-clause-within
gather-requires-clause-within c =
    rw c.as_slice-3.ensures.value
    (few_declared c.args.source.now.text.now c.args.source.now.tokens.now c.in_ok-declarations.declarations.items c.args.source.now.scanned c.in_ok-declarations.ensures.ok)

pub gather-requires-clause-few : goal.gather-requires-clause-few
gather-requires-clause-few c d gathers =
    let text = c.args.source.now.text.now in
    let tokens = c.args.source.now.tokens.now in
    let ds = c.in_ok-declarations.declarations.items in
    let none : duplicate_in c.args.widgets ds ≡ None = ap (first_clash (map widget_claim c.args.widgets)) (sym (c.as_slice-2.ensures.value ∙ c.in_ok-claims.ensures ∙ ap claims c.as_slice.ensures.value)) ∙ sym c.in_ok-place.ensures ∙ c.in_default.is in
    let plain = lexemes_plain text tokens (tokens_are_plain text tokens c.args.source.now.scanned) in
    (declared_fits (lexemes_of text tokens) ds c.args.widgets d c.in_ok-declarations.ensures.ok plain (few_tokens text tokens c.args.source.now.scanned) c.requires
    (subst (λ x. Gathers c.args.widgets x d) c.as_slice-3.ensures.value gathers) none).1

pub returns-clause-accepted : goal.returns-clause-accepted
returns-clause-accepted c =
    let text = c.args.source.now.text.now in
    let tokens = c.args.source.now.tokens.now in
    let d = c.in_ok-declared.declared in
    let ds = c.in_ok-declarations.declarations.items in
    let none : duplicate_in c.args.widgets ds ≡ None = ap (first_clash (map widget_claim c.args.widgets)) (sym (c.as_slice-2.ensures.value ∙ c.in_ok-claims.ensures ∙ ap claims c.as_slice.ensures.value)) ∙ sym c.in_ok-place.ensures ∙ c.in_default.is in
    let plain = lexemes_plain text tokens (tokens_are_plain text tokens c.args.source.now.scanned) in
    let fits = declared_fits (lexemes_of text tokens) ds c.args.widgets d c.in_ok-declarations.ensures.ok plain (few_tokens text tokens c.args.source.now.scanned) c.requires
    (subst (λ x. Gathers c.args.widgets x d) c.as_slice-3.ensures.value c.in_ok-declared.ensures.gathered) none in
    (fits.0, fits.1, c.in_ok-declared.ensures.indexed)

pub returns-clause-bodies : goal.returns-clause-bodies
returns-clause-bodies c =
    let order = procedures_in_order (lexemes_of c.args.source.now.text.now c.args.source.now.tokens.now) c.in_ok-declarations.declarations.items c.in_ok-declarations.ensures.ok in
    rw (c.in_ok-declared.ensures.gathered.6 ∙ ap procedures_in c.as_slice-3.ensures.value) order
