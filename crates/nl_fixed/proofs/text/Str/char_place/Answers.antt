use Rattle.std.proofs.Common.{◌≡◌, ◌<◌, ◌+◌, length, sym, ap, ◌∙◌, arith}
use Rattle.std.proofs.lemmas.Bool.Decides.{nat_tests}
use Rattle.std.specs.Option.{option_map}
use Rattle.nl_fixed.specs.Characters.{character_place}
use Rattle.nl_fixed.proofs.CharacterLemmas.{character_place-zero, place_given, no_place_given}
use Rattle.nl_fixed.proofs.text.Str.char_place.Goals as goal

pub returns-then-index-eq0 : goal.returns-then-index-eq0
returns-then-index-eq0 c = sym (ap (λ n. character_place c.args.self.now n) c.if-index-eq0.true ∙ character_place-zero c.args.self.now)

pub returns-then-is_empty : goal.returns-then-is_empty
returns-then-is_empty c =
    let none : length c.as_bytes-bytes.result.now ≡ 0 = grind (arith, nat_tests) in
    no_place_given _ _ _ c.as_bytes-bytes.ensures none (omega arith)

pub returns-in-Some : goal.returns-in-Some
returns-in-Some c =
    let some : 0 < length c.as_bytes-bytes.result.now = grind (arith, nat_tests) in
    sym (ap (λ o. option_map (λ k. 1 + k) o) c.in-Some.is) ∙ place_given _ _ _ _ c.as_bytes-bytes.ensures some (omega arith) c.beginning_place.ensures.value

pub returns-in-None : goal.returns-in-None
returns-in-None c =
    let some : 0 < length c.as_bytes-bytes.result.now = grind (arith, nat_tests) in
    sym (ap (λ o. option_map (λ k. 1 + k) o) c.in-None.is) ∙ place_given _ _ _ _ c.as_bytes-bytes.ensures some (omega arith) c.beginning_place.ensures.value
