use Rattle.std.proofs.Common.{◌≡◌, ◌<◌, length, arith}
use Rattle.std.proofs.lemmas.Bool.Decides.{nat_tests}
use Rattle.nl_fixed.proofs.CharacterLemmas.{count_given, no_count_given}
use Rattle.nl_fixed.proofs.text.Str.char_count.Goals as goal

pub returns-then-is_empty : goal.returns-then-is_empty
returns-then-is_empty c =
    let none : length c.as_bytes-bytes.result.now ≡ 0 = grind (arith, nat_tests) in
    no_count_given _ _ c.as_bytes-bytes.ensures none

pub returns : goal.returns
returns c =
    let some : 0 < length c.as_bytes-bytes.result.now = grind (arith, nat_tests) in
    count_given _ _ _ c.as_bytes-bytes.ensures some c.beginning_count.ensures
