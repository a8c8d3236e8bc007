use Rattle.std.proofs.Common.{arith, length, refl}
use Rattle.std.proofs.lemmas.Option.{slice_get_past, slice_get_read}
use Rattle.nl_scan.proofs.Order.{tokens_of-is_text}
use Rattle.nl_scan.proofs.source.Source.start_of.Goals as goal

pub overflow_cast-result : goal.overflow_cast-result
overflow_cast-result c =
    let short = (tokens_of-is_text c.args.self.now.text.now c.args.self.now.tokens.now c.args.self.now.scanned).0 in omega arith

pub returns-in-Some : goal.returns-in-Some
returns-in-Some c =
    let there = slice_get_read c.args.self.now.tokens.now (length c.args.self.now.tokens.now) c.args.index c.in-Some.token.now refl c.in-Some.ensures.lookup.3.0 c.in-Some.ensures.lookup.1 in
    rw there refl

pub returns-in-None : goal.returns-in-None
returns-in-None c =
    let past = slice_get_past c.args.self.now.tokens.now c.args.index c.in-None.ensures.lookup.3 in rw past refl
