use Rattle.std.proofs.Common.{arith}
use Rattle.nl_scan.proofs.Cutting.{behind_first, first_within, quoted_first, rest_from, word_first}
use Rattle.nl_scan.proofs.pieces.first_piece.Goals as goal

pub returns-in-Some-Comment-clause-within : goal.returns-in-Some-Comment-clause-within
returns-in-Some-Comment-clause-within c =
    let size = behind_first c.args.text.now c.requires in (omega arith, omega (arith, c.line_len.ensures.within))

pub returns-in-Some-Word-clause-is : goal.returns-in-Some-Word-clause-is
returns-in-Some-Word-clause-is c = word_first c.args.text.now c.word.result c.requires (cc) c.word.ensures

pub returns-in-Some-Word-clause-within : goal.returns-in-Some-Word-clause-within
returns-in-Some-Word-clause-within c =
    rw (word_first c.args.text.now c.word.result c.requires (cc) c.word.ensures) (first_within c.args.text.now c.requires)

pub returns-in-Some-Quoted-clause-within : goal.returns-in-Some-Quoted-clause-within
returns-in-Some-Quoted-clause-within c =
    rw (quoted_first c.args.text.now _ c.quoted.result c.requires (cc) (rest_from c.args.text.now 1) c.quoted.ensures) (first_within c.args.text.now c.requires)
