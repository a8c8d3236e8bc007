use Rattle.std.proofs.Common.{◌≡◌, ◌+◌, drop}
use Rattle.std.specs.List.{prefix_len}
use Rattle.nl_scan.specs.Forms.{is_word_byte}
use Rattle.nl_scan.proofs.pieces.word_len.Given as goal

-- the bytes so far are those of a word
abbrev pub invariant-bytes : goal.invariant-bytes
invariant-bytes l = l.at + prefix_len is_word_byte (drop l.at l.text) ≡ prefix_len is_word_byte l.text
