use Rattle.std.proofs.Common.{◌≡◌, ◌≤◌, Some, take}
use Rattle.nl_decl_outline.specs.inner.Reading.{run}
use Rattle.nl_decl_outline.specs.inner.Steps.{IsKept, counted}
use Rattle.nl_parse_grammar.specs.Texts.{lexemes_of}
use Rattle.nl_decl_outline.proofs.reading.outline.Given as goal

abbrev pub invariant-loop-index : goal.invariant-loop-index
invariant-loop-index l = record {
  kept : IsKept l.reader;
  counts : counted l.mode ≤ l.index;
  taken : run (take l.index (lexemes_of l.text l.tokens)) ≡ Some (record { mode = l.mode; done = l.reader.done.items });
}
