use Rattle.std.proofs.Common.{◌≡◌, ◌++◌, map, drop}
use Rattle.nl_decl.specs.inner.Claiming.{made_from}
use Rattle.nl_decl.specs.Made.{pattern_of}
use Rattle.nl_decl.proofs.claims.claim_made.Given as goal

-- the words so far are claimed, and the rest follows
abbrev pub invariant-words : goal.invariant-words
invariant-words l =
    l.list.items ++ made_from l.place l.plural l.singular (map pattern_of (drop l.word-index l.words)) ≡ l.fn.list.items ++ made_from l.place l.plural l.singular (map pattern_of l.words)
