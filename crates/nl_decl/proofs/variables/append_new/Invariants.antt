use Rattle.std.proofs.Common.{◌≡◌, ◌++◌, drop}
use Rattle.nl_decl.specs.inner.Index.{beyond}
use Rattle.nl_decl.proofs.variables.append_new.Given as goal

-- the new names so far stand there, and the rest follows
abbrev pub invariant-more : goal.invariant-more
invariant-more l = l.names ++ beyond l.seen (drop l.name-index l.more) ≡ l.fn.names ++ beyond l.seen l.more
