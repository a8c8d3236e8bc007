use Rattle.std.proofs.lemmas.List.Sorted.{IsPermutation-map}
use Rattle.nl_tree.specs.Index.{term_of}
use Rattle.nl_tree.proofs.index.NamedWords.new.Goals as goal

pub returns : goal.returns
returns c = IsPermutation-map term_of c.args.words.items _ c.sorted.ensures.moved
