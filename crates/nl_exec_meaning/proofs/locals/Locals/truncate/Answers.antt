-- The first so many of the locals, as they are kept.
use Rattle.std.proofs.Common.{List, take, map, ap, ◌∙◌, sym}
use Rattle.std.proofs.lemmas.List.{take-map}
use Rattle.nl_exec_meaning.specs.Kept.{Kept}
use Rattle.nl_exec_meaning.specs.inner.Seen.{kept}
use Rattle.nl_exec_meaning.specs.declared.locals.Local.{Local}
use Rattle.nl_exec_meaning.proofs.locals.Locals.truncate.Goals as goal

pub returns : goal.returns
returns c =
    ap (λ (ls : List Local). map kept ls) c.truncate.ensures.items
    ∙ sym (take-map kept c.args.most c.self.inside.list.items)
    ∙ ap (λ (ks : List Kept). take c.args.most ks) c.self.view_is
