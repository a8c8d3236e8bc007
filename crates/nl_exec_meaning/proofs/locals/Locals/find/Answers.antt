-- The number of a local is that of the local as it is kept.
use Rattle.std.proofs.Common.{◌==◌, ap, ◌∙◌}
use Rattle.nl_exec_meaning.specs.Variables.{last_index}
use Rattle.nl_exec_meaning.specs.Kept.{Kept}
use Rattle.nl_exec_meaning.specs.declared.locals.Local.{Local}
use Rattle.nl_exec_meaning.proofs.Newest.{last_index_map}
use Rattle.nl_exec_meaning.specs.inner.Seen.{kept}
use Rattle.nl_exec_meaning.proofs.locals.Locals.find.Goals as goal

pub returns : goal.returns
returns c =
    c.newest.ensures
    ∙ ap (last_index (λ (l : Local). l.id == c.args.id)) c.deref.ensures.value
    ∙ last_index_map kept (λ (k : Kept). k.id == c.args.id) c.self.inside.list.items
    ∙ ap (last_index (λ (k : Kept). k.id == c.args.id)) c.self.view_is
