use Rattle.std.proofs.Common.{◌≡◌, ◌||◌, ◌∙◌, ap, List, ℕ, bytes_eq, arith}
use Rattle.std.proofs.lemmas.Grind.{common_steps}
use Rattle.nl_decl.specs.inner.Index.{has}
use Rattle.nl_decl.proofs.Sets.{inserted}
use Rattle.nl_decl.proofs.name_set.NameSet.add.Goals as goal

pub returns : goal.returns
returns c = λ q.
    let copied : c.in_ok-name.name.items ≡ c.args.name.now = grind (arith, common_steps) in
    inserted (λ key. key.items) c.in_ok-name.name c.args.self.now.names.keys c.insert.new.self.keys c.in_ok-insert.field-0 c.in_ok-insert.ensures.added c.in_ok-insert.ensures.keys q
    ∙ ap (λ (bs : List ℕ). bytes_eq bs q || has c.args.self.now q) copied
