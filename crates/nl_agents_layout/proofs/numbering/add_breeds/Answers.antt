use Rattle.std.proofs.Common.{ap, ◌∙◌, arith}
use Rattle.nl_agents_layout.proofs.Collected.{bred_one, bred_none}
use Rattle.nl_agents_layout.proofs.numbering.add_breeds.Goals as goal
use Rattle.nl_agents_layout.proofs.numbering.add_breeds.Goals.{then-breed-link+in_ok-add_named, else-breed-link}

pub loop-breed-preserved : goal.loop-breed-preserved
loop-breed-preserved c =
    let d = c.args.program.now.declared in
    elim c.if-breed-link.branch [
      | then-breed-link+in_ok-add_named w ↦
          bred_one d c.args.link c.args.list.now.items c.loop-breed.list.items c.as_slice-breeds.result.now c.loop-breed.breed-index c.breed-item.result
          (omega arith) c.breed-item.is c.loop-breed.invariant c.if-breed-link.list.items w.if-breed-link.true
          (ap (λ v. v.items) w.list-is ∙ w.in_ok-add_named.ensures)
      | else-breed-link w ↦
          bred_none d c.args.link c.args.list.now.items c.loop-breed.list.items c.as_slice-breeds.result.now c.loop-breed.breed-index c.breed-item.result
          (omega arith) c.breed-item.is c.loop-breed.invariant c.if-breed-link.list.items w.if-breed-link.false
          (ap (λ v. v.items) w.list-is)
    ]
