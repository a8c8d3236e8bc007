use Rattle.nl_birth.specs.Links.{is_of_other_kind}
use Rattle.nl_birth.proofs.Partners.{any_counted}
use Rattle.nl_birth.proofs.linking.other_kind_lives.Goals as goal

pub returns : goal.returns
returns g c =
    rw c.unbreeded_count.ensures (any_counted (is_of_other_kind c.args.directed) (g.S.Store.world c.args.store.now).rest.links)
