use Rattle.nl_decl.proofs.Joining.{joins}
use Rattle.nl_decl.proofs.variables.Variables.join.Goals as goal

pub returns : goal.returns
returns c = joins c.args.self.now (record { names = c.append_new.new.names; seen = c.add_all.new.self }) c.args.names.now c.in_ok-append_new.ensures c.in_ok-add_all.ensures
