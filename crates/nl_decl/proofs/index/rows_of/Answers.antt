use Rattle.std.proofs.Common.{length, arith, ap}
use Rattle.nl_decl.proofs.Joining.{global_names-le, owned_names-le}
use Rattle.nl_decl.proofs.index.rows_of.Goals as goal

pub add_globals-requires : goal.add_globals-requires
add_globals-requires c = let e = ap length c.as_slice.ensures in let f = ap length c.in_ok-globals.ensures in omega (arith, e, f, global_names-le c.args.declared.now, c.requires)

pub add_owned-requires : goal.add_owned-requires
add_owned-requires c = let e = ap length c.as_slice-2.ensures in let f = ap length c.in_ok-names.ensures in omega (arith, e, f, owned_names-le c.args.declared.now, c.requires)
