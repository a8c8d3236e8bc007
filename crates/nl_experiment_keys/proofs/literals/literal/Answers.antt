use Rattle.std.proofs.Common.{All, sym, subst}
use Rattle.std.proofs.lemmas.Option.{slice_get-get_or}
use Rattle.nl_scan.specs.Tokens.{IsTokenOf}
use Rattle.nl_experiment_keys.proofs.literals.literal.Goals as goal

pub read-requires : goal.read-requires
read-requires c =
    subst (All (IsTokenOf c.args.text.now)) (sym c.as_slice.ensures)
    (λ k d below. (c.in-Ok.tokens, k, c.in-Ok.ensures.tokens, slice_get-get_or c.in-Ok.tokens k d below))
