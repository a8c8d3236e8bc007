use Rattle.std.proofs.Common.{◌≡◌, ◌==◌, drop}
use Rattle.std.specs.List.{list_any}
use Rattle.nl_experiment_fields.proofs.names.is_sign.Given as goal

-- no sign so far is the byte
abbrev pub invariant-signs : goal.invariant-signs
invariant-signs l = list_any (λ sign. sign == l.byte) (drop l.sign-index l.signs) ≡ list_any (λ sign. sign == l.byte) l.signs
