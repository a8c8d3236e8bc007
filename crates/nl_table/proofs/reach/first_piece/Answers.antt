use Rattle.std.proofs.Common.{◌≡◌, ◌++◌, sym, subst, length}
use Rattle.std.specs.Prelude.{Some, None, MatchOption}
use Rattle.nl_table.specs.Pieces.{first_end}
use Rattle.nl_table.proofs.Reaching.{first_end_cut, found_end, found_no_end, parted}
use Rattle.nl_table.proofs.reach.first_piece.Goals as goal

pub split_at-requires : goal.split_at-requires
split_at-requires c = (first_end_cut c.args.bytes.now _ (found_end c.args.bytes.now _ (sym c.in_ok-end.ensures))).0

pub returns : goal.returns
returns c = (
  parted c.args.bytes.now _ _ c.in_ok-end.end c.split_at.ensures.front c.split_at.ensures.back,
  subst (λ l. first_end l ≡ Some (length l)) (sym c.split_at.ensures.front) (first_end_cut c.args.bytes.now _ (found_end c.args.bytes.now _ (sym c.in_ok-end.ensures))).1,
)

pub returns-in_err-end : goal.returns-in_err-end
returns-in_err-end c =
    subst (λ o. MatchOption o (first_end c.args.bytes.now ≡ None) (λ parts. (c.args.bytes.now ≡ parts.0.now ++ parts.1.now) × (first_end parts.0.now ≡ Some (length parts.0.now))))
    (sym c.from_residual.ensures) (found_no_end c.args.bytes.now (sym c.in_err-end.ensures))
