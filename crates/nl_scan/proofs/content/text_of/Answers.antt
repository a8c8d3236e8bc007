use Rattle.std.proofs.Common.{arith}
use Rattle.nl_scan.proofs.Order.{text_in}
use Rattle.nl_scan.proofs.content.text_of.Goals as goal

pub overflow_sub-len : goal.overflow_sub-len
overflow_sub-len c = (text_in c.args.text.now c.args.token.now c.requires.is_text c.requires.is_token).0

pub slice_bounds-resolve-end : goal.slice_bounds-resolve-end
slice_bounds-resolve-end c =
    let within = text_in c.args.text.now c.args.token.now c.requires.is_text c.requires.is_token in omega arith
