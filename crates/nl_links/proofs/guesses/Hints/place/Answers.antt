use Rattle.std.proofs.Common.{rules, ◌≡◌, length}
use Rattle.nl_links.proofs.Doubled.{place_of}
use Rattle.nl_links.proofs.guesses.Hints.place.Goals as goal

-- src/guesses.rt:78:5
pub returns : goal.returns
returns c some =
    let many : c.len.result ≡ length c.args.self.now = search rules in
    place_of c.args.serial c.len.result c.args.self.now many c.len.type_inv (search rules) some
