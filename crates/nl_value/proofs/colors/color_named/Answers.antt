use Rattle.std.proofs.Common.{rules, ◌≡◌, Some, ◌∙◌, sym, refl}
use Rattle.nl_fixed.specs.Numbers.{number_at}
use Rattle.nl_value.specs.Colors.{named_colors, number_among}
use Rattle.nl_value.proofs.Coloring.{among_in_range}
use Rattle.nl_value.proofs.colors.color_named.Goals as goal

-- each number of the table is in range
pub returns : goal.returns
returns c =
    let m = c.in_ok-find.field-0 in
    let found : number_among named_colors c.args.name.now ≡ Some m = sym c.in_ok-find.ensures in
    let there : number_at m ≡ Some m = rw (among_in_range named_colors c.args.name.now m refl found) refl in
    let new : c.new.result ≡ number_at m = search rules in
    new ∙ there ∙ sym found
