-- Items by their ranks, as the code holds them.
use Rattle.nl_value.specs.Views.{plain}
use Rattle.nl_exec_meaning.specs.Arrows as arrows
use Rattle.nl_exec_arrows.specs.declared.orders.Ranked.{Ranked}

abbrev pub ranked_seen : Ranked → arrows.Ranked
ranked_seen r = record { value = plain r.value; rank = r.rank }
