use Rattle.nl_birth.proofs.Counting.{room_ends}
use Rattle.nl_birth.proofs.Tied.{link_room_ends}
use Rattle.nl_birth.proofs.laws.room_ends_where_full.Goals as goal

pub returns : goal.returns
returns c = record { turtles = room_ends; links = link_room_ends }
