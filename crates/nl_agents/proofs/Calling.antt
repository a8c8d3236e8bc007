-- Each call leaves a world.
use Rattle.std.specs.Prelude.{List, [], ◌∷◌}
use Rattle.nl_agents.specs.World.{World}
use Rattle.nl_agents.specs.Standing.{IsWorld}
use Rattle.nl_agents.specs.Calls.{Call, Bear, Kill, Shift, Rebreed, Tie, Cut, SetVar, ClearTurtles, ClearLinks, ClearPatches, ClearGlobals, after, IsAllowed, after_all, AreAllowed}
use Rattle.nl_agents.proofs.Worlds.{born_is_world, killed_is_world, moved_is_world, rebred_is_world, tied_is_world, cut_is_world, revalued_is_world, turtles_cleared_is_world, links_cleared_is_world, patches_cleared_is_world, globals_cleared_is_world}

pub call_keeps : (call : Call) (w : World) → IsWorld w → IsAllowed call w → IsWorld (after call w)
call_keeps (Bear breed at parent) w h a = born_is_world breed at parent w h a.0 a.1 a.3
call_keeps (Kill turtle) w h a = killed_is_world turtle w h
call_keeps (Shift turtle to) w h a = moved_is_world turtle to w h a.1
call_keeps (Rebreed turtle breed) w h a = rebred_is_world turtle breed w h a.1
call_keeps (Tie breed directed end1 end2) w h a = tied_is_world breed directed end1 end2 w h a.0 a.1 a.2 a.3 a.4 a.5
call_keeps (Cut link) w h a = cut_is_world link w h
call_keeps (SetVar whose slot value) w h a = revalued_is_world whose slot value w h a.1
call_keeps ClearTurtles w h a = turtles_cleared_is_world w h
call_keeps ClearLinks w h a = links_cleared_is_world w h
call_keeps ClearPatches w h a = patches_cleared_is_world w h
call_keeps ClearGlobals w h a = globals_cleared_is_world w h

pub calls_keep : (calls : List Call) (w : World) → IsWorld w → AreAllowed calls w → IsWorld (after_all calls w)
calls_keep [] w h a = h
calls_keep (c ∷ cs) w h a = calls_keep cs (after c w) (call_keeps c w h a.0) a.1
