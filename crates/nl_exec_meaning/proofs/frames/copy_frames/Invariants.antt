-- Those so far are copied.
use Rattle.std.proofs.Common.{◌≡◌, take}
use Rattle.nl_exec_meaning.proofs.frames.copy_frames.Given as goal

abbrev pub invariant-loop-frame : goal.invariant-loop-frame
invariant-loop-frame l = l.copied.items ≡ take l.frame-index l.frames
