-- How many steps can come before the next unit is wanted, at most. This is for the proof that they end.
use Rattle.std.specs.Prelude.{ℕ, ◌+◌, List, [], ◌∷◌, drop}
use Rattle.nl_tree.specs.Tree.{parts}
use Rattle.nl_exec_meaning.specs.Code.{Code, node_at}
use Rattle.nl_exec_meaning.specs.Weight.{weight, weights}
use Rattle.nl_exec_meaning.specs.declared.frames.Frame.{Frame}
use Rattle.nl_exec_meaning.specs.declared.frames.Frame.TheVariants as frame
use Rattle.nl_exec_meaning.specs.declared.frames.Next.{Next}
use Rattle.nl_exec_meaning.specs.declared.frames.Next.TheVariants.{Answer, Go, Want, Tick}

abbrev pub frame_work : Code → Frame → ℕ
frame_work c (frame.Part node at made) = 4 + weights (drop at (parts (node_at c node)))
frame_work c (frame.AndLeft node) = 1 + weights (drop 1 (parts (node_at c node)))
frame_work c (frame.OrLeft node) = 1 + weights (drop 1 (parts (node_at c node)))
frame_work c (frame.IfTest node) = 1 + weights (drop 1 (parts (node_at c node)))
frame_work c (frame.EitherTest node at valued) = 1 + weights (drop at (parts (node_at c node)))
frame_work c (frame.SomeNumber node word up) = 1 + weights (drop 1 (parts (node_at c node)))
frame_work c (frame.ArrowInput node word at made) = 1 + weights (drop at (parts (node_at c node)))
frame_work c (frame.RoundWanted node index word rounds) = 1 + weights (drop index (parts (node_at c node)))
frame_work c f = 1

abbrev pub next_work : Code → Next → ℕ
next_work c (Answer exit) = 0
next_work c (Go f node) = frame_work c f + weight (node_at c node)
next_work c (Want f node) = 0
next_work c (Tick f) = 0

abbrev pub works : Code → List Frame → ℕ
works c [] = 0
works c (f ∷ fs) = frame_work c f + works c fs
