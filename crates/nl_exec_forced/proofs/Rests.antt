-- What is left of an open text is whole or cut.
use Rattle.std.proofs.Common.{ℕ, ◌-◌, IsTrue, Option, Some, None, List, [], ◌∷◌, length, refl}
use Rattle.nl_tree.specs.Tree.{span}
use Rattle.nl_agents.specs.declared.store.Store.{Ghosts}
use Rattle.nl_exec_meaning.specs.declared.exits.Exit.{Exit}
use Rattle.nl_exec_meaning.specs.declared.exits.Exit.TheVariants as exit
use Rattle.nl_exec_meaning.specs.Code.{Code, node_at}
use Rattle.nl_exec_meaning.specs.State.{Outcome}
use Rattle.nl_exec_meaning.specs.Seen.{exit_seen}
use Rattle.nl_exec_meaning.specs.Meaning.{evaluator}
use Rattle.nl_exec_levels.specs.Rest.{wished, begun, through}
use Rattle.nl_exec_levels.specs.declared.levels.Level.{Level}
use Rattle.nl_exec_levels.specs.declared.focus.Wish.{Wish}
use Rattle.nl_exec_levels.specs.declared.focus.Wish.TheVariants as wish
use Rattle.nl_exec_levels.specs.declared.focus.Focus.{Focus}
use Rattle.nl_exec_levels.specs.declared.focus.Focus.TheVariants as focus
use Rattle.nl_exec.specs.Machines.{state_with, rest_of}
use Rattle.nl_exec.specs.Slices.{focus_of, rest_by}
use Rattle.nl_exec.specs.declared.slices.Machine.{Machine}
use Rattle.nl_exec_units.proofs.Beside.{Beside, whole, Good, by_itself, still, spend-beside, limited-beside}
use Rattle.nl_exec_units.proofs.Running.{evaluator-beside, text-beside}
use Rattle.nl_exec_units.proofs.Telling.{further-of, leaves-not_all}
use Rattle.nl_exec_forced.specs.Forced.{IsWholeOrCut, IsForced}
use Rattle.nl_exec_forced.proofs.Frames.{resumed-beside}

ends_itself : (e : Exit) → IsTrue (by_itself (exit_seen e))
ends_itself (exit.Gives value) = refl
ends_itself exit.Stopped = refl
ends_itself (exit.Reported value) = refl
ends_itself exit.Left = refl
ends_itself (exit.Error kind at body) = refl

wished-beside : (c : Code) (room k : ℕ) (w : Wish) → Good k (wished c room w)
wished-beside c room k (wish.Node t) n s few = evaluator-beside c.program room k (node_at c t) n s few
wished-beside c room k wish.Tick n s few = whole refl few

begun-beside : (c : Code) (room k : ℕ) (at : Focus) → Good k (begun c room at)
begun-beside c room k (focus.Start form t) n s few = text-beside c.program room form k (node_at c t) s n few
begun-beside c room k (focus.Enter t) n s few = evaluator-beside c.program room k (node_at c t) n s few
begun-beside c room k (focus.Want w) n s few = spend-beside s.units s (wished c room w) refl few (wished-beside c room k w)
begun-beside c room k (focus.Give e) n s few = whole (ends_itself e) few

through-beside : (c : Code) (k room : ℕ) (levels : List Level) (n : ℕ) (o o1 : Outcome) → Beside k n o o1 →
    Beside k n (through c room levels o) (through c room levels o1)
unfolding through
through-beside c k room [] n o o1 first = first
through-beside c k room (l ∷ ls) n o o1 first =
    limited-beside (span (node_at c l.node))
    (resumed-beside k (evaluator c.program (room - 1)) (evaluator-beside c.program (room - 1) k) c l.frame n _ _ (through-beside c k (room - 1) ls n o o1 first))

by-beside : (o : Option Focus) (c : Code) (limit k : ℕ) (levels : List Level) → Good k (rest_by o c limit levels)
by-beside None c limit k levels n s few = whole refl few
by-beside (Some at) c limit k levels n s few =
    through-beside c k limit levels n _ _ (begun-beside c (limit - length levels) k at n s few)

pub rests_are_whole_or_cut : {S : Type 0} {G : Ghosts S} (m : Machine S G) → IsWholeOrCut m
rests_are_whole_or_cut m units =
    further-of (rest_of m) units
    (λ k. by-beside (focus_of m.phase m.form) m.code m.limit k m.levels.items units (state_with m units) (still units))

pub answers_are_forced : {S : Type 0} {G : Ghosts S} (m : Machine S G) → IsForced m
answers_are_forced m units = leaves-not_all (rest_of m) units (rests_are_whole_or_cut m units)
