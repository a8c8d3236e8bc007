-- Serials ascend, and one that is dead stays dead.
use Rattle.std.specs.Prelude.{◌≡◌, ℕ, ◌<◌, ◌==◌, false, not, List, [], ◌∷◌, map, find, length, Some, None, is_some, option_map, nat_lt, slice_set, ◌-◌}
use Rattle.std.proofs.Common.{arith, ap, ◌∙◌, refl}
use Rattle.std.proofs.lemmas.Bool.{cond-false, cond_both, ne_eqb}
use Rattle.std.proofs.lemmas.List.Elements.{All-map, All-weaker}
use Rattle.nl_value.specs.Plain.{Plain}
use Rattle.nl_agents_layout.specs.Nouns.{Slot}
use Rattle.nl_agents.specs.World.{World}
use Rattle.nl_agents.specs.Changes.{is_turtle, is_link, turtle_of, link_of, turtle_lives, link_lives, newborn, has_end, new_link, bred_vars, value_set, revalued}
use Rattle.nl_agents.specs.Standing.{IsWorld, IsTurtleOf, IsLinkOf}
use Rattle.nl_agents.specs.Calls.{Call, Bear, Kill, Shift, Rebreed, Tie, Cut, SetVar, ClearTurtles, ClearLinks, ClearPatches, ClearGlobals, after, after_all}
use Rattle.nl_agents.specs.Laws.{SerialsAscendIn}
use Rattle.nl_agents.specs.declared.agents.Turtle.{Turtle}
use Rattle.nl_agents.specs.declared.agents.Link.{Link}
use Rattle.nl_agents.specs.declared.agents.Owner.{Owner}
use Rattle.nl_agents.specs.declared.agents.Owner.TheVariants as owner
use Rattle.nl_agents.proofs.Finding.{found_after, found_changed, none_kept, not_there}
use Rattle.nl_agents.proofs.Worlds.{turtle_by, link_by, serial_by, link_serial_by}

pub serials_ascend : (w : World) → IsWorld w → SerialsAscendIn w
serials_ascend w h = record {
  turtles = h.agents.turtles_ascend;
  turtles_given = All-map (λ n. n < w.rest.turtles_given) (λ (t : Turtle). t.serial) w.rest.turtles
      (All-weaker (IsTurtleOf w.rest) (λ t. t.serial < w.rest.turtles_given) (λ t a. a.given) w.rest.turtles h.agents.turtles);
  links = h.agents.links_ascend;
  links_given = All-map (λ n. n < w.rest.links_given) (λ (l : Link). l.serial) w.rest.links
      (All-weaker (IsLinkOf w.rest) (λ l. l.serial < w.rest.links_given) (λ l a. a.given) w.rest.links h.agents.links);
}

-- the serial was given, and its turtle, or link, doesn't live
pub record IsDeadTurtle (serial : ℕ) (w : World) : Type 0 where
  pub given : serial < w.rest.turtles_given
  pub none : turtle_of serial w.rest ≡ None

pub record IsDeadLink (serial : ℕ) (w : World) : Type 0 where
  pub given : serial < w.rest.links_given
  pub none : link_of serial w.rest ≡ None

turtle_changed_dead : (change : Turtle → Turtle) → ((t : Turtle) → (change t).serial ≡ t.serial) → (changed serial : ℕ) (turtles : List Turtle) → find (is_turtle serial) turtles ≡ None
    → find (is_turtle serial) (map (turtle_by change changed) turtles) ≡ None
turtle_changed_dead change same changed serial turtles e =
    found_changed (is_turtle serial) (turtle_by change changed)
    (λ t. ap (λ n. n == serial) (serial_by change same changed t)) turtles
    ∙ ap (λ o. option_map (turtle_by change changed) o) e

link_changed_dead : (change : Link → Link) → ((l : Link) → (change l).serial ≡ l.serial) → (changed serial : ℕ) (links : List Link) → find (is_link serial) links ≡ None
    → find (is_link serial) (map (link_by change changed) links) ≡ None
link_changed_dead change same changed serial links e =
    found_changed (is_link serial) (link_by change changed)
    (λ l. ap (λ n. n == serial) (link_serial_by change same changed l)) links
    ∙ ap (λ o. option_map (link_by change changed) o) e

set_dead_turtle : (whose : Owner) (slot : Slot) (value : Plain) (w : World) (serial : ℕ) → IsDeadTurtle serial w → IsDeadTurtle serial (revalued whose slot value w)
set_dead_turtle owner.Observer slot value w serial h =
    cond_both (nat_lt slot (length w.globals)) (record w { globals = slice_set w.globals slot value })
    (record w { rest = record w.rest { run = slice_set w.rest.run (slot - length w.globals) value } }) (IsDeadTurtle serial)
    (λ _. record { given = h.given; none = h.none }) (λ _. record { given = h.given; none = h.none })
set_dead_turtle (owner.Turtle turtle) slot value w serial h = record {
  given = h.given;
  none = turtle_changed_dead (λ t. record t { vars = value_set w.rest.layout.some_turtle t.vars slot value }) (λ t. refl) turtle serial w.rest.turtles h.none;
}
set_dead_turtle (owner.Patch patch) slot value w serial h = record { given = h.given; none = h.none }
set_dead_turtle (owner.Link link) slot value w serial h = record { given = h.given; none = h.none }

set_dead_link : (whose : Owner) (slot : Slot) (value : Plain) (w : World) (serial : ℕ) → IsDeadLink serial w → IsDeadLink serial (revalued whose slot value w)
set_dead_link owner.Observer slot value w serial h =
    cond_both (nat_lt slot (length w.globals)) (record w { globals = slice_set w.globals slot value })
    (record w { rest = record w.rest { run = slice_set w.rest.run (slot - length w.globals) value } }) (IsDeadLink serial)
    (λ _. record { given = h.given; none = h.none }) (λ _. record { given = h.given; none = h.none })
set_dead_link (owner.Turtle turtle) slot value w serial h = record { given = h.given; none = h.none }
set_dead_link (owner.Patch patch) slot value w serial h = record { given = h.given; none = h.none }
set_dead_link (owner.Link link) slot value w serial h = record {
  given = h.given;
  none = link_changed_dead (λ l. record l { vars = value_set w.rest.layout.some_link l.vars slot value }) (λ l. refl) link serial w.rest.links h.none;
}

pub stays_dead_turtle : (call : Call) (w : World) (serial : ℕ) → IsDeadTurtle serial w → IsDeadTurtle serial (after call w)
stays_dead_turtle (Bear breed at parent) w serial h =
    let t = newborn breed at parent w.rest in
    let a = h.given in
    record {
      given = omega arith;
      none = found_after (is_turtle serial) w.rest.turtles (t ∷ []) h.none
          ∙ cond-false (w.rest.turtles_given == serial) (Some t) None (ne_eqb w.rest.turtles_given serial (λ q. omega (arith, a, q)));
    }
stays_dead_turtle (Kill turtle) w serial h = record { given = h.given; none = none_kept (is_turtle serial) (λ t. not (is_turtle turtle t)) w.rest.turtles h.none }
stays_dead_turtle (Shift turtle to) w serial h = record { given = h.given; none = turtle_changed_dead (λ t. record t { at = to }) (λ t. refl) turtle serial w.rest.turtles h.none }
stays_dead_turtle (Rebreed turtle breed) w serial h = record {
  given = h.given;
  none = turtle_changed_dead (λ t. record t { breed = breed; vars = bred_vars w.rest.layout breed t.vars }) (λ t. refl) turtle serial w.rest.turtles h.none;
}
stays_dead_turtle (Tie breed directed end1 end2) w serial h = record { given = h.given; none = h.none }
stays_dead_turtle (Cut link) w serial h = record { given = h.given; none = h.none }
stays_dead_turtle (SetVar whose slot value) w serial h = set_dead_turtle whose slot value w serial h
stays_dead_turtle ClearTurtles w serial h = record { given = h.given; none = refl }
stays_dead_turtle ClearLinks w serial h = record { given = h.given; none = h.none }
stays_dead_turtle ClearPatches w serial h = record { given = h.given; none = h.none }
stays_dead_turtle ClearGlobals w serial h = record { given = h.given; none = h.none }

pub stays_dead_link : (call : Call) (w : World) (serial : ℕ) → IsDeadLink serial w → IsDeadLink serial (after call w)
stays_dead_link (Bear breed at parent) w serial h = record { given = h.given; none = h.none }
stays_dead_link (Kill turtle) w serial h = record { given = h.given; none = none_kept (is_link serial) (λ l. not (has_end turtle l)) w.rest.links h.none }
stays_dead_link (Shift turtle to) w serial h = record { given = h.given; none = h.none }
stays_dead_link (Rebreed turtle breed) w serial h = record { given = h.given; none = h.none }
stays_dead_link (Tie breed directed end1 end2) w serial h =
    let l = new_link breed directed end1 end2 w.rest in
    let a = h.given in
    record {
      given = omega arith;
      none = found_after (is_link serial) w.rest.links (l ∷ []) h.none
          ∙ cond-false (w.rest.links_given == serial) (Some l) None (ne_eqb w.rest.links_given serial (λ q. omega (arith, a, q)));
    }
stays_dead_link (Cut link) w serial h = record { given = h.given; none = none_kept (is_link serial) (λ l. not (is_link link l)) w.rest.links h.none }
stays_dead_link (SetVar whose slot value) w serial h = set_dead_link whose slot value w serial h
stays_dead_link ClearTurtles w serial h = record { given = h.given; none = refl }
stays_dead_link ClearLinks w serial h = record { given = h.given; none = refl }
stays_dead_link ClearPatches w serial h = record { given = h.given; none = h.none }
stays_dead_link ClearGlobals w serial h = record { given = h.given; none = h.none }

-- over any calls
dead_turtle_for_ever : (calls : List Call) (w : World) (serial : ℕ) → IsDeadTurtle serial w → IsDeadTurtle serial (after_all calls w)
dead_turtle_for_ever [] w serial h = h
dead_turtle_for_ever (c ∷ cs) w serial h = dead_turtle_for_ever cs (after c w) serial (stays_dead_turtle c w serial h)

dead_link_for_ever : (calls : List Call) (w : World) (serial : ℕ) → IsDeadLink serial w → IsDeadLink serial (after_all calls w)
dead_link_for_ever [] w serial h = h
dead_link_for_ever (c ∷ cs) w serial h = dead_link_for_ever cs (after c w) serial (stays_dead_link c w serial h)

pub turtles_stay_dead : (calls : List Call) (w : World) (serial : ℕ) → serial < w.rest.turtles_given → turtle_lives w.rest serial ≡ false → turtle_lives (after_all calls w).rest serial ≡ false
turtles_stay_dead calls w serial given dead =
    let start : IsDeadTurtle serial w = record { given = given; none = not_there (turtle_of serial w.rest) dead } in
    let end = dead_turtle_for_ever calls w serial start in
    ap is_some end.none

pub links_stay_dead : (calls : List Call) (w : World) (serial : ℕ) → serial < w.rest.links_given → link_lives w.rest serial ≡ false → link_lives (after_all calls w).rest serial ≡ false
links_stay_dead calls w serial given dead =
    let start : IsDeadLink serial w = record { given = given; none = not_there (link_of serial w.rest) dead } in
    let end = dead_link_for_ever calls w serial start in
    ap is_some end.none
