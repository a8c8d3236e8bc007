-- A turtle that is changed lives on.
use Rattle.std.proofs.Common.{◌≡◌, ℕ, ◌==◌, Bool, true, false, if◌then◌else◌, refl, ap, ◌∙◌, subst, sym}
use Rattle.std.specs.Prelude.{is_some, Result, Ok, Err, OnOk, OnErr, Option}
use Rattle.nl_grid.specs.declared.point.Point.{Point}
use Rattle.nl_value.specs.Plain.{Plain}
use Rattle.nl_agents_layout.specs.Nouns.{Slot}
use Rattle.nl_agents.specs.World.{Rest, World}
use Rattle.nl_agents.specs.Changes.{is_turtle, turtle_of, turtle_changed, TurtleLives, moved, revalued, value_set}
use Rattle.nl_agents.specs.declared.agents.Turtle.{Turtle}
use Rattle.nl_agents.specs.declared.agents.Owner.TheVariants as owner
use Rattle.nl_agents.proofs.Finding.{found_changed, there_still}

chosen_serial : (one other : Turtle) → one.serial ≡ other.serial → (b : Bool) → (if b then one else other).serial ≡ other.serial
chosen_serial one other same true = same
chosen_serial one other same false = refl

-- what is found of a change of turtles that keeps their serials is what was found, changed
pub lives_changed : (change : Turtle → Turtle) → ((t : Turtle) → (change t).serial ≡ t.serial) → (serial other : ℕ) (r : Rest)
    → is_some (turtle_of other (turtle_changed change serial r)) ≡ is_some (turtle_of other r)
lives_changed change keeps serial other r =
    let here : Turtle → Turtle = λ t. if is_turtle serial t then change t else t in
    let found = found_changed (is_turtle other) here (λ t. ap (λ n. n == other) (chosen_serial (change t) t (keeps t) (is_turtle serial t))) r.turtles in
    ap (λ (o : Option Turtle). is_some o) found ∙ there_still here (turtle_of other r)

pub lives_moved : (turtle : ℕ) (to : Point) (w : World) → TurtleLives turtle w → TurtleLives turtle (moved turtle to w)
lives_moved turtle to w lives = lives_changed (λ t. record t { at = to }) (λ t. refl) turtle turtle w.rest ∙ lives

pub lives_revalued : (turtle : ℕ) (slot : Slot) (value : Plain) (w : World) → TurtleLives turtle w → TurtleLives turtle (revalued (owner.Turtle turtle) slot value w)
lives_revalued turtle slot value w lives =
    lives_changed (λ t. record t { vars = value_set w.rest.layout.some_turtle t.vars slot value }) (λ t. refl) turtle turtle w.rest ∙ lives

-- whether a value was set or handed back
pub lives_set : {A B : Type 0} (turtle : ℕ) (slot : Slot) (value : Plain) (w after : World) (result : Result A B) → TurtleLives turtle w
    → OnOk result (after ≡ revalued (owner.Turtle turtle) slot value w) → OnErr result (after ≡ w) → TurtleLives turtle after
lives_set turtle slot value w after (Ok old) lives done kept = subst (TurtleLives turtle) (sym done) (lives_revalued turtle slot value w lives)
lives_set turtle slot value w after (Err back) lives done kept = subst (TurtleLives turtle) (sym kept) lives
