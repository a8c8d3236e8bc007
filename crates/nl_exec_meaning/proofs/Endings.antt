-- The statements of a lone text give nobody, or end the text: the limits on values pass what they come to.
use Rattle.std.proofs.Common.{◌≡◌, ℕ, zero, suc, ◌||◌, Bool, true, false, List, [], ◌∷◌, refl}
use Rattle.nl_fixed.specs.declared.span.Span.{Span}
use Rattle.nl_value.specs.Plain.{Plain}
use Rattle.nl_tree.specs.Tree.{Node}
use Rattle.nl_exec_meaning.specs.State.{State, Exit, Outcome, Eval, Gives, Stopped, Reported, Left, Budget, Error, spend_by, choose}
use Rattle.nl_exec_meaning.specs.Running.{is_dead}
use Rattle.nl_exec_meaning.specs.Blocks.{leave_by}
use Rattle.nl_exec_meaning.specs.Meaning.{limited, is_stopped, text_end, text_statements}

-- the limits pass it
abbrev IsSmall : Span → Outcome → Type 0
IsSmall place o = limited place o ≡ o

choose-small : (place : Span) (truth : Bool) (a b : Outcome) → IsSmall place a → IsSmall place b → IsSmall place (choose truth a b)
choose-small place true a b first second = first
choose-small place false a b first second = second

spend-small : (place : Span) (units : ℕ) (s : State) (next : State → Outcome) → ((s1 : State) → IsSmall place (next s1)) →
    IsSmall place (spend_by units s next)
spend-small place zero s next small = refl
spend-small place (suc units) s next small = small (record s { units = units })

leave-small : (place : Span) (e : Exit) (kept : ℕ) (s : State) (next : Plain → State → Outcome) →
    ((value : Plain) (s1 : State) → IsSmall place (next value s1)) → IsSmall place (leave_by e kept s next)
leave-small place (Gives value) kept s next small = small value s
leave-small place Stopped kept s next small = refl
leave-small place (Reported value) kept s next small = refl
leave-small place Left kept s next small = refl
leave-small place Budget kept s next small = refl
leave-small place (Error kind at body) kept s next small = refl

end-small : (place : Span) (stopped : Bool) (s : State) → IsSmall place (text_end stopped s)
end-small place true s = refl
end-small place false s = refl

pub text_small : (prev : Eval) (ts : List Node) (stopped : Bool) (place : Span) (s : State) →
    limited place (text_statements prev ts stopped s) ≡ text_statements prev ts stopped s
text_small prev [] stopped place s = end-small place stopped _
text_small prev (t ∷ ts) stopped place s =
    choose-small place (is_dead s) _ _ refl (spend-small place s.units s _ (λ s1.
    leave-small place (prev t s1).exit 0 (prev t s1).state _ (λ value s2. text_small prev ts (stopped || is_stopped value) place s2)))
