-- The marks of the names so far, and what they tell of a further one.
use Rattle.std.specs.Prelude.{◌≡◌, ℕ, Bool, true, false, if◌then◌else◌, ◌&&◌, ◌||◌, List, Option, Some, None, Vec, bytes_eq}
use Rattle.std.specs.List.{list_any}
use Rattle.std.specs.declared.alloc.Global.{Global}
use Rattle.nl_fixed.specs.Nouns.{Name}
use Rattle.nl_decl.specs.declared.claims.Claim.{Claim}
use Rattle.nl_decl.specs.declared.claims.Claimed.{Claimed}
use Rattle.nl_decl.specs.declared.marks.Mark.{Mark}
use Rattle.nl_decl.specs.declared.marks.Marked.{Marked}
use Rattle.nl_decl.specs.contracts.marks.MarkPartialEq.TheImpl as mark_impl
use Rattle.nl_decl.specs.contracts.marks.MarkedPartialEq.TheImpl as marked_impl
use Rattle.nl_decl.specs.inner.Marks.{common_mark, own_mark}
use Rattle.nl_decl.specs.Claims.{clashes, is_taken}

abbrev pub same_mark : Mark → Mark → Bool
same_mark = (mark_impl.ghosts).eq

abbrev pub same_marked : Marked → Marked → Bool
same_marked = (marked_impl.ghosts).eq

abbrev pub has_own : Option Mark → Mark → Bool
has_own None m = false
has_own (Some o) m = same_mark o m

-- a declaration leaves this mark
abbrev pub leaves : Claim → Mark → Bool
leaves c m = same_mark (common_mark c) m || has_own (own_mark c) m

abbrev pub leaves_on : Name → Claim → Marked → Bool
leaves_on name c q = bytes_eq name q.name.items && leaves c q.mark

-- the name is marked so
abbrev pub marked_with : (Marked → Bool) → Vec ℕ Global → Mark → Bool
marked_with has name m = has (record { name = name; mark = m })

-- one more mark is there, and those before it
abbrev pub Puts : Marked → (Marked → Bool) → (Marked → Bool) → Type 0
Puts key old new = (q : Marked) → new q ≡ (if same_marked key q then true else old q)

-- the marks of one more declaration are there, and those before it
abbrev pub Notes : Name → Claim → (Marked → Bool) → (Marked → Bool) → Type 0
Notes name c old new = (q : Marked) → new q ≡ (leaves_on name c q || old q)

-- the marks are those of these declarations
abbrev pub Holds : List Claimed → (Marked → Bool) → Type 0
Holds seen has = (q : Marked) → has q ≡ list_any (λ e. leaves_on e.name e.claim q) seen

-- whether an earlier declaration bars a name that is declared so, behind those whose marks these are; and whether the name is taken
abbrev pub TellsBarred : (Marked → Bool) → Name → Claim → Bool → Type 0
TellsBarred has name c barred =
    (seen : List Claimed) (place : ℕ) → Holds seen has
    → barred ≡ list_any (λ e. clashes e (record { name = name; claim = c; place = place })) seen

abbrev pub TellsTaken : (Marked → Bool) → Name → Claim → Bool → Type 0
TellsTaken has name c taken =
    (seen : List Claimed) (place : ℕ) → Holds seen has
    → taken ≡ is_taken seen (record { name = name; claim = c; place = place })
