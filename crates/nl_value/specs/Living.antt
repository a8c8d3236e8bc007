-- What values ask the world: who lives, who belongs to a set, where a link stands among links, and the names.
use Rattle.std.specs.Prelude.{ℕ, Bool, true, false, ◌&&◌, [], ◌∷◌}
use Rattle.std.specs.Ordering.{nat_cmp, is_lt}
use Rattle.std.specs.Cmp.Lexicographic.{slice_cmp}
use Rattle.std.specs.Str.{bytes_eq}
use Rattle.nl_value.specs.declared.sets.AgentKind.{AgentKind}
use Rattle.nl_value.specs.declared.sets.AgentKind.TheVariants.{Turtle, Patch, Link}
use Rattle.nl_value.specs.declared.sets.AgentSet.{AgentSet}
use Rattle.nl_fixed.specs.Nouns.{Bytes}
use Rattle.nl_value.specs.Nouns.{Serials, Key}
use Rattle.nl_value.specs.Sets.{set_kind}
use Rattle.nl_value.specs.Plain.{Plain, Plains, PlainNumber, PlainTruth, PlainWords, PlainItems, PlainTurtle, PlainPatch, PlainLink, PlainNobody, PlainSet}
use Rattle.nl_value.specs.Fit.{value_fits, values_fit}

-- a link's ends and breed
pub record LinkPlace : Type 0 where
  pub end1 : ℕ
  pub end2 : ℕ
  pub breed : ℕ

-- what the world answers: which turtles and links live, the living members of a set in ascending order, a link's ends and
-- breed, the text of an agent or a set, and which patches and sets it may be asked about
pub record Living : Type 0 where
  pub turtle_lives : ℕ → Bool
  pub link_lives : ℕ → Bool
  pub members : AgentSet → Serials
  pub link_place : ℕ → LinkPlace
  pub name : Plain → Bytes
  pub patch_fits : ℕ → Bool
  pub set_fits : AgentSet → Bool

-- whether the value fits the world, by its two tests
abbrev pub fits : Living → Plain → Bool
fits w value = value_fits w.patch_fits w.set_fits value

abbrev pub all_fit : Living → Plains → Bool
all_fit w items = values_fit w.patch_fits w.set_fits items

-- whether the value is an agent or a set of agents
abbrev pub has_name : Plain → Bool
has_name (PlainNumber count) = false
has_name (PlainTruth truth) = false
has_name (PlainWords bytes) = false
has_name (PlainItems items) = false
has_name (PlainTurtle turtle) = true
has_name (PlainPatch patch) = true
has_name (PlainLink link) = true
has_name PlainNobody = false
has_name (PlainSet set) = true

abbrev pub same_kind : AgentKind → AgentKind → Bool
same_kind Turtle Turtle = true
same_kind Patch Patch = true
same_kind Link Link = true
same_kind a b = false

-- two sets are the same where they are of one kind and have the same living members
abbrev pub same_sets : Living → AgentSet → AgentSet → Bool
same_sets w a b = same_kind (set_kind a) (set_kind b) && bytes_eq (w.members a) (w.members b)

-- links are ordered by their first end, their second end, their breed and their number, in this order
abbrev pub link_key : Living → ℕ → Key
link_key w link = (w.link_place link).end1 ∷ (w.link_place link).end2 ∷ (w.link_place link).breed ∷ link ∷ []

abbrev pub link_comes_before : Living → ℕ → ℕ → Bool
link_comes_before w a b = is_lt (slice_cmp nat_cmp (link_key w a) (link_key w b))

-- the world in which nothing lives and every name is the empty text
abbrev pub no_life : Living
no_life = record {
  turtle_lives = λ turtle. false;
  link_lives = λ link. false;
  members = λ set. [];
  link_place = λ link. record { end1 = 0; end2 = 0; breed = 0 };
  name = λ value. [];
  patch_fits = λ patch. true;
  set_fits = λ set. true;
}
