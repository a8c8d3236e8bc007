-- What is chosen fits the world, as what it is chosen from does.
use Rattle.std.specs.Prelude.{◌≡◌, ℕ, ℤ, ◌<◌, ◌&&◌, true, List, [], length, All, Contains, Option, Some, None, MatchOption, Ok, Err, IfOk, refl}
use Rattle.std.proofs.Common.{ap, sym, ◌∙◌, get_or}
use Rattle.std.specs.List.{list_all}
use Rattle.std.proofs.lemmas.Bool.{lt-ltb}
use Rattle.std.proofs.lemmas.List.Elements.{All-contains}
use Rattle.std.proofs.lemmas.List.Sums.{AllPass-from_list_all, list_all-from_AllPass}
use Rattle.nl_value.specs.Sets.{set_kind}
use Rattle.nl_value.specs.Plain.{Plain, Plains, PlainNumber, PlainTruth, PlainWords, PlainItems, PlainTurtle, PlainPatch, PlainLink, PlainNobody, PlainSet, no_items, item_then, items_of, plains}
use Rattle.nl_value.specs.declared.sets.AgentKind.{AgentKind}
use Rattle.nl_value.specs.declared.sets.AgentKind.TheVariants as kind
use Rattle.nl_value.specs.declared.sets.AgentSet.{AgentSet}
use Rattle.nl_draw.specs.Stream.{chosen}
use Rattle.nl_draw.proofs.Shuffles.{chosen-member}
use Rattle.nl_grid.specs.Geometry.{patches_of}
use Rattle.nl_agents.specs.World.{Rest}
use Rattle.nl_agents.specs.Members.{members_of}
use Rattle.nl_agents.specs.Names.{patch_fits}
use Rattle.nl_agents.specs.Standing.{fits_rest}
use Rattle.nl_agentset_query.specs.Choices.{item_or_few, one_among, places_drawn, kept_from, wanted_of, several_among, chosen_by}
use Rattle.nl_agentset_query.proofs.Places.{kept_each}
use Rattle.nl_agentset_query.specs.Agents.{agent_or_nobody, listed_value}
use Rattle.nl_agentset_query.specs.Inputs.{inputs_fit, value_at, number_at}
use Rattle.nl_agentset_query.specs.Outcomes.{QueryOutcome, and_then, outcome_map}
use Rattle.nl_agentset_query.specs.declared.words.Choice.{Choice}
use Rattle.nl_agentset_query.specs.declared.words.Choice.TheVariants as choice
use Rattle.nl_agentset_query.proofs.Fitting.{input_fits, list_fits_as_items}
use Rattle.nl_agentset_query.proofs.Inside.{patch_members}

then_given : {X Y : Type 0} (P : Y → Type 0) (o : QueryOutcome X) (f : X → QueryOutcome Y) → ((x : X) → o ≡ Ok x → IfOk (f x) P) → IfOk (and_then o f) P
then_given P (Ok x) f each = each x refl
then_given P (Err fail) f each = tt

each_given : {X Y : Type 0} (P : Y → Type 0) (o : QueryOutcome X) (f : X → Y) → ((x : X) → P (f x)) → IfOk (outcome_map f o) P
each_given P (Ok x) f each = each x
each_given P (Err fail) f each = tt

module _ (r : Rest) where
  abbrev Fits : Plain → Type 0
  Fits p = fits_rest r p ≡ true

  abbrev FirstFits : Plain × ℕ → Type 0
  FirstFits answer = Fits answer.0

  items_list : (items : Plains) → list_all (fits_rest r) (items_of items) ≡ fits_rest r (PlainItems items)
  items_list no_items = refl
  items_list (item_then first rest) = ap (λ b. fits_rest r first && b) (items_list rest)

  items_each : (items : Plains) → Fits (PlainItems items) → All Fits (items_of items)
  items_each items fit = AllPass-from_list_all (fits_rest r) (items_of items) (items_list items ∙ fit)

  -- ---- one

  item_fits : (xs : List Plain) (c : Option Plain × ℕ) → All Fits xs → MatchOption c.0 (xs ≡ []) (Contains xs) → IfOk (item_or_few c) FirstFits
  item_fits xs (None, state) all among = tt
  item_fits xs (Some item, state) all among = All-contains Fits xs item all among

  member_fits : (agents : AgentSet) (which : AgentKind) (o : Option ℕ) → set_kind agents ≡ which → MatchOption o (members_of r agents ≡ []) (Contains (members_of r agents)) → Fits (agent_or_nobody which o)
  member_fits agents which None is among = refl
  member_fits agents kind.Turtle (Some number) is among = refl
  member_fits agents kind.Link (Some number) is among = refl
  member_fits agents kind.Patch (Some number) is among =
      lt-ltb number (patches_of r.shape) (All-contains (λ patch. patch < patches_of r.shape) (members_of r agents) number (patch_members r agents is) among)

  one_fits : (value : Plain) (state : ℕ) → Fits value → IfOk (one_among r value state) FirstFits
  one_fits (PlainItems items) state fit = item_fits (items_of items) (chosen (items_of items) state) (items_each items fit) (chosen-member (items_of items) state)
  one_fits (PlainSet agents) state fit = member_fits agents (set_kind agents) (chosen (members_of r agents) state).0 refl (chosen-member (members_of r agents) state)
  one_fits (PlainNumber count) state fit = tt
  one_fits (PlainTruth truth) state fit = tt
  one_fits (PlainWords bytes) state fit = tt
  one_fits (PlainTurtle turtle) state fit = tt
  one_fits (PlainPatch patch) state fit = tt
  one_fits (PlainLink link) state fit = tt
  one_fits PlainNobody state fit = tt

  -- ---- several

  kept_fit : (ps : List ℕ) (xs : List Plain) → All Fits xs → Fits (PlainItems (plains (kept_from 0 ps xs)))
  kept_fit ps xs all = sym (list_fits_as_items r (kept_from 0 ps xs)) ∙ list_all-from_AllPass (fits_rest r) (kept_from 0 ps xs) (kept_each ps 0 xs Fits all)

  members_fit : (agents : AgentSet) (which : AgentKind) (ps : List ℕ) → set_kind agents ≡ which → Fits (listed_value which (kept_from 0 ps (members_of r agents)))
  members_fit agents kind.Turtle ps is = refl
  members_fit agents kind.Link ps is = refl
  members_fit agents kind.Patch ps is =
      let below = kept_each ps 0 (members_of r agents) (λ patch. patch < patches_of r.shape) (patch_members r agents is) in
      list_all-from_AllPass (patch_fits r) (kept_from 0 ps (members_of r agents)) (λ k z inside. lt-ltb (get_or (kept_from 0 ps (members_of r agents)) k z) (patches_of r.shape) (below k z inside))

  several_fit : (which : Choice) (number : ℤ) (value : Plain) (state : ℕ) → Fits value → IfOk (several_among r which number value state) FirstFits
  several_fit which number (PlainItems items) state fit =
      each_given FirstFits (wanted_of which number (length (items_of items))) _
      (λ wanted. kept_fit (places_drawn wanted (length (items_of items)) state).0 (items_of items) (items_each items fit))
  several_fit which number (PlainSet agents) state fit =
      each_given FirstFits (wanted_of which number (length (members_of r agents))) _
      (λ wanted. members_fit agents (set_kind agents) (places_drawn wanted (length (members_of r agents)) state).0 refl)
  several_fit which number (PlainNumber count) state fit = tt
  several_fit which number (PlainTruth truth) state fit = tt
  several_fit which number (PlainWords bytes) state fit = tt
  several_fit which number (PlainTurtle turtle) state fit = tt
  several_fit which number (PlainPatch patch) state fit = tt
  several_fit which number (PlainLink link) state fit = tt
  several_fit which number PlainNobody state fit = tt

  pub chosen_fits : (which : Choice) (inputs : List Plain) (state : ℕ) → inputs_fit r inputs ≡ true → IfOk (chosen_by r which inputs state) FirstFits
  chosen_fits choice.OneOf inputs state fit =
      then_given FirstFits (value_at inputs 0) _ (λ value is. one_fits value state (input_fits r inputs 0 value fit (sym is)))
  chosen_fits choice.NOf inputs state fit =
      then_given FirstFits (number_at inputs 0) _ (λ number _. then_given FirstFits (value_at inputs 1) _ (λ value is. several_fit choice.NOf number value state (input_fits r inputs 1 value fit (sym is))))
  chosen_fits choice.UpToNOf inputs state fit =
      then_given FirstFits (number_at inputs 0) _ (λ number _. then_given FirstFits (value_at inputs 1) _ (λ value is. several_fit choice.UpToNOf number value state (input_fits r inputs 1 value fit (sym is))))
