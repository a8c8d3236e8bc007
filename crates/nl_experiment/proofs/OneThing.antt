-- An experiment says one thing.
use Rattle.std.proofs.Common.{◌≡◌, ◌⊎◌, inl, inr, List, [], ◌∷◌, length, Some, refl, sym, ap, ◌∙◌}
use Rattle.nl_tree.specs.Checked.{Checked}
use Rattle.nl_check_model.specs.LoneText.{IsInner}
use Rattle.nl_check_model.specs.declared.lone_faults.Inner.{Inner}
use Rattle.nl_check_model.proofs.OneThing as lone
use Rattle.nl_experiment_keys.specs.declared.faults.PlanKind.TheVariants.{BadText}
use Rattle.nl_experiment.specs.Laws as law
use Rattle.nl_experiment.specs.Laws.{HaveTrees}
use Rattle.nl_experiment.specs.Texts.{HasTree, IsBadText, IsFirstBad, LoneText, texts_of}
use Rattle.nl_experiment.specs.declared.faults.PlanFault.{PlanFault}

no_bad : (p : Checked) (t : LoneText) (fault : PlanFault) → HasTree p t → IsBadText p t fault → ⊥
no_bad p t fault has bad = lone.trees_have_no_faults p t.form t.text has.0 bad.inner has.1 bad.bad

told : (p : Checked) (t : LoneText) → ((inner : Inner) × IsInner p t.form t.text inner) → (fault : PlanFault) × IsBadText p t fault
told p t bad = (record { kind = BadText; key = t.key; inner = Some bad.0 }, record { inner = bad.0; bad = bad.1; told = refl })

said_by : (p : Checked) (ts : List LoneText) → length p.bodies ≡ length p.declared.procedures → HaveTrees p ts ⊎ ((fault : PlanFault) × IsFirstBad p ts fault)
said_by p [] many = inl tt
said_by p (t ∷ ts) many = by (lone.texts_have_trees_or_faults p t.form t.text many) (said_by p ts many)
  where
    by : HasTree p t ⊎ ((inner : Inner) × IsInner p t.form t.text inner) → HaveTrees p ts ⊎ ((fault : PlanFault) × IsFirstBad p ts fault)
        → HaveTrees p (t ∷ ts) ⊎ ((fault : PlanFault) × IsFirstBad p (t ∷ ts) fault)
    by (inl has) (inl others) = inl (has, others)
    by (inl has) (inr later) = inr (later.0, inr (has, later.1))
    by (inr bad) others = let here = told p t bad in inr (here.0, inl here.1)

pub texts_have_trees_or_faults : law.TextsHaveTreesOrFaults
texts_have_trees_or_faults p f many = said_by p (texts_of f) many

none_bad : (p : Checked) (ts : List LoneText) (fault : PlanFault) → HaveTrees p ts → IsFirstBad p ts fault → ⊥
none_bad p [] fault have bad = bad
none_bad p (t ∷ ts) fault have (inl here) = no_bad p t fault have.0 here
none_bad p (t ∷ ts) fault have (inr later) = none_bad p ts fault have.1 later.1

pub trees_have_no_faults : law.TreesHaveNoFaults
trees_have_no_faults p f fault have bad = none_bad p (texts_of f) fault have bad

same_bad : (p : Checked) (t : LoneText) (x y : PlanFault) → IsBadText p t x → IsBadText p t y → x ≡ y
same_bad p t x y a b =
    let same = lone.inners_are_one p t.form t.text a.inner b.inner a.bad b.bad in
    a.told ∙ ap (λ inner. record { kind = BadText; key = t.key; inner = Some inner }) same ∙ sym b.told

one_bad : (p : Checked) (ts : List LoneText) (x y : PlanFault) → IsFirstBad p ts x → IsFirstBad p ts y → x ≡ y
one_bad p [] x y a b = absurd a
one_bad p (t ∷ ts) x y (inl a) (inl b) = same_bad p t x y a b
one_bad p (t ∷ ts) x y (inl a) (inr b) = absurd (no_bad p t x b.0 a)
one_bad p (t ∷ ts) x y (inr a) (inl b) = absurd (no_bad p t y a.0 b)
one_bad p (t ∷ ts) x y (inr a) (inr b) = one_bad p ts x y a.1 b.1

pub faults_are_one : law.FaultsAreUnique
faults_are_one p f x y a b = one_bad p (texts_of f) x y a b
