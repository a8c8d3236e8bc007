-- The first item that passes a test, after a list was changed.
use Rattle.std.specs.Prelude.{◌≡◌, Bool, true, false, cond, List, [], ◌∷◌, ◌++◌, map, filter, find, Option, Some, None, is_some, option_map, All, IfSome}
use Rattle.std.proofs.Common.{ap, ◌∙◌, sym, refl, subst}
use Rattle.std.proofs.lemmas.Bool.{cond-true, cond-false, cond_both, false_from_ne_true, false≢true, both_ways}
use Rattle.std.proofs.lemmas.Option.{none-some, same_Some}
use Rattle.std.proofs.lemmas.List.Elements.{All-head, All-tail}

module _ {X : Type 0} (test : X → Bool) where
  -- what was found before is found still, where more follows
  pub found_before : (xs ys : List X) (x : X) → find test xs ≡ Some x → find test (xs ++ ys) ≡ Some x
  found_before [] ys x e = absurd (none-some x e)
  found_before (z ∷ zs) ys x e =
      cond_both (test z) (Some z) (find test zs) (λ o. o ≡ Some x → find test (z ∷ (zs ++ ys)) ≡ Some x)
      (λ t q. cond-true (test z) (Some z) (find test (zs ++ ys)) t ∙ q)
      (λ t q. cond-false (test z) (Some z) (find test (zs ++ ys)) t ∙ found_before zs ys x q)
      e

  -- where nothing was found, it is looked for in what follows
  pub found_after : (xs ys : List X) → find test xs ≡ None → find test (xs ++ ys) ≡ find test ys
  found_after [] ys e = refl
  found_after (z ∷ zs) ys e =
      cond_both (test z) (Some z) (find test zs) (λ o. o ≡ None → find test (z ∷ (zs ++ ys)) ≡ find test ys)
      (λ t q. absurd (none-some z (sym q)))
      (λ t q. cond-false (test z) (Some z) (find test (zs ++ ys)) t ∙ found_after zs ys q)
      e

  -- a change that the test doesn't see
  pub found_changed : (change : X → X) → ((x : X) → test (change x) ≡ test x) → (xs : List X) → find test (map change xs) ≡ option_map change (find test xs)
  found_changed change h [] = refl
  found_changed change h (z ∷ zs) =
      cond_both (test z) (Some z) (find test zs) (λ o. find test (map change (z ∷ zs)) ≡ option_map change o)
      (λ t. cond-true (test (change z)) (Some (change z)) (find test (map change zs)) (h z ∙ t))
      (λ t. cond-false (test (change z)) (Some (change z)) (find test (map change zs)) (h z ∙ t) ∙ found_changed change h zs)

  -- what passes the test is kept
  pub found_kept : (keep : X → Bool) → ((x : X) → test x ≡ true → keep x ≡ true) → (xs : List X) → find test (filter keep xs) ≡ find test xs
  found_kept keep h [] = refl
  found_kept keep h (z ∷ zs) =
      cond_both (keep z) (z ∷ filter keep zs) (filter keep zs) (λ l. find test l ≡ find test (z ∷ zs))
      (λ t. ap (λ o. cond (test z) (Some z) o) (found_kept keep h zs))
      (λ t. found_kept keep h zs ∙ sym (cond-false (test z) (Some z) (find test zs) (false_from_ne_true (test z) (λ e. both_ways (keep z) t (h z e)))))

  -- what isn't there isn't there among those that are kept
  pub none_kept : (keep : X → Bool) (xs : List X) → find test xs ≡ None → find test (filter keep xs) ≡ None
  none_kept keep [] e = e
  none_kept keep (z ∷ zs) e =
      cond_both (test z) (Some z) (find test zs) (λ o. o ≡ None → find test (filter keep (z ∷ zs)) ≡ None)
      (λ t q. absurd (none-some z (sym q)))
      (λ t q. cond_both (keep z) (z ∷ filter keep zs) (filter keep zs) (λ l. find test l ≡ None)
      (λ _. cond-false (test z) (Some z) (find test (filter keep zs)) t ∙ none_kept keep zs q)
      (λ _. none_kept keep zs q))
      e

  -- where no item passes, nothing is found
  pub none_found : (xs : List X) → All (λ x. test x ≡ false) xs → find test xs ≡ None
  none_found [] h = refl
  none_found (z ∷ zs) h =
      cond-false (test z) (Some z) (find test zs) (All-head (λ x. test x ≡ false) z zs h) ∙ none_found zs (All-tail (λ x. test x ≡ false) z zs h)

  -- what is found has what all have, and passes the test
  pub found_all : (P : X → Type 0) (xs : List X) (x : X) → All P xs → find test xs ≡ Some x → P x
  found_all P [] x h e = absurd (none-some x e)
  found_all P (z ∷ zs) x h e =
      cond_both (test z) (Some z) (find test zs) (λ o. o ≡ Some x → P x)
      (λ t q. subst P (same_Some z x q) (All-head P z zs h))
      (λ t q. found_all P zs x (All-tail P z zs h) q)
      e

  pub found_passes : (xs : List X) (x : X) → find test xs ≡ Some x → test x ≡ true
  found_passes [] x e = absurd (none-some x e)
  found_passes (z ∷ zs) x e =
      cond_both (test z) (Some z) (find test zs) (λ o. o ≡ Some x → test x ≡ true)
      (λ t q. ap test (sym (same_Some z x q)) ∙ t)
      (λ t q. found_passes zs x q)
      e

-- what is there has a value
pub there : {X : Type 0} (o : Option X) → is_some o ≡ true → (x : X) × (o ≡ Some x)
there None h = absurd (false≢true h)
there (Some x) h = (x, refl)

pub not_there : {X : Type 0} (o : Option X) → is_some o ≡ false → o ≡ None
not_there None h = refl
not_there (Some x) h = absurd (false≢true (sym h))

pub there_still : {X : Type 0} (change : X → X) (o : Option X) → is_some (option_map change o) ≡ is_some o
there_still change None = refl
there_still change (Some x) = refl

-- what is found, if anything is, passes the test, and is what all are
pub if_passes : {X : Type 0} (test : X → Bool) (xs : List X) (o : Option X) → find test xs ≡ o → IfSome o (λ x. test x ≡ true)
if_passes test xs None e = tt
if_passes test xs (Some x) e = found_passes test xs x e

pub if_found : {X : Type 0} (test : X → Bool) (P : X → Type 0) (xs : List X) (o : Option X) → All P xs → find test xs ≡ o → IfSome o P
if_found test P xs None h e = tt
if_found test P xs (Some x) h e = found_all test P xs x h e
