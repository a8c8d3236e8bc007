-- What becomes of lists when a key is taken out or put at the end.
use Rattle.std.proofs.Common.{◌≡◌, ◌≢◌, ℕ, Bool, true, false, List, [], ◌∷◌, ◌++◌, Option, Some, None, eqb, cond, refl, sym, ap, ◌∙◌, inl, inr, subst}
use Rattle.std.proofs.lemmas.Bool.{cases_eq}
use Rattle.nl_store_lists.specs.Chained.{has, IsOnce, without, at_number, put_last, take_out, IsWalk, is_in, IsPlace, IsThreaded, Turns}
use Rattle.nl_store_lists.proofs.Members.{has-without, once-without, has-append, once-append}
use Rattle.nl_store_lists.proofs.Walks.{walk-moves, walk-same, walk-without, walk-append, walk-one}
use Rattle.nl_store_lists.proofs.Places.{at-here, at-other, at-each, is_in-here, is_in-true, is_in-other, place-stays}
use Rattle.nl_store_lists.proofs.Inverses.{same-step, inverse-without, inverse-between, inverse-same, inverse-empty}

-- the keys of a list are those whose list it is
pub home-of : (home : ℕ → Option ℕ) (f g : ℕ → Option ℕ → Option ℕ) (lists : ℕ → List ℕ) (n j : ℕ) → IsThreaded home f g lists → has (lists n) j ≡ true → home j ≡ Some n
home-of home f g lists n j t h = is_in-true (home j) n (sym (t.members n j) ∙ h)

pub listed : (home : ℕ → Option ℕ) (f g : ℕ → Option ℕ → Option ℕ) (lists : ℕ → List ℕ) (n j : ℕ) → IsThreaded home f g lists → home j ≡ Some n → has (lists n) j ≡ true
listed home f g lists n j t h = t.members n j ∙ ap (λ o. is_in o n) h ∙ is_in-here n

is_in-gone : (b : Bool) (o : Option ℕ) (n : ℕ) → is_in (cond b None o) n ≡ cond b false (is_in o n)
is_in-gone true o n = refl
is_in-gone false o n = refl

is_in-come : (b : Bool) (o : Option ℕ) (n : ℕ) → is_in (cond b (Some n) o) n ≡ cond b true (is_in o n)
is_in-come true o n = is_in-here n
is_in-come false o n = refl

-- a key moves into or out of another list
elsewhere : (home : ℕ → Option ℕ) (k : ℕ) (to : Option ℕ) (m j : ℕ) → is_in (home k) m ≡ false → is_in to m ≡ false → is_in (home j) m ≡ is_in (at_number home k to j) m
elsewhere home k to m j before after = elim (cases_eq j k) [
  | inl e ↦ ap (λ x. is_in (home x) m) e ∙ before ∙ sym after ∙ ap (λ o. is_in o m) (sym (at-here home k to)) ∙ ap (λ x. is_in (at_number home k to x) m) (sym e)
  | inr ne ↦ ap (λ o. is_in o m) (sym (at-other home k to j ne))
]

pub taken_out : (home : ℕ → Option ℕ) (f g f' g' : ℕ → Option ℕ → Option ℕ) (lists : ℕ → List ℕ) (n k : ℕ) → IsThreaded home f g lists → home k ≡ Some n →
    Turns (at_number home k None) n (g n (Some k)) (f n (Some k)) f f' → Turns (at_number home k None) n (f n (Some k)) (g n (Some k)) g g' →
    IsThreaded (at_number home k None) f' g' (take_out lists n k)
taken_out home f g f' g' lists n k t hk tf tg =
    let home' = at_number home k None in
    let p = g n (Some k) in
    let q = f n (Some k) in
    let there = listed home f g lists n k t hk in
    let moves : q ≢ Some k = walk-moves (f n) None (lists n) k (t.walk n) (t.once n) there in
    let back_moves : p ≢ Some k = λ e. moves (ap (f n) (sym e) ∙ t.back.undone n (Some k) hk) in
    let p_was : IsPlace home n p = t.back.stays n (Some k) hk in
    let p_is : IsPlace home' n p = place-stays home k n p p_was back_moves in
    let to_key : f n p ≡ Some k = t.back.undone n (Some k) hk in
    let hit : (a : Option ℕ) → IsPlace home n a → f n a ≡ Some k → f' n a ≡ q =
    λ a na e. subst (λ x. f' n x ≡ q) (sym (same-step home f g n n a p t.forth refl na p_was (e ∙ sym to_key))) tf.hit in
    let miss : (m : ℕ) (a : Option ℕ) → IsPlace home' m a → (m ≡ n → f m a ≢ Some k) → f' m a ≡ f m a =
    λ m a na away. tf.miss m a na (λ s e. away s (ap (λ (x : ℕ). f x a) s ∙ ap (f n) e ∙ to_key)) in
    let place : (m j : ℕ) → has (lists m) j ≡ true → j ≢ k → IsPlace home' m (Some j) =
    λ m j h ne. at-other home k None j ne ∙ home-of home f g lists m j t h in
    record {
      members = λ m j. at-each (λ (x : ℕ) (xs : List ℕ). has xs j ≡ is_in (home' j) x) lists n (without k (lists n))
          (has-without k (lists n) j (t.once n) ∙ ap (λ b. cond (eqb j k) false b) (t.members n j) ∙ sym (is_in-gone (eqb j k) (home j) n))
          (λ x ne. t.members x j ∙ elsewhere home k None x j (ap (λ o. is_in o x) hk ∙ is_in-other n x ne) refl) m;
      once = at-each (λ (_ : ℕ) (xs : List ℕ). IsOnce xs) lists n (without k (lists n)) (once-without k (lists n) (t.once n)) (λ x _. t.once x);
      walk = at-each (λ (x : ℕ) (xs : List ℕ). IsWalk (f' x) None xs) lists n (without k (lists n))
          (walk-without (f n) (f' n) k None (lists n)
          (hit None tt) (λ e. miss n None tt (λ _. e))
          (λ j h ne. hit (Some j) (home-of home f g lists n j t h)) (λ j h ne e. miss n (Some j) (place n j h ne) (λ _. e))
          (t.once n) (t.walk n))
          (λ x ne. walk-same (f x) (f' x) None None (lists x)
          (miss x None tt (λ s. absurd (ne s)))
          (λ j h. miss x (Some j) (place x j h (λ e. ne (let y = home-of home f g lists x j t h in let z = subst (λ i. home i ≡ Some x) e y in cc))) (λ s. absurd (ne s)))
          (t.walk x));
      forth = inverse-without home n k f g f' g' t.forth t.back hk moves tf tg;
      back = inverse-without home n k g f g' f' t.back t.forth hk back_moves tg tf;
    }

pub put_at_end : (home : ℕ → Option ℕ) (f g f' g' : ℕ → Option ℕ → Option ℕ) (lists : ℕ → List ℕ) (n k : ℕ) → IsThreaded home f g lists → home k ≡ None →
    Turns home n (g n None) (Some k) f f' → f' n (Some k) ≡ None → Turns home n None (Some k) g g' → g' n (Some k) ≡ g n None →
    IsThreaded (at_number home k (Some n)) f' g' (put_last lists n k)
put_at_end home f g f' g' lists n k t none tf ends tg begins =
    let home' = at_number home k (Some n) in
    let p = g n None in
    let p_is : IsPlace home n p = t.back.stays n None tt in
    let last : f n p ≡ None = t.back.undone n None tt in
    let fresh : has (lists n) k ≡ false = t.members n k ∙ ap (λ o. is_in o n) none in
    let hit : (a : Option ℕ) → IsPlace home n a → f n a ≡ None → f' n a ≡ Some k =
    λ a na e. subst (λ x. f' n x ≡ Some k) (sym (same-step home f g n n a p t.forth refl na p_is (e ∙ sym last))) tf.hit in
    let miss : (m : ℕ) (a : Option ℕ) → IsPlace home m a → (m ≡ n → f m a ≢ None) → f' m a ≡ f m a =
    λ m a na away. tf.miss m a na (λ s e. away s (ap (λ (x : ℕ). f x a) s ∙ ap (f n) e ∙ last)) in
    record {
      members = λ m j. at-each (λ (x : ℕ) (xs : List ℕ). has xs j ≡ is_in (home' j) x) lists n (lists n ++ k ∷ [])
          (has-append (lists n) k j ∙ ap (λ b. cond (eqb j k) true b) (t.members n j) ∙ sym (is_in-come (eqb j k) (home j) n))
          (λ x ne. t.members x j ∙ elsewhere home k (Some n) x j (ap (λ o. is_in o x) none) (is_in-other n x ne)) m;
      once = at-each (λ (_ : ℕ) (xs : List ℕ). IsOnce xs) lists n (lists n ++ k ∷ []) (once-append (lists n) k (t.once n) fresh) (λ x _. t.once x);
      walk = at-each (λ (x : ℕ) (xs : List ℕ). IsWalk (f' x) None xs) lists n (lists n ++ k ∷ [])
          (walk-append (f n) (f' n) k None (lists n)
          (hit None tt) (λ e. miss n None tt (λ _. e))
          (λ j h. hit (Some j) (home-of home f g lists n j t h)) (λ j h e. miss n (Some j) (home-of home f g lists n j t h) (λ _. e))
          ends (t.walk n))
          (λ x ne. walk-same (f x) (f' x) None None (lists x)
          (miss x None tt (λ s. absurd (ne s)))
          (λ j h. miss x (Some j) (home-of home f g lists x j t h) (λ s. absurd (ne s)))
          (t.walk x));
      forth = inverse-between home n k p f g f' g' t.forth none p_is tf (ends ∙ sym last) (subst (λ x. Turns home n x (Some k) g g') (sym last) tg) begins;
      back = inverse-between home n k None g f g' f' t.back none tt tg begins tf ends;
    }

-- steps that are the same at each place walk through the same lists
pub stays_threaded : (home : ℕ → Option ℕ) (f g f' g' : ℕ → Option ℕ → Option ℕ) (lists : ℕ → List ℕ) → IsThreaded home f g lists →
    ((m : ℕ) (a : Option ℕ) → IsPlace home m a → f' m a ≡ f m a) → ((m : ℕ) (a : Option ℕ) → IsPlace home m a → g' m a ≡ g m a) → IsThreaded home f' g' lists
stays_threaded home f g f' g' lists t ef eg = record {
  members = t.members;
  once = t.once;
  walk = λ n. walk-same (f n) (f' n) None None (lists n) (ef n None tt) (λ j h. ef n (Some j) (home-of home f g lists n j t h)) (t.walk n);
  forth = inverse-same home f g f' g' ef eg t.forth;
  back = inverse-same home g f g' f' eg ef t.back;
}

pub no_keys : (home : ℕ → Option ℕ) (f g : ℕ → Option ℕ → Option ℕ) → ((k : ℕ) → home k ≡ None) → ((n : ℕ) → f n None ≡ None) → ((n : ℕ) → g n None ≡ None) → IsThreaded home f g (λ _. [])
no_keys home f g none ef eg = record {
  members = λ n k. sym (ap (λ o. is_in o n) (none k));
  once = λ n. tt;
  walk = ef;
  forth = inverse-empty home f g none ef eg;
  back = inverse-empty home g f none eg ef;
}

-- steps walk through one list of each number
pub lists_are_one : (home other : ℕ → Option ℕ) (f g h : ℕ → Option ℕ → Option ℕ) (xs ys : ℕ → List ℕ) → IsThreaded home f g xs → IsThreaded other f h ys → (n : ℕ) → xs n ≡ ys n
lists_are_one home other f g h xs ys s t n = walk-one (f n) None (xs n) (ys n) (s.walk n) (t.walk n)
