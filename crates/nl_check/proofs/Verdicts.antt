-- What the first fault of a text's steps says of its words.
use Rattle.std.proofs.Common.{◌≡◌, ℕ, Bool, true, false, not, cond, IsTrue, List, [], ◌∷◌, ◌++◌, Option, Some, None, All, ◌↔◌, inl, inr, ◌⊎◌, refl, sym, ap, subst, ◌∙◌, arith, append_assoc, append-nil}
use Rattle.std.specs.List.{Contains}
use Rattle.std.proofs.lemmas.List.Elements.{Contains-append_left, Contains-push, Contains-push_cases, All-nil, All-cons, All-append}
use Rattle.nl_fixed.specs.declared.span.Span.{Span}
use Rattle.nl_words.specs.declared.entry.Kinds.{Kinds}
use Rattle.nl_words.specs.Kinds.{everyone}
use Rattle.nl_words.specs.declared.entry.Manner.{Manner}
use Rattle.nl_words.specs.declared.entry.Manner.TheVariants.{Run, Set, Spread}
use Rattle.nl_tree.specs.declared.declared.What.{What}
use Rattle.nl_tree.specs.declared.declared.What.TheVariants as what
use Rattle.nl_tree.specs.Tree.{Node}
use Rattle.nl_tree.specs.Term.{Term}
use Rattle.nl_tree.specs.Vocabulary.{term_named}
use Rattle.nl_tree.specs.Context.{Kind, allows, Piece, Pieces, use_of, block_of, no_piece, a_piece, Use, uses_in, uses_among, with_word, with_piece, Leads, Bars, IsWrongContext, is_not_settable, has_no_report, IsFaultAt, IsRight, IsFirstFault}
use Rattle.nl_tree.specs.declared.faults.CheckKind.{CheckKind}
use Rattle.nl_tree.specs.declared.faults.CheckKind.TheVariants.{WrongContext, NotSettable, NoReport}
use Rattle.nl_check.specs.declared.faults.Wrong.{Wrong}
use Rattle.nl_check.specs.declared.step.Use.{Use as StepUse}
use Rattle.nl_check.specs.declared.step.Step.{Step}
use Rattle.nl_check.specs.declared.step.Step.TheVariants as step
use Rattle.nl_check.specs.inner.Kinds.{meet, is_none}
use Rattle.nl_check.specs.inner.Steps.{runs_of, call_of, calls_of, counted, unsettable_by, used_as, piece_steps, pieces_steps}
use Rattle.nl_check.specs.inner.Faults.{called_kinds, allowed, kind_at, placed, last_or, or_later, first_wrong}
use Rattle.nl_check.proofs.Around.{last_push, front_push}
use Rattle.nl_check.proofs.Meets.{meet_left, meet_right, meet_both, true_or_not, not_both, none_left, some_left, everyone_allowed}

not_true : {b : Bool} → b ≡ false → IsTrue b → ⊥
not_true is h = let bad : true ≡ false = sym h ∙ is in cc

-- the test of a use is that of the word
unsettable_is : (table : List Term) (m : Manner) (w : List ℕ) → unsettable_by m (term_named table w) ≡ is_not_settable table m w
unsettable_is table Run w = refl
unsettable_is table Set w = refl
unsettable_is table Spread w = refl

module _ (table : List Term) (bodies : List Node) (reporter : Bool) (called : List Kinds)
    (may : (j : ℕ) (kind : Kind) → IsTrue (allows (called_kinds called (Some j)) kind) ↔ (Leads table bodies kind j → ⊥)) where
  abbrev free_kinds : Option Term → Kinds
  free_kinds o = meet (runs_of o) (called_kinds called (calls_of o))

  no_bar : (o : Option Term) (w : List ℕ) (kind : Kind) → term_named table w ≡ o → IsTrue (allows (free_kinds o) kind) → Bars table bodies kind w → ⊥
  no_bar None w kind is free (t, (row, bar)) = let bad : Some t ≡ None = sym row ∙ is in cc
  no_bar (Some u) w kind is free (t, (row, inl out)) =
      let same : u ≡ t = cc in
      not_both (allows u.runs kind) (meet_left u.runs (called_kinds called (call_of u.what)) kind free) (subst (λ x. IsTrue (not (allows x.runs kind))) (sym same) out)
  no_bar (Some u) w kind is free (t, (row, inr (j, (calls, leads)))) =
      let same : u ≡ t = cc in
      let what_is : u.what ≡ what.Procedure j = ap (λ (x : Term). x.what) same ∙ calls in
      (may j kind).0 (subst (λ x. IsTrue (allows (called_kinds called (call_of x)) kind)) what_is (meet_right u.runs (called_kinds called (call_of u.what)) kind free)) leads

  callee_free : (it : What) (kind : Kind) → ((j : ℕ) → it ≡ what.Procedure j → Leads table bodies kind j → ⊥) → IsTrue (allows (called_kinds called (call_of it)) kind)
  callee_free (what.Procedure j) kind free = (may j kind).1 (free j refl)
  callee_free (what.Base code) kind free = everyone_allowed kind
  callee_free (what.Global n) kind free = everyone_allowed kind
  callee_free (what.Own n) kind free = everyone_allowed kind
  callee_free (what.Made n code) kind free = everyone_allowed kind

  all_free : (o : Option Term) (w : List ℕ) (kind : Kind) → term_named table w ≡ o → (Bars table bodies kind w → ⊥) → IsTrue (allows (free_kinds o) kind)
  all_free None w kind is free = meet_both everyone everyone kind (everyone_allowed kind) (everyone_allowed kind)
  all_free (Some u) w kind is free =
      meet_both u.runs (called_kinds called (call_of u.what)) kind
      (elim (true_or_not (allows u.runs kind)) [ inl h ↦ h | inr out ↦ absurd (free (u, (is, inl out))) ])
      (callee_free u.what kind (λ j calls leads. free (u, (is, inr (j, (calls, leads))))))

  -- the kinds that are left behind these words of a site
  abbrev pub Remain : Kinds → List (List ℕ) → Kinds → Type 0
  Remain first ws left = (kind : Kind) → IsTrue (allows left kind) ↔ (IsTrue (allows first kind) × ((w : List ℕ) → Contains ws w → Bars table bodies kind w → ⊥))

  pub begin : (first : Kinds) → Remain first [] first
  begin first kind = (λ h. (h, λ w (k, inside, is) bar. omega (arith, inside)), λ h. h.0)

  remain_word : (first : Kinds) (ws : List (List ℕ)) (left : Kinds) (w : List ℕ) → Remain first ws left → Remain first (ws ++ w ∷ []) (meet left (free_kinds (term_named table w)))
  remain_word first ws left w before kind =
      let free = free_kinds (term_named table w) in (
        λ h. (
          ((before kind).0 (meet_left left free kind h)).0,
          λ v here. elim (Contains-push_cases ws w v here) [
            | inl earlier ↦ ((before kind).0 (meet_left left free kind h)).1 v earlier
            | inr same ↦ subst (λ x. Bars table bodies kind x → ⊥) same (no_bar (term_named table w) w kind refl (meet_right left free kind h))
          ],
        ),
        λ h. meet_both left free kind ((before kind).1 (h.0, λ v earlier. h.1 v (Contains-append_left ws (w ∷ []) v earlier))) (all_free (term_named table w) w kind refl (h.1 w (Contains-push ws w))),
      )

  remain_none : (first : Kinds) (ws : List (List ℕ)) (left : Kinds) → Remain first ws left → Remain first ws (meet left (free_kinds None))
  remain_none first ws left before kind =
      let free = free_kinds None in
      (λ h. (before kind).0 (meet_left left free kind h), λ h. meet_both left free kind ((before kind).1 h) (meet_both everyone everyone kind (everyone_allowed kind) (everyone_allowed kind)))

  remain_use : (m : Manner) (first : Kinds) (ws : List (List ℕ)) (left : Kinds) (w : List ℕ) → Remain first ws left → Remain first (with_word m w ws) (meet left (free_kinds (counted m (term_named table w))))
  remain_use Run first ws left w before = remain_word first ws left w before
  remain_use Set first ws left w before = remain_word first ws left w before
  remain_use Spread first ws left w before = remain_none first ws left before

  abbrev Right : Use → Type 0
  Right = IsRight table bodies reporter

  -- what is told of one word
  abbrev Told : Use → Option CheckKind → Type 0
  Told u None = Right u
  Told u (Some k) = IsFaultAt table bodies reporter u k

  module _ (u : Use) (left : Kinds) (remain : Remain u.first u.so_far left) (unsettable misplaced_there : Bool)
      (is_unsettable : is_not_settable table u.manner u.name ≡ unsettable) (is_misplaced : has_no_report table reporter u.in_block u.name ≡ misplaced_there) where
    wrong_there : is_none left ≡ true → IsWrongContext table bodies u
    wrong_there nothing kind is_left = none_left left nothing kind ((remain kind).1 is_left)

    not_wrong : is_none left ≡ false → IsWrongContext table bodies u → ⊥
    not_wrong some wrong = let (kind, h) = some_left left some in wrong kind ((remain kind).0 h)

  none_told : (u : Use) (left : Kinds) → Remain u.first u.so_far left → is_none left ≡ false → is_not_settable table u.manner u.name ≡ false → has_no_report table reporter u.in_block u.name ≡ false → Right u
  none_told u left remain is_a is_b is_c WrongContext h = not_wrong u left remain false false is_b is_c is_a h
  none_told u left remain is_a is_b is_c NotSettable h = not_true is_b h.1
  none_told u left remain is_a is_b is_c NoReport h = not_true is_c h.2

  tell : (u : Use) (left : Kinds) → Remain u.first u.so_far left → (a b c : Bool) → is_none left ≡ a → is_not_settable table u.manner u.name ≡ b → has_no_report table reporter u.in_block u.name ≡ c
      → Told u (cond a (Some WrongContext) (cond b (Some NotSettable) (cond c (Some NoReport) None)))
  tell u left remain true b c is_a is_b is_c = wrong_there u left remain b c is_b is_c is_a
  tell u left remain false true c is_a is_b is_c = (not_wrong u left remain true c is_b is_c is_a, is_b)
  tell u left remain false false true is_a is_b is_c = (not_wrong u left remain false true is_b is_c is_a, ap not is_b, is_c)
  tell u left remain false false false is_a is_b is_c = none_told u left remain is_a is_b is_c

  abbrev first_in : List Kinds → Kinds → List Step → Option Wrong
  first_in = first_wrong called reporter

  -- these steps stand for uses without a fault, or for a first one
  abbrev Seen : List Use → List Kinds → Kinds → List Step → List Step → (Kinds → Type 0) → Type 0
  Seen us around left ss rest P =
      (All Right us × ((next : Kinds) × (P next × (first_in around left (ss ++ rest) ≡ first_in around next rest))))
      ⊎ ((k : Wrong) × (IsFirstFault table bodies reporter us k.kind k.span × (first_in around left (ss ++ rest) ≡ Some k)))

  abbrev use_at : Kinds → Bool → List (List ℕ) → List ℕ → Span → Manner → Use
  use_at first inner ws w s m = record { name = w; span = s; manner = m; so_far = with_word m w ws; first = first; in_block = inner }

  abbrev step_at : Bool → List ℕ → Span → Manner → StepUse
  step_at inner w s m = used_as (term_named table w) inner s m

  kind_is : (left : Kinds) (inner : Bool) (w : List ℕ) (s : Span) (m : Manner) →
      kind_at reporter left (step_at inner w s m) ≡ cond (is_none left) (Some WrongContext) (cond (is_not_settable table m w) (Some NotSettable) (cond (has_no_report table reporter inner w) (Some NoReport) None))
  kind_is left inner w s m =
      ap (λ b. cond (is_none left) (Some WrongContext) (cond b (Some NotSettable) (cond (has_no_report table reporter inner w) (Some NoReport) None))) (unsettable_is table m w)

  abbrev next_left : Bool → List ℕ → Span → Manner → Kinds → Kinds
  next_left inner w s m left = meet left (allowed called (step_at inner w s m))

  seen_as : (first : Kinds) (inner : Bool) (ws : List (List ℕ)) (w : List ℕ) (s : Span) (m : Manner) (around : List Kinds) (left : Kinds) (rest : List Step) (r : Option CheckKind)
      → kind_at reporter (next_left inner w s m left) (step_at inner w s m) ≡ r → Told (use_at first inner ws w s m) r → Remain first (with_word m w ws) (next_left inner w s m left)
      → Seen (use_at first inner ws w s m ∷ []) around left (step.Word (step_at inner w s m) ∷ []) rest (Remain first (with_word m w ws))
  seen_as first inner ws w s m around left rest None kind_told told remain =
      inl (All-cons Right (use_at first inner ws w s m) [] told (All-nil Right), (next_left inner w s m left, (remain, ap (λ k. or_later (placed s k) (first_in around (next_left inner w s m left) rest)) kind_told)))
  seen_as first inner ws w s m around left rest (Some k) kind_told told remain =
      inr (record { kind = k; span = s }, (([], use_at first inner ws w s m, [], (refl, All-nil Right, told, refl)), ap (λ x. or_later (placed s x) (first_in around (next_left inner w s m left) rest)) kind_told))

  seen_use : (first : Kinds) (inner : Bool) (ws : List (List ℕ)) (w : List ℕ) (s : Span) (m : Manner) (around : List Kinds) (left : Kinds) (rest : List Step) → Remain first ws left
      → Seen (use_at first inner ws w s m ∷ []) around left (step.Word (step_at inner w s m) ∷ []) rest (Remain first (with_word m w ws))
  seen_use first inner ws w s m around left rest before =
      let next = next_left inner w s m left in
      let remain = remain_use m first ws left w before in
      let u = use_at first inner ws w s m in
      seen_as first inner ws w s m around left rest _ (kind_is next inner w s m) (tell u next remain (is_none next) (is_not_settable table m w) (has_no_report table reporter inner w) refl refl refl) remain

  later_fault : (us vs : List Use) (fault : CheckKind) (place : Span) → All Right us → IsFirstFault table bodies reporter vs fault place → IsFirstFault table bodies reporter (us ++ vs) fault place
  later_fault us vs fault place right (before, u, rest, (is, all, at, where_it)) =
      (us ++ before, u, rest, (ap (λ xs. us ++ xs) is ∙ sym (append_assoc us before (u ∷ rest)), All-append Right us before right all, at, where_it))

  earlier_fault : (us vs : List Use) (fault : CheckKind) (place : Span) → IsFirstFault table bodies reporter us fault place → IsFirstFault table bodies reporter (us ++ vs) fault place
  earlier_fault us vs fault place (before, u, rest, (is, all, at, where_it)) =
      (before, u, rest ++ vs, (ap (λ xs. xs ++ vs) is ∙ append_assoc before (u ∷ rest) vs, all, at, where_it))

  close_block : (around : List Kinds) (left inner_left : Kinds) (rest : List Step) → first_in (around ++ left ∷ []) inner_left (step.Close ∷ rest) ≡ first_in around left rest
  close_block around left inner_left rest = ap (λ a. first_in a (last_or inner_left (around ++ left ∷ [])) rest) (front_push around left) ∙ ap (λ l. first_in around l rest) (last_push inner_left around left)

  mutual
    piece_seen : (p : Piece) (first : Kinds) (inner : Bool) (ws : List (List ℕ)) (around : List Kinds) (left : Kinds) (rest : List Step) → Remain first ws left
        → Seen (uses_in first inner ws p) around left (piece_steps table inner p) rest (Remain first (with_piece ws p))
    piece_seen (use_of w s m) first inner ws around left rest before = seen_use first inner ws w s m around left rest before
    piece_seen (block_of f ps) first inner ws around left rest before =
        let ss = pieces_steps table true ps in
        let opened = ap (first_in (around ++ left ∷ []) f) (append_assoc ss (step.Close ∷ []) rest) in
        elim (pieces_seen ps f true [] (around ++ left ∷ []) f (step.Close ∷ rest) (begin f)) [
          | inl (right, (next, (_, same))) ↦ inl (right, (left, (before, opened ∙ same ∙ close_block around left next rest)))
          | inr (k, (fault, same)) ↦ inr (k, (fault, opened ∙ same))
        ]

    pieces_seen : (ps : Pieces) (first : Kinds) (inner : Bool) (ws : List (List ℕ)) (around : List Kinds) (left : Kinds) (rest : List Step) → Remain first ws left
        → Seen (uses_among first inner ws ps) around left (pieces_steps table inner ps) rest (λ _. Unit {0})
    pieces_seen no_piece first inner ws around left rest before = inl (All-nil Right, (left, (tt, refl)))
    pieces_seen (a_piece p ps) first inner ws around left rest before =
        let one = piece_steps table inner p in
        let more = pieces_steps table inner ps in
        let parted = ap (first_in around left) (append_assoc one more rest) in
        elim (piece_seen p first inner ws around left (more ++ rest) before) [
          | inr (k, (fault, same)) ↦ inr (k, (earlier_fault (uses_in first inner ws p) (uses_among first inner (with_piece ws p) ps) k.kind k.span fault, parted ∙ same))
          | inl (right, (next, (remain, same))) ↦ elim (pieces_seen ps first inner (with_piece ws p) around next rest remain) [
            | inl (all, (last, (_, again))) ↦ inl (All-append Right (uses_in first inner ws p) (uses_among first inner (with_piece ws p) ps) right all, (last, (tt, parted ∙ same ∙ again)))
            | inr (k, (fault, again)) ↦ inr (k, (later_fault (uses_in first inner ws p) (uses_among first inner (with_piece ws p) ps) k.kind k.span right fault, parted ∙ same ∙ again))
          ]
        ]

  module _ (first : Kinds) (ps : Pieces) (found : Option Wrong) (is : found ≡ first_in [] first (pieces_steps table false ps)) where
    whole : first_in [] first (pieces_steps table false ps ++ []) ≡ found
    whole = ap (first_in [] first) (append-nil (pieces_steps table false ps)) ∙ sym is

    pub none_found : found ≡ None → All Right (uses_among first false [] ps)
    none_found nothing = elim (pieces_seen ps first false [] [] first [] (begin first)) [
      | inl (right, _) ↦ right
      | inr (k, (fault, same)) ↦ let bad : Some k ≡ None = sym same ∙ whole ∙ nothing in cc
    ]

    pub some_found : (k : Wrong) → found ≡ Some k → IsFirstFault table bodies reporter (uses_among first false [] ps) k.kind k.span
    some_found k here = elim (pieces_seen ps first false [] [] first [] (begin first)) [
      | inl (right, (next, (_, same))) ↦ let bad : None ≡ Some k = sym same ∙ whole ∙ here in cc
      | inr (l, (fault, same)) ↦ let it : Some l ≡ Some k = sym same ∙ whole ∙ here in let one : l ≡ k = cc in subst (λ (x : Wrong). IsFirstFault table bodies reporter (uses_among first false [] ps) x.kind x.span) one fault
    ]
