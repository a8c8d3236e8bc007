-- What is read of tokens is the literal that they are.
use Rattle.std.proofs.Common.{◌≡◌, List, [], ◌∷◌, ◌++◌, append_assoc, refl, sym, ap, subst, ◌∙◌}
use Rattle.std.specs.Prelude.{Option, Some, None}
use Rattle.std.proofs.lemmas.List.{append-nil}
use Rattle.nl_fixed.specs.Nouns.{Bytes}
use Rattle.nl_scan.specs.declared.token.Lexeme.{Lexeme}
use Rattle.nl_scan.specs.declared.token.Lexeme.TheVariants as lexeme
use Rattle.nl_scan.specs.declared.token.Token.{Token}
use Rattle.nl_value.specs.Plain.{Plain, PlainItems, plains}
use Rattle.nl_experiment_keys.specs.Laws.{AreLiterals, IsLiteral, LiteralsAreThose, constant, listed, more, none}
use Rattle.nl_experiment_keys.specs.Literals.{literal_from, placed, placed_if, taken, token_value}

-- ---- one token

-- a constant is placed
value_placed : (text : Bytes) (t : Token) (l : Lexeme) (v : Plain) (lists : List (List Plain)) (rest : List Token) (next : List (List Plain) → Option Plain)
    → token_value text t l ≡ Some v → taken text t l lists rest next ≡ placed lists v rest next
value_placed text t lexeme.Word v lists rest next is = ap (λ found. placed_if lists found rest next) is
value_placed text t (lexeme.Number count) v lists rest next is = ap (λ found. placed_if lists found rest next) is
value_placed text t lexeme.Text v lists rest next is = ap (λ found. placed_if lists found rest next) is
value_placed text t lexeme.Open v lists rest next is = let bad : None ≡ Some v = is in absurd (cc)
value_placed text t lexeme.Close v lists rest next is = let bad : None ≡ Some v = is in absurd (cc)
value_placed text t lexeme.OpenParen v lists rest next is = let bad : None ≡ Some v = is in absurd (cc)
value_placed text t lexeme.CloseParen v lists rest next is = let bad : None ≡ Some v = is in absurd (cc)

-- a bracket opens a list
opened : (text : Bytes) (o : Token) (lists : List (List Plain)) (rest : List Token)
    → o.lexeme ≡ lexeme.Open → literal_from text (o ∷ rest) lists ≡ literal_from text rest ([] ∷ lists)
opened text o lists rest is = ap (λ l. taken text o l lists rest (λ now. literal_from text rest now)) is

-- and another one closes it
ended : (text : Bytes) (c : Token) (items : List Plain) (lists : List (List Plain)) (rest : List Token)
    → c.lexeme ≡ lexeme.Close → literal_from text (c ∷ rest) (items ∷ lists) ≡ placed lists (PlainItems (plains items)) rest (λ now. literal_from text rest now)
ended text c items lists rest is = ap (λ l. taken text c l (items ∷ lists) rest (λ now. literal_from text rest now)) is

-- ---- a literal is read

mutual
  reads_one : {text : Bytes} {ts : List Token} {v : Plain} → IsLiteral text ts v → (lists : List (List Plain)) (rest : List Token)
      → literal_from text (ts ++ rest) lists ≡ placed lists v rest (λ now. literal_from text rest now)
  reads_one {text = text} (constant {t = t} {v = v} is) lists rest = value_placed text t t.lexeme v lists rest (λ now. literal_from text rest now) is
  reads_one {text = text} (listed o c {ts = ts} {vs = vs} o_is c_is all) lists rest =
      opened text o lists ((ts ++ c ∷ []) ++ rest) o_is
      ∙ ap (λ xs. literal_from text xs ([] ∷ lists)) (append_assoc ts (c ∷ []) rest)
      ∙ reads_all all [] lists (c ∷ rest)
      ∙ ended text c vs lists rest c_is

  reads_all : {text : Bytes} {ts : List Token} {vs : List Plain} → AreLiterals text ts vs → (items : List Plain) (outer : List (List Plain)) (rest : List Token)
      → literal_from text (ts ++ rest) (items ∷ outer) ≡ literal_from text rest ((items ++ vs) ∷ outer)
  reads_all {text = text} none items outer rest = ap (λ xs. literal_from text rest (xs ∷ outer)) (sym (append-nil items))
  reads_all {text = text} (more {ts = ts} {us = us} {v = v} {vs = vs} one all) items outer rest =
      ap (λ xs. literal_from text xs (items ∷ outer)) (append_assoc ts us rest)
      ∙ reads_one one (items ∷ outer) (us ++ rest)
      ∙ reads_all all (items ++ v ∷ []) outer rest
      ∙ ap (λ xs. literal_from text rest (xs ∷ outer)) (append_assoc items (v ∷ []) vs)

-- ---- what is read is a literal

-- the tokens that are left end the list that is open with these items, and those around it, and the whole is this value
EndsIn : Bytes → List (List Plain) → List Plain → List Token → Plain → Type 0
EndsIn text [] items ts v =
    (us : List Token) × (vs : List Plain) × (c : Token) × (ts ≡ us ++ c ∷ []) × AreLiterals text us vs × (c.lexeme ≡ lexeme.Close)
    × (PlainItems (plains (items ++ vs)) ≡ v)
EndsIn text (next ∷ outer) items ts v =
    (us : List Token) × (vs : List Plain) × (c : Token) × (rest : List Token) × (ts ≡ us ++ c ∷ rest) × AreLiterals text us vs × (c.lexeme ≡ lexeme.Close)
    × EndsIn text outer (next ++ PlainItems (plains (items ++ vs)) ∷ []) rest v

Ends : Bytes → List (List Plain) → List Token → Plain → Type 0
Ends text [] ts v = IsLiteral text ts v
Ends text (items ∷ outer) ts v = EndsIn text outer items ts v

-- a literal stands before what ends the list that it belongs to
before : (text : Bytes) (outer : List (List Plain)) (items : List Plain) (x : Plain) (ts us : List Token) (v : Plain)
    → IsLiteral text ts x → EndsIn text outer (items ++ x ∷ []) us v → EndsIn text outer items (ts ++ us) v
unfolding EndsIn
before text [] items x ts us v one (bs, vs, c, split, all, close, is) = (
  ts ++ bs,
  x ∷ vs,
  c,
  ap (λ (b : List Token). ts ++ b) split ∙ sym (append_assoc ts bs (c ∷ [])),
  more one all,
  close,
  ap (λ xs. PlainItems (plains xs)) (sym (append_assoc items (x ∷ []) vs)) ∙ is,
)
before text (next ∷ outer) items x ts us v one (bs, vs, c, rest, split, all, close, deep) = (
  ts ++ bs,
  x ∷ vs,
  c,
  rest,
  ap (λ (b : List Token). ts ++ b) split ∙ sym (append_assoc ts bs (c ∷ rest)),
  more one all,
  close,
  subst (λ xs. EndsIn text outer (next ++ PlainItems (plains xs) ∷ []) rest v) (append_assoc items (x ∷ []) vs) deep,
)

Later : Bytes → List Token → (List (List Plain) → Option Plain) → Plain → Type 0
Later text tokens next v = (now : List (List Plain)) → next now ≡ Some v → Ends text now tokens v

places : (text : Bytes) (lists : List (List Plain)) (x : Plain) (ts tokens : List Token) (next : List (List Plain) → Option Plain) (v : Plain)
    → IsLiteral text ts x → Later text tokens next v → placed lists x tokens next ≡ Some v → Ends text lists (ts ++ tokens) v
unfolding Ends Later
places text [] x ts [] next v one later is =
    let same : x ≡ v = cc in
    subst (λ ys. IsLiteral text ys v) (sym (append-nil ts)) (subst (λ w. IsLiteral text ts w) same one)
places text [] x ts (token ∷ tokens) next v one later is = let bad : None ≡ Some v = is in absurd (cc)
places text (items ∷ outer) x ts tokens next v one later is = before text outer items x ts tokens v one (later ((items ++ x ∷ []) ∷ outer) is)

places_if : (text : Bytes) (token : Token) (lists : List (List Plain)) (found : Option Plain) (tokens : List Token) (next : List (List Plain) → Option Plain) (v : Plain)
    → ((x : Plain) → found ≡ Some x → IsLiteral text (token ∷ []) x) → Later text tokens next v → placed_if lists found tokens next ≡ Some v
    → Ends text lists (token ∷ tokens) v
places_if text token lists None tokens next v one later is = let bad : None ≡ Some v = is in absurd (cc)
places_if text token lists (Some x) tokens next v one later is = places text lists x (token ∷ []) tokens next v (one x refl) later is

-- a bracket opens a list
opens : (text : Bytes) (o : Token) (lists : List (List Plain)) (tokens : List Token) (v : Plain)
    → o.lexeme ≡ lexeme.Open → EndsIn text lists [] tokens v → Ends text lists (o ∷ tokens) v
unfolding Ends EndsIn
opens text o [] tokens v is (us, vs, c, split, all, close, last) =
    subst (λ w. IsLiteral text (o ∷ tokens) w) last (subst (λ ts. IsLiteral text (o ∷ ts) (PlainItems (plains vs))) (sym split) (listed o c is close all))
opens text o (items ∷ outer) tokens v is (us, vs, c, rest, split, all, close, deep) =
    subst (λ ts. EndsIn text outer items (o ∷ ts) v) (append_assoc us (c ∷ []) rest ∙ sym split)
    (before text outer items (PlainItems (plains vs)) (o ∷ (us ++ c ∷ [])) rest v (listed o c is close all) deep)

-- and another one closes it
closes : (text : Bytes) (c : Token) (lists : List (List Plain)) (tokens : List Token) (next : List (List Plain) → Option Plain) (v : Plain)
    → c.lexeme ≡ lexeme.Close → Later text tokens next v → taken text c lexeme.Close lists tokens next ≡ Some v → Ends text lists (c ∷ tokens) v
unfolding Ends EndsIn Later
closes text c [] tokens next v close later is = let bad : None ≡ Some v = is in absurd (cc)
closes text c (items ∷ []) [] next v close later is =
    let same : PlainItems (plains items) ≡ v = cc in
    ([], [], c, refl, none, close, ap (λ xs. PlainItems (plains xs)) (append-nil items) ∙ same)
closes text c (items ∷ []) (token ∷ tokens) next v close later is = let bad : None ≡ Some v = is in absurd (cc)
closes text c (items ∷ inner ∷ outer) tokens next v close later is = (
  [],
  [],
  c,
  tokens,
  refl,
  none,
  close,
  subst (λ xs. EndsIn text outer (inner ++ PlainItems (plains xs) ∷ []) tokens v) (sym (append-nil items))
      (later ((inner ++ PlainItems (plains items) ∷ []) ∷ outer) is),
)

one_token : (text : Bytes) (token : Token) (l : Lexeme) → token.lexeme ≡ l → (x : Plain) → token_value text token l ≡ Some x → IsLiteral text (token ∷ []) x
one_token text token l same x is = constant (ap (λ k. token_value text token k) same ∙ is)

steps : (text : Bytes) (token : Token) (l : Lexeme) (lists : List (List Plain)) (tokens : List Token) (next : List (List Plain) → Option Plain) (v : Plain)
    → token.lexeme ≡ l → Later text tokens next v → taken text token l lists tokens next ≡ Some v → Ends text lists (token ∷ tokens) v
unfolding Ends Later
steps text token lexeme.Open lists tokens next v same later is = opens text token lists tokens v same (later ([] ∷ lists) is)
steps text token lexeme.Close lists tokens next v same later is = closes text token lists tokens next v same later is
steps text token lexeme.Word lists tokens next v same later is =
    places_if text token lists (token_value text token lexeme.Word) tokens next v (one_token text token lexeme.Word same) later is
steps text token (lexeme.Number count) lists tokens next v same later is =
    places_if text token lists (token_value text token (lexeme.Number count)) tokens next v (one_token text token (lexeme.Number count) same) later is
steps text token lexeme.Text lists tokens next v same later is =
    places_if text token lists (token_value text token lexeme.Text) tokens next v (one_token text token lexeme.Text same) later is
steps text token lexeme.OpenParen lists tokens next v same later is = let bad : None ≡ Some v = is in absurd (cc)
steps text token lexeme.CloseParen lists tokens next v same later is = let bad : None ≡ Some v = is in absurd (cc)

reads_ends : (text : Bytes) (tokens : List Token) (lists : List (List Plain)) (v : Plain) → literal_from text tokens lists ≡ Some v → Ends text lists tokens v
unfolding Later
reads_ends text [] lists v is = let bad : None ≡ Some v = is in absurd (cc)
reads_ends text (token ∷ tokens) lists v is =
    steps text token token.lexeme lists tokens (λ now. literal_from text tokens now) v refl (λ now next. reads_ends text tokens now v next) is

-- ---- both

read_is : (text : Bytes) (ts : List Token) (v : Plain) → literal_from text ts [] ≡ Some v → IsLiteral text ts v
unfolding Ends
read_is text ts v is = reads_ends text ts [] v is

is_read : (text : Bytes) (ts : List Token) (v : Plain) → IsLiteral text ts v → literal_from text ts [] ≡ Some v
is_read text ts v one = ap (λ xs. literal_from text xs []) (sym (append-nil ts)) ∙ reads_one one [] []

pub literals_are_those : LiteralsAreThose
literals_are_those text ts v = (read_is text ts v, is_read text ts v)
