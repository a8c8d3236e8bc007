-- The kind of a fault, by what the machine's state knows.
use Rattle.std.proofs.Common.{◌≡◌, ℕ, zero, suc, ◌+◌, ◌-◌, ◌==◌, ◌&&◌, if◌then◌else◌, nat_le, bytes_eq, codes, Bool, true, false, List, [], ◌∷◌, ◌++◌, map, length, take, All, Option, Some, None, refl, sym, ◌∙◌, ap, subst, IsTrue, arith, slice_get}
use Rattle.std.specs.List.{list_any}
use Rattle.nl_fixed.specs.declared.span.Span.{Span}
use Rattle.nl_words.specs.declared.entry.Role.{Role}
use Rattle.nl_words.specs.declared.entry.Role.TheVariants as role
use Rattle.nl_words.specs.declared.entry.Input.{Input}
use Rattle.nl_words.specs.declared.entry.Input.TheVariants as input
use Rattle.nl_tree.specs.declared.declared.Form.{Form}
use Rattle.nl_tree.specs.declared.declared.Form.TheVariants as form
use Rattle.nl_tree.specs.Tree.{Node}
use Rattle.nl_tree.specs.Term.{Term}
use Rattle.nl_tree.specs.Vocabulary.{among, term_named}
use Rattle.nl_tree.specs.Tokens.{names_of, inputs_of, Lexeme, Number, Text, Word, Open, Close, OpenParen, CloseParen, End, Token, IsToken, Class, Unknown, Prefix, Many, Closing, Command, Of, Binary, Nowhere, Tok, word, class_of, class_of_term, class_by, before, last_need, is_new, reporter_of, reporter_class, one_more, many_class, command_class, reserved_class, near_class, operator_class, need_of_command, need_of_reporter, mark, marked_as, marked}
use Rattle.nl_tree.specs.declared.needs.Need.{Need}
use Rattle.nl_tree.specs.declared.needs.Need.TheVariants.{Item, Within}
use Rattle.nl_tree.specs.Grammar.{IsText, knows_in, span_of_first}
use Rattle.nl_tree.specs.BodyFault.{IsReadable, BeginsReadable, Knows, IsUnknown, IsOfKind}
use Rattle.nl_tree.specs.declared.faults.BodyKind.TheVariants.{Unexpected}
use Rattle.nl_parse_grammar.specs.Machine.{Have, State, st, go, feed, settle, run, start}
use Rattle.nl_parse_grammar.specs.Completion.{pieces, token_of, unused, nowhere, HasWords}
use Rattle.nl_parse_grammar.specs.Fault.{reading_to, known, kind_at, unknown_kind}
use Rattle.nl_parse_grammar.specs.Laws.{FaultsAreTold}
use Rattle.nl_parse_grammar.proofs.Complete.{Breaking}
use Rattle.nl_parse_grammar.proofs.Sees.{chain_names}
use Rattle.nl_parse_grammar.proofs.Live.{toks, rest_breaks}
use Rattle.nl_parse_grammar.specs.Depth.{is_literal}
use Rattle.nl_tree.specs.Grammar.{top}
use Rattle.nl_parse_grammar.proofs.Good.{completes_least, completed, unused_fresh, pieces_marked, marked_append, all_tokens}
use Rattle.nl_parse_grammar.proofs.Place.{to, stops, stop_place, deep_place, next_token}
use Rattle.nl_parse_grammar.proofs.Known.{Settles, known_to_state, known_in_text}

pub length-marked : (table : List Term) (ts : List Token) → length (marked table ts) ≡ length ts
length-marked table [] = refl
length-marked table (t ∷ ts) = ap suc (length-marked table ts)

abbrev IsHave : State → Type 0
IsHave (st (Have x t) e K) = Unit {0}
IsHave s = ⊥

module _ (form : Form) (names : List (List ℕ)) (table : List Term) (has : HasWords table) (name : List ℕ) where
  leads_to : List Token → List Token → State → Type 0
  leads_to ps after z = run (start form names (span_of_first (marked table ps ++ marked table after))) (marked table ps) ≡ go z

  to_state : (ps after : List Token) (u : Node) (z : State) (d : IsReadable form names table (ps ++ after) u) → run (start form names (span_of_first (marked table ps ++ marked table after))) (marked table ps) ≡ go z → knows_in form names (marked table (ps ++ after)) u name (length after) d ≡ true → among name (known z) ≡ true
  to_state ps after u z d q h =
      subst (λ w. (d : IsText form names w u) → knows_in form names w u name (length (marked table after)) d ≡ true → among name (known z) ≡ true) (sym (marked_append table ps after)) (λ d h. known_to_state form names name (marked table ps) (marked table after) u z d q h) d (subst (λ l. knows_in form names (marked table (ps ++ after)) u name l d ≡ true) (sym (length-marked table after)) h)

  in_text : (ps after : List Token) (u : Node) (z : State) (d : IsReadable form names table (ps ++ after) u) → run (start form names (span_of_first (marked table ps ++ marked table after))) (marked table ps) ≡ go z → Settles form names name z (marked table after) → among name (known z) ≡ true → knows_in form names (marked table (ps ++ after)) u name (length after) d ≡ true
  in_text ps after u z d q s h =
      subst (λ l. knows_in form names (marked table (ps ++ after)) u name l d ≡ true) (length-marked table after) (subst (λ w. (d : IsText form names w u) → knows_in form names w u name (length (marked table after)) d ≡ true) (sym (marked_append table ps after)) (λ d. known_in_text form names name (marked table ps) (marked table after) u z d q s h) d)

  -- what completes a state ends its chain
  leads : (z : State) (c : List Tok) → (IsHave z → Breaking c) → Settles form names name z c
  leads z [] h = tt
  leads (st (Have x t) e K) (tok ∷ c) h = ap (λ b. chain_names b e (settle top x t K)) (h tt)
  leads (st m e K) (tok ∷ c) h = refl

  pieces_break : (z : State) → IsHave z → Breaking (toks (unused table) (unused_fresh table) (pieces z))
  pieces_break (st (Have x t) e K) h = rest_breaks (unused table) (unused_fresh table) (is_literal x) K
  pieces_break s h = absurd h

  settled : (z : State) → Settles form names name z (marked table (map (token_of table) (pieces z)))
  settled z = subst (Settles form names name z) (sym (pieces_marked table has (pieces z))) (leads z (toks (unused table) (unused_fresh table) (pieces z)) (pieces_break z))

  -- a state completed
  knows_completed : (ps : List Token) (z : State) → run (start form names (span_of_first (marked table ps ++ toks (unused table) (unused_fresh table) (pieces z)))) (marked table ps) ≡ go z → among name (known z) ≡ true → (after : List Token) × (u : Node) × (d : IsReadable form names table (ps ++ after) u) × (All IsToken after × IsTrue (knows_in form names (marked table (ps ++ after)) u name (length after) d))
  knows_completed ps z q h =
      let after = map (token_of table) (pieces z) in
      let (u, d, low) = completes_least (unused table) (unused_fresh table) form names (marked table ps) z q in
      let r : IsReadable form names table (ps ++ after) u = completed form names table has ps (pieces z) u d in
      (after, u, r, (all_tokens table (pieces z), in_text ps after u z r (ap (λ c. run (start form names (span_of_first (marked table ps ++ c))) (marked table ps)) (pieces_marked table has (pieces z)) ∙ q) (settled z) h))

start_known : (form : Form) (names : List (List ℕ)) (s : Span) → known (start form names s) ≡ names
start_known form.Commands names s = refl
start_known form.Reporter names s = refl

same_state : (s z : State) → go s ≡ go z → s ≡ z
same_state s z q = cc q

module _ (names : List (List ℕ)) (table : List Term) (t : Token) (ts : List Token) (has : HasWords table) (name : List ℕ) where
  known_of : (form : Form) (k : ℕ) (z : State) → reading_to form names table (t ∷ ts) k ≡ go z → Knows form names table (t ∷ ts) k name → among name (known z) ≡ true
  known_of form zero z q (after, u, d, (all, h)) =
      let k : among name (known (start form names (span_of_first (marked table after)))) ≡ true = to_state form names table has name [] after u (start form names (span_of_first (marked table after))) d refl h in
      let here : known z ≡ names = sym (ap known (same_state (start form names (span_of_first (marked table (t ∷ ts)))) z q)) ∙ start_known form names (span_of_first (marked table (t ∷ ts))) in
      ap (among name) (here ∙ sym (start_known form names (span_of_first (marked table after)))) ∙ k
  known_of form (suc k) z q (after, u, d, (all, h)) = to_state form names table has name (t ∷ take k ts) after u z d (to form names table t ts has k ∙ q) h

  knows_of : (form : Form) (k : ℕ) (z : State) → reading_to form names table (t ∷ ts) k ≡ go z → among name (known z) ≡ true → Knows form names table (t ∷ ts) k name
  knows_of form.Commands zero z q h =
      let here : known z ≡ names = sym (ap known (same_state (start form.Commands names (span_of_first (marked table (t ∷ ts)))) z q)) in
      knows_completed form.Commands names table has name [] (start form.Commands names nowhere) refl (sym (ap (among name) here) ∙ h)
  knows_of form.Reporter zero z q h =
      let here : known z ≡ names = sym (ap known (same_state (start form.Reporter names (span_of_first (marked table (t ∷ ts)))) z q)) in
      knows_completed form.Reporter names table has name [] (start form.Reporter names nowhere) refl (sym (ap (among name) here) ∙ h)
  knows_of form (suc k) z q h = knows_completed form names table has name (t ∷ take k ts) z (to form names table t ts has k ∙ q) h

-- A word is unknown to the grammar exactly where it has no row.

abbrev is_unknown : Class → Bool
is_unknown Unknown = true
is_unknown c = false

either : (b : Bool) (x y : Class) → is_unknown x ≡ false → is_unknown y ≡ false → is_unknown (if b then x else y) ≡ false
either true x y h k = h
either false x y h k = k

last_known : (i : Need) → is_unknown (last_need i) ≡ false
last_known Item = refl
last_known (Within b) = refl
last_known i = refl

before_known : (i : Need) (c : Class) → is_unknown (before i c) ≡ false
before_known i (Prefix is) = refl
before_known i (Closing is b) = refl
before_known i c = refl

listed_known : (n : ℕ) (is : List Input) → is_unknown (reporter_of n is) ≡ false
listed_known n [] = refl
listed_known n (i ∷ []) = last_known (need_of_reporter n i)
listed_known n (i ∷ j ∷ is) = before_known (need_of_reporter n i) (reporter_of n (j ∷ is))

reporter_known : (n : ℕ) (is : List Input) → is_unknown (reporter_class n is) ≡ false
reporter_known n is = either (list_any is_new is) Nowhere (reporter_of n is) refl (listed_known n is)

more_known : (c : Class) → is_unknown (one_more c) ≡ false
more_known (Many n) = refl
more_known c = refl

many_known : (is : List Input) → is_unknown (many_class is) ≡ false
many_known (input.Value ∷ []) = refl
many_known (input.Value ∷ i ∷ is) = more_known (many_class (i ∷ is))
many_known is = refl

command_known : (n : ℕ) (is : List Input) → is_unknown (command_class n is) ≡ false
command_known n (input.Fresh ∷ input.Value ∷ []) = refl
command_known n is = either (list_any is_new is) Nowhere (Command (map (need_of_command n) is)) refl refl

near_known : (is : List Input) → is_unknown (near_class is) ≡ false
near_known (input.Value ∷ input.Reporter ∷ []) = refl
near_known (input.Value ∷ input.Value ∷ []) = refl
near_known (input.Value ∷ input.Value ∷ input.Value ∷ []) = refl
near_known is = refl

operator_known : (level : ℕ) (minus : Bool) (is : List Input) → is_unknown (operator_class level minus is) ≡ false
operator_known level minus is = either (level == 1) (near_class is) _ (near_known is) (either (level == 2) Of _ refl (either (nat_le 4 level && nat_le level 9) (Binary (level - 4) minus) Nowhere refl refl))

reserved_known : (arrow : Bool) → is_unknown (reserved_class arrow) ≡ false
reserved_known true = refl
reserved_known false = refl

class_known : (name : List ℕ) (r : Role) (many : Bool) (n : ℕ) (is : List Input) → is_unknown (class_by name r many n is) ≡ false
class_known name role.Command many n is = command_known n is
class_known name role.Reporter true zero is = many_known is
class_known name role.Reporter true (suc n) is = reporter_known (suc n) is
class_known name role.Reporter false n is = reporter_known n is
class_known name (role.Operator level) many n is = operator_known level (bytes_eq name (codes "-")) is
class_known name role.Constant many n is = refl
class_known name role.Variable many n is = refl
class_known name role.Reserved many n is = reserved_known (bytes_eq name (codes "->"))

term_known : (t : Term) → is_unknown (class_of_term t) ≡ false
term_known t = class_known t.name t.role t.many (names_of t.turns) (inputs_of t)

kind_known : (s : State) (w : List ℕ) (c : Class) (r : Span) → is_unknown c ≡ false → kind_at s (word w c r) ≡ Unexpected
kind_known s w Unknown r h = cc h
kind_known s w c r h = refl

abbrev word_is : Lexeme → Bool
word_is (Word name) = true
word_is l = false

abbrev is_word_there : Option Token → Bool
is_word_there None = false
is_word_there (Some t) = word_is t.lexeme

abbrev name_is : Lexeme → List ℕ
name_is (Word name) = name
name_is l = []

abbrev name_there : Option Token → List ℕ
name_there None = []
name_there (Some t) = name_is t.lexeme

module _ (form : Form) (names : List (List ℕ)) (table : List Term) (t : Token) (ts : List Token) (k : ℕ) (s : State) (has : HasWords table) (reached : reading_to form names table (t ∷ ts) k ≡ go s) (unreadable : BeginsReadable form names table (take (k + 1) (t ∷ ts)) → ⊥) where
  no_word : (l : Lexeme) (sp : Span) → word_is l ≡ false → slice_get (t ∷ ts) k ≡ Some (record { lexeme = l; span = sp }) → IsUnknown form names table (t ∷ ts) k → ⊥
  no_word l sp h q (name, there, (p, none, unknown)) = cc (sym h ∙ sym (ap is_word_there q) ∙ ap is_word_there p)

  other : (l : Lexeme) (sp : Span) → word_is l ≡ false → slice_get (t ∷ ts) k ≡ Some (record { lexeme = l; span = sp }) → IsOfKind form names table (t ∷ ts) k Unexpected
  other l sp h q = (unreadable, no_word l sp h q)

  a_word : (w : List ℕ) (sp : Span) → slice_get (t ∷ ts) k ≡ Some (record { lexeme = Word w; span = sp }) → IsOfKind form names table (t ∷ ts) k (kind_at s (word w (class_of (term_named table w)) sp))
  a_word w sp q = at (term_named table w) refl
    where
      same_name : (name : List ℕ) (there : Span) → slice_get (t ∷ ts) k ≡ Some (record { lexeme = Word name; span = there }) → w ≡ name
      same_name name there p = sym (ap name_there q) ∙ ap name_there p

      no_row : (b : Bool) → among w (known s) ≡ b → term_named table w ≡ None → IsOfKind form names table (t ∷ ts) k (unknown_kind b)
      no_row true h none = (unreadable, λ u. u.2.2 (subst (Knows form names table (t ∷ ts) k) (same_name u.0 u.1 u.2.0) (knows_of names table t ts has w form k s reached h)))
      no_row false h none = (unreadable, (w, sp, (q, none, λ kn. let both : false ≡ true = sym h ∙ known_of names table t ts has w form k s reached kn in cc)))

      at : (o : Option Term) → term_named table w ≡ o → IsOfKind form names table (t ∷ ts) k (kind_at s (word w (class_of o) sp))
      at None p = no_row (among w (known s)) refl p
      at (Some r) p = subst (IsOfKind form names table (t ∷ ts) k) (sym (kind_known s w (class_of_term r) sp (term_known r))) (unreadable, λ u. let both : Some r ≡ None = sym p ∙ ap (term_named table) (same_name u.0 u.1 u.2.0) ∙ u.2.1 in cc)

  told : (l : Lexeme) (sp : Span) → slice_get (t ∷ ts) k ≡ Some (record { lexeme = l; span = sp }) → IsOfKind form names table (t ∷ ts) k (kind_at s (marked_as table sp l))
  told (Number n) sp q = other (Number n) sp refl q
  told (Text bytes) sp q = other (Text bytes) sp refl q
  told (Word w) sp q = a_word w sp q
  told Open sp q = other Open sp refl q
  told Close sp q = other Close sp refl q
  told OpenParen sp q = other OpenParen sp refl q
  told CloseParen sp q = other CloseParen sp refl q
  told End sp q = other End sp refl q

pub faults_are_told : FaultsAreTold
faults_are_told form names table [] k s t has l q h there = absurd (omega (arith, l))
faults_are_told form names table (t0 ∷ ts) k s t has l q h there =
    let fed : reading_to form names table (t0 ∷ ts) (suc k) ≡ feed s (mark table t) = next_token form names table (t0 ∷ ts) k s t q there in (
      (λ r. (stop_place form names table t0 ts has k s l q h (fed ∙ r), told form names table t0 ts k s has q (stops form names table t0 ts has k (fed ∙ r)) t.lexeme t.span there)),
      (λ z r d. deep_place form names table t0 ts has k s z l q h (fed ∙ r) d),
    )
