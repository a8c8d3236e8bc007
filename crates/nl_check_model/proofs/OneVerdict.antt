-- A model's file says one thing: its verdicts are the same, and so are the checked programs that it is, but for the order of their words.
use Rattle.std.proofs.Common.{◌≡◌, ℕ, suc, Bool, true, false, IsTrue, List, [], ◌∷◌, Some, Result, Ok, Err, length, nat_lt, slice_get, refl, sym, ap, ◌∙◌, subst, arith}
use Rattle.nl_fixed.specs.Nouns.{Bytes, Names}
use Rattle.nl_scan.specs.declared.token.Token.{Token}
use Rattle.nl_scan.specs.CodePart.{code_of}
use Rattle.nl_scan.specs.Faults.{ScanFault}
use Rattle.nl_scan.specs.Tokens.{text_limit, tokens_of}
use Rattle.nl_words.specs.declared.entry.Kinds.{Kinds}
use Rattle.nl_tree.specs.declared.declared.Declared.{Declared}
use Rattle.nl_tree.specs.Checked.{Checked, IsProgram, KindsAreLeft}
use Rattle.nl_tree.specs.Context.{AreLeft, Kind, Observer, Turtle, Patch, Link, allows}
use Rattle.nl_tree.specs.Term.{Term}
use Rattle.nl_tree.specs.Tree.{Node}
use Rattle.nl_tree.specs.Vocabulary.{terms}
use Rattle.nl_parse_grammar.specs.Texts.{lexemes_of}
use Rattle.nl_check_model.specs.declared.faults.ModelFault.{ModelFault}
use Rattle.nl_check_model.specs.Laws.{ProgramsAreUnique, ProgramsHaveTheirBodies, ProgramsHaveTheirWidgets, VerdictsAreUnique, bare, told, with_index}
use Rattle.nl_check_model.specs.ModelFault.{IsAccepted}
use Rattle.nl_check_model.specs.Verdict.{FileSays, IsVerdict, ScannedSay, TokensSay, Verdict, fault_at}
use Rattle.nl_check_model.proofs.OneFault.{accepted_has_no_fault, code_faults_are_unique, declared_once, same_bodies}
use Rattle.nl_check_model.proofs.Programs.{bodies_many}

-- ---- programs

-- what two programs of the same tokens declare is told but for the order of the words, and their bodies are the same
same_declared : (widgets : Names) (code : Bytes) (tokens : List Token) (p q : Checked) → IsAccepted widgets code tokens p → IsAccepted widgets code tokens q
    → q.declared ≡ with_index p.declared q.declared.index
same_declared widgets code tokens p q a b = declared_once (lexemes_of code tokens) widgets p.declared q.declared a.read.declares b.read.declares

same_trees : (widgets : Names) (code : Bytes) (tokens : List Token) (p q : Checked) → IsAccepted widgets code tokens p → IsAccepted widgets code tokens q → q.bodies ≡ p.bodies
same_trees widgets code tokens p q a b = same_bodies widgets code tokens p.declared q.declared p.bodies q.bodies a.read b.read

bare_of : Declared → List Node → Checked
bare_of d bodies = record { declared = with_index d []; bodies = bodies; kinds = [] }

same_bare : (widgets : Names) (code : Bytes) (tokens : List Token) (p q : Checked) → IsAccepted widgets code tokens p → IsAccepted widgets code tokens q → bare p ≡ bare q
unfolding bare_of
same_bare widgets code tokens p q a b =
    let declared = ap (λ d. bare_of d q.bodies) (same_declared widgets code tokens p q a b) in
    let bodies = ap (bare_of p.declared) (same_trees widgets code tokens p q a b) in
    sym (declared ∙ bodies)

-- ---- verdicts

faults_once : (widgets : Names) (code : Bytes) (tokens : List Token) (x y : ModelFault) → tokens_of code ≡ Ok tokens
    → TokensSay widgets code tokens (Err x) → TokensSay widgets code tokens (Err y) → x ≡ y
faults_once widgets code tokens x y scanned (kind, place, (fault, is)) (other, there, (second, it)) =
    let same = code_faults_are_unique widgets code tokens scanned kind other place there fault second in
    is ∙ ap (λ k. fault_at code k place) same.0 ∙ ap (fault_at code other) same.1 ∙ sym it

tokens_say_once : (widgets : Names) (code : Bytes) (tokens : List Token) (v w : Verdict) → tokens_of code ≡ Ok tokens
    → TokensSay widgets code tokens v → TokensSay widgets code tokens w → told v ≡ told w
tokens_say_once widgets code tokens (Ok p) (Ok q) scanned a b = ap Ok (same_bare widgets code tokens p q a b)
tokens_say_once widgets code tokens (Err x) (Err y) scanned a b = ap Err (faults_once widgets code tokens x y scanned a b)
tokens_say_once widgets code tokens (Ok p) (Err y) scanned a (kind, place, (fault, is)) = absurd (accepted_has_no_fault widgets code tokens scanned p kind place a fault)
tokens_say_once widgets code tokens (Err x) (Ok q) scanned (kind, place, (fault, is)) b = absurd (accepted_has_no_fault widgets code tokens scanned q kind place b fault)

scanned_say_once : (widgets : Names) (code : Bytes) (scanned : Result (List Token) ScanFault) (v w : Verdict) → tokens_of code ≡ scanned
    → ScannedSay widgets code scanned v → ScannedSay widgets code scanned w → told v ≡ told w
scanned_say_once widgets code (Ok tokens) v w is a b = tokens_say_once widgets code tokens v w is a b
scanned_say_once widgets code (Err fault) v w is a b = ap told (a ∙ sym b)

file_says_once : (limit : ℕ) (long : Bool) (widgets : Names) (file : Bytes) (v w : Verdict) → FileSays limit long widgets file v → FileSays limit long widgets file w → told v ≡ told w
file_says_once limit true widgets file v w a b = ap told (a ∙ sym b)
file_says_once limit false widgets file v w a b = scanned_say_once widgets (code_of file) (tokens_of (code_of file)) v w refl a b

pub verdicts_are_unique : VerdictsAreUnique
unfolding IsVerdict
verdicts_are_unique widgets file v w a b = file_says_once text_limit (nat_lt text_limit (length file)) widgets file v w a b

-- ---- checked programs

-- a truth is told by when it holds
same_truth : (a b : Bool) → (IsTrue a → IsTrue b) → (IsTrue b → IsTrue a) → a ≡ b
same_truth true true to from = refl
same_truth false false to from = refl
same_truth true false to from = sym (to refl)
same_truth false true to from = from refl

-- the kinds that are left are told
same_kinds : (table : List Term) (bodies : List Node) (i : ℕ) (x y : Kinds) → AreLeft table bodies i x → AreLeft table bodies i y → x ≡ y
same_kinds table bodies i x y a b =
    let one : (kind : Kind) → allows x kind ≡ allows y kind =
    λ kind. same_truth (allows x kind) (allows y kind) (λ h. (b kind).1 ((a kind).0 h)) (λ h. (a kind).1 ((b kind).0 h)) in
    rw (one Observer, one Turtle, one Patch, one Link)

same_lists : (ks ls : List Kinds) → length ks ≡ length ls → ((i : ℕ) (x y : Kinds) → slice_get ks i ≡ Some x → slice_get ls i ≡ Some y → x ≡ y) → ks ≡ ls
same_lists [] [] many each = refl
same_lists [] (y ∷ ys) many each = absurd (omega (arith, many))
same_lists (x ∷ xs) [] many each = absurd (omega (arith, many))
same_lists (x ∷ xs) (y ∷ ys) many each =
    let first = each 0 x y refl refl in
    let rest = same_lists xs ys (omega (arith, many)) (λ i. each (suc i)) in cc

-- the program of these parts
checked_of : Declared → List Node → List Kinds → Checked
checked_of d bodies ks = record { declared = d; bodies = bodies; kinds = ks }

checked_once : (widgets : Names) (code : Bytes) (tokens : List Token) (p q : Checked) → IsProgram p → IsProgram q
    → IsAccepted widgets code tokens p → IsAccepted widgets code tokens q → q ≡ record p { declared = with_index p.declared q.declared.index }
unfolding checked_of
checked_once widgets code tokens p q fit other a b =
    let declared = same_declared widgets code tokens p q a b in
    let bodies = same_trees widgets code tokens p q a b in
    let d = with_index p.declared q.declared.index in
    let left : KindsAreLeft p.declared p.bodies q.kinds =
    subst (λ ts. KindsAreLeft p.declared ts q.kinds) bodies (subst (λ (x : Declared). KindsAreLeft x q.bodies q.kinds) declared other.4) in
    let many : length q.kinds ≡ length p.kinds = other.1.1 ∙ ap (λ (x : Declared). length x.procedures) declared ∙ sym fit.1.1 in
    let kinds = same_lists q.kinds p.kinds many (λ i x y is_x is_y. same_kinds (terms p.declared) p.bodies i x y (left i x is_x) (fit.4 i y is_y)) in
    ap (λ x. checked_of x q.bodies q.kinds) declared ∙ ap (λ ts. checked_of d ts q.kinds) bodies ∙ ap (checked_of d p.bodies) kinds

scanned_once : (widgets : Names) (code : Bytes) (scanned : Result (List Token) ScanFault) (p q : Checked) → IsProgram p → IsProgram q
    → ScannedSay widgets code scanned (Ok p) → ScannedSay widgets code scanned (Ok q) → q ≡ record p { declared = with_index p.declared q.declared.index }
scanned_once widgets code (Ok tokens) p q fit other a b = checked_once widgets code tokens p q fit other a b
scanned_once widgets code (Err fault) p q fit other a b = cc

file_once : (limit : ℕ) (long : Bool) (widgets : Names) (file : Bytes) (p q : Checked) → IsProgram p → IsProgram q
    → FileSays limit long widgets file (Ok p) → FileSays limit long widgets file (Ok q) → q ≡ record p { declared = with_index p.declared q.declared.index }
file_once limit true widgets file p q fit other a b = cc
file_once limit false widgets file p q fit other a b = scanned_once widgets (code_of file) (tokens_of (code_of file)) p q fit other a b

pub programs_are_unique : ProgramsAreUnique
unfolding IsVerdict
programs_are_unique widgets file p q fit other a b = file_once text_limit (nat_lt text_limit (length file)) widgets file p q fit other a b

-- ---- widgets

scanned_widgets : (widgets : Names) (code : Bytes) (scanned : Result (List Token) ScanFault) (p : Checked) → ScannedSay widgets code scanned (Ok p) → p.declared.widgets ≡ widgets
scanned_widgets widgets code (Ok tokens) p a = a.read.declares.1.2.0
scanned_widgets widgets code (Err fault) p a = cc

file_widgets : (limit : ℕ) (long : Bool) (widgets : Names) (file : Bytes) (p : Checked) → FileSays limit long widgets file (Ok p) → p.declared.widgets ≡ widgets
file_widgets limit true widgets file p a = cc
file_widgets limit false widgets file p a = scanned_widgets widgets (code_of file) (tokens_of (code_of file)) p a

pub programs_have_their_widgets : ProgramsHaveTheirWidgets
unfolding IsVerdict
programs_have_their_widgets widgets file p a = file_widgets text_limit (nat_lt text_limit (length file)) widgets file p a

-- ---- bodies

scanned_many : (widgets : Names) (code : Bytes) (scanned : Result (List Token) ScanFault) (p : Checked) → ScannedSay widgets code scanned (Ok p) → length p.bodies ≡ length p.declared.procedures
scanned_many widgets code (Ok tokens) p said = bodies_many code tokens (terms p.declared) p.declared.procedures p.bodies said.read.trees
scanned_many widgets code (Err fault) p said = cc

file_many : (limit : ℕ) (long : Bool) (widgets : Names) (file : Bytes) (p : Checked) → FileSays limit long widgets file (Ok p) → length p.bodies ≡ length p.declared.procedures
file_many limit true widgets file p said = cc
file_many limit false widgets file p said = scanned_many widgets (code_of file) (tokens_of (code_of file)) p said

pub programs_have_their_bodies : ProgramsHaveTheirBodies
unfolding IsVerdict
programs_have_their_bodies widgets file p said = file_many text_limit (nat_lt text_limit (length file)) widgets file p said
