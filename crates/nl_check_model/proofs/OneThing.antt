-- A lone text says one thing: it has a tree or a first fault, and one at most.
use Rattle.std.proofs.Common.{◌≡◌, ◌⊎◌, inl, inr, ℕ, List, [], ◌∷◌, ◌++◌, All, Ok, Err, Result, length, refl, sym, ap, ◌∙◌, subst}
use Rattle.std.proofs.lemmas.List.Elements.{All-append, All-cons, All-nil}
use Rattle.nl_fixed.specs.Nouns.{Bytes}
use Rattle.nl_fixed.specs.declared.span.Span.{Span}
use Rattle.nl_scan.specs.declared.token.Token.{Token}
use Rattle.nl_scan.specs.Faults.{ScanFault}
use Rattle.nl_scan.specs.Tokens.{start_of, tokens_of}
use Rattle.nl_tree.specs.BodyFault.{IsTextFault}
use Rattle.nl_tree.specs.Checked.{Checked, IsLoneFault}
use Rattle.nl_tree.specs.Tokens as plain
use Rattle.nl_tree.specs.Tree.{Node}
use Rattle.nl_tree.specs.Vocabulary.{terms}
use Rattle.nl_tree.specs.declared.declared.Form.{Form}
use Rattle.nl_tree.specs.declared.faults.BodyKind.{BodyKind}
use Rattle.nl_parse_grammar.specs.Texts.{plain_tokens}
use Rattle.nl_parse_grammar.proofs.Meant.{tokens_are_plain}
use Rattle.nl_parse_grammar.proofs.Ends.{faults_are_unique, good_has_no_fault, texts_are_good_or_faulty}
use Rattle.nl_parse_grammar.proofs.Good.{models_have_words}
use Rattle.nl_parse_grammar.proofs.Taken.{trees_are_unique}
use Rattle.nl_check.proofs.Either.{texts_are_right_or_faulty}
use Rattle.nl_check.proofs.Firsts.{lone_faults_are_unique, right_texts_have_no_fault}
use Rattle.nl_check_model.specs.declared.lone_faults.Inner.{Inner}
use Rattle.nl_check_model.specs.LoneLaws as law
use Rattle.nl_check_model.specs.LoneText.{IsBodyInner, IsCheckInner, IsInner, IsLoneTree, IsScanInner, IsTreeOf, end_of, of_body, of_check, of_scan, told_at, whole_text}

-- ---- the tokens of a text are one list, or it has one fault

one_list : (text : Bytes) (ts us : List Token) → tokens_of text ≡ Ok ts → tokens_of text ≡ Ok us → us ≡ ts
one_list text ts us a b = cc

no_list : {P : Type 0} (text : Bytes) (ts : List Token) (fault : ScanFault) → tokens_of text ≡ Ok ts → tokens_of text ≡ Err fault → P
no_list text ts fault a b = let bad = sym a ∙ b in cc

all_plain : (text : Bytes) (tokens : List Token) → tokens_of text ≡ Ok tokens → All plain.IsToken (whole_text text tokens)
all_plain text tokens scanned =
    All-append plain.IsToken (plain_tokens text tokens) _ (tokens_are_plain text tokens scanned) (All-cons plain.IsToken _ [] tt (All-nil plain.IsToken))

-- ---- trees

same_tree : (p : Checked) (form : Form) (text : Bytes) (ts us : List Token) (t u : Node) → tokens_of text ≡ Ok ts → tokens_of text ≡ Ok us
    → IsTreeOf p form text ts t → IsTreeOf p form text us u → t ≡ u
same_tree p form text ts us t u a b x y =
    let same = one_list text ts us a b in
    let y' = subst (λ (vs : List Token). IsTreeOf p form text vs u) same y in
    trees_are_unique form [] (terms p.declared) (whole_text text ts) t u x.0 y'.0

pub trees_are_one : law.TreesAreUnique
trees_are_one p form text t u a b = same_tree p form text a.tokens b.tokens t u a.scanned b.scanned a.good b.good

-- a text that has a tree has no fault of its grammar
no_body_fault : (p : Checked) (form : Form) (text : Bytes) (ts : List Token) (tree : Node) (inner : Inner) → tokens_of text ≡ Ok ts → IsTreeOf p form text ts tree
    → IsBodyInner p form text inner → ⊥
no_body_fault p form text ts tree inner scanned good fault =
    let same = one_list text ts fault.tokens scanned fault.scanned in
    let there = subst (λ (vs : List Token). IsTextFault form [] (terms p.declared) (whole_text text vs) fault.place fault.kind) same fault.fault in
    good_has_no_fault form [] (terms p.declared) (whole_text text ts) tree fault.place fault.kind (all_plain text ts scanned) good there

pub trees_have_no_faults : law.TreesHaveNoFaults
trees_have_no_faults p form text tree inner h (inl fault) = no_list text h.tokens fault.fault h.scanned fault.scanned
trees_have_no_faults p form text tree inner h (inr (inl fault)) = no_body_fault p form text h.tokens tree inner h.scanned h.good fault
trees_have_no_faults p form text tree inner h (inr (inr fault)) =
    let same = same_tree p form text h.tokens fault.tokens tree fault.tree h.scanned fault.scanned h.good fault.good in
    right_texts_have_no_fault p.declared p.bodies tree fault.kind fault.span h.right (subst (λ t. IsLoneFault p.declared p.bodies t fault.kind fault.span) (sym same) fault.fault)

-- ---- faults

scan_once : (text : Bytes) (x y : Inner) → IsScanInner text x → IsScanInner text y → x ≡ y
scan_once text x y a b =
    let same : a.fault ≡ b.fault = let both = sym a.scanned ∙ b.scanned in cc in
    a.told ∙ ap (λ (f : ScanFault). told_at text (of_scan f.kind) f.place) same ∙ sym b.told

body_once : (p : Checked) (form : Form) (text : Bytes) (x y : Inner) → IsBodyInner p form text x → IsBodyInner p form text y → x ≡ y
body_once p form text x y a b =
    let same = one_list text a.tokens b.tokens a.scanned b.scanned in
    let there = subst (λ (vs : List Token). IsTextFault form [] (terms p.declared) (whole_text text vs) b.place b.kind) same b.fault in
    let both = faults_are_unique form [] (terms p.declared) (whole_text text a.tokens) a.place b.place a.kind b.kind a.fault there in
    a.told ∙ ap (λ k. told_at text (of_body k) (start_of text a.tokens a.place)) both.1
    ∙ ap (λ n. told_at text (of_body b.kind) (start_of text a.tokens n)) both.0
    ∙ ap (λ (ts : List Token). told_at text (of_body b.kind) (start_of text ts b.place)) (sym same) ∙ sym b.told

check_once : (p : Checked) (form : Form) (text : Bytes) (x y : Inner) → IsCheckInner p form text x → IsCheckInner p form text y → x ≡ y
check_once p form text x y a b =
    let same = same_tree p form text a.tokens b.tokens a.tree b.tree a.scanned b.scanned a.good b.good in
    let there = subst (λ t. IsLoneFault p.declared p.bodies t b.kind b.span) (sym same) b.fault in
    let both = lone_faults_are_unique p.declared p.bodies a.tree a.kind b.kind a.span b.span a.fault there in
    a.told ∙ ap (λ k. told_at text (of_check k) a.span.start) both.0 ∙ ap (λ (s : Span). told_at text (of_check b.kind) s.start) both.1 ∙ sym b.told

pub inners_are_one : law.InnersAreUnique
inners_are_one p form text x y (inl a) (inl b) = scan_once text x y a b
inners_are_one p form text x y (inl a) (inr (inl b)) = no_list text b.tokens a.fault b.scanned a.scanned
inners_are_one p form text x y (inl a) (inr (inr b)) = no_list text b.tokens a.fault b.scanned a.scanned
inners_are_one p form text x y (inr (inl a)) (inl b) = no_list text a.tokens b.fault a.scanned b.scanned
inners_are_one p form text x y (inr (inl a)) (inr (inl b)) = body_once p form text x y a b
inners_are_one p form text x y (inr (inl a)) (inr (inr b)) = absurd (no_body_fault p form text b.tokens b.tree x b.scanned b.good a)
inners_are_one p form text x y (inr (inr a)) (inl b) = no_list text a.tokens b.fault a.scanned b.scanned
inners_are_one p form text x y (inr (inr a)) (inr (inl b)) = absurd (no_body_fault p form text a.tokens a.tree y a.scanned a.good b)
inners_are_one p form text x y (inr (inr a)) (inr (inr b)) = check_once p form text x y a b

-- ---- one of both

Says : Checked → Form → Bytes → Type 0
Says p form text = ((tree : Node) × IsLoneTree p form text tree) ⊎ ((inner : Inner) × IsInner p form text inner)

tree_says : (p : Checked) (form : Form) (text : Bytes) (tokens : List Token) (tree : Node) → length p.bodies ≡ length p.declared.procedures → tokens_of text ≡ Ok tokens
    → IsTreeOf p form text tokens tree → Says p form text
unfolding Says
tree_says p form text tokens tree many scanned good =
    elim (texts_are_right_or_faulty p.declared p.bodies tree many) [
      | inl right ↦ inl (tree, record { tokens = tokens; scanned = scanned; good = good; right = right })
      | inr (kind, span, fault) ↦ inr (
        told_at text (of_check kind) span.start,
        inr (inr (record { tokens = tokens; scanned = scanned; tree = tree; good = good; kind = kind; span = span; fault = fault; told = refl })),
      )
    ]

tokens_say : (p : Checked) (form : Form) (text : Bytes) (tokens : List Token) → length p.bodies ≡ length p.declared.procedures → tokens_of text ≡ Ok tokens → Says p form text
unfolding Says
tokens_say p form text tokens many scanned =
    elim (texts_are_good_or_faulty form [] (terms p.declared) (plain_tokens text tokens) (end_of text) (models_have_words p.declared)) [
      | inl (tree, good) ↦ tree_says p form text tokens tree many scanned good
      | inr (place, kind, fault) ↦ inr (
        told_at text (of_body kind) (start_of text tokens place),
        inr (inl (record { tokens = tokens; scanned = scanned; kind = kind; place = place; fault = fault; told = refl })),
      )
    ]

scanned_says : (p : Checked) (form : Form) (text : Bytes) (scanned : Result (List Token) ScanFault) → length p.bodies ≡ length p.declared.procedures → tokens_of text ≡ scanned → Says p form text
unfolding Says
scanned_says p form text (Ok tokens) many is = tokens_say p form text tokens many is
scanned_says p form text (Err fault) many is = inr (told_at text (of_scan fault.kind) fault.place, inl (record { fault = fault; scanned = is; told = refl }))

pub texts_have_trees_or_faults : law.TextsHaveTreesOrFaults
unfolding Says
texts_have_trees_or_faults p form text many = scanned_says p form text (tokens_of text) many refl
